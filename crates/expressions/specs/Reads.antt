-- What a reader's method says of the part of an expression that it reads.
use Rattle.std.specs.Prelude.{◌≡◌, List, ℕ, Result, Ok, Err, OnOk}
use Rattle.std.proofs.Math.Option.{Option}
use Rattle.grammar.specs.Names.{Kind}
use Rattle.names.specs.Looks.{lookup_of}
use Rattle.words.specs.Contract.{innermost_first, PartAt}
use Rattle.words.specs.declared.Nodes.{Nodes}
use Rattle.expressions.specs.declared.text_reader.Reader.{Reader}

-- a reader goes on: what it reads from is as it was
pub record Stays {A K : ℕ} (r r' : Reader A K) : Type 0 where
  pub text : r'.text.now ≡ r.text.now
  pub names : r'.names.now ≡ r.names.now
  pub bound : r'.bound.items ≡ r.bound.items
  pub allow : r'.allow ≡ r.allow

-- the answer, with the place where the text goes on: there the reader stands
abbrev pub reached : {A K : ℕ} → Reader A K → Result (Unit {0}) ℕ → Result ℕ ℕ
reached r (Ok u) = Ok r.at
reached r (Err p) = Err p

-- what words/Contract says of a part, by what the names are numbered as, the bound names, the text, and the place where the part begins, is so of a reader
-- that becomes another
pub record Reads {A K : ℕ} (At : (Kind → List ℕ → Option ℕ) → List (List ℕ) → List ℕ → ℕ → ℕ → Nodes → Nodes → Result ℕ ℕ → Type 0)
    (r r' : Reader A K) (answer : Result (Unit {0}) ℕ) : Type 0 where
  pub part : At (lookup_of r.names.now) (innermost_first r.bound.items) r.text.now r.at r.allow r.nodes r'.nodes (reached r' answer)
  pub stays : OnOk answer (Stays r r')

-- a part, by the byte that ends it
abbrev pub EndedBy : ℕ → (Kind → List ℕ → Option ℕ) → List (List ℕ) → List ℕ → ℕ → ℕ → Nodes → Nodes → Result ℕ ℕ → Type 0
EndedBy c number xs t at a = PartAt number xs t at a c
