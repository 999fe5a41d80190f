-- What demands 2 and 3 ask of the answers that one call gives: `says x b` is that it answers b on the access x.
use Rattle.std.specs.Prelude.{◌≡◌, ◌↔◌, Bool, true, List, ℕ, ◌≤◌, ◌<◌, get_or, Result, Ok, Err}
use Rattle.reader.specs.File.{read_file}
use Rattle.reader.specs.Later.{LaterFile}
use Rattle.engine.specs.Demands.{in_set, AllHere, Names, Says}
use Rattle.rows.specs.declared.Refused.{Refused}
use Rattle.composing.specs.declared.Composed.{Composed}
use Rattle.deciding.specs.declared.Decided.{Decided}

-- the access x belongs to demand 2's set of the file, where the away table n later brings the accesses y with `later n y`
abbrev pub Belongs : List ℕ → (ℕ → ℕ → Bool) → ℕ → Type 0
Belongs f later x = in_set (read_file f) (λ n y. later n y ≡ true) x

pub record Promised (f : List ℕ) (says : ℕ → ℕ → Type 0) : Type 0 where
  -- a permit is in demand 2's set and a deny is not, whatever grants the away lists later bring
  pub permit_in : (later : ℕ → ℕ → Bool) (x : ℕ) → says x 2 → Belongs f later x
  pub deny_out : (later : ℕ → ℕ → Bool) (x : ℕ) → says x 0 → ¬ Belongs f later x
  -- an answer is deny 0, undecided 1 or permit 2; one that is not undecided is a permit if and only if the access is in the set
  pub three_answers : (x b : ℕ) → says x b → b ≤ 2
  pub decided_iff : (later : ℕ → ℕ → Bool) (x b : ℕ) → says x b → ¬ (b ≡ 1) → (b ≡ 2) ↔ Belongs f later x
  -- with every list here and a limit of N or more nothing is undecided, and a permit is an access of the set
  pub none_undecided : AllHere (read_file f) → (x : ℕ) → ¬ says x 1
  pub permit_iff : AllHere (read_file f) → (later : ℕ → ℕ → Bool) (x b : ℕ) → says x b → (b ≡ 2) ↔ Belongs f later x
  -- no permit and no deny changes in a later file, whichever of the calls is asked
  pub permit_stays : (f' : List ℕ) → LaterFile f f' → (x b : ℕ) → says x 2 → Says f' x b → b ≡ 2
  pub deny_stays : (f' : List ℕ) → LaterFile f f' → (x b : ℕ) → says x 0 → Says f' x b → b ≡ 0

-- Compose answers by the bytes of the result, Decide by what it returns, each where it has accepted
abbrev pub compose_says : Result Composed Refused → List ℕ → ℕ → ℕ → Type 0
compose_says (Ok r) result x b = (x < r.accesses) × (get_or result x 0 ≡ b)
compose_says (Err e) result x b = ⊥

abbrev pub decide_says : List ℕ → List ℕ → List ℕ → List ℕ → Result Decided Refused → ℕ → ℕ → Type 0
decide_says f s o a (Ok r) x b = Names f s o a x × (r.answer ≡ b)
decide_says f s o a (Err e) x b = ⊥
