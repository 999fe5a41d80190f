-- The ways through the code that puts a node. Assumes nothing.
use Rattle.std.proofs.Common.{◌≡◌, refl, sym, ap, ◌∙◌, true, ◌&&◌, List, [], ◌∷◌, ◌++◌, ℕ, ◌≤◌, ◌<◌, eqb, is_some, arith}
use Rattle.std.specs.Prelude as rust
use Rattle.std.proofs.Math.Option.{Option, none, some}
use Rattle.std.proofs.lemmas.Bool.{false≢true}
use borrow.Author.Tests.{lt-ltb, le-ltb, eqb-true}
use Rattle.algebra.proofs.Bool.{and_left, and_right}
use Rattle.short_list.specs.ShortList.{ShortList, how_many, pushed}
use Rattle.grammar.specs.Names.{Kind}
use Rattle.grammar.specs.Lookup.{place}
use Rattle.words.specs.Cells.{most_nodes, operators_after, stored, first_place, noted, asked_as, node_with, emit_name}
use Rattle.nodes.specs.declared.Node.{Node}
use Rattle.words.specs.declared.Suffix.{Suffix}
use Rattle.words.specs.declared.Suffix.TheVariants.{Comparing, Marking, Closing}
use Rattle.words.specs.declared.Nodes.{Nodes}

module _ (p : Nodes) (n : Node) (o : ℕ) where
  pub put_stored : (v : ShortList Node) → how_many p.nodes < 193 → v ≡ pushed p.nodes n → o ≡ operators_after p.operators n
      → ◌≡◌ {A = Nodes} (record { nodes = v; operators = o; missing = p.missing }) (stored p n)
  unfolding stored
  put_stored v l i z =
      rw (z, lt-ltb (how_many p.nodes) 193 l, i)

  pub full_stored : 193 ≤ how_many p.nodes → o ≡ operators_after p.operators n
      → ◌≡◌ {A = Nodes} (record { nodes = p.nodes; operators = o; missing = p.missing }) (stored p n)
  unfolding stored
  full_stored l z = rw (z, le-ltb (how_many p.nodes) 193 l)

-- where there is no room, only the operators are counted
same_full : (p : Nodes) (n m : Node) → ((i : ℕ) → operators_after i n ≡ operators_after i m) → how_many p.nodes ≡ 193 → stored p n ≡ stored p m
unfolding stored
same_full p n m e l = rw (le-ltb (how_many p.nodes) 193 (omega arith), e p.operators)

-- where a name is missing already, whatever number the next one has
settled_is : (o : Option ℕ) (i : ℕ) (p : Nodes) → is_some p.missing ≡ true → noted o i p ≡ p
unfolding noted first_place
settled_is (some m) i p e = refl
settled_is none i p e = go p.missing refl e
  where
    go : (m : rust.Option ℕ) → p.missing ≡ m → is_some m ≡ true
        → ◌≡◌ {A = Nodes} record { nodes = p.nodes; operators = p.operators; missing = first_place p.missing i } p
    go (rust.Some j) q h = rw q
    go rust.None q h = absurd (false≢true h)

-- once all is settled, a name changes nothing
pub settled_stored : (o : Option ℕ) (i : ℕ) (p : Nodes) (n m : Node) → ((j : ℕ) → operators_after j n ≡ operators_after j m)
    → (eqb (how_many p.nodes) most_nodes && is_some p.missing) ≡ true → stored p n ≡ stored (noted o i p) m
settled_stored o i p n m e s =
    let full = eqb-true (how_many p.nodes) 193 (and_left (eqb (how_many p.nodes) 193) (is_some p.missing) s) in
    same_full p n m e full
    ∙ ap (λ (q : Nodes). stored q m) (sym (settled_is o i p (and_right (eqb (how_many p.nodes) 193) (is_some p.missing) s)))

-- a node after a name that stands at i: v is what the name was found as, q is p with the name noted
pub noted_stored : (o : Option ℕ) (i : ℕ) (p : Nodes) {v : Option ℕ} {n m : Node} {q : Nodes} → v ≡ o → n ≡ m → q ≡ noted v i p
    → stored q n ≡ stored (noted o i p) m
noted_stored o i p f e g = rw (e, g, f)

suffix_operators : (x : Suffix) (n m i : ℕ) → operators_after i (node_with x n) ≡ operators_after i (node_with x m)
unfolding operators_after
suffix_operators (Comparing s c) n m i = refl
suffix_operators (Marking s) n m i = refl
suffix_operators Closing n m i = refl

module _ (number : Kind → List ℕ → Option ℕ) (x : Suffix) (n : List ℕ) (i : ℕ) (p : Nodes) where
  pub settled_named : (eqb (how_many p.nodes) most_nodes && is_some p.missing) ≡ true → stored p (node_with x 0) ≡ emit_name number x n i p
  unfolding emit_name
  settled_named s = settled_stored (number (asked_as x) n) i p _ _ (suffix_operators x 0 _) s

  -- v is what the name was found as, q is p with the name noted, and m is the node's number
  pub named_stored : {v : Option ℕ} {m : ℕ} {q : Nodes} → v ≡ number (asked_as x) n → q ≡ noted v i p → m ≡ place v
      → stored q (node_with x m) ≡ emit_name number x n i p
  unfolding emit_name
  named_stored f g h = noted_stored (number (asked_as x) n) i p f (ap (node_with x) (h ∙ ap place f)) g
