-- A table's node, by the bound names. Assumes nothing.
use Rattle.std.proofs.Common.{◌≡◌, refl, sym, ap, ◌∙◌, Bool, true, false, ◌&&◌, List, [], ◌∷◌, ℕ, zero, suc, ◌+◌, ◌≤◌, ◌<◌, eqb, is_some, arith}
use Rattle.std.proofs.Common.{cond, ltb, map, reverse, length, add-one}
use Rattle.std.proofs.Math.Option.{Option, none, some}
use Rattle.std.specs.Prelude as rust
use Rattle.std.specs.Borrow.{Bor}
use Rattle.std.specs.List.{position_or_len}
use Rattle.std.specs.List as searches
use Rattle.std.proofs.lemmas.List.{length-map, length-reverse}
use Rattle.std.proofs.lemmas.Iterator.Adapters.{position_from-zero}
use Rattle.short_list.specs.ShortList.{how_many}
use Rattle.algebra.specs.Meant.{found_of}
use Rattle.grammar.specs.Names.{Kind, table}
use Rattle.grammar.specs.Lookup.{same, position_from, position, place}
use Rattle.grammar.specs.Tree.{table_of}
use Rattle.grammar.proofs.Lookup.{from_lt, position_lt}
use Rattle.names.proofs.Bounds.{looked_lt}
use Rattle.names.specs.Looks.{lookup_of}
use Rattle.names.specs.declared.table.Names.{Names}
use Rattle.nodes.specs.declared.Node.TheVariants.{Table}
use Rattle.words.specs.Cells.{most_nodes, operators_after, stored, noted, bound_as, emit_table}
use Rattle.words.specs.Contract.{innermost_first}
use Rattle.words.specs.declared.Nodes.{Nodes}
use Rattle.words.proofs.Puts.{settled_stored}

-- ---- a table's node
module _ (number : Kind → List ℕ → Option ℕ) (n : List ℕ) where
  -- a name that is bound
  at_bound : (xs : List (List ℕ)) (j i : ℕ) → position_from j (same n) xs ≡ some (j + i) → (table_of number xs n ≡ i) × (bound_as number xs n ≡ some 0)
  unfolding position_from table_of bound_as
  at_bound [] j i e = absurd (let z : ◌≡◌ {A = ℕ} 0 1 = cc in omega arith)
  at_bound (x ∷ xs) j zero e = go (same n x) refl e
    where
      go : (b : Bool) → same n x ≡ b → ◌≡◌ {A = Option ℕ} (elim b [ true ↦ some j | false ↦ position_from (suc j) (same n) xs ]) (some (j + 0))
          → (◌≡◌ {A = ℕ} (elim b [ true ↦ 0 | false ↦ suc (table_of number xs n) ]) 0)
          × (◌≡◌ {A = Option ℕ} (elim b [ true ↦ some 0 | false ↦ bound_as number xs n ]) (some 0))
      go true s q = (refl, refl)
      go false s q = absurd (let l = from_lt (same n) (suc j) xs (j + 0) q in omega arith)
  at_bound (x ∷ xs) j (suc i) e = go (at_bound xs (suc j) i) (same n x) e
    where
      go : (position_from (suc j) (same n) xs ≡ some (suc j + i) → (table_of number xs n ≡ i) × (bound_as number xs n ≡ some 0)) → (b : Bool)
          → ◌≡◌ {A = Option ℕ} (elim b [ true ↦ some j | false ↦ position_from (suc j) (same n) xs ]) (some (j + suc i))
          → (◌≡◌ {A = ℕ} (elim b [ true ↦ 0 | false ↦ suc (table_of number xs n) ]) (suc i))
          × (◌≡◌ {A = Option ℕ} (elim b [ true ↦ some 0 | false ↦ bound_as number xs n ]) (some 0))
      go rest true q = absurd (let h : j ≡ j + suc i = cc in omega arith)
      go rest false q = let r = rest (q ∙ ap some (omega arith)) in (ap suc r.0, r.1)

  -- one that is not
  not_bound : (xs : List (List ℕ)) (j : ℕ) → position_from j (same n) xs ≡ none
      → (table_of number xs n ≡ length xs + place (number table n)) × (bound_as number xs n ≡ number table n)
  unfolding position_from table_of bound_as
  not_bound [] j e = (omega arith, refl)
  not_bound (x ∷ xs) j e = go (not_bound xs (suc j)) (same n x) e
    where
      go : (position_from (suc j) (same n) xs ≡ none → (table_of number xs n ≡ length xs + place (number table n)) × (bound_as number xs n ≡ number table n))
          → (b : Bool) → ◌≡◌ {A = Option ℕ} (elim b [ true ↦ some j | false ↦ position_from (suc j) (same n) xs ]) none
          → (◌≡◌ {A = ℕ} (elim b [ true ↦ 0 | false ↦ suc (table_of number xs n) ]) (length (x ∷ xs) + place (number table n)))
          × (◌≡◌ {A = Option ℕ} (elim b [ true ↦ some 0 | false ↦ bound_as number xs n ]) (number table n))
      go rest true q = absurd (let z : ◌≡◌ {A = ℕ} 0 1 = cc in omega arith)
      go rest false q = let r = rest q in (omega (arith, r.0), r.1)

-- a bound name's number is small
pub bound_lt : (n : List ℕ) (xs : List (List ℕ)) (i : ℕ) → some i ≡ position (same n) xs → i < length xs
bound_lt n xs i e = position_lt (same n) xs i (sym e)

module _ (xs : List (List ℕ)) (number : Kind → List ℕ → Option ℕ) (n : List ℕ) (i : ℕ) (p : Nodes) where
  pub settled_table : (eqb (how_many p.nodes) most_nodes && is_some p.missing) ≡ true → stored p (Table 0) ≡ emit_table number xs n i p
  unfolding emit_table operators_after
  settled_table s = settled_stored (bound_as number xs n) i p (Table 0) (Table (table_of number xs n)) (λ j. refl) s

  -- v is what a search of the bound names finds
  module _ {v : Option ℕ} (e : v ≡ position (same n) xs) where
    searched : v ≡ position_from 0 (same n) xs
    unfolding position
    searched = e

    pub bound_table : {k : ℕ} → v ≡ some k → stored p (Table k) ≡ emit_table number xs n i p
    unfolding emit_table noted
    bound_table {k} h =
        let r = at_bound number n xs 0 k (sym searched ∙ h ∙ ap some (omega arith)) in
        rw (r.1, r.0)

    pub free_table : {w : Option ℕ} {k many : ℕ} {q : Nodes} → v ≡ none → w ≡ number table n → q ≡ noted w i p → k ≡ place w → many ≡ length xs
        → stored q (Table (many + k)) ≡ emit_table number xs n i p
    unfolding emit_table
    free_table {w} {k} {many} {q} h found_is noted_is number_is many_is =
        let r = not_bound number n xs 0 (sym searched ∙ h) in
        let d : q ≡ noted (bound_as number xs n) i p = noted_is ∙ ap (λ (u : Option ℕ). noted u i p) (found_is ∙ sym r.1) in
        let m : many + k ≡ table_of number xs n = omega (arith, r.0, number_is, ap place found_is, many_is) in
        rw (d, m)

-- a table's number is small
pub table_fits : {A K : ℕ} (names : Names A K) (n : List ℕ) → length names.tables.items ≤ 16 → {v : Option ℕ} {k : ℕ}
    → v ≡ lookup_of names table n → k ≡ place v → k ≤ 16
unfolding place
table_fits names n few {v} {k} e h = go v e h
  where
    go : (v : Option ℕ) → v ≡ lookup_of names table n → k ≡ place v → k ≤ 16
    go none q z = omega arith
    go (some i) q z = omega (arith, looked_lt names table n (sym q), few)

-- as many as there are
pub many_bound : (bs : List (Bor (List ℕ))) → length (innermost_first bs) ≡ length bs
many_bound bs = length-map (reverse bs) (λ x. x.now) ∙ length-reverse bs

-- ---- a search of the bound names
module _ (n : List ℕ) where
  from_place : (i : ℕ) (bs : List (Bor (List ℕ)))
      → found_of (searches.position_from (λ x. same n x.now) i bs) ≡ position_from i (same n) (map (λ x. x.now) bs)
  unfolding position_from
  from_place i [] = refl
  from_place i (b ∷ bs) = go (same n b.now) (from_place (suc i) bs)
    where
      go : (t : Bool) → found_of (searches.position_from (λ x. same n x.now) (suc i) bs) ≡ position_from (suc i) (same n) (map (λ x. x.now) bs)
          → found_of (cond t (rust.Some i) (searches.position_from (λ x. same n x.now) (i + 1) bs))
          ≡ elim t [ true ↦ some i | false ↦ position_from (suc i) (same n) (map (λ x. x.now) bs) ]
      go true e = refl
      go false e = rw add-one e

  -- what a search by a closure finds
  pub place_found : (bs : List (Bor (List ℕ))) {r : rust.Option ℕ}
      → r ≡ cond (ltb (position_or_len (λ x. same n x.now) bs) (length bs)) (rust.Some (position_or_len (λ x. same n x.now) bs)) rust.None
      → found_of r ≡ position (same n) (map (λ x. x.now) bs)
  unfolding position
  place_found bs e = ap found_of (e ∙ position_from-zero (λ x. same n x.now) bs) ∙ from_place 0 bs
