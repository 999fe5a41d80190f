-- The library's walk along entries as the definitions have it. Assumes nothing.
use Rattle.std.proofs.Common.{◌≡◌, refl, ◌∙◌, ap, ap₂, Bool, true, false, cond, ◌&&◌, eqb, List, [], ◌∷◌, map, ℕ, suc, ◌+◌, add-one, bytes_eq}
use Rattle.std.specs.Prelude as rust
use Rattle.std.specs.List as library
use Rattle.std.proofs.lemmas.Iterator.Adapters.{position_from-zero}
use Rattle.std.proofs.Math.Option.{Option, some}
use Rattle.grammar.specs.Lookup.{same, position_from, position}
use Rattle.name_index.specs.Entries.{names_of}
use Rattle.name_index.specs.declared.Entry.{Entry}
use denote.Enum.Bare.{sameb}
use Rattle.algebra.specs.Meant.{sort_meant, found_of}
use Rattle.algebra.specs.declared.Sort as sorts
use Rattle.algebra.specs.declared.Sort.TheVariants.{Subject, Object, Action}
use Rattle.algebra.specs.contracts.Sort.{the_type}
use Rattle.name_index.proofs.Same.{same_is}
use Rattle.names.specs.Looks.{sort_number, is_predicate}

module _ {A : Type 0} (p q : A → Bool) (h : (x : A) → p x ≡ q x) where
  walk_from : (i : ℕ) (xs : List A) → found_of (library.position_from p i xs) ≡ position_from i q xs
  unfolding position_from
  walk_from i [] = refl
  walk_from i (x ∷ xs) = go (q x) (h x) (walk_from (i + 1) xs)
    where
      go : (b : Bool) → p x ≡ b → found_of (library.position_from p (i + 1) xs) ≡ position_from (i + 1) q xs
          → found_of (cond (p x) (rust.Some i) (library.position_from p (i + 1) xs)) ≡ elim b [ true ↦ some i | false ↦ position_from (suc i) q xs ]
      go true e r = rw e refl
      go false e r = rw e (r ∙ rw add-one refl)

  walk_is : {r : rust.Option ℕ} (xs : List A) → r ≡ library.position p xs → found_of r ≡ position q xs
  unfolding position
  walk_is xs e = ap found_of (e ∙ position_from-zero p xs) ∙ walk_from 0 xs

module _ {A B : Type 0} (f : A → B) (q : B → Bool) where
  map_from : (i : ℕ) (xs : List A) → position_from i (λ x. q (f x)) xs ≡ position_from i q (map f xs)
  unfolding position_from
  map_from i [] = refl
  map_from i (x ∷ xs) = ap (λ (o : Option ℕ). elim (q (f x)) [ true ↦ some i | false ↦ o ]) (map_from (suc i) xs)

  pub position_map : (xs : List A) → position (λ x. q (f x)) xs ≡ position q (map f xs)
  unfolding position
  position_map xs = map_from 0 xs

-- a walk along some entries for one that has a name
pub walk_named : {T : Type 0} (n : List ℕ) (es : List (Entry T)) {r : rust.Option ℕ} → r ≡ library.position (λ (e : Entry T). bytes_eq n e.name.now) es
    → found_of r ≡ position (same n) (names_of es)
walk_named {T} n es e =
    walk_is (λ (e : Entry T). bytes_eq n e.name.now) (λ (e : Entry T). same n e.name.now) (λ e. same_is n e.name.now refl) es e
    ∙ position_map (λ (e : Entry T). e.name.now) (same n) es

-- as the code compares sorts
sort_same : (s t : sorts.Sort) → sameb the_type s t ≡ eqb (sort_number (sort_meant s)) (sort_number (sort_meant t))
unfolding sort_number
sort_same Subject Subject = refl
sort_same Subject Object = refl
sort_same Subject Action = refl
sort_same Object Subject = refl
sort_same Object Object = refl
sort_same Object Action = refl
sort_same Action Subject = refl
sort_same Action Object = refl
sort_same Action Action = refl

-- a walk along some entries for a predicate of a sort that has a name
pub walk_predicate : (s : sorts.Sort) (n : List ℕ) (es : List (Entry sorts.Sort)) {r : rust.Option ℕ}
    → r ≡ library.position (λ (e : Entry sorts.Sort). sameb the_type e.tag s && bytes_eq n e.name.now) es → found_of r ≡ position (is_predicate (sort_meant s) n) es
unfolding is_predicate
walk_predicate s n es e = walk_is _ _ (λ e. ap₂ (λ a b. a && b) (sort_same e.tag s) (same_is n e.name.now refl)) es e
