-- The tables that an expression's tree uses are those that it names, free of the bound names. Assumes nothing.
use mathlib.Core.Path.{◌≡◌, refl, sym, ap, subst}
use mathlib.Core.Logic.{inl, inr}
use mathlib.Core.Bool.{Bool, true, false, not}
use mathlib.Core.List.{List, [], ◌∷◌}
use mathlib.Core.Option.{Option, none, some}
use Prim.Native.Nat.{ℕ, suc, ◌+◌}
use native.Mathlib.Omega.{arith}
use native.Mathlib.Nat.{suc-add}
use lib.ListN.{length}
use Rattle.algebra.specs.Algebra.{Uses}
use Rattle.grammar.specs.Expression.{Exp, one, more, Fac, plain, scoped, closed_by, Pri, table_name, bracket, override, template}
use Rattle.grammar.specs.Names.{Kind, table, is_free, missing}
use Rattle.grammar.specs.Occurs.{OccursE, in_one, in_left, in_right, OccursF, in_primary, before_scope, before_closure, OccursP, names_table, in_bracket}
use Rattle.grammar.specs.Occurs.{in_first, in_second, in_third, in_template, in_filling, AllDeclared}
use Rattle.grammar.specs.Lookup.{same, found, place}
use Rattle.grammar.specs.Tree.{table_of, tree_e, tree_f, tree_p, tree_of}
use Rattle.grammar.proofs.Leftmost.{none_missing}

-- none of the names is n
Apart : List ℕ → List (List ℕ) → Type 0
Apart n [] = Unit {0}
Apart n (x ∷ xs) = (same n x ≡ false) × Apart n xs

module _ (number : Kind → List ℕ → Option ℕ) where
  -- the name of table i, which occurs as the family says
  record Named (Occurs : Kind → List ℕ → ℕ → Type 0) (xs : List (List ℕ)) (i : ℕ) : Type 0 where
    n : List ℕ
    p : ℕ
    occurs : Occurs table n p
    apart : Apart n xs
    is : place (number table n) ≡ i

  within : {A B : Kind → List ℕ → ℕ → Type 0} {xs : List (List ℕ)} {i : ℕ} (q : ℕ → ℕ) → ((n : List ℕ) (p : ℕ) → A table n p → B table n (q p))
      → Named A xs i → Named B xs i
  within q f x = record { n = x.n; p = q x.p; occurs = f x.n x.p x.occurs; apart = x.apart; is = x.is }

  table_apart : (xs : List (List ℕ)) (n : List ℕ) (i : ℕ) → table_of number xs n ≡ length xs + i → Apart n xs × (place (number table n) ≡ i)
  unfolding table_of Apart
  table_apart [] n i e = (tt, omega (arith, e))
  table_apart (x ∷ xs) n i e = go (table_apart xs n i) (same n x) refl e
    where
      go : (table_of number xs n ≡ length xs + i → Apart n xs × (place (number table n) ≡ i)) → (b : Bool) → same n x ≡ b
          → elim b [ true ↦ 0 | false ↦ suc (table_of number xs n) ] ≡ length (x ∷ xs) + i
          → ((same n x ≡ false) × Apart n xs) × (place (number table n) ≡ i)
      go rest true s h = absurd (omega (arith, h))
      go rest false s h = let r = rest (omega (arith, h)) in ((s, r.0), r.1)

  mutual
    unfolding tree_e Uses Apart is_free

    used_e : (xs : List (List ℕ)) (e : Exp) (i : ℕ) → Uses (tree_e number xs e) (length xs + i) → Named (OccursE e) xs i
    used_e xs (one f) i u = within (λ p. p) (λ n p o. in_one o) (used_f xs f i u)
    used_e xs (more e j f) i (inl u) = within (λ p. p) (λ n p o. in_left o) (used_e xs e i u)
    used_e xs (more e j f) i (inr u) = within _ (λ n p o. in_right o) (used_f xs f i u)

    used_f : (xs : List (List ℕ)) (f : Fac) (i : ℕ) → Uses (tree_f number xs f) (length xs + i) → Named (OccursF f) xs i
    used_f xs (plain p) i u = within (λ p. p) (λ n p o. in_primary o) (used_p xs p i u)
    used_f xs (scoped f c) i u = within (λ p. p) (λ n p o. before_scope o) (used_f xs f i u)
    used_f xs (closed_by f n) i u = within (λ p. p) (λ n p o. before_closure o) (used_f xs f i u)

    used_p : (xs : List (List ℕ)) (p : Pri) (i : ℕ) → Uses (tree_p number xs p) (length xs + i) → Named (OccursP p) xs i
    used_p xs (table_name n) i u = let r = table_apart xs n i u in record { n = n; p = 0; occurs = names_table; apart = r.0; is = r.1 }
    used_p xs (bracket e) i u = within _ (λ n p o. in_bracket o) (used_e xs e i u)
    used_p xs (override e f g) i (inl u) = within _ (λ n p o. in_first o) (used_e xs e i u)
    used_p xs (override e f g) i (inr (inl u)) = within _ (λ n p o. in_second o) (used_e xs f i u)
    used_p xs (override e f g) i (inr (inr u)) = within _ (λ n p o. in_third o) (used_e xs g i u)
    used_p xs (template x e f) i (inl u) = within _ (λ n p o. in_filling o) (used_e xs f i u)
    used_p xs (template x e f) i (inr u) =
        let r = used_e (x ∷ xs) e i (subst (Uses (tree_e number (x ∷ xs) e)) (sym (suc-add _ _)) u) in
        record { n = r.n; p = _; occurs = in_template (ap not r.apart.0) r.occurs; apart = r.apart.1; is = r.is }

  -- where no name is missing, a table that is used is the one of a name
  pub used_table : (e : Exp) → missing (λ (k : Kind) (n : List ℕ). found (number k n)) e ≡ none → (i : ℕ) → Uses (tree_of number e) i
      → (n : List ℕ) × (number table n ≡ some i)
  unfolding tree_of AllDeclared found place
  used_table e h i u =
      let r = used_e [] e i (subst (Uses (tree_e number [] e)) (omega arith) u) in
      (r.n, go (number table r.n) (none_missing (λ k n. found (number k n)) e h table r.n r.p r.occurs) r.is)
    where
      go : (o : Option ℕ) → found o ≡ true → place o ≡ i → o ≡ some i
      go none a b = absurd (let z : ◌≡◌ {A = ℕ} 0 1 = cc in omega arith)
      go (some j) a b = ap some b
