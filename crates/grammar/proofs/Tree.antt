-- Laws of an expression's tree: a name's number where names are bound. Assumes nothing.
use mathlib.Core.Path.{◌≡◌, refl}
use mathlib.Core.Bool.{true, false}
use mathlib.Core.List.{List, [], ◌∷◌}
use mathlib.Core.Option.{Option, some}
use Prim.Native.Nat.{ℕ, suc}
use Rattle.algebra.specs.Algebra as Algebra
use Rattle.grammar.specs.Text.{text}
use Rattle.grammar.specs.Expression.{one, plain, table_name, template}
use Rattle.grammar.specs.Names.{Kind}
use Rattle.grammar.specs.Lookup.{same, place}
use Rattle.grammar.specs.Tree.{table_of, tree_e, tree_p}

-- in `(t:b.b)(b)`, where the table `b` has the number 7, the first is x, which hides it, and the second is the table
pub filling_outside : let b = one (plain (table_name (text "b"))) in
    tree_p (λ k n. some 7) [] (template (text "b") b b) ≡ Algebra.template (Algebra.table 0) (Algebra.table 7)
unfolding tree_e table_of same place
filling_outside = refl

module _ (number : Kind → List ℕ → Option ℕ) where
  pub table_bound : (x : List ℕ) (xs : List (List ℕ)) (n : List ℕ) → same n x ≡ true → table_of number (x ∷ xs) n ≡ 0
  unfolding table_of
  table_bound x xs n e = rw (table_of, e)

  pub table_free : (x : List ℕ) (xs : List (List ℕ)) (n : List ℕ) → same n x ≡ false → table_of number (x ∷ xs) n ≡ suc (table_of number xs n)
  unfolding table_of
  table_free x xs n e = rw (table_of, e)
