-- A tree as nodes in the order of its text, each after its parts. `at` gives node j. So a reader makes them as it goes along, and what runs
-- them goes by recursion from a tree's last node, its own, to the parts before it, in whatever order it needs.
use Rattle.std.specs.Prelude.{◌≡◌, ℕ, zero, suc, ◌+◌, ◌-◌}
use Rattle.algebra.specs.Answer.{Joiner}
use Rattle.algebra.specs.Algebra.{Tree, table, join, override, scope, closure, template}

pub data Node (C : Type 0) : Type 0 where
  table_node : ℕ → Node C
  join_node : Joiner → Node C
  override_node : Node C
  scope_node : C → Node C
  closure_node : ℕ → Node C
  template_node : Node C

-- how many parts a node has
unfoldable pub parts : {C : Type 0} → Node C → ℕ
parts (table_node n) = 0
parts (join_node j) = 2
parts override_node = 3
parts (scope_node c) = 1
parts (closure_node R) = 1
parts template_node = 2

-- how many nodes a tree has
unfoldable pub size : {C : Type 0} → Tree C → ℕ
size (table n) = 1
size (join j l r) = suc (size l + size r)
size (override p q s) = suc (size p + size q + size s)
size (scope c t) = suc (size t)
size (closure R t) = suc (size t)
size (template e f) = suc (size e + size f)

module _ {C : Type 0} (at : ℕ → Node C) where
  -- The nodes from lo up to hi are those of the tree: those of its parts, one part after the other, and then its own.
  pub data Encodes : Tree C → ℕ → ℕ → Type 0 where
    of_table : {n lo hi : ℕ} → hi ≡ lo + 1 → at (hi - 1) ≡ table_node n → Encodes (table n) lo hi
    of_join : {j : Joiner} {l r : Tree C} {lo hi : ℕ} (mid : ℕ) → Encodes l lo mid → Encodes r mid (hi - 1) → at (hi - 1) ≡ join_node j
        → Encodes (join j l r) lo hi
    of_override : {p q s : Tree C} {lo hi : ℕ} (second third : ℕ) → Encodes p lo second → Encodes q second third → Encodes s third (hi - 1)
        → at (hi - 1) ≡ override_node → Encodes (override p q s) lo hi
    of_scope : {c : C} {t : Tree C} {lo hi : ℕ} → Encodes t lo (hi - 1) → at (hi - 1) ≡ scope_node c → Encodes (scope c t) lo hi
    of_closure : {R : ℕ} {t : Tree C} {lo hi : ℕ} → Encodes t lo (hi - 1) → at (hi - 1) ≡ closure_node R → Encodes (closure R t) lo hi
    of_template : {e f : Tree C} {lo hi : ℕ} (mid : ℕ) → Encodes e lo mid → Encodes f mid (hi - 1) → at (hi - 1) ≡ template_node
        → Encodes (template e f) lo hi

  -- where the nodes of so many trees begin that end before node j
  unfoldable pub back : ℕ → ℕ → ℕ
  back zero left = zero
  back (suc j) zero = suc j
  back (suc j) (suc left) = back j (left + parts (at j))
