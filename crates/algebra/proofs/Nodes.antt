-- Laws of a tree's nodes: how many there are, that nodes elsewhere change nothing, where a part begins, and what a tree's own node says of it.
use mathlib.Core.Path.{◌≡◌, refl, ap, subst, ◌∙◌}
use Prim.Native.Nat.{ℕ, zero, suc, ◌+◌, ◌*◌, ◌-◌, ◌≤◌, ◌<◌}
use native.Mathlib.Omega.{arith}
use native.Mathlib.Numerals.{unary_clauses}
use Rattle.algebra.specs.Answer.{Joiner}
use Rattle.algebra.specs.Algebra.{Tree, table, join, override, scope, closure, template, operators, held}
use Rattle.algebra.specs.Nodes.{Node, table_node, join_node, override_node, scope_node, closure_node, template_node, parts, size}
use Rattle.algebra.specs.Nodes.{Encodes, of_table, of_join, of_override, of_scope, of_closure, of_template, back}

-- ---- how many nodes there are

-- a tree with so many operators has at most three times as many nodes and one
pub size_le : {C : Type 0} (t : Tree C) → size t ≤ 3 * operators t + 1
unfolding size operators
size_le (table n) = omega arith
size_le (join j l r) = omega (arith, size_le l, size_le r)
size_le (override p q s) = omega (arith, size_le p, size_le q, size_le s)
size_le (scope c t) = omega (arith, size_le t)
size_le (closure R t) = omega (arith, size_le t)
size_le (template e f) = omega (arith, size_le e, size_le f)

pub some_size : {C : Type 0} (t : Tree C) → 1 ≤ size t
unfolding size
some_size (table n) = omega arith
some_size (join j l r) = omega arith
some_size (override p q s) = omega arith
some_size (scope c t) = omega arith
some_size (closure R t) = omega arith
some_size (template e f) = omega arith

pub held_some : {C : Type 0} (t : Tree C) → 1 ≤ held t
unfolding held
held_some (table n) = omega arith
held_some (join j l r) = omega (arith, held_some l)
held_some (override p q s) = omega (arith, held_some p)
held_some (scope c t) = held_some t
held_some (closure R t) = held_some t
held_some (template e f) = omega (arith, held_some f)

pub some_nodes : {C : Type 0} {at : ℕ → Node C} {t : Tree C} {lo hi : ℕ} → Encodes at t lo hi → lo < hi
some_nodes (of_table b e) = omega arith
some_nodes (of_join k x y e) = omega (arith, some_nodes x, some_nodes y)
some_nodes (of_override j k x y z e) = omega (arith, some_nodes x, some_nodes y, some_nodes z)
some_nodes (of_scope x e) = omega (arith, some_nodes x)
some_nodes (of_closure x e) = omega (arith, some_nodes x)
some_nodes (of_template k x y e) = omega (arith, some_nodes x, some_nodes y)

-- a tree holds at most as many sets as it has nodes
pub held_le : {C : Type 0} {at : ℕ → Node C} {t : Tree C} {lo hi : ℕ} → Encodes at t lo hi → held t + lo ≤ hi
unfolding held
held_le (of_table b e) = omega arith
held_le (of_join k x y e) = omega (arith, held_le x, held_le y, some_nodes x, some_nodes y)
held_le (of_override j k x y z e) = omega (arith, held_le x, held_le y, held_le z, some_nodes x, some_nodes y, some_nodes z)
held_le (of_scope x e) = omega (arith, held_le x, some_nodes x)
held_le (of_closure x e) = omega (arith, held_le x, some_nodes x)
held_le (of_template k x y e) = omega (arith, held_le x, held_le y, some_nodes x, some_nodes y)

-- ---- nodes elsewhere change nothing

-- the nodes from lo up to hi are the same
abbrev pub Same : {C : Type 0} → (ℕ → Node C) → (ℕ → Node C) → ℕ → ℕ → Type 0
Same at at' lo hi = (j : ℕ) → lo ≤ j → j < hi → at' j ≡ at j

last_same : {C : Type 0} (at at' : ℕ → Node C) (lo hi : ℕ) {s : Node C} → Same at at' lo hi → lo < hi → at (hi - 1) ≡ s → at' (hi - 1) ≡ s
last_same at at' lo hi s l e = s (hi - 1) (omega arith) (omega arith) ∙ e

pub encodes_same : {C : Type 0} {at at' : ℕ → Node C} {t : Tree C} {lo hi : ℕ} → Same at at' lo hi → Encodes at t lo hi → Encodes at' t lo hi
encodes_same {C} {at} {at'} {t} {lo} {hi} s (of_table b e) = of_table b (last_same at at' lo hi s (omega arith) e)
encodes_same {C} {at} {at'} {t} {lo} {hi} s (of_join k x y e) =
    let a = some_nodes x in
    let b = some_nodes y in
    of_join k (encodes_same (λ i p r. s i p (omega arith)) x) (encodes_same (λ i p r. s i (omega arith) (omega arith)) y)
    (last_same at at' lo hi s (omega arith) e)
encodes_same {C} {at} {at'} {t} {lo} {hi} s (of_override j k x y z e) =
    let a = some_nodes x in
    let b = some_nodes y in
    let d = some_nodes z in
    of_override j k (encodes_same (λ i p r. s i p (omega arith)) x) (encodes_same (λ i p r. s i (omega arith) (omega arith)) y)
    (encodes_same (λ i p r. s i (omega arith) (omega arith)) z) (last_same at at' lo hi s (omega arith) e)
encodes_same {C} {at} {at'} {t} {lo} {hi} s (of_scope x e) =
    let a = some_nodes x in of_scope (encodes_same (λ i p r. s i p (omega arith)) x) (last_same at at' lo hi s (omega arith) e)
encodes_same {C} {at} {at'} {t} {lo} {hi} s (of_closure x e) =
    let a = some_nodes x in of_closure (encodes_same (λ i p r. s i p (omega arith)) x) (last_same at at' lo hi s (omega arith) e)
encodes_same {C} {at} {at'} {t} {lo} {hi} s (of_template k x y e) =
    let a = some_nodes x in
    let b = some_nodes y in
    of_template k (encodes_same (λ i p r. s i p (omega arith)) x) (encodes_same (λ i p r. s i (omega arith) (omega arith)) y)
    (last_same at at' lo hi s (omega arith) e)

-- ---- where a part begins

module _ {C : Type 0} (at : ℕ → Node C) where
  pub back_none : (j : ℕ) → back at j 0 ≡ j
  unfolding back
  back_none zero = refl
  back_none (suc j) = refl

  pub back_more : (j left : ℕ) → 0 < j → 0 < left → back at j left ≡ back at (j - 1) (left - 1 + parts (at (j - 1)))
  unfolding back
  back_more zero left h k = absurd (omega arith)
  back_more (suc j) zero h k = absurd (omega arith)
  back_more (suc j) (suc left) h k = simp unary_clauses

  pub back_zero : (left : ℕ) → back at 0 left ≡ 0
  unfolding back
  back_zero left = refl

  -- back over one tree's own node, which has k parts
  own_back : (hi left k : ℕ) {s : Node C} → 0 < hi → at (hi - 1) ≡ s → parts s ≡ k → back at hi (left + 1) ≡ back at (hi - 1) (left + k)
  own_back hi left k h e o = back_more hi (left + 1) h (omega arith) ∙ ap (back at (hi - 1)) (omega (arith, ap parts e ∙ o))

-- back over one tree
back_tree : {C : Type 0} {at : ℕ → Node C} {t : Tree C} {lo hi : ℕ} → Encodes at t lo hi → (left : ℕ) → back at hi (left + 1) ≡ back at lo left
unfolding parts
back_tree {C} {at} {t} {lo} {hi} (of_table b e) left =
    own_back at hi left 0 (omega arith) e refl ∙ ap (λ j. back at j (left + 0)) (omega arith) ∙ ap (back at lo) (omega arith)
back_tree {C} {at} {t} {lo} {hi} (of_join k x y e) left =
    let b = some_nodes y in
    own_back at hi left 2 (omega arith) e refl ∙ ap (back at (hi - 1)) (omega arith) ∙ back_tree y (left + 1) ∙ back_tree x left
back_tree {C} {at} {t} {lo} {hi} (of_override j k x y z e) left =
    let b = some_nodes z in
    own_back at hi left 3 (omega arith) e refl ∙ ap (back at (hi - 1)) (omega arith) ∙ back_tree z (left + 1 + 1) ∙ back_tree y (left + 1)
    ∙ back_tree x left
back_tree {C} {at} {t} {lo} {hi} (of_scope x e) left = let b = some_nodes x in own_back at hi left 1 (omega arith) e refl ∙ back_tree x left
back_tree {C} {at} {t} {lo} {hi} (of_closure x e) left = let b = some_nodes x in own_back at hi left 1 (omega arith) e refl ∙ back_tree x left
back_tree {C} {at} {t} {lo} {hi} (of_template k x y e) left =
    let b = some_nodes y in
    own_back at hi left 2 (omega arith) e refl ∙ ap (back at (hi - 1)) (omega arith) ∙ back_tree y (left + 1) ∙ back_tree x left

pub part_starts : {C : Type 0} {at : ℕ → Node C} {t : Tree C} {lo hi : ℕ} → Encodes at t lo hi → back at hi 1 ≡ lo
part_starts {C} {at} {t} {lo} {hi} e = back_tree e 0 ∙ back_none at lo

-- ---- what a tree's own node says of the tree

-- a number for each kind of node
abbrev pub kind_of : {C : Type 0} → Node C → ℕ
kind_of (table_node n) = 0
kind_of (join_node j) = 1
kind_of override_node = 2
kind_of (scope_node c) = 3
kind_of (closure_node R) = 4
kind_of template_node = 5

module _ {C : Type 0} where
  pub table_number : (s : Node C) (i j : ℕ) → s ≡ table_node i → s ≡ table_node j → i ≡ j
  table_number s i j e f = cc

  join_sign : (s : Node C) (i j : Joiner) → s ≡ join_node i → s ≡ join_node j → i ≡ j
  join_sign s i j e f = cc

  scope_inside : (s : Node C) (c d : C) → s ≡ scope_node c → s ≡ scope_node d → c ≡ d
  scope_inside s c d e f = cc

  closure_number : (s : Node C) (R Q : ℕ) → s ≡ closure_node R → s ≡ closure_node Q → R ≡ Q
  closure_number s R Q e f = cc

module _ {C : Type 0} (at : ℕ → Node C) where
  pub record Halves (t : Tree C) (j : Joiner) (lo mid end : ℕ) : Type 0 where
    pub l : Tree C
    pub r : Tree C
    pub is : t ≡ join j l r
    pub left : Encodes at l lo mid
    pub right : Encodes at r mid end

  pub record Thirds (t : Tree C) (lo second third end : ℕ) : Type 0 where
    pub p : Tree C
    pub q : Tree C
    pub s : Tree C
    pub is : t ≡ override p q s
    pub left : Encodes at p lo second
    pub middle : Encodes at q second third
    pub right : Encodes at s third end

  -- E and F of a template
  pub record Filled (t : Tree C) (lo mid end : ℕ) : Type 0 where
    pub e : Tree C
    pub f : Tree C
    pub is : t ≡ template e f
    pub body : Encodes at e lo mid
    pub filling : Encodes at f mid end

  pub record Under (t : Tree C) (form : Tree C → Tree C) (lo end : ℕ) : Type 0 where
    pub u : Tree C
    pub is : t ≡ form u
    pub part : Encodes at u lo end

module _ {C : Type 0} {at : ℕ → Node C} {lo hi : ℕ} where
  pub is_table : {t : Tree C} (i : ℕ) → at (hi - 1) ≡ table_node i → Encodes at t lo hi → t ≡ table i
  is_table i q (of_table {n = j} b e) = ap table (table_number _ j i e q)
  is_table i q (of_join k x y e) = absurd (omega (arith, ap kind_of q, ap kind_of e))
  is_table i q (of_override j k x y z e) = absurd (omega (arith, ap kind_of q, ap kind_of e))
  is_table i q (of_scope x e) = absurd (omega (arith, ap kind_of q, ap kind_of e))
  is_table i q (of_closure x e) = absurd (omega (arith, ap kind_of q, ap kind_of e))
  is_table i q (of_template k x y e) = absurd (omega (arith, ap kind_of q, ap kind_of e))

  -- a table is one node
  pub one_node : (i : ℕ) → Encodes at (table i) lo hi → hi - 1 ≡ lo
  one_node i (of_table b e) = omega arith

  -- mid is where the walk back over the second part ends
  pub halves : {t : Tree C} (j : Joiner) (mid : ℕ) → at (hi - 1) ≡ join_node j → mid ≡ back at (hi - 1) 1 → Encodes at t lo hi
      → Halves at t j lo mid (hi - 1)
  halves j mid q f (of_table b e) = absurd (omega (arith, ap kind_of q, ap kind_of e))
  halves j mid q f (of_join {j = i} {l = l} {r = r} k x y e) =
      rw (f ∙ part_starts y) (record { l = l; r = r; is = ap (λ s. join s l r) (join_sign _ i j e q); left = x; right = y })
  halves j mid q f (of_override i k x y z e) = absurd (omega (arith, ap kind_of q, ap kind_of e))
  halves j mid q f (of_scope x e) = absurd (omega (arith, ap kind_of q, ap kind_of e))
  halves j mid q f (of_closure x e) = absurd (omega (arith, ap kind_of q, ap kind_of e))
  halves j mid q f (of_template k x y e) = absurd (omega (arith, ap kind_of q, ap kind_of e))

  pub thirds : {t : Tree C} (second third : ℕ) → at (hi - 1) ≡ override_node → third ≡ back at (hi - 1) 1 → second ≡ back at third 1 → Encodes at t lo hi
      → Thirds at t lo second third (hi - 1)
  thirds second third q f g (of_table b e) = absurd (omega (arith, ap kind_of q, ap kind_of e))
  thirds second third q f g (of_join k x y e) = absurd (omega (arith, ap kind_of q, ap kind_of e))
  thirds second third q f g (of_override {p = a} {q = b} {s = d} i k x y z e) =
      let u : third ≡ k = f ∙ part_starts z in
      rw (g ∙ ap (λ j. back at j 1) u ∙ part_starts y, u) (record { p = a; q = b; s = d; is = refl; left = x; middle = y; right = z })
  thirds second third q f g (of_scope x e) = absurd (omega (arith, ap kind_of q, ap kind_of e))
  thirds second third q f g (of_closure x e) = absurd (omega (arith, ap kind_of q, ap kind_of e))
  thirds second third q f g (of_template k x y e) = absurd (omega (arith, ap kind_of q, ap kind_of e))

  pub scoped : {t : Tree C} (c : C) → at (hi - 1) ≡ scope_node c → Encodes at t lo hi → Under at t (scope c) lo (hi - 1)
  scoped c q (of_table b e) = absurd (omega (arith, ap kind_of q, ap kind_of e))
  scoped c q (of_join k x y e) = absurd (omega (arith, ap kind_of q, ap kind_of e))
  scoped c q (of_override i k x y z e) = absurd (omega (arith, ap kind_of q, ap kind_of e))
  scoped c q (of_scope {c = d} {t = t} x e) = record { u = t; is = ap (λ c. scope c t) (scope_inside _ d c e q); part = x }
  scoped c q (of_closure x e) = absurd (omega (arith, ap kind_of q, ap kind_of e))
  scoped c q (of_template k x y e) = absurd (omega (arith, ap kind_of q, ap kind_of e))

  pub closed : {t : Tree C} (R : ℕ) → at (hi - 1) ≡ closure_node R → Encodes at t lo hi → Under at t (closure R) lo (hi - 1)
  closed R q (of_table b e) = absurd (omega (arith, ap kind_of q, ap kind_of e))
  closed R q (of_join k x y e) = absurd (omega (arith, ap kind_of q, ap kind_of e))
  closed R q (of_override i k x y z e) = absurd (omega (arith, ap kind_of q, ap kind_of e))
  closed R q (of_scope x e) = absurd (omega (arith, ap kind_of q, ap kind_of e))
  closed R q (of_closure {R = Q} {t = t} x e) = record { u = t; is = ap (λ R. closure R t) (closure_number _ Q R e q); part = x }
  closed R q (of_template k x y e) = absurd (omega (arith, ap kind_of q, ap kind_of e))

  -- mid is where F's nodes begin
  pub filled : {t : Tree C} (mid : ℕ) → at (hi - 1) ≡ template_node → mid ≡ back at (hi - 1) 1 → Encodes at t lo hi → Filled at t lo mid (hi - 1)
  filled mid q g (of_table b e) = absurd (omega (arith, ap kind_of q, ap kind_of e))
  filled mid q g (of_join k x y e) = absurd (omega (arith, ap kind_of q, ap kind_of e))
  filled mid q g (of_override i k x y z e) = absurd (omega (arith, ap kind_of q, ap kind_of e))
  filled mid q g (of_scope x e) = absurd (omega (arith, ap kind_of q, ap kind_of e))
  filled mid q g (of_closure x e) = absurd (omega (arith, ap kind_of q, ap kind_of e))
  filled mid q g (of_template {e = u} {f = v} k x y e) = rw (g ∙ part_starts y) (record { e = u; f = v; is = refl; body = x; filling = y })

-- ---- a node more: encoded parts stay so, and the node after them makes the larger tree

-- at' has at's nodes below hi, and a node there
module _ {C : Type 0} (at at' : ℕ → Node C) (hi : ℕ) (same : (j : ℕ) → j < hi → at' j ≡ at j) where
  stays : {t : Tree C} {lo mid : ℕ} → mid ≤ hi → Encodes at t lo mid → Encodes at' t lo mid
  stays l e = encodes_same (λ j p q. same j (omega arith)) e

  again : hi ≡ hi + 1 - 1
  again = omega arith

  -- the part that ends where the new node stands
  stays_last : {t : Tree C} {lo : ℕ} → Encodes at t lo hi → Encodes at' t lo (hi + 1 - 1)
  stays_last {t} {lo} e = subst (Encodes at' t lo) again (stays (omega arith) e)

  own : {s : Node C} → at' hi ≡ s → at' (hi + 1 - 1) ≡ s
  own {s} e = subst (λ j. at' j ≡ s) again e

  pub more_table : (n : ℕ) → at' hi ≡ table_node n → Encodes at' (table n) hi (hi + 1)
  more_table n q = of_table refl (own q)

  module _ {lo : ℕ} {l : Tree C} where
    pub more_scope : (c : C) → at' hi ≡ scope_node c → Encodes at l lo hi → Encodes at' (scope c l) lo (hi + 1)
    more_scope c q e = of_scope {hi = hi + 1} (stays_last e) (own q)

    pub more_closure : (R : ℕ) → at' hi ≡ closure_node R → Encodes at l lo hi → Encodes at' (closure R l) lo (hi + 1)
    more_closure R q e = of_closure {hi = hi + 1} (stays_last e) (own q)

    pub more_join : {mid : ℕ} {r : Tree C} (j : Joiner) → at' hi ≡ join_node j → Encodes at l lo mid → Encodes at r mid hi
        → Encodes at' (join j l r) lo (hi + 1)
    more_join {mid} j q e f = of_join {hi = hi + 1} mid (stays (omega (arith, some_nodes f)) e) (stays_last f) (own q)

    pub more_template : {mid : ℕ} {r : Tree C} → at' hi ≡ template_node → Encodes at l lo mid → Encodes at r mid hi
        → Encodes at' (template l r) lo (hi + 1)
    more_template {mid} q e f = of_template {hi = hi + 1} mid (stays (omega (arith, some_nodes f)) e) (stays_last f) (own q)

    pub more_override : {second third : ℕ} {p s : Tree C} → at' hi ≡ override_node → Encodes at l lo second → Encodes at p second third → Encodes at s third hi
        → Encodes at' (override l p s) lo (hi + 1)
    more_override {second} {third} q e f g =
        let b = some_nodes f in
        let d = some_nodes g in
        of_override {hi = hi + 1} second third (stays (omega arith) e) (stays (omega arith) f) (stays_last g) (own q)
