-- Sets held and bindings in force, by the way from a tree's own node to its parts.
use mathlib.Core.Path.{◌≡◌, refl, sym, ap, ap₂, subst, ◌∙◌}
use mathlib.Core.Logic.{◌⊎◌, inl, inr}
use mathlib.Core.List.{List}
use Prim.Native.Nat.{ℕ, ◌+◌, ◌-◌, ◌≤◌, ◌<◌, max}
use native.Mathlib.Omega.{arith}
use lib.ListN.{length, get_or, take}
use lib.Seq.{length-take-le}
use Rattle.std.proofs.lemmas.List.{get_or_default}
use Rattle.algebra.specs.Algebra.{Tree, table, join, override, scope, closure, template, held, bindings}
use Rattle.algebra.specs.Meant.{joiner_meant}
use Rattle.algebra.specs.declared.Joiner as joiners
use Rattle.algebra.specs.declared.Scope as scopes
use Rattle.algebra.specs.Policy as policy
use Rattle.algebra.specs.Nodes.{join_node, override_node, template_node, Encodes, back}
use Rattle.algebra.proofs.Nodes.{some_nodes, held_le, part_starts, is_table, one_node, halves, thirds, scoped, closed, filled}
use Rattle.nodes.specs.Cells.{node_meant, label, HasTree}
use Rattle.nodes.specs.declared.Counted.{Counted}
use Rattle.nodes.specs.declared.Node.{Node}
use Rattle.nodes.specs.declared.Node.TheVariants.{Table, Join, Override, Scope, Closure, Template}
use Rattle.nodes.proofs.Parts.{coded_take}

-- each binding holds a set
bindings_lt : (t : Tree policy.Scope) → bindings t < held t
unfolding bindings held
bindings_lt (table n) = omega arith
bindings_lt (join j l r) = omega (arith, bindings_lt l, bindings_lt r)
bindings_lt (override p q s) = omega (arith, bindings_lt p, bindings_lt q, bindings_lt s)
bindings_lt (scope c t) = bindings_lt t
bindings_lt (closure R t) = bindings_lt t
bindings_lt (template e f) = omega (arith, bindings_lt e, bindings_lt f)

-- r tells of the tree t that begins at lo
abbrev Tells : Tree policy.Scope → ℕ → Counted → Type 0
Tells t lo r = (r.start ≡ lo) × (r.sets ≡ held t) × (r.bindings ≡ bindings t)

-- r tells of the tree that ends before `end`
abbrev pub Held : List Node → ℕ → Counted → Type 0
Held m end r = (t : Tree policy.Scope) (lo : ℕ) → Encodes (label m) t lo end → Tells t lo r

abbrev counted : ℕ → ℕ → ℕ → Counted
counted a h b = record { start = a; sets = h; bindings = b }

pub some_tree : {m : List Node} {end : ℕ} → HasTree m end → 0 < end
some_tree w = omega (arith, some_nodes w.coded)

pub held_few : {m : List Node} {end : ℕ} {r : Counted} → HasTree m end → Held m end r → (r.sets ≤ 193) × (r.bindings ≤ 193)
held_few w h =
    let x = h w.tree w.start w.coded in
    let l = held_le w.coded in
    (omega (arith, x.1, w.few), omega (arith, x.2, bindings_lt w.tree, w.few))

-- where the walk back over the tree ends
pub start_is : {m : List Node} {end : ℕ} {r : Counted} → HasTree m end → Held m end r → r.start ≡ back (label m) end 1
start_is w h = (h w.tree w.start w.coded).0 ∙ sym (part_starts w.coded)

-- a part of the tree
part : {m : List Node} {end : ℕ} (w : HasTree m end) (t : Tree policy.Scope) (a b : ℕ) → Encodes (label m) t a b → b ≤ end → HasTree m b
part w t a b e l = record { tree = t; start = a; coded = e; few = omega (arith, w.few); long = omega (arith, w.long) }

-- two parts, one after the other
both_parts : {m : List Node} {end : ℕ} (w : HasTree m end) (l r : Tree policy.Scope) (mid : ℕ) → Encodes (label m) l w.start mid
    → Encodes (label m) r mid (end - 1)
    → HasTree m mid × HasTree m (end - 1) × (mid < end)
both_parts {m} {end} w l r mid x y =
    let a = some_nodes y in
    (part w l w.start mid x (omega arith), part w r mid (end - 1) y (omega arith), omega arith)

-- the slice of a part's nodes
pub slice_length : {m : List Node} {end : ℕ} → HasTree m end → length (take end m) ≡ end
slice_length {m} {end} w = length-take-le end m w.long

-- what is told of the slice of a part's nodes is told of the part
pub told : {m : List Node} {end : ℕ} {r : Counted} → HasTree m end → Held (take end m) (length (take end m)) r → Held m end r
told {m} {end} w h t lo e = h t lo (subst (Encodes (label (take end m)) t lo) (sym (slice_length w)) (coded_take end m (omega arith) e))

-- the tree's own node, as the code reads it
pub own_label : {m : List Node} {end : ℕ} {s : Node} → HasTree m end → get_or m (end - 1) (Table 0) ≡ s → label m (end - 1) ≡ node_meant s
own_label {m} {end} w e =
    let l = some_tree w in
    ap node_meant (get_or_default m (end - 1) Template (Table 0) (omega (arith, w.long)) ∙ e)

module _ {m : List Node} {end : ℕ} (w : HasTree m end) where
  -- the own node
  abbrev Own : Node → Type 0
  Own s = get_or m (end - 1) (Table 0) ≡ s

  -- what the call on a part says, its slice being that of its nodes
  abbrev Said : ℕ → Counted → Type 0
  Said mid r = Held (take mid m) (length (take mid m)) r

  pub held_table : (n : ℕ) → Own (Table n) → Held m end (counted (end - 1) 1 0)
  unfolding held bindings
  held_table n o t lo e =
      let q = is_table n (own_label w o) e in
      (one_node n (rw q at e), ap held (sym q), ap bindings (sym q))

  module _ (j : joiners.Joiner) (is : Own (Join j)) where
    own_join : label m (end - 1) ≡ join_node (joiner_meant j)
    own_join = own_label w is

    two_trees : (mid : ℕ) → mid ≡ back (label m) (end - 1) 1 → HasTree m mid × HasTree m (end - 1) × (mid < end)
    two_trees mid s = let v = halves (joiner_meant j) mid own_join s w.coded in both_parts w v.l v.r mid v.left v.right

    -- the second part of a join is met first
    pub right_tree : HasTree m (end - 1)
    right_tree = (two_trees (back (label m) (end - 1) 1) refl).1

    module _ (r : Counted) (s : Said (end - 1) r) where
      right_told : Held m (end - 1) r
      right_told = told right_tree s

      pub right_few : (r.sets ≤ 193) × (r.bindings ≤ 193)
      right_few = held_few right_tree right_told

      pub left_tree : HasTree m r.start × (r.start < end)
      left_tree = let z = two_trees r.start (start_is right_tree right_told) in (z.0, z.2)

      pub held_join : (l : Counted) (h b : ℕ) → Said r.start l → h ≡ max l.sets (1 + r.sets) → b ≡ max l.bindings r.bindings
          → Held m end (counted l.start h b)
      unfolding held bindings
      held_join l h b f p q t lo e =
          let v = halves (joiner_meant j) r.start own_join (start_is right_tree right_told) e in
          let x = told left_tree.0 f v.l lo v.left in
          let y = right_told v.r r.start v.right in
          (x.0, p ∙ ap₂ max x.1 (ap (λ n. 1 + n) y.1) ∙ ap held (sym v.is), q ∙ ap₂ max x.2 y.2 ∙ ap bindings (sym v.is))

  module _ (is : Own Override) where
    own_override : label m (end - 1) ≡ override_node
    own_override = own_label w is

    three_trees : (second third : ℕ) → third ≡ back (label m) (end - 1) 1 → second ≡ back (label m) third 1
        → HasTree m second × HasTree m third × HasTree m (end - 1) × (second < third) × (third < end)
    three_trees second third s z =
        let v = thirds second third own_override s z w.coded in
        let a = some_nodes v.middle in
        let b = some_nodes v.right in (
          part w v.p w.start second v.left (omega arith),
          part w v.q second third v.middle (omega arith),
          part w v.s third (end - 1) v.right (omega arith),
          a,
          omega arith,
        )

    -- the third part of an override is met first, and then the second
    pub third_tree : HasTree m (end - 1)
    third_tree = (three_trees (back (label m) (back (label m) (end - 1) 1) 1) (back (label m) (end - 1) 1) refl refl).2

    module _ (r : Counted) (s : Said (end - 1) r) where
      third_told : Held m (end - 1) r
      third_told = told third_tree s

      pub third_few : (r.sets ≤ 193) × (r.bindings ≤ 193)
      third_few = held_few third_tree third_told

      second_trees : HasTree m (back (label m) r.start 1) × HasTree m r.start × HasTree m (end - 1) × (back (label m) r.start 1 < r.start)
          × (r.start < end)
      second_trees = three_trees (back (label m) r.start 1) r.start (start_is third_tree third_told) refl

      pub second_tree : HasTree m r.start × (r.start < end)
      second_tree = (second_trees.1, second_trees.4)

      module _ (q : Counted) (y : Said r.start q) where
        second_told : Held m r.start q
        second_told = told second_trees.1 y

        pub second_few : (q.sets ≤ 193) × (q.bindings ≤ 193)
        second_few = held_few second_trees.1 second_told

        pub first_tree : HasTree m q.start × (q.start < end)
        first_tree =
            let z = three_trees q.start r.start (start_is third_tree third_told) (start_is second_trees.1 second_told) in
            (z.0, omega (arith, z.3, z.4))

        pub held_override : (p : Counted) (h b : ℕ) → Said q.start p → h ≡ max p.sets (max (1 + q.sets) (2 + r.sets))
            → b ≡ max p.bindings (max q.bindings r.bindings) → Held m end (counted p.start h b)
        unfolding held bindings
        held_override p h b f u u' t lo e =
            let v = thirds q.start r.start own_override (start_is third_tree third_told) (start_is second_trees.1 second_told) e in
            let x = told first_tree.0 f v.p lo v.left in
            let y = second_told v.q q.start v.middle in
            let z = third_told v.s r.start v.right in (
              x.0,
              u ∙ ap₂ max x.1 (ap₂ max (ap (λ n. 1 + n) y.1) (ap (λ n. 2 + n) z.1)) ∙ ap held (sym v.is),
              u' ∙ ap₂ max x.2 (ap₂ max y.2 z.2) ∙ ap bindings (sym v.is),
            )

  -- a scope or a closure
  module _ (is : ((c : scopes.Scope) × Own (Scope c)) ⊎ ((R : ℕ) × Own (Closure R))) where
    pub one_tree : HasTree m (end - 1)
    one_tree = go is
      where
        go : ((c : scopes.Scope) × Own (Scope c)) ⊎ ((R : ℕ) × Own (Closure R)) → HasTree m (end - 1)
        go (inl x) = let v = scoped _ (own_label w x.1) w.coded in part w v.u w.start (end - 1) v.part (omega arith)
        go (inr x) = let v = closed _ (own_label w x.1) w.coded in part w v.u w.start (end - 1) v.part (omega arith)

    pub held_one : (r : Counted) → Said (end - 1) r → Held m end r
    unfolding held bindings
    held_one r s t lo e = go is
      where
        f : Held m (end - 1) r
        f = told one_tree s

        go : ((c : scopes.Scope) × Own (Scope c)) ⊎ ((R : ℕ) × Own (Closure R)) → Tells t lo r
        go (inl x) =
            let v = scoped _ (own_label w x.1) e in
            let y = f v.u lo v.part in
            (y.0, y.1 ∙ ap held (sym v.is), y.2 ∙ ap bindings (sym v.is))
        go (inr x) =
            let v = closed _ (own_label w x.1) e in
            let y = f v.u lo v.part in
            (y.0, y.1 ∙ ap held (sym v.is), y.2 ∙ ap bindings (sym v.is))

  module _ (is : Own Template) where
    own_template : label m (end - 1) ≡ template_node
    own_template = own_label w is

    template_trees : (mid : ℕ) → mid ≡ back (label m) (end - 1) 1 → HasTree m mid × HasTree m (end - 1) × (mid < end)
    template_trees mid s = let v = filled mid own_template s w.coded in both_parts w v.e v.f mid v.body v.filling

    pub filling_tree : HasTree m (end - 1)
    filling_tree = (template_trees (back (label m) (end - 1) 1) refl).1

    module _ (f : Counted) (s : Said (end - 1) f) where
      filling_told : Held m (end - 1) f
      filling_told = told filling_tree s

      pub body_tree : HasTree m f.start × (f.start < end)
      body_tree = let z = template_trees f.start (start_is filling_tree filling_told) in (z.0, z.2)

      module _ (e : Counted) (y : Said f.start e) where
        pub body_few : (e.sets ≤ 193) × (e.bindings ≤ 193)
        body_few = held_few body_tree.0 (told body_tree.0 y)

      pub held_template : (e : Counted) (h b : ℕ) → Said f.start e → h ≡ max f.sets (1 + e.sets) → b ≡ max f.bindings (1 + e.bindings)
          → Held m end (counted e.start h b)
      unfolding held bindings
      held_template e h b j p q t lo en =
          let v = filled f.start own_template (start_is filling_tree filling_told) en in
          let x = filling_told v.f f.start v.filling in
          let y = told body_tree.0 j v.e lo v.body in
          (y.0, p ∙ ap₂ max x.1 (ap (λ n. 1 + n) y.1) ∙ ap held (sym v.is), q ∙ ap₂ max x.2 (ap (λ n. 1 + n) y.2) ∙ ap bindings (sym v.is))
