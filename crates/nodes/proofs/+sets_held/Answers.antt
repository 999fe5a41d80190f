-- `nodes::sets_held` meets its contract: by the kind of the tree's own node, from the last part to the first.
use mathlib.Core.Path.{sym, ap, ◌∙◌}
use Prim.Native.Nat.{max}
use native.Mathlib.Omega.{arith}
use Rattle.nodes.proofs.Parts.{tree_take}
use Rattle.nodes.proofs.Held.{some_tree, slice_length, held_table, right_tree, right_few, left_tree, held_join, third_tree, third_few, second_tree, second_few}
use Rattle.nodes.proofs.Held.{first_tree, held_override, one_tree, held_one, filling_tree, body_tree, body_few, held_template}
use Rattle.nodes.proofs.+sets_held.Goals as goal

pub overflow_sub-own : goal.overflow_sub-own
overflow_sub-own t c = omega (arith, some_tree c.requires)

pub bounds : goal.bounds
bounds t c = omega (arith, some_tree c.requires)

pub returns-in-Table : goal.returns-in-Table
returns-in-Table t c = held_table c.requires _ c.in-Table.is

-- ---- a join

pub sets_held-r-requires : goal.sets_held-r-requires
sets_held-r-requires t c =
    let w = right_tree c.requires _ c.in-Join.is in
    (omega (arith, some_tree c.requires, slice_length w), tree_take w)

pub slice_bounds-sets_held-end-in-Join : goal.slice_bounds-sets_held-end-in-Join
slice_bounds-sets_held-end-in-Join t c = sym (slice_length (left_tree c.requires _ c.in-Join.is _ c.sets_held-r.ensures).0)

pub sets_held-l-requires : goal.sets_held-l-requires
sets_held-l-requires t c =
    let v = left_tree c.requires _ c.in-Join.is _ c.sets_held-r.ensures in
    (omega (arith, v.1, slice_length v.0), tree_take v.0)

pub overflow_add-r : goal.overflow_add-r
overflow_add-r t c = omega (arith, right_few c.requires _ c.in-Join.is _ c.sets_held-r.ensures)

pub returns-in-Join : goal.returns-in-Join
returns-in-Join t c =
    held_join c.requires _ c.in-Join.is _ c.sets_held-r.ensures c.sets_held-l.result _ _ c.sets_held-l.ensures c.max.ensures c.max-in-Join.ensures

-- ---- `o`

pub sets_held-s-requires : goal.sets_held-s-requires
sets_held-s-requires t c =
    let w = third_tree c.requires c.in-Override.is in
    (omega (arith, some_tree c.requires, slice_length w), tree_take w)

pub slice_bounds-sets_held-end-in-Override-2 : goal.slice_bounds-sets_held-end-in-Override-2
slice_bounds-sets_held-end-in-Override-2 t c = sym (slice_length (second_tree c.requires c.in-Override.is _ c.sets_held-s.ensures).0)

pub sets_held-q-requires : goal.sets_held-q-requires
sets_held-q-requires t c =
    let v = second_tree c.requires c.in-Override.is _ c.sets_held-s.ensures in
    (omega (arith, v.1, slice_length v.0), tree_take v.0)

pub slice_bounds-sets_held-end-in-Override-3 : goal.slice_bounds-sets_held-end-in-Override-3
slice_bounds-sets_held-end-in-Override-3 t c =
    sym (slice_length (first_tree c.requires c.in-Override.is _ c.sets_held-s.ensures _ c.sets_held-q.ensures).0)

pub sets_held-p-requires : goal.sets_held-p-requires
sets_held-p-requires t c =
    let v = first_tree c.requires c.in-Override.is _ c.sets_held-s.ensures _ c.sets_held-q.ensures in
    (omega (arith, v.1, slice_length v.0), tree_take v.0)

pub overflow_add-q : goal.overflow_add-q
overflow_add-q t c = omega (arith, second_few c.requires c.in-Override.is _ c.sets_held-s.ensures _ c.sets_held-q.ensures)

pub overflow_add-s : goal.overflow_add-s
overflow_add-s t c = omega (arith, third_few c.requires c.in-Override.is _ c.sets_held-s.ensures)

pub returns-in-Override : goal.returns-in-Override
returns-in-Override t c =
    let p = c.sets_held-p.result in
    held_override c.requires c.in-Override.is _ c.sets_held-s.ensures _ c.sets_held-q.ensures p _ _ c.sets_held-p.ensures
    (c.max-in-Override-2.ensures ∙ ap (max p.sets) c.max-in-Override.ensures)
    (c.max-in-Override-4.ensures ∙ ap (max p.bindings) c.max-in-Override-3.ensures)

-- ---- a scope or a closure

pub sets_held-requires : goal.sets_held-requires
sets_held-requires t c =
    let w = one_tree c.requires c.in-Scope.is in
    (omega (arith, some_tree c.requires, slice_length w), tree_take w)

pub returns-in-Scope : goal.returns-in-Scope
returns-in-Scope t c = held_one c.requires c.in-Scope.is c.sets_held.result c.sets_held.ensures

-- ---- a template

pub sets_held-f-requires : goal.sets_held-f-requires
sets_held-f-requires t c =
    let w = filling_tree c.requires c.in-Template.is in
    (omega (arith, some_tree c.requires, slice_length w), tree_take w)

pub slice_bounds-sets_held-end-in-Template-2 : goal.slice_bounds-sets_held-end-in-Template-2
slice_bounds-sets_held-end-in-Template-2 t c = sym (slice_length (body_tree c.requires c.in-Template.is _ c.sets_held-f.ensures).0)

pub sets_held-e-requires : goal.sets_held-e-requires
sets_held-e-requires t c =
    let v = body_tree c.requires c.in-Template.is _ c.sets_held-f.ensures in
    (omega (arith, v.1, slice_length v.0), tree_take v.0)

pub overflow_add-e : goal.overflow_add-e
overflow_add-e t c = omega (arith, body_few c.requires c.in-Template.is _ c.sets_held-f.ensures _ c.sets_held-e.ensures)

pub overflow_add-e-in-Template : goal.overflow_add-e-in-Template
overflow_add-e-in-Template t c = omega (arith, body_few c.requires c.in-Template.is _ c.sets_held-f.ensures _ c.sets_held-e.ensures)

pub returns-in-Template : goal.returns-in-Template
returns-in-Template t c =
    held_template c.requires c.in-Template.is _ c.sets_held-f.ensures c.sets_held-e.result _ _ c.sets_held-e.ensures c.max-in-Template.ensures
    c.max-in-Template-2.ensures
