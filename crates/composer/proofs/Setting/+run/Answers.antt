-- `composer::Setting::run` meets its contract. It calls itself on the parts of a tree, which have fewer nodes.
use mathlib.Core.Path.{sym, ap, ◌∙◌}
use Prim.Native.Nat.{◌+◌}
use native.Mathlib.Omega.{arith}
use lib.ListN.{length}
use lib.Seq.{length-take-le}
use Rattle.plans.proofs.Sets.{accesses_total}
use Rattle.nodes.proofs.Held.{own_label, slice_length}
use Rattle.composer.proofs.Named.{below_more, below_inner}
use Rattle.composer.proofs.Ranges.{scope_small, scope_names}
use Rattle.composer.proofs.Parts.{sized_set, sized_some, sized_take, few_told, few_rounds, all_told, mid_is, own_fits, own_table}
use Rattle.composer.proofs.Parts.{sized_two, second_start, second_is}
use Rattle.composer.proofs.Parts.{sized_three, sized_scope, sized_closure, sized_filling, body_room, sized_body}
use Rattle.composer.proofs.Runs.{few_two, few_three, few_scope, few_closure, few_template}
use Rattle.composer.proofs.Runs.{ran_table, ran_two, ran_three, ran_closure, ran_scope, ran_template}
use Rattle.composer.proofs.Setting.+run.Goals as goal

pub overflow_sub-own : goal.overflow_sub-own
overflow_sub-own t c =
    omega (arith, sized_some c.requires.sized.0)

pub bounds : goal.bounds
bounds t c =
    omega (arith, sized_some c.requires.sized.0)

pub bounds-nodes-own : goal.bounds-nodes-own
bounds-nodes-own t c =
    omega (arith, sized_some c.requires.sized.0)

-- ---- a table

pub put_named-requires-clause-room : goal.put_named-requires-clause-room
put_named-requires-clause-room t c =
    (sized_set c.requires.sized.0, c.args.self.now.ready.sized.few, c.requires.w_len)

pub put_named-requires-clause-named : goal.put_named-requires-clause-named
put_named-requires-clause-named t c =
    (own_table c.requires.sized.0 _ c.in-Table.is, c.requires.sized.1)

pub returns-in-Table-clause-all_answered : goal.returns-in-Table-clause-all_answered
returns-in-Table-clause-all_answered t c =
    λ fr st. let a = c.args in
    let s = a.self.now in
    let z = c.requires.sized.0 in
    let size = sym (accesses_total fr s.counts s.table.now st.stands) in
    ran_table a.nodes.now (length a.nodes.now) fr s a.bound.now.items a.k _ s.ready.sized.few size (sized_set z) c.requires.sized.1 c.in-Table.number
    (own_label z.nodes c.in-Table.is) a.w.now c.put_named.new.w c.requires.w_len c.put_named.ensures

-- ---- a join

pub slice_bounds-run-end : goal.slice_bounds-run-end
slice_bounds-run-end t c =
    let z = c.requires.sized.0 in
    let f = sized_two z c.in-Join.is c.part_start-mid.result c.part_start-mid.ensures in
    sym (slice_length f.0.nodes)

pub run-left-requires : goal.run-left-requires
run-left-requires t c =
    let z = c.requires.sized.0 in
    let f = sized_two z c.in-Join.is c.part_start-mid.result c.part_start-mid.ensures in
    (omega (arith, f.2, slice_length f.0.nodes), ((sized_take f.0, c.requires.sized.1), c.requires.w_len))

pub run-right-requires : goal.run-right-requires
run-right-requires t c =
    let z = c.requires.sized.0 in
    let f = sized_two z c.in-Join.is c.part_start-mid.result c.part_start-mid.ensures in
    let low = below_more c.args.k (c.args.k + 1) c.args.bound.now.items (omega arith) c.requires.sized.1 in
    (omega (arith, sized_some z, slice_length f.1.nodes), ((sized_take f.1, low), omega (arith, c.requires.w_len, c.run-left.auto.w)))

pub combine-requires : goal.combine-requires
combine-requires t c =
    let z = c.requires.sized.0 in
    let f = sized_two z c.in-Join.is c.part_start-mid.result c.part_start-mid.ensures in
    (sized_set f.1, omega (arith, c.accesses.ensures, c.args.self.now.ready.sized.few), omega (arith, c.requires.w_len, c.run-left.auto.w, c.run-right.auto.w))

pub overflow_add-result : goal.overflow_add-result
overflow_add-result t c =
    let z = c.requires.sized.0 in
    let f = sized_two z c.in-Join.is c.part_start-mid.result c.part_start-mid.ensures in
    omega (arith, few_rounds f.0 c.run-left.result c.run-left.ensures.few_rounds, few_rounds f.1 c.run-right.result c.run-right.ensures.few_rounds)

pub returns-in-Join-clause-few_rounds : goal.returns-in-Join-clause-few_rounds
returns-in-Join-clause-few_rounds t c =
    let z = c.requires.sized.0 in
    let f = sized_two z c.in-Join.is c.part_start-mid.result c.part_start-mid.ensures in
    few_two c.args.nodes.now (length c.args.nodes.now) _ (own_label z.nodes c.in-Join.is) c.part_start-mid.result c.run-left.result c.run-right.result
    (mid_is z c.part_start-mid.ensures)
    (few_told f.0 c.run-left.result c.run-left.ensures.few_rounds) (few_told f.1 c.run-right.result c.run-right.ensures.few_rounds)

pub returns-in-Join-clause-all_answered : goal.returns-in-Join-clause-all_answered
returns-in-Join-clause-all_answered t c =
    λ fr st. let a = c.args in
    let s = a.self.now in
    let z = c.requires.sized.0 in
    let f = sized_two z c.in-Join.is c.part_start-mid.result c.part_start-mid.ensures in
    let one = c.run-left in
    let two = c.run-right in
    let size = c.accesses.ensures ∙ sym (accesses_total fr s.counts s.table.now st.stands) in
    ran_two a.nodes.now (length a.nodes.now) fr s a.bound.now.items a.k _ (omega (arith, c.accesses.ensures, s.ready.sized.few)) size (sized_set z)
    c.requires.sized.1 _ (own_label z.nodes c.in-Join.is) c.part_start-mid.result a.w.now one.new.w two.new.w c.combine.new.w one.result two.result
    (mid_is z c.part_start-mid.ensures)
    (omega (arith, c.requires.w_len, one.auto.w, two.auto.w)) (all_told f.0 fr _ _ s _ _ _ (one.ensures.all_answered fr st))
    (all_told f.1 fr _ _ s _ _ _ (two.ensures.all_answered fr st)) c.combine.ensures

-- ---- `o`

pub slice_bounds-part_start-end-in-Override-2 : goal.slice_bounds-part_start-end-in-Override-2
slice_bounds-part_start-end-in-Override-2 t c =
    let z = c.requires.sized.0 in
    let m = c.args.nodes.now in
    let third = c.part_start-third.result in
    let y = second_start z c.in-Override.is third c.part_start-third.ensures in
    sym (length-take-le third m y.0)

pub part_start-second-requires : goal.part_start-second-requires
part_start-second-requires t c =
    let z = c.requires.sized.0 in
    let m = c.args.nodes.now in
    let third = c.part_start-third.result in
    let y = second_start z c.in-Override.is third c.part_start-third.ensures in
    omega (arith, y.1, length-take-le third m y.0)

pub slice_bounds-run-end-in-Override : goal.slice_bounds-run-end-in-Override
slice_bounds-run-end-in-Override t c =
    let z = c.requires.sized.0 in
    let m = c.args.nodes.now in
    let third = c.part_start-third.result in
    let f = sized_three z c.in-Override.is c.part_start-second.result third c.part_start-third.ensures c.part_start-second.ensures in
    sym (slice_length f.0.nodes)

pub run-one-requires : goal.run-one-requires
run-one-requires t c =
    let z = c.requires.sized.0 in
    let m = c.args.nodes.now in
    let third = c.part_start-third.result in
    let f = sized_three z c.in-Override.is c.part_start-second.result third c.part_start-third.ensures c.part_start-second.ensures in
    (omega (arith, f.3, f.4, slice_length f.0.nodes), ((sized_take f.0, c.requires.sized.1), c.requires.w_len))

pub slice_bounds-run-end-in-Override-2 : goal.slice_bounds-run-end-in-Override-2
slice_bounds-run-end-in-Override-2 t c =
    let z = c.requires.sized.0 in
    let m = c.args.nodes.now in
    let third = c.part_start-third.result in
    let f = sized_three z c.in-Override.is c.part_start-second.result third c.part_start-third.ensures c.part_start-second.ensures in
    sym (slice_length f.1.nodes)

pub run-two-requires : goal.run-two-requires
run-two-requires t c =
    let z = c.requires.sized.0 in
    let m = c.args.nodes.now in
    let third = c.part_start-third.result in
    let f = sized_three z c.in-Override.is c.part_start-second.result third c.part_start-third.ensures c.part_start-second.ensures in
    let low = below_more c.args.k (c.args.k + 1) c.args.bound.now.items (omega arith) c.requires.sized.1 in
    (omega (arith, f.4, slice_length f.1.nodes), ((sized_take f.1, low), omega (arith, c.requires.w_len, c.run-one.auto.w)))

pub run-three-requires : goal.run-three-requires
run-three-requires t c =
    let z = c.requires.sized.0 in
    let m = c.args.nodes.now in
    let third = c.part_start-third.result in
    let f = sized_three z c.in-Override.is c.part_start-second.result third c.part_start-third.ensures c.part_start-second.ensures in
    let low = below_more c.args.k (c.args.k + 2) c.args.bound.now.items (omega arith) c.requires.sized.1 in
    (omega (arith, sized_some z, slice_length f.2.nodes), ((sized_take f.2, low), omega (arith, c.requires.w_len, c.run-one.auto.w, c.run-two.auto.w)))

pub replace-requires : goal.replace-requires
replace-requires t c =
    let z = c.requires.sized.0 in
    let m = c.args.nodes.now in
    let third = c.part_start-third.result in
    let f = sized_three z c.in-Override.is c.part_start-second.result third c.part_start-third.ensures c.part_start-second.ensures in (
      sized_set f.2,
      omega (arith, c.accesses-in-Override.ensures, c.args.self.now.ready.sized.few),
      omega (arith, c.requires.w_len, c.run-one.auto.w, c.run-two.auto.w, c.run-three.auto.w),
    )

pub overflow_add-result-in-Override : goal.overflow_add-result-in-Override
overflow_add-result-in-Override t c =
    let z = c.requires.sized.0 in
    let m = c.args.nodes.now in
    let third = c.part_start-third.result in
    let f = sized_three z c.in-Override.is c.part_start-second.result third c.part_start-third.ensures c.part_start-second.ensures in
    omega (arith, few_rounds f.0 c.run-one.result c.run-one.ensures.few_rounds, few_rounds f.1 c.run-two.result c.run-two.ensures.few_rounds)

pub overflow_add-result-in-Override-2 : goal.overflow_add-result-in-Override-2
overflow_add-result-in-Override-2 t c =
    let z = c.requires.sized.0 in
    let m = c.args.nodes.now in
    let third = c.part_start-third.result in
    let f = sized_three z c.in-Override.is c.part_start-second.result third c.part_start-third.ensures c.part_start-second.ensures in
    omega (
      arith,
      few_rounds f.0 c.run-one.result c.run-one.ensures.few_rounds,
      few_rounds f.1 c.run-two.result c.run-two.ensures.few_rounds,
      few_rounds f.2 c.run-three.result c.run-three.ensures.few_rounds,
    )

pub returns-in-Override-clause-few_rounds : goal.returns-in-Override-clause-few_rounds
returns-in-Override-clause-few_rounds t c =
    let z = c.requires.sized.0 in
    let m = c.args.nodes.now in
    let third = c.part_start-third.result in
    let f = sized_three z c.in-Override.is c.part_start-second.result third c.part_start-third.ensures c.part_start-second.ensures in
    few_three m (length m) (own_label z.nodes c.in-Override.is) c.part_start-second.result third c.run-one.result c.run-two.result c.run-three.result
    (mid_is z c.part_start-third.ensures) (second_is z c.in-Override.is _ third c.part_start-third.ensures c.part_start-second.ensures)
    (few_told f.0 c.run-one.result c.run-one.ensures.few_rounds) (few_told f.1 c.run-two.result c.run-two.ensures.few_rounds)
    (few_told f.2 c.run-three.result c.run-three.ensures.few_rounds)

pub returns-in-Override-clause-all_answered : goal.returns-in-Override-clause-all_answered
returns-in-Override-clause-all_answered t c =
    λ fr st. let a = c.args in
    let m = a.nodes.now in
    let s = a.self.now in
    let z = c.requires.sized.0 in
    let second = c.part_start-second.result in
    let third = c.part_start-third.result in
    let f = sized_three z c.in-Override.is second third c.part_start-third.ensures c.part_start-second.ensures in
    let one = c.run-one in
    let two = c.run-two in
    let three = c.run-three in
    let size = c.accesses-in-Override.ensures ∙ sym (accesses_total fr s.counts s.table.now st.stands) in
    ran_three m (length m) fr s a.bound.now.items a.k _ (omega (arith, c.accesses-in-Override.ensures, s.ready.sized.few)) size (sized_set z) c.requires.sized.1
    (own_label z.nodes c.in-Override.is) second third a.w.now one.new.w two.new.w three.new.w c.replace.new.w one.result two.result three.result
    (mid_is z c.part_start-third.ensures) (second_is z c.in-Override.is second third c.part_start-third.ensures c.part_start-second.ensures)
    (omega (arith, c.requires.w_len, one.auto.w, two.auto.w, three.auto.w)) (all_told f.0 fr _ _ s _ _ _ (one.ensures.all_answered fr st))
    (all_told f.1 fr _ _ s _ _ _ (two.ensures.all_answered fr st)) (all_told f.2 fr _ _ s _ _ _ (three.ensures.all_answered fr st)) c.replace.ensures

-- ---- a scope

pub run-rounds-requires : goal.run-rounds-requires
run-rounds-requires t c =
    let z = c.requires.sized.0 in
    let f = sized_scope z c.in-Scope.is in
    (omega (arith, sized_some z, slice_length f.nodes), ((sized_take f, c.requires.sized.1), c.requires.w_len))

pub scope-requires-clause-room : goal.scope-requires-clause-room
scope-requires-clause-room t c =
    let z = c.requires.sized.0 in
    let r = c.args.self.now.ready in
    ((sized_set z, r.sized.few, omega (arith, c.requires.w_len, c.run-rounds.auto.w)), r.sized)

pub scope-requires-clause-small : goal.scope-requires-clause-small
scope-requires-clause-small t c =
    scope_small c.args.self.now.counts c.in-Scope.c c.args.self.now.ready.sized (own_fits c.requires.sized.0 c.in-Scope.is)

pub returns-in-Scope-clause-few_rounds : goal.returns-in-Scope-clause-few_rounds
returns-in-Scope-clause-few_rounds t c =
    let z = c.requires.sized.0 in
    let f = sized_scope z c.in-Scope.is in
    few_scope c.args.nodes.now (length c.args.nodes.now) _ (own_label z.nodes c.in-Scope.is) c.run-rounds.result
    (few_told f c.run-rounds.result c.run-rounds.ensures.few_rounds)

pub returns-in-Scope-clause-all_answered : goal.returns-in-Scope-clause-all_answered
returns-in-Scope-clause-all_answered t c =
    λ fr st. let a = c.args in
    let s = a.self.now in
    let z = c.requires.sized.0 in
    let f = sized_scope z c.in-Scope.is in
    let part = c.run-rounds in
    let size = sym (accesses_total fr s.counts s.table.now st.stands) in
    ran_scope a.nodes.now (length a.nodes.now) fr s a.bound.now.items a.k _ s.ready.sized.few size (sized_set z) c.requires.sized.1 a.w.now part.new.w part.result
    (omega (arith, c.requires.w_len, part.auto.w)) (all_told f fr _ _ s _ _ _ (part.ensures.all_answered fr st)) _ (own_label z.nodes c.in-Scope.is)
    c.scope.new.w (c.scope.ensures fr st.stands (scope_names s.counts c.in-Scope.c fr s.table.now st.stands (own_fits z c.in-Scope.is)))

-- ---- a closure

pub run-before-requires : goal.run-before-requires
run-before-requires t c =
    let z = c.requires.sized.0 in
    let f = sized_closure z c.in-Closure.is in
    (omega (arith, sized_some z, slice_length f.nodes), ((sized_take f, c.requires.sized.1), c.requires.w_len))

pub close_set-used-requires : goal.close_set-used-requires
close_set-used-requires t c =
    let z = c.requires.sized.0 in
    (sized_set z, c.args.self.now.ready.sized.few, omega (arith, c.requires.w_len, c.run-before.auto.w))

pub overflow_add-result-in-Closure : goal.overflow_add-result-in-Closure
overflow_add-result-in-Closure t c =
    let z = c.requires.sized.0 in
    let f = sized_closure z c.in-Closure.is in
    omega (arith, few_rounds f c.run-before.result c.run-before.ensures.few_rounds, c.close_set-used.ensures.bounded, c.args.self.now.low_limit)

pub returns-in-Closure-clause-few_rounds : goal.returns-in-Closure-clause-few_rounds
returns-in-Closure-clause-few_rounds t c =
    let z = c.requires.sized.0 in
    let f = sized_closure z c.in-Closure.is in
    few_closure c.args.nodes.now (length c.args.nodes.now) _ (own_label z.nodes c.in-Closure.is) c.run-before.result c.close_set-used.result
    (omega (arith, c.close_set-used.ensures.bounded, c.args.self.now.low_limit)) (few_told f c.run-before.result c.run-before.ensures.few_rounds)

pub returns-in-Closure-clause-all_answered : goal.returns-in-Closure-clause-all_answered
returns-in-Closure-clause-all_answered t c =
    λ fr st. let a = c.args in
    let s = a.self.now in
    let z = c.requires.sized.0 in
    let f = sized_closure z c.in-Closure.is in
    let part = c.run-before in
    let size = sym (accesses_total fr s.counts s.table.now st.stands) in
    ran_closure a.nodes.now (length a.nodes.now) fr s a.bound.now.items a.k _ s.ready.sized.few size (sized_set z) c.requires.sized.1 a.w.now part.new.w part.result
    (omega (arith, c.requires.w_len, part.auto.w)) (all_told f fr _ _ s _ _ _ (part.ensures.all_answered fr st)) _ (own_label z.nodes c.in-Closure.is)
    c.close_set-used.result c.close_set-used.new.w (c.close_set-used.ensures.closed fr st)

-- ---- a template

pub run-filling-requires : goal.run-filling-requires
run-filling-requires t c =
    let z = c.requires.sized.0 in
    let f = sized_filling z c.in-Template.is in
    (omega (arith, sized_some z, slice_length f.nodes), ((sized_take f, c.requires.sized.1), c.requires.w_len))

pub within-requires : goal.within-requires
within-requires t c =
    let z = c.requires.sized.0 in
    let mid = c.part_start-mid-in-Template.result in
    let s = c.part_start-mid-in-Template.ensures in
    ((body_room z c.in-Template.is mid s).1, sized_set z)

pub slice_bounds-run-end-in-Template-2 : goal.slice_bounds-run-end-in-Template-2
slice_bounds-run-end-in-Template-2 t c =
    let z = c.requires.sized.0 in
    let mid = c.part_start-mid-in-Template.result in
    let s = c.part_start-mid-in-Template.ensures in
    sym (length-take-le mid c.args.nodes.now (omega (arith, body_room z c.in-Template.is mid s)))

pub run-body-requires : goal.run-body-requires
run-body-requires t c =
    let z = c.requires.sized.0 in
    let mid = c.part_start-mid-in-Template.result in
    let s = c.part_start-mid-in-Template.ensures in
    let e = sized_body z c.in-Template.is mid s _ (ap length c.within.ensures) in
    let low = below_inner c.args.k c.args.bound.now.items c.within.result.items c.within.ensures c.requires.sized.1 in (
      omega (arith, body_room z c.in-Template.is mid s, slice_length e.nodes),
      ((sized_take e, low), omega (arith, c.requires.w_len, c.run-filling.auto.w)),
    )

pub copy_set-requires : goal.copy_set-requires
copy_set-requires t c =
    let z = c.requires.sized.0 in
    let mid = c.part_start-mid-in-Template.result in
    let s = c.part_start-mid-in-Template.ensures in
    let e = sized_body z c.in-Template.is mid s _ (ap length c.within.ensures) in (
      (
        sized_set z,
        omega (arith, c.accesses-in-Template.ensures, c.args.self.now.ready.sized.few),
        omega (arith, c.requires.w_len, c.run-filling.auto.w, c.run-body.auto.w),
      ),
      omega (arith, sized_set e),
    )

pub overflow_add-result-in-Template : goal.overflow_add-result-in-Template
overflow_add-result-in-Template t c =
    let z = c.requires.sized.0 in
    let f = sized_filling z c.in-Template.is in
    let mid = c.part_start-mid-in-Template.result in
    let s = c.part_start-mid-in-Template.ensures in
    let e = sized_body z c.in-Template.is mid s _ (ap length c.within.ensures) in
    omega (arith, few_rounds f c.run-filling.result c.run-filling.ensures.few_rounds, few_rounds e c.run-body.result c.run-body.ensures.few_rounds)

pub returns-in-Template-clause-few_rounds : goal.returns-in-Template-clause-few_rounds
returns-in-Template-clause-few_rounds t c =
    let z = c.requires.sized.0 in
    let f = sized_filling z c.in-Template.is in
    let mid = c.part_start-mid-in-Template.result in
    let s = c.part_start-mid-in-Template.ensures in
    let e = sized_body z c.in-Template.is mid s _ (ap length c.within.ensures) in
    few_template c.args.nodes.now (length c.args.nodes.now) (own_label z.nodes c.in-Template.is) mid c.run-filling.result c.run-body.result (mid_is z s)
    (few_told f c.run-filling.result c.run-filling.ensures.few_rounds) (few_told e c.run-body.result c.run-body.ensures.few_rounds)

pub returns-in-Template-clause-all_answered : goal.returns-in-Template-clause-all_answered
returns-in-Template-clause-all_answered t c =
    λ fr st. let a = c.args in
    let s = a.self.now in
    let z = c.requires.sized.0 in
    let mid = c.part_start-mid-in-Template.result in
    let b = c.part_start-mid-in-Template.ensures in
    let f = sized_filling z c.in-Template.is in
    let e = sized_body z c.in-Template.is mid b _ (ap length c.within.ensures) in
    let one = c.run-filling in
    let two = c.run-body in
    let size = c.accesses-in-Template.ensures ∙ sym (accesses_total fr s.counts s.table.now st.stands) in
    ran_template a.nodes.now (length a.nodes.now) fr s a.bound.now.items a.k _ (omega (arith, c.accesses-in-Template.ensures, s.ready.sized.few)) size (sized_set z)
    c.requires.sized.1 (own_label z.nodes c.in-Template.is) c.within.result.items mid a.w.now one.new.w two.new.w c.copy_set.new.w one.result two.result (mid_is z b)
    c.within.ensures (omega (arith, c.requires.w_len, one.auto.w, two.auto.w)) (all_told f fr _ _ s _ _ _ (one.ensures.all_answered fr st))
    (all_told e fr _ _ s _ _ _ (two.ensures.all_answered fr st)) c.copy_set.ensures
