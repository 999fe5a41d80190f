use Rattle.std.proofs.Common.{sym, ap, refl, ◌∙◌, arith}
use Rattle.grammar.specs.Lookup.{same, position}
use Rattle.words.specs.Contract.{innermost_first}
use Rattle.words.proofs.Bound.{settled_table, bound_lt, bound_table, free_table, many_bound, table_fits}
use Rattle.words.proofs.Nodes.put_table.Goals as goal

pub returns-then-is_settled : goal.returns-then-is_settled
returns-then-is_settled g c = c.put.ensures ∙ settled_table _ _ _ _ _ (sym c.is_settled.ensures ∙ c.if-is_settled.true)

pub overflow_cast-i : goal.overflow_cast-i
overflow_cast-i g c =
    let k = bound_lt _ _ _ c.in-Some.ensures in
    record { fits = omega (arith, many_bound c.as_slice.result.now) }

pub overflow_add-shift : goal.overflow_add-shift
overflow_add-shift g c =
    let k = table_fits c.args.names.now _ c.requires c.look-found.ensures c.note-number.ensures.value in
    record { fits = omega arith }

pub returns-in-Some : goal.returns-in-Some
returns-in-Some g c =
    let found = ap (λ bs. position (same c.args.name.now) (innermost_first bs)) c.as_slice.ensures.value in
    c.put-in-Some.ensures ∙ bound_table _ _ _ _ _ (c.in-Some.ensures ∙ found) refl

pub returns-in-None : goal.returns-in-None
returns-in-None g c =
    let found = ap (λ bs. position (same c.args.name.now) (innermost_first bs)) c.as_slice.ensures.value in
    c.put-in-None.ensures
    ∙ free_table _ _ _ _ _ (c.in-None.ensures ∙ found) refl c.look-found.ensures c.note-number.ensures.after c.note-number.ensures.value
    (omega (arith, many_bound c.args.bound.now.items))
