use Rattle.std.proofs.Common.{arith}
use Rattle.std.proofs.lemmas.Result.{err_from_is_err_and}
use Rattle.words.proofs.Scopes.{p_name, p_sort, p_in_2, p_close, p_in_3, p_square, p_good}
use Rattle.words.proofs.predicate_scope.Goals as goal

pub returns-in_err-letter_at : goal.returns-in_err-letter_at
returns-in_err-letter_at c =
    let p = err_from_is_err_and c.from_residual.result c.from_residual.ensures.1 in
    rw (p.1, p.2) (p_name _ _ _ c.requires _ c.in_err-letter_at.ensures)

pub returns-in_default : goal.returns-in_default
returns-in_default c = p_sort _ _ _ _ c.in_ok-letter_at.ensures c.peek.ensures c.in_default.ensures

pub past-requires-2 : goal.past-requires-2
past-requires-2 c = omega (arith, p_in_2 _ c.args.from _ _ c.in_ok-letter_at.ensures c.peek.ensures _ c.in-Some.ensures)

pub returns-in_err-end : goal.returns-in_err-end
returns-in_err-end c =
    let p = err_from_is_err_and c.from_residual-in_err-end.result c.from_residual-in_err-end.ensures.1 in
    rw (p.1, p.2) (p_close _ _ _ _ c.in_ok-letter_at.ensures c.peek.ensures _ c.in-Some.ensures _ c.in_err-end.ensures)

pub past-requires-3 : goal.past-requires-3
past-requires-3 c = p_in_3 _ c.args.from _ _ c.in_ok-letter_at.ensures c.peek.ensures _ c.in-Some.ensures _ c.in_ok-end.ensures

pub returns-in_err-next : goal.returns-in_err-next
returns-in_err-next c =
    let p = err_from_is_err_and c.from_residual-in_err-next.result c.from_residual-in_err-next.ensures.1 in
    rw (p.1, p.2) (p_square _ _ _ _ c.in_ok-letter_at.ensures c.peek.ensures _ c.in-Some.ensures _ c.in_ok-end.ensures _ c.in_err-next.ensures)

pub returns : goal.returns
returns c = p_good _ _ _ _ c.in_ok-letter_at.ensures c.peek.ensures _ c.in-Some.ensures _ c.in_ok-end.ensures _ c.in_ok-next.ensures
