use Rattle.std.proofs.lemmas.Result.{err_from_is_err_and}
use Rattle.words.proofs.Scopes.{byte_is, byte_isnt}
use Rattle.expressions.proofs.SuffixWays.{x_in_2, x_no_name, x_name, x_square, x_scope}
use Rattle.expressions.proofs.suffix.Goals as goal

pub returns-in_err-inside : goal.returns-in_err-inside
returns-in_err-inside c =
    let p = err_from_is_err_and c.from_residual.result c.from_residual.ensures.1 in
    rw (p.1, p.2) (x_square _ _ (byte_is c.peek.ensures c.if-peek-eq94.true) _ c.in_err-inside.ensures)

pub scope-requires : goal.scope-requires
scope-requires c = x_in_2 _ _ _ c.in_ok-inside.ensures

pub returns-then-peek-eq94 : goal.returns-then-peek-eq94
returns-then-peek-eq94 c = x_scope _ _ (byte_is c.peek.ensures c.if-peek-eq94.true) _ c.in_ok-inside.ensures _ c.scope.ensures

pub returns-in_err-to : goal.returns-in_err-to
returns-in_err-to c =
    let p = err_from_is_err_and c.from_residual-in_err-to.result c.from_residual-in_err-to.ensures.1 in
    rw (p.1, p.2) (x_no_name _ _ c.requires (byte_isnt c.peek.ensures c.if-peek-eq94.false) _ c.in_err-to.ensures)

pub returns : goal.returns
returns c = x_name _ _ c.requires (byte_isnt c.peek.ensures c.if-peek-eq94.false) _ c.in_ok-to.ensures
