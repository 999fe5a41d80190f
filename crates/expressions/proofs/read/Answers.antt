use Rattle.std.proofs.Common.{ap, length, arith}
use Rattle.std.proofs.lemmas.Result.{err_from_is_err_and}
use Rattle.expressions.proofs.Whole.{none_bound, r_bad, r_rest, r_whole}
use Rattle.expressions.proofs.read.Goals as goal

pub returns-in_err-expression : goal.returns-in_err-expression
returns-in_err-expression g c =
    let p = err_from_is_err_and c.from_residual.result c.from_residual.ensures.1 in
    rw (p.1, p.2) (r_bad _ _ _ _ _ (none_bound _ _ _ _ _ c.new.ensures c.in_err-expression.ensures.part))

pub returns-then-reader-text : goal.returns-then-reader-text
returns-then-reader-text g c =
    r_rest _ _ _ _ _ (none_bound _ _ _ _ _ c.new.ensures c.in_ok-expression.ensures.part)
    (omega (arith, c.if-reader-text.true, ap length c.in_ok-expression.ensures.stays.text))

pub returns : goal.returns
returns g c =
    let none = c.new-2.ensures in
    r_whole _ _ _ _ _ (none_bound _ _ _ _ _ c.new.ensures c.in_ok-expression.ensures.part)
    record { no_nodes = none.nodes; no_operators = none.operators; no_place = none.missing }
    (omega (arith, c.if-reader-text.false, c.expression.new.self.within, ap length c.in_ok-expression.ensures.stays.text))
