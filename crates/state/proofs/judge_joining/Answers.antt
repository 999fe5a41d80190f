use mathlib.Core.Path.{refl}
use Rattle.std.proofs.lemmas.Result.{err_from_is_err_and}
use Rattle.state.proofs.Names.{root_joins, parent_missing, child_joins}
use Rattle.state.proofs.judge_joining.Goals as goal

pub returns-in_default-clause-joins : goal.returns-in_default-clause-joins
returns-in_default-clause-joins g c d ns e = rw c.in_default.is (root_joins _ d ns _ refl _ e _ _ (c.in_ok-judge_member.ensures.judged d ns e))

pub returns-in_err-q-clause-joins : goal.returns-in_err-q-clause-joins
returns-in_err-q-clause-joins g c d ns e =
    let p = err_from_is_err_and c.from_residual-in_err-q.result c.from_residual-in_err-q.ensures.1 in
    rw (p.1, p.2, c.in_err-q.ensures.1, c.in-Some.is)
    (parent_missing _ d ns _ refl _ e _ _ (c.in_ok-judge_member.ensures.judged d ns e) _ c.in_err-q.ensures.0)

pub returns-clause-joins : goal.returns-clause-joins
returns-clause-joins g c d ns e =
    rw c.in-Some.is (child_joins _ d ns _ refl _ e _ _ (c.in_ok-judge_member.ensures.judged d ns e) _ c.in_ok-q.ensures)
