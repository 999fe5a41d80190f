use mathlib.Core.Path.{sym}
use Rattle.std.proofs.lemmas.Result.{err_from_is_err_and}
use Rattle.state.specs.Standing.{granted_of}
use Rattle.state.proofs.Lines.{names_stand}
use Rattle.state.proofs.GrantLine.{grant_stands, beyond_more}
use Rattle.state.proofs.FileState.grant_line.Goals as goal

pub returns-in_err-grant-clause-line_judged : goal.returns-in_err-grant-clause-line_judged
returns-in_err-grant-clause-line_judged c d S =
    let p = err_from_is_err_and c.from_residual.result c.from_residual.ensures.1 in
    rw (p.1, p.2) (c.in_err-grant.ensures d (names_stand _ d S.names) (sym S.is_group))

pub returns-clause-line_judged : goal.returns-clause-line_judged
unfolding granted_of
returns-clause-line_judged c d S =
    let J = c.in_ok-grant.ensures d (names_stand _ d S.names) (sym S.is_group) in
    (J.0, rw c.put_grant.ensures (grant_stands _ _ d S _ _ _ _ _ J c.requires.room))

pub returns-clause-beyond : goal.returns-clause-beyond
returns-clause-beyond c = rw c.put_grant.ensures (beyond_more _ _ _)
