use Rattle.std.proofs.Common.{refl, sym}
use Rattle.std.proofs.lemmas.Result.{err_from_is_err_and}
use Rattle.goals.specs.Goals.{ended_of}
use Rattle.goals.proofs.Goals.{goal_no, goal_taken, goal_line}
use Rattle.state.proofs.Lines.{names_stand}
use Rattle.reading.proofs.Reached.{goal_is}
use Rattle.reading.proofs.add_goal.Goals as goal

pub returns-in_err-r-clause-added : goal.returns-in_err-r-clause-added
returns-in_err-r-clause-added c w d S =
    let p = err_from_is_err_and c.from_residual.result c.from_residual.ensures.1 in
    rw (p.1, p.2) (goal_no d _ _ _ (c.in_err-r.ensures d (names_stand _ _ S.names) (sym S.is_group)))

pub returns-clause-added : goal.returns-clause-added
unfolding ended_of
returns-clause-added c w d S =
    let J = goal_taken d _ _ _ (c.in_ok-r.ensures d (names_stand _ _ S.names) (sym S.is_group)) in
    record {
      is_good = J.verdict;
      stands = goal_line w _ d S _ _ _ J _ refl;
      goal = goal_is w _ d S _ _ _ J;
      grants = refl;
    }
