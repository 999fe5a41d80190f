use Rattle.std.proofs.Common.{sym, refl, arith}
use Rattle.std.proofs.lemmas.Result.{err_from_is_err_and}
use Rattle.goals.proofs.Goals.{has_tree, counted_of, goal_turn, goal_7, goal_12, goal_13, goal_held, goal_operators, goal_deep, goal_good}
use Rattle.goals.proofs.judge_expression.Goals as goal

pub returns-in_err-in_turn : goal.returns-in_err-in_turn
returns-in_err-in_turn g c d ns e =
    let p = err_from_is_err_and c.from_residual.result c.from_residual.ensures.1 in
    rw p.1 (goal_turn _ _ c.counts.ensures d ns _ e _ _ (sym c.in_err-in_turn.ensures) p.2.0 p.2.1)

pub returns-then-limit-gt-MOST_LIMIT : goal.returns-then-limit-gt-MOST_LIMIT
returns-then-limit-gt-MOST_LIMIT g c d ns e =
    goal_7 _ _ c.counts.ensures d ns _ e _ _ (sym c.in_ok-in_turn.ensures) (omega (arith, c.if-limit-gt-MOST_LIMIT.true)) c.from.ensures.0 c.from.ensures.1

pub returns-in-Err : goal.returns-in-Err
returns-in-Err g c d ns e =
    goal_12 _ _ c.counts.ensures d ns _ e _ _ (sym c.in_ok-in_turn.ensures) (omega (arith, c.if-limit-gt-MOST_LIMIT.false)) _
    c.in-Err.ensures refl refl

pub returns-in-Some : goal.returns-in-Some
returns-in-Some g c d ns e =
    goal_13 _ _ c.counts.ensures d ns _ e _ _ (sym c.in_ok-in_turn.ensures) (omega (arith, c.if-limit-gt-MOST_LIMIT.false)) _
    c.in-Ok.ensures c.in-Some.is refl refl

pub returns-then-too_many : goal.returns-then-too_many
returns-then-too_many g c d ns e =
    goal_operators _ _ c.counts.ensures d ns _ e _ _ (sym c.in_ok-in_turn.ensures) (omega (arith, c.if-limit-gt-MOST_LIMIT.false)) _
    c.in-Ok.ensures c.in_default.is
    (omega (arith, c.if-too_many.true)) c.from-then-too_many.ensures.0 c.from-then-too_many.ensures.1

pub sets_held-held-requires : goal.sets_held-held-requires
sets_held-held-requires g c = has_tree _ _ _ c.in-Ok.ensures (omega (arith, c.if-too_many.false)) c.as_slice.ensures.value

-- what is accepted stands before what is refused: where a bound is raised, this is the fact that fails
pub returns : goal.returns
returns g c d ns e =
    goal_good _ _ c.counts.ensures d ns _ e _ _ (sym c.in_ok-in_turn.ensures) (omega (arith, c.if-limit-gt-MOST_LIMIT.false)) _
    c.in-Ok.ensures c.in_default.is (omega (arith, c.if-too_many.false))
    _ (counted_of c.as_slice.ensures.value _ c.sets_held-held.ensures) (omega (arith, c.if-held-gt-MOST_SETS.false))
    (omega (arith, c.if-held-gt-MOST_BINDINGS.false))

pub returns-then-held-gt-MOST_SETS : goal.returns-then-held-gt-MOST_SETS
returns-then-held-gt-MOST_SETS g c d ns e =
    goal_held _ _ c.counts.ensures d ns _ e _ _ (sym c.in_ok-in_turn.ensures) (omega (arith, c.if-limit-gt-MOST_LIMIT.false)) _
    c.in-Ok.ensures c.in_default.is (omega (arith, c.if-too_many.false))
    _ (counted_of c.as_slice.ensures.value _ c.sets_held-held.ensures)
    (omega (arith, c.if-held-gt-MOST_SETS.true)) c.from-then-held-gt-MOST_SETS.ensures.0 c.from-then-held-gt-MOST_SETS.ensures.1

pub returns-then-held-gt-MOST_BINDINGS : goal.returns-then-held-gt-MOST_BINDINGS
returns-then-held-gt-MOST_BINDINGS g c d ns e =
    goal_deep _ _ c.counts.ensures d ns _ e _ _ (sym c.in_ok-in_turn.ensures) (omega (arith, c.if-limit-gt-MOST_LIMIT.false)) _
    c.in-Ok.ensures c.in_default.is (omega (arith, c.if-too_many.false))
    _ (counted_of c.as_slice.ensures.value _ c.sets_held-held.ensures) (omega (arith, c.if-held-gt-MOST_SETS.false))
    (omega (arith, c.if-held-gt-MOST_BINDINGS.true))
    c.from-then-held-gt-MOST_BINDINGS.ensures.0 c.from-then-held-gt-MOST_BINDINGS.ensures.1
