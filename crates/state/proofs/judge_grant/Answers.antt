use mathlib.Core.Path.{refl, sym, ◌∙◌}
use mathlib.Core.Option.{none, some}
use native.Mathlib.Omega.{arith}
use Rattle.std.proofs.lemmas.Result.{err_from_is_err_and}
use Rattle.grammar.specs.Lookup.{found}
use Rattle.grammar.specs.Names as Kinds
use Rattle.names.proofs.Bounds.{looked_lt}
use Rattle.state.proofs.Found.{few_total, access_few, here_tag}
use Rattle.state.proofs.Turns.{turn_ok}
use Rattle.state.proofs.Grants.{grant_late, grant_6, grant_10, grant_good}
use Rattle.state.proofs.judge_grant.Goals as goal

pub returns-in_err-in_turn : goal.returns-in_err-in_turn
returns-in_err-in_turn c d ns g =
    let p = err_from_is_err_and c.from_residual.result c.from_residual.ensures.1 in
    rw (p.1, p.2) (grant_late _ d ns _ c.counts-n.ensures _ g _ _ _ _ (sym c.in_err-in_turn.ensures))

pub returns-in_err-table : goal.returns-in_err-table
unfolding found
returns-in_err-table c d ns g =
    let p = err_from_is_err_and c.from_residual-in_err-table.result c.from_residual-in_err-table.ensures.1 in
    let turn = turn_ok _ _ (sym c.in_ok-in_turn.ensures) in
    rw (p.1, p.2, c.in_err-table.ensures.1)
    (grant_6 _ d ns _ c.counts-n.ensures _ g _ _ _ _ turn.0 turn.1 none _ _ _ c.in_err-table.ensures.0 refl refl refl refl)

pub returns-in_err-subject : goal.returns-in_err-subject
unfolding found
returns-in_err-subject c d ns g =
    let p = err_from_is_err_and c.from_residual-in_err-subject.result c.from_residual-in_err-subject.ensures.1 in
    let turn = turn_ok _ _ (sym c.in_ok-in_turn.ensures) in
    rw (p.1, p.2, c.in_err-subject.ensures.1)
    (grant_6 _ d ns _ c.counts-n.ensures _ g _ _ _ _ turn.0 turn.1 (some _) none _ _ c.in_ok-table.ensures c.in_err-subject.ensures.0 refl refl refl)

pub returns-in_err-object : goal.returns-in_err-object
unfolding found
returns-in_err-object c d ns g =
    let p = err_from_is_err_and c.from_residual-in_err-object.result c.from_residual-in_err-object.ensures.1 in
    let turn = turn_ok _ _ (sym c.in_ok-in_turn.ensures) in
    rw (p.1, p.2, c.in_err-object.ensures.1)
    (grant_6 _ d ns _ c.counts-n.ensures _ g _ _ _ _ turn.0 turn.1 (some _) (some _) none _ c.in_ok-table.ensures c.in_ok-subject.ensures
    c.in_err-object.ensures.0 refl refl)

pub returns-in_err-action : goal.returns-in_err-action
unfolding found
returns-in_err-action c d ns g =
    let p = err_from_is_err_and c.from_residual-in_err-action.result c.from_residual-in_err-action.ensures.1 in
    let turn = turn_ok _ _ (sym c.in_ok-in_turn.ensures) in
    rw (p.1, p.2, c.in_err-action.ensures.1)
    (grant_6 _ d ns _ c.counts-n.ensures _ g _ _ _ _ turn.0 turn.1 (some _) (some _) (some _) none c.in_ok-table.ensures c.in_ok-subject.ensures
    c.in_ok-object.ensures c.in_err-action.ensures.0 refl)

pub bounds-deref-k : goal.bounds-deref-k
bounds-deref-k c = rw (c.deref.ensures.0, c.from-k.ensures) (looked_lt c.args.names.now Kinds.table _ c.in_ok-table.ensures)

pub returns-then-not-deref-k : goal.returns-then-not-deref-k
returns-then-not-deref-k c d ns g =
    let turn = turn_ok _ _ (sym c.in_ok-in_turn.ensures) in
    grant_10 _ d ns _ c.counts-n.ensures _ g _ _ _ _ turn.0 turn.1 c.in_ok-table.ensures c.in_ok-subject.ensures c.in_ok-object.ensures c.in_ok-action.ensures
    (sym (here_tag ns _ (looked_lt c.args.names.now Kinds.table _ c.in_ok-table.ensures) _)
    ∙ rw (c.deref.ensures.0, c.from-k.ensures) at c.if-not-deref-k.true)

pub overflow_cast-result : goal.overflow_cast-result
overflow_cast-result c =
    let turn = turn_ok _ _ (sym c.in_ok-in_turn.ensures) in
    let names = c.args.names.now in
    let h = looked_lt names Kinds.table _ c.in_ok-table.ensures in
    let w = c.from-k.ensures in
    let k = names.few_tables in
    let r =
    access_few names _ c.counts-n.ensures _ turn.1 c.requires.counted _ _ _ c.in_ok-subject.ensures c.in_ok-object.ensures c.in_ok-action.ensures
    c.access-g.ensures.upper_bound in
    omega (arith, h, w, k, r)

pub returns : goal.returns
returns c d ns g =
    let turn = turn_ok _ _ (sym c.in_ok-in_turn.ensures) in
    grant_good _ d ns _ c.counts-n.ensures _ g _ _ _ _ turn.0 turn.1 c.in_ok-table.ensures c.in_ok-subject.ensures c.in_ok-object.ensures
    c.in_ok-action.ensures
    (sym (here_tag ns _ (looked_lt c.args.names.now Kinds.table _ c.in_ok-table.ensures) _)
    ∙ rw (c.deref.ensures.0, c.from-k.ensures) at c.if-not-deref-k.false)
    (few_total c.args.names.now _ c.counts-n.ensures _ turn.1 c.requires.counted) _ (rw (c.from-k.ensures, c.access-g.ensures.value))
