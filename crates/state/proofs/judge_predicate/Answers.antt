use mathlib.Core.Path.{sym, ap, ◌∙◌}
use Rattle.std.proofs.lemmas.Result.{err_from_is_err_and}
use Rattle.names.proofs.Bounds.{looked_lt}
use Rattle.grammar.specs.Names as Kinds
use Rattle.algebra.specs.Meant.{sort_meant, found_of}
use native.Mathlib.Omega.{arith}
use Rattle.state.proofs.Found.{found_small}
use Rattle.state.proofs.Turns.{turn_ok}
use Rattle.state.proofs.Names.{predicate_late, predicate_7, known_6, known_good, fresh_6, fresh_good}
use Rattle.state.proofs.judge_predicate.Goals as goal

pub returns-in_err-in_turn-clause-judged : goal.returns-in_err-in_turn-clause-judged
returns-in_err-in_turn-clause-judged g c d ns e =
    let p = err_from_is_err_and c.from_residual.result c.from_residual.ensures.1 in
    rw (p.1, p.2) (predicate_late _ d ns _ c.counts.ensures _ e _ _ _ (sym c.in_err-in_turn.ensures))

pub returns-in_err-declared-in-Some-clause-judged : goal.returns-in_err-declared-in-Some-clause-judged
returns-in_err-declared-in-Some-clause-judged g c d ns e =
    let p = err_from_is_err_and c.from_residual-in_err-declared-in-Some.result c.from_residual-in_err-declared-in-Some.ensures.1 in
    let turn = turn_ok _ _ (sym c.in_ok-in_turn.ensures) in
    rw (p.1, p.2, c.in_err-declared-in-Some.ensures.1)
    (known_6 _ d ns _ c.counts.ensures _ e _ _ _ turn.0 turn.1 (sym c.look.ensures ∙ ap found_of c.in-Some.is) c.in_err-declared-in-Some.ensures.0)

pub returns-then-full-clause-judged : goal.returns-then-full-clause-judged
returns-then-full-clause-judged g c d ns e =
    let turn = turn_ok _ _ (sym c.in_ok-in_turn.ensures) in
    predicate_7 _ d ns _ c.counts.ensures _ e _ _ _ turn.0 turn.1 (sym c.look.ensures ∙ ap found_of c.in-None.is)
    (omega (arith, c.len-full.ensures.value, c.if-full.true))

pub returns-in_err-declared-in-None-clause-judged : goal.returns-in_err-declared-in-None-clause-judged
returns-in_err-declared-in-None-clause-judged g c d ns e =
    let p = err_from_is_err_and c.from_residual-in_err-declared-in-None.result c.from_residual-in_err-declared-in-None.ensures.1 in
    let turn = turn_ok _ _ (sym c.in_ok-in_turn.ensures) in
    rw (p.1, p.2, c.in_err-declared-in-None.ensures.1)
    (fresh_6 _ d ns _ c.counts.ensures _ e _ _ _ turn.0 turn.1 (sym c.look.ensures ∙ ap found_of c.in-None.is)
    (omega (arith, c.len-full.ensures.value, c.if-full.false)) c.in_err-declared-in-None.ensures.0)

pub returns-in_ok-declared-in-Some-clause-judged : goal.returns-in_ok-declared-in-Some-clause-judged
returns-in_ok-declared-in-Some-clause-judged g c d ns e =
    let turn = turn_ok _ _ (sym c.in_ok-in_turn.ensures) in
    known_good _ d ns _ c.counts.ensures _ e _ _ _ turn.0 turn.1 (sym c.look.ensures ∙ ap found_of c.in-Some.is) c.in_ok-declared-in-Some.ensures

pub returns-in_ok-declared-in-None-clause-judged : goal.returns-in_ok-declared-in-None-clause-judged
returns-in_ok-declared-in-None-clause-judged g c d ns e =
    let turn = turn_ok _ _ (sym c.in_ok-in_turn.ensures) in
    fresh_good _ d ns _ c.counts.ensures _ e _ _ _ turn.0 turn.1 (sym c.look.ensures ∙ ap found_of c.in-None.is)
    (omega (arith, c.len-full.ensures.value, c.if-full.false)) c.in_ok-declared-in-None.ensures

pub returns-in_ok-declared-in-Some-clause-fits : goal.returns-in_ok-declared-in-Some-clause-fits
returns-in_ok-declared-in-Some-clause-fits g c =
    let names = c.args.names.now in
    let σ = sort_meant c.args.s in
    let i = looked_lt names (Kinds.predicate σ) _ (sym c.look.ensures ∙ ap found_of c.in-Some.is) in
    let k = names.few_predicates in
    (i, omega (arith, i, k), found_small names σ _ c.in_ok-declared-in-Some.ensures)

pub returns-in_ok-declared-in-None-clause-fits : goal.returns-in_ok-declared-in-None-clause-fits
returns-in_ok-declared-in-None-clause-fits g c =
    (omega (arith, c.len-full.ensures.value, c.if-full.false), found_small _ (sort_meant c.args.s) _ c.in_ok-declared-in-None.ensures)
