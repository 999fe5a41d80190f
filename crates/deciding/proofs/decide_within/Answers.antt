use mathlib.Core.Path.{refl, sym, subst, ◌∙◌}
use Prim.Native.Nat.{◌≤◌}
use Rattle.std.proofs.lemmas.Result.{err_from_is_err_and}
use Rattle.running.proofs.Lent.{cleared_after}
use Rattle.deciding.proofs.Deciding.{not_read, unknown_read, known_fits, known_read}
use Rattle.deciding.proofs.decide_within.Goals as goal

pub returns-in_err-read_into-clause-w_value : goal.returns-in_err-read_into-clause-w_value
returns-in_err-read_into-clause-w_value c =
    let a = c.args in
    let p = err_from_is_err_and c.from_residual.result c.from_residual.ensures.1 in
    rw (p.1, p.2) (not_read a.f.now a.s.now a.o.now a.a.now a.w.now c.requires _ _ _ c.in_err-read_into.ensures.read_as)

pub returns-in_err-at-clause-w_value : goal.returns-in_err-at-clause-w_value
returns-in_err-at-clause-w_value c =
    let a = c.args in
    let G = c.in_ok-read_into.ensures.read_as in
    let p = err_from_is_err_and c.from_residual-in_err-at.result c.from_residual-in_err-at.ensures.1 in
    rw (p.1, p.2) (unknown_read a.f.now a.s.now a.o.now a.a.now a.w.now c.requires c.read_into.new.w _ G _ c.in_err-at.ensures _ refl)

pub bounds-w-at : goal.bounds-w-at
bounds-w-at c =
    let a = c.args in
    let G = c.in_ok-read_into.ensures.read_as in
    known_fits a.f.now a.s.now a.o.now a.a.now a.w.now c.requires c.read_into.new.w _ G _ c.in_ok-at.ensures _ refl
    _ (subst (λ n. 65536 ≤ n) (sym (c.run_policy-rounds.auto.w ∙ c.read_into.auto.w)) c.requires)

pub returns-clause-w_value : goal.returns-clause-w_value
returns-clause-w_value c =
    let a = c.args in
    let G = c.in_ok-read_into.ensures.read_as in
    known_read a.f.now a.s.now a.o.now a.a.now a.w.now c.requires c.read_into.new.w _ G _ c.in_ok-at.ensures _ refl
    _ _ (c.run_policy-rounds.ensures a.f.now G)

pub returns-clause-w_unchanged : goal.returns-clause-w_unchanged
returns-clause-w_unchanged c =
    cleared_after _ _ _ _ (c.run_policy-rounds.ensures c.args.f.now c.in_ok-read_into.ensures.read_as) ∙ c.read_into.ensures.w_unchanged
