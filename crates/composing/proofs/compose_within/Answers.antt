use mathlib.Core.Path.{ap, ◌∙◌}
use Rattle.std.proofs.lemmas.Result.{err_from_is_err_and}
use Rattle.algebra.specs.StoredFrame.{total}
use Rattle.running.proofs.Lent.{cleared_after}
use Rattle.composing.proofs.Composing.{not_read, in_result, in_memory, read_all}
use Rattle.composing.proofs.compose_within.Goals as goal

pub returns-in_err-read_into-clause-w_after : goal.returns-in_err-read_into-clause-w_after
returns-in_err-read_into-clause-w_after c =
    let a = c.args in
    let p = err_from_is_err_and c.from_residual.result c.from_residual.ensures.1 in
    rw (p.1, p.2) (not_read a.f.now a.res.now a.w.now c.requires.0 c.requires.1 _ _ _ c.in_err-read_into.ensures.read_as)

-- before what the calls ask for: a result that is not written fails here
pub returns-clause-w_after : goal.returns-clause-w_after
returns-clause-w_after c =
    let a = c.args in
    let G = c.in_ok-read_into.ensures.read_as in
    read_all a.f.now a.res.now a.w.now c.requires.0 c.requires.1 _ c.read_into.auto.w _ G _ (c.accesses-n.ensures ∙ ap total c.counts.ensures)
    _ _ (c.run_policy-rounds.ensures a.f.now G) _ _ _ c.copy.ensures c.count-permits.ensures c.count-undecided.ensures

pub copy-requires : goal.copy-requires
copy-requires c =
    let a = c.args in
    let G = c.in_ok-read_into.ensures.read_as in
    let n = c.accesses-n.ensures ∙ ap total c.counts.ensures in (
      in_memory a.f.now a.res.now a.w.now c.requires.0 c.requires.1 _ c.read_into.auto.w _ G _ n _ c.run_policy-rounds.auto.w,
      in_result a.f.now a.res.now a.w.now c.requires.0 c.requires.1 _ c.read_into.auto.w _ G _ n,
    )

pub count-permits-requires : goal.count-permits-requires
count-permits-requires c =
    let a = c.args in
    in_memory a.f.now a.res.now a.w.now c.requires.0 c.requires.1 _ c.read_into.auto.w _ c.in_ok-read_into.ensures.read_as _
    (c.accesses-n.ensures ∙ ap total c.counts.ensures) _ c.run_policy-rounds.auto.w

pub count-undecided-requires : goal.count-undecided-requires
count-undecided-requires c =
    let a = c.args in
    in_memory a.f.now a.res.now a.w.now c.requires.0 c.requires.1 _ c.read_into.auto.w _ c.in_ok-read_into.ensures.read_as _
    (c.accesses-n.ensures ∙ ap total c.counts.ensures) _ c.run_policy-rounds.auto.w

pub returns-clause-w_unchanged : goal.returns-clause-w_unchanged
returns-clause-w_unchanged c =
    cleared_after _ _ _ _ (c.run_policy-rounds.ensures c.args.f.now c.in_ok-read_into.ensures.read_as) ∙ c.read_into.ensures.w_unchanged
