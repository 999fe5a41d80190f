use mathlib.Core.Path.{refl, sym, subst}
use Rattle.std.proofs.lemmas.Result.{err_from_is_err_and}
use Rattle.algebra.specs.Sort.{subject, object, action}
use Rattle.algebra.specs.Meant.{sort_meant}
use Rattle.state.specs.Judged.{MarkMade, MarkFits}
use Rattle.state.proofs.Lines.{names_stand}
use Rattle.state.proofs.Marks.{known_stands, fresh_stands}
use Rattle.state.proofs.FileState.predicate_line.Goals as goal

pub returns-in_err-i-clause-line_judged : goal.returns-in_err-i-clause-line_judged
returns-in_err-i-clause-line_judged c w d S =
    let p = err_from_is_err_and c.from_residual.result c.from_residual.ensures.1 in
    rw (p.1, p.2) (c.in_err-i.ensures.judged d (names_stand _ d S.names) (sym S.is_group))

pub returns-in-Known-clause-line_judged : goal.returns-in-Known-clause-line_judged
returns-in-Known-clause-line_judged c w d S =
    let J = c.in_ok-i.ensures.judged d (names_stand _ d S.names) (sym S.is_group) in
    let M = subst (MarkMade d (sort_meant c.args.s) c.args.p.now c.args.m.now) c.in-Known.is J.1 in
    let F = subst (MarkFits c.args.self.now.names) c.in-Known.is c.in_ok-i.ensures.fits in
    (J.0, rw (c.mark.ensures.marked, c.from.ensures) (known_stands w _ d S _ _ _ _ _ c.mark.ensures.long M.0 M.1 F.1 F.2 J.0))

pub returns-in-Fresh-clause-line_judged : goal.returns-in-Fresh-clause-line_judged
returns-in-Fresh-clause-line_judged c w d S =
    let J = c.in_ok-i.ensures.judged d (names_stand _ d S.names) (sym S.is_group) in
    let M = subst (MarkMade d (sort_meant c.args.s) c.args.p.now c.args.m.now) c.in-Fresh.is J.1 in
    let F = subst (MarkFits c.args.self.now.names) c.in-Fresh.is c.in_ok-i.ensures.fits in (
      J.0,
      rw (c.mark-in-Fresh.ensures.marked, c.len-i.ensures.value)
          (fresh_stands w _ d S _ _ _ c.mark-in-Fresh.ensures.long M.0 M.1 F.0 F.1 J.0 _ (λ τ. elim τ [ subject ↦ refl | object ↦ refl | action ↦ refl ])
          c.push.ensures.items refl refl),
    )
