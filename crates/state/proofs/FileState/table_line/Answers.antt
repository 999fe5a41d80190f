use mathlib.Core.Path.{refl, sym}
use Rattle.std.proofs.lemmas.Result.{err_from_is_err_and}
use Rattle.algebra.specs.Sort.{subject, object, action}
use Rattle.state.proofs.Adding.{table_stands}
use Rattle.state.proofs.Lines.{names_stand}
use Rattle.state.proofs.FileState.table_line.Goals as goal

pub returns-in_err-judge_table-clause-line_judged : goal.returns-in_err-judge_table-clause-line_judged
returns-in_err-judge_table-clause-line_judged c w d S =
    let p = err_from_is_err_and c.from_residual.result c.from_residual.ensures.1 in
    rw (p.1, p.2) (c.in_err-judge_table.ensures.judged d c.args.here (names_stand _ d S.names) (sym S.is_group))

pub returns-clause-line_judged : goal.returns-clause-line_judged
returns-clause-line_judged c w d S =
    let r = c.in_ok-judge_table.ensures.judged d c.args.here (names_stand _ d S.names) (sym S.is_group) in
    (r.0, table_stands w _ d S _ _ (λ τ. elim τ [ subject ↦ refl | object ↦ refl | action ↦ refl ]) refl c.push.ensures.items refl r.0)
