use Rattle.std.proofs.lemmas.Result.{err_from_is_err_and}
use Rattle.words.proofs.Scopes.{m_none, m_in, m_bad, m_name_in, m_open, m_close}
use Rattle.words.proofs.member_scope.Goals as goal

pub returns-in_err-comparison : goal.returns-in_err-comparison
returns-in_err-comparison c =
    let p = err_from_is_err_and c.from_residual.result c.from_residual.ensures.1 in
    rw (p.1, p.2) (m_none _ _ _ _ c.in_err-comparison.ensures)

pub read_name-requires : goal.read_name-requires
read_name-requires c = m_in _ _ c.args.sort _ _ c.in_ok-comparison.ensures

pub returns-in_err-to : goal.returns-in_err-to
returns-in_err-to c =
    let p = err_from_is_err_and c.from_residual-in_err-to.result c.from_residual-in_err-to.ensures.1 in
    rw (p.1, p.2) (m_bad _ _ _ _ _ c.in_ok-comparison.ensures _ c.in_err-to.ensures)

pub past-requires : goal.past-requires
past-requires c = m_name_in _ _ c.args.sort _ _ c.in_ok-comparison.ensures _ c.in_ok-to.ensures

pub returns-in_err-next : goal.returns-in_err-next
returns-in_err-next c =
    let p = err_from_is_err_and c.from_residual-in_err-next.result c.from_residual-in_err-next.ensures.1 in
    rw (p.1, p.2) (m_open _ _ _ _ _ c.in_ok-comparison.ensures _ c.in_ok-to.ensures _ c.in_err-next.ensures)

pub returns : goal.returns
returns c = m_close _ _ _ _ _ c.in_ok-comparison.ensures _ c.in_ok-to.ensures _ c.in_ok-next.ensures
