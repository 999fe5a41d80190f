use Rattle.std.proofs.lemmas.Result.{err_from_is_err_and}
use Rattle.snowdell.proofs.Checks.{check_no, check_yes}
use Rattle.snowdell.proofs.check.Goals as goal

pub returns-in_err-read : goal.returns-in_err-read
returns-in_err-read c =
    let p = err_from_is_err_and c.from_residual.result c.from_residual.ensures.1 in
    rw (p.1, p.2) (check_no _ _ _ _ c.in_err-read.ensures.read_as)

pub returns : goal.returns
returns c = rw c.counts.ensures (check_yes _ _ _ c.in_ok-read.ensures.read_as)
