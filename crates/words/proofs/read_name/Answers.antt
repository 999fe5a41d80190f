use Rattle.std.proofs.Common.{arith}
use Rattle.std.proofs.lemmas.Result.{err_from_is_err_and}
use Rattle.words.proofs.Words.{word_is, n_none, n_bounds, n_good, n_letter}
use Rattle.words.proofs.read_name.Goals as goal

pub returns-in_err-end : goal.returns-in_err-end
returns-in_err-end c =
    let p = err_from_is_err_and c.from_residual.result c.from_residual.ensures.1 in
    rw (p.1, p.2) (n_none _ _ _ c.requires c.in_err-end.ensures)

pub slice_bounds-word_letter-count : goal.slice_bounds-word_letter-count
slice_bounds-word_letter-count c = omega (arith, n_bounds _ _ _ c.in_ok-end.ensures)

pub slice_bounds-word_letter-start : goal.slice_bounds-word_letter-start
slice_bounds-word_letter-start c = omega (arith, n_bounds _ _ _ c.in_ok-end.ensures)

pub slice_bounds-word_letter-end : goal.slice_bounds-word_letter-end
slice_bounds-word_letter-end c = omega (arith, n_bounds _ _ _ c.in_ok-end.ensures)

pub returns-in-Some : goal.returns-in-Some
returns-in-Some c = n_letter _ _ _ c.in_ok-end.ensures (word_is _ _ _ c.in_ok-end.ensures c.in-Some.ensures)

pub returns-in-None : goal.returns-in-None
returns-in-None c = n_good _ _ _ c.in_ok-end.ensures (word_is _ _ _ c.in_ok-end.ensures c.in-None.ensures)
