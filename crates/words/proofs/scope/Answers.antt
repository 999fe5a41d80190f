use Rattle.std.proofs.Common.{arith}
use Rattle.std.proofs.lemmas.Result.{err_from_is_err_and}
use Rattle.words.proofs.Scopes.{s_none, s_predicate, s_letter, s_member}
use Rattle.words.proofs.Words.{word_is, n_bounds}
use Rattle.words.proofs.scope.Goals as goal

pub returns-in_err-end : goal.returns-in_err-end
returns-in_err-end c =
    let p = err_from_is_err_and c.from_residual.result c.from_residual.ensures.1 in
    rw (p.1, p.2) (s_none _ _ _ c.requires c.in_err-end.ensures)

pub slice_bounds-word_letter-count : goal.slice_bounds-word_letter-count
slice_bounds-word_letter-count c = omega (arith, n_bounds _ _ _ c.in_ok-end.ensures)

pub slice_bounds-word_letter-start : goal.slice_bounds-word_letter-start
slice_bounds-word_letter-start c = omega (arith, n_bounds _ _ _ c.in_ok-end.ensures)

pub slice_bounds-word_letter-end : goal.slice_bounds-word_letter-end
slice_bounds-word_letter-end c = omega (arith, n_bounds _ _ _ c.in_ok-end.ensures)

pub predicate_scope-requires : goal.predicate_scope-requires
predicate_scope-requires c = (n_bounds _ _ _ c.in_ok-end.ensures).1

pub returns-in-None : goal.returns-in-None
returns-in-None c =
    s_predicate _ _ _ c.in_ok-end.ensures (word_is _ _ _ c.in_ok-end.ensures c.in-None.ensures) _ c.predicate_scope.ensures

pub member_scope-requires : goal.member_scope-requires
member_scope-requires c = (n_bounds _ _ _ c.in_ok-end.ensures).1

pub returns-in-Some-OfSort : goal.returns-in-Some-OfSort
returns-in-Some-OfSort c =
    s_member _ _ _ c.in_ok-end.ensures _
    (word_is _ _ _ c.in_ok-end.ensures (rw c.in-Some-OfSort.field-0-is at c.in-Some-OfSort.ensures)) _ c.member_scope.ensures

pub returns-in-Some-OfTemplate : goal.returns-in-Some-OfTemplate
returns-in-Some-OfTemplate c =
    s_letter _ _ _ c.in_ok-end.ensures (word_is _ _ _ c.in_ok-end.ensures (rw c.in-Some-OfTemplate.field-0-is at c.in-Some-OfTemplate.ensures))
