-- `scopes::scope` meets its contract. Each loop's memory is what its turns so far make of the memory at the loop's start.
use mathlib.Core.Path.{◌≡◌}
use lib.ListN.{length}
use Rattle.scopes.proofs.Turns.{turns}
use Rattle.scopes.proofs.Scopes.{by_action, by_object, by_subject, Each}
use Rattle.scopes.proofs.scope.Given as goal

abbrev pub invariant-actions : goal.invariant-actions
invariant-actions l = record {
  same_length : length l.w ≡ length l.initial.w;
  turned : Each l.z l.t l.c (λ p. l.w ≡ turns l.a (by_action p l.k l.z l.s-2 l.o-2) l.initial.w);
}

abbrev pub invariant-objects : goal.invariant-objects
invariant-objects l = record {
  same_length : length l.w ≡ length l.initial.w;
  turned : Each l.z l.t l.c (λ p. l.w ≡ turns l.o (by_object p l.k l.z l.s-2) l.initial.w);
}

abbrev pub invariant-subjects : goal.invariant-subjects
invariant-subjects l = record {
  same_length : length l.w ≡ length l.initial.w;
  turned : Each l.z l.t l.c (λ p. l.w ≡ turns l.s (by_subject p l.k l.z) l.initial.w);
}
