-- `scopes::scope` meets its contract. Each loop's memory is what its turns so far make of the memory at the loop's start.
use mathlib.Core.Path.{◌∙◌}
use native.Mathlib.Omega.{arith}
use Rattle.algebra.specs.Sort.{subject, object, action}
use Rattle.algebra.specs.Policy.{in_scope}
use Rattle.algebra.specs.Meant.{scope_meant}
use Rattle.scopes.proofs.Turns.{turns_done}
use Rattle.scopes.proofs.Scopes.{by_subject, walked}
use Rattle.scopes.proofs.scope.Goals as goal

pub is_inside-inside-requires-clause-members : goal.is_inside-inside-requires-clause-members
is_inside-inside-requires-clause-members c =
    let z = c.requires.room.1 in
    (omega (arith, z.most subject), omega (arith, z.most object), omega (arith, z.most action))

pub returns : goal.returns
returns c fr st nm ans =
    let a = c.args in
    turns_done (by_subject (in_scope fr (scope_meant a.c)) a.k a.z) _ c.subjects.auto.s-end c.subjects-test.false
    (c.subjects.invariant.turned fr st nm) ∙ walked fr a.k a.z a.t.now (in_scope fr (scope_meant a.c)) a.w.now st (omega arith) ans
