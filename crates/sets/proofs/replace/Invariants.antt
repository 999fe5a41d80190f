-- `sets::replace` meets its contract: after x turns x answers of set k are replaced.
use Prim.Native.Nat.{◌+◌}
use Rattle.algebra.specs.Answer.{byte}
use Rattle.sets.specs.Sets.{Answers}
use Rattle.sets.proofs.Bytes.{Written}
use Rattle.sets.proofs.Sets.{threefold}
use Rattle.sets.proofs.replace.Given as goal

abbrev pub invariant-loop-x : goal.invariant-loop-x
invariant-loop-x l =
    Answers l.k l.n l.fn.w → Answers (l.k + 1) l.n l.fn.w → Answers (l.k + 2) l.n l.fn.w
    → Written l.x (λ x. byte (threefold l.k l.fn.w x)) l.initial.first l.first
