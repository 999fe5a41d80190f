-- `sets::combine` meets its contract: after x turns x answers of set k are joined with those above.
use Prim.Native.Nat.{◌+◌}
use Rattle.algebra.specs.Answer.{byte}
use Rattle.sets.specs.Sets.{Answers}
use Rattle.sets.proofs.Bytes.{Written}
use Rattle.sets.proofs.Sets.{operated}
use Rattle.sets.proofs.combine.Given as goal

abbrev pub invariant-loop-x : goal.invariant-loop-x
invariant-loop-x l =
    Answers l.k l.n l.fn.w → Answers (l.k + 1) l.n l.fn.w → Written l.x (λ x. byte (operated l.op l.k l.fn.w x)) l.initial.left l.left
