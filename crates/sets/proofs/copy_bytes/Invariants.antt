-- `sets::copy_bytes` meets its contract: after x turns x bytes are copied.
use lib.ListN.{get_or}
use Rattle.sets.proofs.Bytes.{Written}
use Rattle.sets.proofs.copy_bytes.Given as goal

abbrev pub invariant-loop-x : goal.invariant-loop-x
invariant-loop-x l = Written l.x (λ i. get_or l.from i 0) l.initial.to l.to
