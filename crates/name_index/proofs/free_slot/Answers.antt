use Rattle.std.proofs.Common.{arith, rules}
use Rattle.name_index.proofs.Walks.{freeing_next}
use Rattle.name_index.proofs.free_slot.Goals as goal

pub loop-preserved : goal.loop-preserved
loop-preserved c = (omega arith, freeing_next _ _ c.loop.invariant.1 (search rules) c.if-slots-free-eq0.false)
