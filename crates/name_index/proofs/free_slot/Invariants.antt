use Rattle.std.proofs.Common.{◌<◌}
use Rattle.name_index.proofs.Walks.{Freeing}
use Rattle.name_index.proofs.free_slot.Given as goal

abbrev pub invariant-loop : goal.invariant-loop
invariant-loop l = (l.free < 256) × Freeing l.slots l.name l.free l.counter
