use Prim.Native.Nat.{◌-◌}
use Rattle.name_index.specs.Entries.{names_of}
use Rattle.name_index.proofs.Walks.{Searching}
use Rattle.name_index.proofs.find.Given as goal

abbrev pub invariant-loop-read : goal.invariant-loop-read
invariant-loop-read g l = Searching l.slots (names_of l.entries) l.name l.i (l.read - 1)
