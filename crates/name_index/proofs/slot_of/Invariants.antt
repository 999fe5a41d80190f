use Rattle.name_index.proofs.Hash.{Hashing}
use Rattle.name_index.proofs.slot_of.Given as goal

abbrev pub invariant-loop-b : goal.invariant-loop-b
invariant-loop-b l = Hashing l.name l.h l.b-index
