-- `sets::count` meets its contract: after so many turns the bytes before are counted.
use mathlib.Core.Path.{◌≡◌}
use lib.ListN.{take}
use Rattle.algebra.specs.Bytes.{tally}
use Rattle.sets.proofs.count.Given as goal

abbrev pub invariant-loop-x : goal.invariant-loop-x
invariant-loop-x l = l.found ≡ tally l.b (take l.x-index (take l.n l.s))
