-- `composer::within` meets its contract: after so many turns so many of the outer sets follow set k.
use mathlib.Core.Path.{◌≡◌}
use mathlib.Core.List.{◌∷◌}
use lib.ListN.{take}
use Rattle.composer.proofs.within.Given as goal

abbrev pub invariant-loop-set : goal.invariant-loop-set
invariant-loop-set l = l.bound.items ≡ l.k ∷ take l.set-index l.outer.items
