-- The lines that are left are part of the text, and fall.
use Rattle.std.proofs.Common.{◌≤◌, length}
use Rattle.lookups.proofs.policy_end.Given as goal

abbrev pub invariant-loop-at : goal.invariant-loop-at
invariant-loop-at l = length l.rest ≤ length l.t

abbrev pub decreases-loop-at : goal.decreases-loop-at
decreases-loop-at l = length l.rest
