-- `nodes::part_start` meets its contract: from j, with so many trees left to pass, the walk ends where it ends from the last node with one left.
use mathlib.Core.Path.{◌≡◌}
use Prim.Native.Nat.{◌+◌, ◌*◌, ◌≤◌, ◌<◌}
use lib.ListN.{length}
use Rattle.algebra.specs.Nodes.{back}
use Rattle.nodes.specs.Cells.{label}
use Rattle.nodes.proofs.part_start.Given as goal

abbrev pub invariant-loop-j : goal.invariant-loop-j
invariant-loop-j l = record {
  some : 0 < l.left;
  few : l.left + 2 * l.j ≤ 2 * length l.nodes + 1;
  same : back (label l.nodes) l.j l.left ≡ back (label l.nodes) (length l.nodes) 1;
}
