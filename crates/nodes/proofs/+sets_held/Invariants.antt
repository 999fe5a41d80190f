-- Each part of a tree has fewer nodes.
use lib.ListN.{length}
use Rattle.nodes.proofs.+sets_held.Given as goal

abbrev pub decreases-sets_held : goal.decreases-sets_held
decreases-sets_held l = length l.nodes.now
