-- Each part of a tree has fewer nodes.
use lib.ListN.{length}
use Rattle.composer.proofs.Setting.+run.Given as goal

abbrev pub decreases-run : goal.decreases-run
decreases-run l = length l.nodes.now
