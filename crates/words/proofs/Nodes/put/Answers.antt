-- `words::Nodes::put` meets its contract. The answer does not say which call adds the node, so that a wrong one is refused by what it does.
use Rattle.std.proofs.Common.{rules}
use Rattle.words.proofs.Puts.{put_stored}
use Rattle.words.proofs.Nodes.put.Goals as goal

pub returns-then-not-is_full : goal.returns-then-not-is_full
returns-then-not-is_full c = put_stored _ _ _ _ (search rules) (search rules) (search rules)
