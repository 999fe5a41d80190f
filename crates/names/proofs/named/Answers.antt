use Rattle.std.proofs.Common.{rules, tests}
use Rattle.std.proofs.lemmas.Iterator.{YieldsList-from_slice}
use Rattle.std.proofs.lemmas.Iterator.Search.{position_from_yields_List}
use Rattle.names.proofs.Walks.{walk_named}
use Rattle.names.proofs.named.Goals as goal

pub returns-clause-first : goal.returns-clause-first
returns-clause-first g c =
    walk_named c.args.name.now c.args.entries.now
    (position_from_yields_List _ _ _ _ c.position.ensures.ran (YieldsList-from_slice _ c.iter.ensures.rest) (λ x b q k. search (rules, tests)))
