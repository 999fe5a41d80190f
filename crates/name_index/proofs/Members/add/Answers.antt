use Rattle.name_index.proofs.Walks.{entry_more}
use Rattle.name_index.proofs.Members.add.Goals as goal

pub invariant_of-self-clause-indexed : goal.invariant_of-self-clause-indexed
invariant_of-self-clause-indexed g c =
    entry_more c.args.self.now _ c.len.ensures.value c.insert.ensures c.requires.fresh c.push.ensures.items
