use Rattle.name_index.proofs.Walks.{members_known, members_told}
use Rattle.name_index.proofs.Members.look.Goals as goal

pub find-requires : goal.find-requires
find-requires g c = rw c.as_slice.ensures.value (members_known c.args.self.now)

pub returns : goal.returns
returns g c = members_told c.args.self.now _ _ (rw (← c.as_slice.ensures.value) c.find.ensures)
