use Rattle.short_list.proofs.Places.{copied_in}
use Rattle.short_list.proofs.ShortList.of.Goals as goal

pub returns-clause-behind : goal.returns-clause-behind
returns-clause-behind g c =
    let x = c.default-places.result in
    (x, c.default-places.ensures, copied_in g.row.N x c.args.items.now c.copy_from_slice.ensures.after)
