-- `scopes::is_inside` meets its contract.
use Rattle.scopes.proofs.Scopes.{same_lt, same_part, inside_compared, passes_mark}
use Rattle.scopes.proofs.is_inside.Goals as goal

pub returns-in-Compared : goal.returns-in-Compared
returns-in-Compared c fr n st nm p q r =
    let nm' = rw c.in-Compared.is at nm in
    let t = c.args.t.now in
    let is = c.member.ensures in
    rw c.in-Compared.is
    (inside_compared fr _ _ c.in-Compared.x _ (same_part fr n t st _ _ _ p q r _ _ is) (same_lt fr n t st _ _ _ p q r _ _ is) _ c.is_so.result nm'
    (c.is_so.ensures fr n st))

pub returns-in-Marked : goal.returns-in-Marked
returns-in-Marked c fr n st nm p q r =
    let nm' = rw c.in-Marked.is at nm in
    let t = c.args.t.now in
    let is = c.member-in-Marked.ensures in
    rw c.in-Marked.is
    (passes_mark fr _ _ c.in-Marked.predicate _ (same_part fr n t st _ _ _ p q r _ _ is) (same_lt fr n t st _ _ _ p q r _ _ is) n t st c.entry.result nm'
    c.entry.ensures)
