-- `composer::Setting::close_set` meets its contract: the part of the memory that is lent is the set.
use mathlib.Core.Path.{◌≡◌, sym, ◌∙◌}
use Prim.Native.Nat.{◌+◌, ◌*◌, ◌-◌}
use native.Mathlib.Omega.{arith}
use Rattle.algebra.specs.StoredFrame.{total}
use Rattle.plans.proofs.Sets.{accesses_total}
use Rattle.composer.proofs.Runs.{closed_at}
use Rattle.composer.proofs.Setting.close_set.Goals as goal

pub returns-clause-closed : goal.returns-clause-closed
returns-clause-closed c fr st =
    let a = c.args in
    let s = a.self.now in
    let m : a.k * 4096 + c.accesses.result - a.k * 4096 ≡ total s.counts = omega arith in
    closed_at fr a.set s.limit a.k _ a.w.now _ _ (m ∙ sym (accesses_total fr s.counts s.table.now st.stands)) (c.closure.ensures.closed fr st)
