-- `composer::Setting::put_named` meets its contract: a number below those of the bindings is one of these, and any other is a table's.
use mathlib.Core.Path.{ap, ap₂, ◌∙◌}
use lib.ListN.{length, get_or}
use native.Mathlib.Omega.{arith}
use Prim.Native.Nat.{◌-◌}
use Rattle.algebra.specs.StoredFrame.{total}
use Rattle.sets.specs.Sets.{put_set}
use Rattle.composer.specs.Run.{table_in}
use Rattle.composer.proofs.Named.{named_bound, named_table}
use Rattle.composer.proofs.Setting.put_named.Goals as goal

pub returns-then-number-bound : goal.returns-then-number-bound
returns-then-number-bound c T f =
    let a = c.args in
    let same = c.as_slice-bound.ensures.value in
    named_bound a.self.now a.bound.now.items a.k _ a.number a.w.now _ T f _ _ _ (omega (arith, ap length same)) c.from-number.ensures
    (c.from.ensures ∙ ap (λ l. get_or l c.from-number.result 0) same) c.accesses.ensures c.copy_set.ensures

pub returns-else-number-bound : goal.returns-else-number-bound
returns-else-number-bound c T f =
    let a = c.args in
    let s = a.self.now in
    let same = c.as_slice-bound.ensures.value in
    named_table s a.bound.now.items a.k _ a.number a.w.now _ T f (omega (arith, ap length same))
    (c.put_table.ensures
    ∙ ap (λ i. put_set a.k (total s.counts) (table_in s.here s.grants a.w.now i) a.w.now) (ap₂ ◌-◌ c.from-number.ensures (ap length same)))
