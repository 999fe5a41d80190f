-- `running::tables_here` meets its contract: after so many turns so many tables have their flags.
use mathlib.Core.Path.{sym, ◌∙◌}
use Rattle.std.proofs.Common.{length-set, arith, get_or-set_other, get_or-set_same, below_more, false}
use Rattle.algebra.proofs.Lists.{get_or_map_lt}
use Rattle.running.proofs.tables_here.Goals as goal

pub loop-i-preserved : goal.loop-i-preserved
loop-i-preserved c =
    let i = c.loop-i.i in
    let long = c.loop-i.invariant.0 in (
      length-set c.loop-i.here i _ ∙ long,
      below_more _ _ (λ k h. get_or-set_other c.loop-i.here i k _ false (λ e. omega arith) ∙ c.loop-i.invariant.1 k h)
          (get_or-set_same c.loop-i.here i _ false (omega arith) ∙ sym (get_or_map_lt _ c.args.tables.now i _ false c.loop-i-test.true)),
    )
