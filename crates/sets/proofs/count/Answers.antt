-- `sets::count` meets its contract: after so many turns the bytes before are counted.
use mathlib.Core.Path.{refl, sym, ap, ◌∙◌}
use Prim.Native.Nat.{◌+◌}
use native.Mathlib.Nat.{le_antisymm}
use native.Mathlib.Omega.{arith}
use lib.ListN.{take, length-take}
use lib.Seq.{take-length}
use Rattle.algebra.specs.Bytes.{tally}
use Rattle.algebra.proofs.Bytes.{tally_few}
use Rattle.sets.proofs.Bytes.{tally_hit, tally_miss}
use Rattle.sets.proofs.count.Goals as goal
use Rattle.sets.proofs.count.Goals.{then-x-b, else-x-b}

pub loop-x-init : goal.loop-x-init
unfolding tally
loop-x-init c = refl

pub overflow_add-found : goal.overflow_add-found
overflow_add-found c =
    let s = take c.args.n c.args.s.now in
    omega (arith, tally_few c.args.b (take c.loop-x.x-index s), length-take c.loop-x.x-index s, c.loop-x.invariant)

pub loop-x-preserved : goal.loop-x-preserved
loop-x-preserved c =
    let l = c.loop-x in
    let s = take c.args.n c.args.s.now in
    elim c.if-x-b.branch [
      | then-x-b w ↦ w.found-is ∙ ap (λ m. m + 1) l.invariant ∙ sym (tally_hit c.args.b l.x-index s (omega arith) w.if-x-b.true)
      | else-x-b w ↦ w.found-is ∙ l.invariant ∙ sym (tally_miss c.args.b l.x-index s (omega arith) w.if-x-b.false)
    ]

pub returns : goal.returns
returns c =
    let l = c.loop-x in
    let s = take c.args.n c.args.s.now in
    l.invariant ∙ ap (λ n. tally c.args.b (take n s)) (le_antisymm l.auto.x-index-end c.loop-x-test.false) ∙ ap (tally c.args.b) (take-length s)
