-- `grants::fill_here` meets its contract: after i turns the set is what the first i grants give the table.
use mathlib.Core.Path.{subst}
use native.Mathlib.Nat.{le_antisymm}
use native.Mathlib.Omega.{arith}
use Prim.Native.Nat.{◌+◌, ◌*◌, ◌-◌}
use Rattle.sets.proofs.Bytes.{part_long}
use Rattle.grants.proofs.Grants.{Given, none_given, turn_miss, turn_beyond, turn_hit, set_given}
use Rattle.grants.proofs.fill_here.Goals as goal
use Rattle.grants.proofs.fill_here.Goals.{then-g-table+then-x-n, then-g-table+else-x-n, else-g-table}

pub loop-i-init : goal.loop-i-init
loop-i-init c =
    let a = c.args in
    none_given a.table a.n _ a.w.now _ (omega (arith, part_long (a.k * 4096) (a.k * 4096 + a.n - a.k * 4096) c.split_at_mut-sets.result.0.now (omega arith)))
    (c.fill.ensures.after (λ y e. e))

-- by either arm the turn's grant is counted
pub loop-i-preserved : goal.loop-i-preserved
loop-i-preserved c =
    let a = c.args in
    let l = c.loop-i in
    let g = c.grant_at-g in
    let part = c.split_at_mut-sets.ensures.back in
    let long = part_long (a.k * 4096) (a.k * 4096 + a.n - a.k * 4096) c.split_at_mut-sets.result.0.now (omega arith) in
    elim c.if-g-table.branch [
      | then-g-table+then-x-n w ↦ rw w.set-is (turn_hit a.table a.n l.i a.w.now _ l.set part l.invariant g.result g.ensures w.if-g-table.true
          (omega (arith, w.if-x-n.true, long)))
      | then-g-table+else-x-n w ↦ rw w.set-is (turn_beyond a.table a.n l.i a.w.now _ l.set part l.invariant g.result g.ensures w.if-g-table.true w.if-x-n.false)
      | else-g-table w ↦ rw w.set-is (turn_miss a.table a.n l.i a.w.now _ l.set part l.invariant g.result g.ensures w.if-g-table.false)
    ]

pub returns : goal.returns
returns c =
    let a = c.args in
    let l = c.loop-i in
    let s = c.split_at_mut-sets.ensures in
    let long = part_long (a.k * 4096) (a.k * 4096 + a.n - a.k * 4096) c.split_at_mut-sets.result.0.now (omega arith) in
    let all = le_antisymm l.auto.i-end c.loop-i-test.false in
    rw (s.front, s.back) (set_given a.table a.k a.n _ a.grants a.w.now l.set c.requires.0 (omega (arith, long)) (omega arith) (subst (λ i. Given a.table i a.n a.w.now l.set) all l.invariant))
