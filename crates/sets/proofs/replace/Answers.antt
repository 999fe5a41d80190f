-- `sets::replace` meets its contract: after x turns x answers of set k are replaced.
use mathlib.Core.Path.{◌≡◌, ap, ◌∙◌}
use native.Mathlib.Omega.{arith}
use Prim.Native.Nat.{◌+◌, ◌*◌}
use lib.ListN.{get_or}
use Rattle.sets.proofs.Bytes.{none_written, more_written}
use Rattle.sets.proofs.Sets.{overridden_of, threefold, reads_set, reads_above, set_back}
use Rattle.sets.proofs.replace.Goals as goal

pub loop-x-init : goal.loop-x-init
loop-x-init c = λ p q r. none_written _ _

pub loop-x-preserved : goal.loop-x-preserved
loop-x-preserved c p q r =
    let a = c.args in
    let l = c.loop-x in
    let s = c.split_at_mut-low.ensures in
    let u = reads_set a.k a.n _ l.x (threefold a.k a.w.now) a.w.now l.first (omega arith) (omega arith) (rw s.front at l.auto.first)
    (rw s.front at l.invariant p q r) (omega arith) in
    let third : (a.k + 1) * 4096 + (4096 + l.x) ≡ (a.k + 2) * 4096 + l.x = omega arith in
    let z = reads_above a.k (4096 + l.x) a.w.now _ s.back ∙ ap (λ i. get_or a.w.now i 0) third in
    more_written _ _ l.x l.first (l.invariant p q r) _ (omega arith)
    (c.overridden.ensures ∙ overridden_of u.1 (reads_above a.k l.x a.w.now _ s.back) z (p l.x u.0) (q l.x u.0) (r l.x u.0))

pub returns : goal.returns
returns c p q r =
    let a = c.args in
    let l = c.loop-x in
    let s = c.split_at_mut-low.ensures in
    rw (s.front, s.back) (set_back a.k a.n _ l.x (threefold a.k a.w.now) a.w.now l.first (omega arith) (omega arith) (rw s.front at l.auto.first)
    (rw s.front at l.invariant p q r) (omega arith))
