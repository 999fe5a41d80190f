-- `sets::combine` meets its contract: after x turns x answers of set k are joined with those above.
use mathlib.Core.Path.{ap₂, ◌∙◌}
use native.Mathlib.Omega.{arith}
use Rattle.algebra.specs.Answer.{byte, answer_of, joined}
use Rattle.algebra.specs.Meant.{joiner_meant}
use Rattle.sets.proofs.Bytes.{none_written, more_written}
use Rattle.sets.proofs.Sets.{operated, reads_set, reads_above, set_back}
use Rattle.sets.proofs.combine.Goals as goal

pub loop-x-init : goal.loop-x-init
loop-x-init c = λ p q. none_written _ _

pub loop-x-preserved : goal.loop-x-preserved
loop-x-preserved c p q =
    let a = c.args in
    let l = c.loop-x in
    let s = c.split_at_mut-low.ensures in
    let u = reads_set a.k a.n _ l.x (operated a.op a.k a.w.now) a.w.now l.left (omega arith) (omega arith) (rw s.front at l.auto.left)
    (rw s.front at l.invariant p q) (omega arith) in
    let v = reads_above a.k l.x a.w.now _ s.back in
    more_written _ _ l.x l.left (l.invariant p q) _ (omega arith) (c.joined.ensures (omega (arith, u, p l.x u.0)) (omega (arith, v, q l.x u.0))
    ∙ ap₂ (λ p q. byte (joined (joiner_meant a.op) (answer_of p) (answer_of q))) u.1 v)

pub returns : goal.returns
returns c p q =
    let a = c.args in
    let l = c.loop-x in
    let s = c.split_at_mut-low.ensures in
    rw (s.front, s.back) (set_back a.k a.n _ l.x (operated a.op a.k a.w.now) a.w.now l.left (omega arith) (omega arith) (rw s.front at l.auto.left)
    (rw s.front at l.invariant p q) (omega arith))
