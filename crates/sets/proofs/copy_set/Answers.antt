-- `sets::copy_set` meets its contract: the set that stands first is lent apart from the other.
use mathlib.Core.Path.{◌≡◌, sym, ap, ap₂, ◌∙◌}
use native.Mathlib.Nat.{le_antisymm}
use native.Mathlib.Omega.{arith}
use Prim.Native.Nat.{◌*◌, ◌+◌, ◌-◌}
use lib.ListN.{length, take, drop}
use Rattle.algebra.specs.Lists.{tab}
use Rattle.algebra.proofs.Lists.{length_tab}
use Rattle.sets.specs.Bytes.{put}
use Rattle.sets.specs.Sets.{byte_at}
use Rattle.sets.proofs.Bytes.{low_put, part_put, part_tab, low_tab, put_same}
use Rattle.sets.proofs.copy_set.Goals as goal

pub returns-then-k-j : goal.returns-then-k-j
returns-then-k-j c =
    let a = c.args in
    let w = a.w.now in
    let s = c.split_at_mut-low.ensures in
    let long : a.k * 4096 + a.n - a.k * 4096 ≡ a.n = omega arith in
    let is = c.copy_bytes.ensures ∙ ap (take a.n) s.back ∙ part_tab (a.j * 4096) a.n w (omega arith) in
    rw (s.front, s.back) (low_put (a.k * 4096) _ (a.j * 4096) c.copy_bytes.new.to w (ap length is ∙ length_tab a.n _ ∙ sym long) (omega arith) ∙ ap (λ bs. put (a.k * 4096) bs w) is)

pub returns-then-j-k : goal.returns-then-j-k
returns-then-j-k c =
    let a = c.args in
    let w = a.w.now in
    let s = c.split_at_mut-low-then-j-k.ensures in
    let copied = c.copy_bytes-then-j-k in
    let long : a.j * 4096 + a.n - a.j * 4096 ≡ a.n = omega arith in
    let is = copied.ensures ∙ ap₂ (λ m l. take m (drop (a.j * 4096) l)) long s.front ∙ low_tab (a.j * 4096) a.n (a.k * 4096) w (omega arith) (omega arith) in
    rw (s.front, s.back) (part_put (a.k * 4096) a.n copied.new.to w (ap length is ∙ length_tab a.n _) ∙ ap (λ bs. put (a.k * 4096) bs w) is)

pub returns-else-j-k : goal.returns-else-j-k
returns-else-j-k c =
    let a = c.args in
    put_same (a.k * 4096) a.n a.w.now (omega arith) ∙ ap (λ j. put (a.k * 4096) (tab a.n (byte_at j a.w.now)) a.w.now) (le_antisymm c.if-j-k.false c.if-k-j.false)
