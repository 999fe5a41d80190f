-- `composer::tables` meets its contract: the marks come after the three orders.
use mathlib.Core.Path.{◌≡◌, ap, ◌∙◌}
use native.Mathlib.Omega.{arith}
use lib.ListN.{length}
use Rattle.sets.specs.Bytes.{put}
use Rattle.sets.proofs.Bytes.{part_put}
use Rattle.composer.proofs.Frames.{is_stored}
use Rattle.composer.proofs.tables.Goals as goal

pub returns : goal.returns
returns c =
    let a = c.args in
    let r = c.requires in
    let t = c.fill_order-3.new.t in
    let long : length t ≡ 16384 = omega arith in
    let marks : length c.copy_from_slice.new.self ≡ 1024 = ap length c.copy_from_slice.ensures.after ∙ c.told-marks in
    is_stored a.subjects.now a.objects.now a.actions.now a.marks.now a.t.now c.fill_order.new.t c.fill_order-2.new.t t _ c.fill_order.ensures
    c.fill_order-2.ensures c.fill_order-3.ensures
    (part_put 12288 1024 c.copy_from_slice.new.self t marks ∙ ap (λ bs. put 12288 bs t) c.copy_from_slice.ensures.after) c.told-marks long
    r.few.0 r.few.1 r.few.2
