use Rattle.std.proofs.Common.{arith}
use Rattle.name_index.proofs.Walks.{searching_first, searching_free, in_entries, found_hit, found_other, searching_end}
use Rattle.name_index.proofs.find.Goals as goal

pub loop-read-init : goal.loop-read-init
loop-read-init g c = searching_first _ _ _ c.slot_of-i.ensures.value

pub returns-then-slot-eq0 : goal.returns-then-slot-eq0
returns-then-slot-eq0 g c = searching_free _ _ _ c.loop-read.invariant (omega arith) c.if-slot-eq0.true (omega arith)

pub bounds-entries-from : goal.bounds-entries-from
bounds-entries-from g c = in_entries _ _ _ c.requires c.loop-read.invariant (omega arith) c.if-slot-eq0.false c.from.ensures

pub returns-then-eq : goal.returns-then-eq
returns-then-eq g c =
    found_hit _ _ _ c.requires c.loop-read.invariant (omega arith) c.if-slot-eq0.false c.from.ensures _ c.eq.ensures (omega arith) c.if-eq.true

pub loop-read-preserved : goal.loop-read-preserved
loop-read-preserved g c =
    found_other _ _ _ c.requires c.loop-read.invariant (omega arith) c.if-slot-eq0.false c.from.ensures _ c.eq.ensures (omega arith) c.if-eq.false

pub returns : goal.returns
returns g c = searching_end _ _ _ c.loop-read.invariant (omega arith)
