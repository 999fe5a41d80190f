use Rattle.algebra.specs.Meant.{found_of}
use mathlib.Core.Path.{refl, sym, ap, ◌∙◌}
use Rattle.state.proofs.Names.{member_4, member_7, member_5, member_good}
use Rattle.state.proofs.judge_member.Goals as goal

pub returns-then-late-clause-judged : goal.returns-then-late-clause-judged
returns-then-late-clause-judged g c d ns e =
    member_4 _ d ns _ refl _ e _ _ (rw c.from.ensures at (sym c.late.ensures ∙ c.if-late.true))

pub returns-then-room-many-clause-judged : goal.returns-then-room-many-clause-judged
returns-then-room-many-clause-judged g c d ns e =
    member_7 _ d ns _ refl _ e _ _ (rw c.from.ensures at (sym c.late.ensures ∙ c.if-late.false))
    (rw (← c.room.ensures, ← c.many.ensures.value) c.if-room-many.true)

pub returns-in-Some-clause-judged : goal.returns-in-Some-clause-judged
returns-in-Some-clause-judged g c d ns e =
    member_5 _ d ns _ refl _ e _ _ (rw c.from.ensures at (sym c.late.ensures ∙ c.if-late.false))
    (rw (← c.room.ensures, ← c.many.ensures.value) c.if-room-many.false)
    (sym c.look.ensures ∙ ap found_of c.in-Some.is)

pub returns-in-None-clause-judged : goal.returns-in-None-clause-judged
returns-in-None-clause-judged g c d ns e =
    member_good _ d ns _ refl _ e _ _ (rw c.from.ensures at (sym c.late.ensures ∙ c.if-late.false))
    (rw (← c.room.ensures, ← c.many.ensures.value) c.if-room-many.false)
    (sym c.look.ensures ∙ ap found_of c.in-None.is)
