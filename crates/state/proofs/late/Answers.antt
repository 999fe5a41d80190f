use mathlib.Core.Path.{sym, ◌∙◌}
use Rattle.state.specs.Judged.{late_of}
use Rattle.state.proofs.Turns.{earlier, ended}
use Rattle.state.proofs.late.Goals as goal

pub returns-then-lt : goal.returns-then-lt
unfolding late_of
returns-then-lt c = simp (sym (earlier _ _) ∙ sym c.lt.ensures ∙ c.if-lt.true) c.if-lt.true

pub returns-else-lt : goal.returns-else-lt
unfolding late_of
returns-else-lt c = simp (sym (earlier _ _) ∙ sym c.lt.ensures ∙ c.if-lt.false) (c.eq.ensures ∙ ended _)
