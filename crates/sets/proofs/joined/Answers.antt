-- `sets::joined` meets its contract.
use mathlib.Core.Path.{◌∙◌}
use Rattle.sets.proofs.Sets.{joined_plus, joined_both, joined_minus}
use Rattle.sets.proofs.joined.Goals as goal

pub returns-in-Plus : goal.returns-in-Plus
returns-in-Plus c = λ h h'. rw c.in-Plus.is (c.larger.ensures ∙ joined_plus _ _ h h')

pub returns-in-And : goal.returns-in-And
returns-in-And c = λ h h'. rw c.in-And.is (c.smaller.ensures ∙ joined_both _ _ h h')

pub returns-in-Minus : goal.returns-in-Minus
returns-in-Minus c = λ h h'. rw c.in-Minus.is (c.minus.ensures ∙ joined_minus _ _ h h')
