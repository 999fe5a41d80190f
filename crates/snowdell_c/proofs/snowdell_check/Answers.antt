use mathlib.Core.Path.{ap, ◌∙◌}
use Rattle.snowdell_c.specs.Handed.{check_numbers}
use Rattle.snowdell_c.proofs.Handing.{hands_nothing}
use Rattle.snowdell_c.proofs.Numbers.{returns_no_room, listed}
use Rattle.snowdell_c.proofs.snowdell_check.Goals as goal

pub returns-then-numbers-lt6-clause-value : goal.returns-then-numbers-lt6-clause-value
returns-then-numbers-lt6-clause-value c = returns_no_room _ _ c.if-numbers-lt6.true

pub returns-then-numbers-lt6-clause-numbers_after : goal.returns-then-numbers-lt6-clause-numbers_after
returns-then-numbers-lt6-clause-numbers_after c = hands_nothing _ _ c.if-numbers-lt6.true

pub returns-clause-value : goal.returns-clause-value
returns-clause-value c = (listed _ _ _ _ (c.check_numbers-ns.ensures ∙ ap check_numbers c.check.ensures) c.if-numbers-lt6.false c.hand.ensures).0

pub returns-clause-numbers_after : goal.returns-clause-numbers_after
returns-clause-numbers_after c = (listed _ _ _ _ (c.check_numbers-ns.ensures ∙ ap check_numbers c.check.ensures) c.if-numbers-lt6.false c.hand.ensures).1
