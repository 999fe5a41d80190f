use mathlib.Core.Path.{ap, ◌∙◌}
use mathlib.Core.List.{◌++◌}
use lib.ListN.{length, drop}
use Rattle.algebra.specs.Bytes.{written}
use Rattle.snowdell_c.proofs.Handing.{hands, hands_nothing}
use Rattle.snowdell_c.proofs.hand.Goals as goal

pub returns-then-n-numbers : goal.returns-then-n-numbers
unfolding written
returns-then-n-numbers c =
    let a = c.args in
    ap (λ bs. bs ++ drop (length a.ns.now) a.numbers.now) c.copy_from_slice.ensures.after ∙ hands _ _ c.if-n-numbers.true

pub returns-else-n-numbers : goal.returns-else-n-numbers
returns-else-n-numbers c = hands_nothing _ _ c.if-n-numbers.false
