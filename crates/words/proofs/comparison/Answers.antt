use Rattle.std.proofs.Common.{arith}
use Rattle.grammar.specs.Machine.{less, greater, strict, loose}
use Rattle.words.proofs.Scopes.{byte_is, byte_isnt, byte_h, c_eq, c_two, c_one, c_none}
use Rattle.words.proofs.comparison.Goals as goal

pub returns-in-61 : goal.returns-in-61
returns-in-61 c = c_eq _ _ (byte_is c.peek.ensures c.in-61.is)

pub returns-then-peek-eq61 : goal.returns-then-peek-eq61
unfolding byte_h loose
returns-then-peek-eq61 c = c_two _ _ less (byte_is c.peek.ensures c.in-60.is) (byte_is c.peek-in-60.ensures c.if-peek-eq61.true)

pub returns-else-peek-eq61 : goal.returns-else-peek-eq61
unfolding byte_h strict
returns-else-peek-eq61 c = c_one _ _ less (byte_is c.peek.ensures c.in-60.is) (byte_isnt c.peek-in-60.ensures c.if-peek-eq61.false)

pub returns-then-peek-eq61-2 : goal.returns-then-peek-eq61-2
unfolding byte_h loose
returns-then-peek-eq61-2 c = c_two _ _ greater (byte_is c.peek.ensures c.in-62.is) (byte_is c.peek-in-62.ensures c.if-peek-eq61-2.true)

pub returns-else-peek-eq61-2 : goal.returns-else-peek-eq61-2
unfolding byte_h strict
returns-else-peek-eq61-2 c = c_one _ _ greater (byte_is c.peek.ensures c.in-62.is) (byte_isnt c.peek-in-62.ensures c.if-peek-eq61-2.false)

pub returns-in_default : goal.returns-in_default
returns-in_default c =
    c_none _ _ c.requires
    (byte_isnt c.peek.ensures (λ e. omega arith)) (byte_isnt c.peek.ensures (λ e. omega arith)) (byte_isnt c.peek.ensures (λ e. omega arith))
