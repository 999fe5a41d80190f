-- The measures of the readers of an expression's parts, which call each other: the brackets that may be opened fall,
-- and within one bracket the calls are in order. And what the loop of `more` keeps.
use Rattle.std.proofs.Common.{◌+◌, ◌*◌, ◌-◌, length}
use Rattle.expressions.proofs.Goes.{Goes}
use Rattle.words.specs.Contract.{ReadsMore}
use Rattle.expressions.proofs.text_reader.Reader.+parts.Given as goal

abbrev pub decreases-expression : goal.decreases-expression
decreases-expression g l = 8 * l.self.now.allow + 3

abbrev pub decreases-factor : goal.decreases-factor
decreases-factor g l = 8 * l.self.now.allow + 1

abbrev pub decreases-filling : goal.decreases-filling
decreases-filling g l = 8 * l.self.now.allow + 5

abbrev pub decreases-more : goal.decreases-more
decreases-more g l = 8 * l.self.now.allow + 2

abbrev pub decreases-overridden : goal.decreases-overridden
decreases-overridden g l = 8 * l.self.now.allow + 5

abbrev pub decreases-part : goal.decreases-part
decreases-part g l = 8 * l.self.now.allow + 4

abbrev pub decreases-primary : goal.decreases-primary
decreases-primary g l = 8 * l.self.now.allow

abbrev pub decreases-template : goal.decreases-template
decreases-template g l = 8 * l.self.now.allow + 6

abbrev pub invariant-more-loop-joiner : goal.invariant-more-loop-joiner
invariant-more-loop-joiner g l = Goes ReadsMore l.initial.self l.self

abbrev pub decreases-more-loop-joiner : goal.decreases-more-loop-joiner
decreases-more-loop-joiner g l = length l.self.text.now - l.self.at
