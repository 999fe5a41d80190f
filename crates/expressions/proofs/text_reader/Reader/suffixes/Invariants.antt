use Rattle.std.proofs.Common.{◌-◌, length}
use Rattle.expressions.proofs.Goes.{Goes}
use Rattle.words.specs.Contract.{ReadsSuffixes}
use Rattle.expressions.proofs.text_reader.Reader.suffixes.Given as goal

abbrev pub invariant-loop-x : goal.invariant-loop-x
invariant-loop-x g l = Goes (λ number xs t at a. ReadsSuffixes number t at) l.initial.self l.self

abbrev pub decreases-loop-x : goal.decreases-loop-x
decreases-loop-x g l = length l.self.text.now - l.self.at
