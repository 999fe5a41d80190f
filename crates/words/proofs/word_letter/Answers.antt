use Rattle.std.proofs.Common.{sym, ◌∙◌, arith}
use Rattle.words.proofs.Words.{letter_one, letter_long}
use Rattle.words.proofs.word_letter.Goals as goal

pub returns-in-len1 : goal.returns-in-len1
returns-in-len1 c = c.letter_byte.ensures ∙ sym (letter_one c.args.word.now (omega arith))

pub returns-in_default : goal.returns-in_default
returns-in_default c = sym (letter_long c.args.word.now (λ e. omega arith))

pub returns-in_default-2 : goal.returns-in_default-2
returns-in_default-2 c = sym (letter_long c.args.word.now (λ e. omega arith))
