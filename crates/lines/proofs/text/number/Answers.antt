use Rattle.std.proofs.Common.{get_or, arith, rules, sym, ◌∙◌}
use lib.Pow.{pow-add}
use Rattle.std.proofs.lemmas.Bool.Decides.{nat_tests}
use Rattle.reader.specs.Text.{is_digit}
use Rattle.lines.proofs.Names.{numeral, number_empty, number_long, number_zero, number_nought, number_on, digit_high, digit_run, digit_stop, digit_end}
use Rattle.lines.proofs.text.number.Goals as goal
use Rattle.lines.proofs.text.number.Goals.{then-is_empty-via-then-is_empty, then-is_empty-via-else-is_empty+then-text-gt4}

pub returns-then-is_empty : goal.returns-then-is_empty
unfolding numeral
returns-then-is_empty c =
    elim c.then-is_empty.branch [
      | then-is_empty-via-then-is_empty w ↦ sym (number_empty c.args.text.now (grind (arith, nat_tests)))
      | then-is_empty-via-else-is_empty+then-text-gt4 w ↦ sym (number_long c.args.text.now w.if-text-gt4.true)
    ]

pub returns-then-is_alone : goal.returns-then-is_alone
unfolding numeral
returns-then-is_alone c = sym (number_nought c.args.text.now c.if-is_alone.true c.if-text-eq48.true)

pub returns-else-is_alone : goal.returns-else-is_alone
unfolding numeral
returns-else-is_alone c = sym (number_zero c.args.text.now c.if-is_alone.false c.if-text-eq48.true)

pub returns-then-not-is_ascii_digit : goal.returns-then-not-is_ascii_digit
unfolding numeral is_digit
returns-then-not-is_ascii_digit c =
    let text = c.args.text.now in
    let all = number_on text (grind (arith, nat_tests)) c.if-text-gt4.false c.if-text-eq48.false in
    sym (all ∙ sym c.loop-b.invariant.0 ∙ digit_stop text c.loop-b.b-index c.loop-b.n c.loop-b-test.true (search rules))

pub loop-b-preserved : goal.loop-b-preserved
unfolding is_digit
loop-b-preserved c =
    let text = c.args.text.now in
    let i = c.loop-b.b-index in
    let run = digit_run text i c.loop-b.n c.loop-b-test.true (search rules) in
    (rw (c.from.ensures) (sym run ∙ c.loop-b.invariant.0), omega (arith, pow-add 10 i 1, digit_high (get_or text i 0) (search rules)))

pub returns : goal.returns
unfolding numeral
returns c =
    let text = c.args.text.now in
    let all = number_on text (grind (arith, nat_tests)) c.if-text-gt4.false c.if-text-eq48.false in
    sym (all ∙ sym c.loop-b.invariant.0 ∙ digit_end text c.loop-b.b-index c.loop-b.n c.loop-b-test.false)
