use Rattle.std.proofs.Common.{◌≡◌, true, false, Some, None, arith, rules, tests}
use Rattle.std.proofs.lemmas.Iterator.{YieldsList-from_slice, IsFirst-from_position}
use Rattle.grammar.specs.Name.{is_letter_lem, is_name_byte_lem}
use Rattle.words.proofs.Words.{seen, w_in, w_none, w_found}
use Rattle.words.proofs.word.Goals as goal

pub returns-then-not-is_letter : goal.returns-then-not-is_letter
returns-then-not-is_letter c = w_none _ _ (seen is_letter_lem c.peek.ensures c.is_letter.ensures c.if-not-is_letter.true)

pub overflow_add-at : goal.overflow_add-at
overflow_add-at c =
    let h = w_in c.args.t.now c.args.at (seen is_letter_lem c.peek.ensures c.is_letter.ensures c.if-not-is_letter.false) in
    search rules

pub overflow_add-at-2 : goal.overflow_add-at-2
overflow_add-at-2 c =
    let h = w_in c.args.t.now c.args.at (seen is_letter_lem c.peek.ensures c.is_letter.ensures c.if-not-is_letter.false) in
    search rules

pub slice_bounds-iter-count : goal.slice_bounds-iter-count
slice_bounds-iter-count c =
    omega (arith, w_in c.args.t.now c.args.at (seen is_letter_lem c.peek.ensures c.is_letter.ensures c.if-not-is_letter.false))

pub slice_bounds-iter-start : goal.slice_bounds-iter-start
slice_bounds-iter-start c =
    omega (arith, w_in c.args.t.now c.args.at (seen is_letter_lem c.peek.ensures c.is_letter.ensures c.if-not-is_letter.false))

pub returns-in-Some : goal.returns-in-Some
returns-in-Some c =
    w_found c.args.t.now c.args.at (seen is_letter_lem c.peek.ensures c.is_letter.ensures c.if-not-is_letter.false) _ c.min-longest.ensures
    (Some c.in-Some.more)
    (IsFirst-from_position _ _ (Some c.in-Some.more) (λ b. is_name_byte_lem b ≡ false) (λ b. is_name_byte_lem b ≡ true) c.in-Some.ensures.ran
    (YieldsList-from_slice _ c.iter.ensures.rest) (λ x q k. search (rules, tests)) (λ x q k. search (rules, tests)))

pub returns-in-None : goal.returns-in-None
returns-in-None c =
    w_found c.args.t.now c.args.at (seen is_letter_lem c.peek.ensures c.is_letter.ensures c.if-not-is_letter.false) _ c.min-longest.ensures
    None
    (IsFirst-from_position _ _ None (λ b. is_name_byte_lem b ≡ false) (λ b. is_name_byte_lem b ≡ true) c.in-None.ensures.ran
    (YieldsList-from_slice _ c.iter.ensures.rest) (λ x q k. search (rules, tests)) (λ x q k. search (rules, tests)))
