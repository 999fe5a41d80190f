-- The ways through the reader of a whole text. Assumes nothing.
use Rattle.std.proofs.Common.{◌≡◌, refl, sym, ap, subst, ◌∙◌, cond, List, [], Result, Ok, Err, ℕ, ◌≤◌, ◌<◌, eqb, length, drop, length-drop, arith}
use Rattle.std.specs.Borrow.{Bor}
use Rattle.std.proofs.Math.Option.{Option, none}
use Rattle.grammar.specs.Expression.{Exp, most_open}
use Rattle.grammar.specs.Machine.{start, join, State, need, have, closed, parted, binding, delimited, stuck, last, finish, step, run, Reading, read}
use Rattle.grammar.specs.Machine.{wrong, told}
use Rattle.grammar.specs.Machine.{reading}
use Rattle.grammar.specs.Names.{Kind}
use Rattle.words.specs.Cells.{Yields}
use Rattle.words.specs.Contract.{innermost_first, ReadsExpression, ExpressionAt, Told, Answer}
use Rattle.words.specs.declared.Nodes.{Nodes}
use Rattle.grammar.proofs.Machine.{reading_is, run_end, run_stop}
use Rattle.expressions.proofs.ReaderWays.{cond_same, delims}
use Rattle.expressions.proofs.Emits.{Empty, yields}

-- where no name is bound
pub none_bound : (number : Kind → List ℕ → Option ℕ) (t : List ℕ) (p q : Nodes) (r : Result ℕ ℕ) {bs : List (Bor (List ℕ))} → bs ≡ []
    → ExpressionAt number (innermost_first bs) t 0 32 p q r → ExpressionAt number [] t 0 32 p q r
none_bound number t p q r e x = subst (λ xs. ExpressionAt number (innermost_first xs) t 0 32 p q r) e x

top_none : (a : ℕ) (e : Exp) (b : ℕ) → delimited a [] e b ≡ none
unfolding delimited closed parted
top_none a e b = ap (λ (o : Option State). cond (eqb b 41) none o) (cond_same (eqb b 44)) ∙ cond_same (eqb b 41)

module _ (number : Kind → List ℕ → Option ℕ) (t : List ℕ) (p q : Nodes) where
  told_stuck : (n : ℕ) → n ≤ length t → run t (need most_open [] start) ≡ stuck (drop n t) → Answer number t (Err n)
  unfolding Told told
  told_stuck n h e =
      let x : reading t ≡ wrong n = reading_is t ∙ ap (told t) e ∙ ap wrong (omega (arith, length-drop n t)) in
      subst (λ (v : Reading). Told number t v (Err n)) (sym x) refl

  pub r_bad : (n : ℕ) → ExpressionAt number [] t 0 32 p q (Err n) → Answer number t (Err n)
  unfolding ExpressionAt binding
  r_bad n s = told_stuck _ s.within (s.stops [] (λ b c a. refl))

  module _ (n : ℕ) (x : ExpressionAt number [] t 0 32 p q (Ok n)) where
    the_expression : ReadsExpression number [] t 0 32 n p q
    unfolding ExpressionAt
    the_expression = x

    pub r_rest : n < length t → Answer number t (Err n)
    unfolding step
    r_rest ne =
        let g = the_expression in
        told_stuck n g.within (g.reads [] ∙ run_stop t n (have 32 [] g.left g.end) (omega (arith, g.within))
        (delims 32 [] _ _ _ g.no_suffix g.no_sign ∙ top_none 32 _ _))

    pub r_whole : Empty p → n ≡ length t → Answer number t (Ok q)
    unfolding Told told finish last
    r_whole z h =
        let g = the_expression in
        let y : reading t ≡ read (join g.left g.end) = reading_is t ∙ ap (told t) (g.reads [] ∙ run_end t n _ (omega arith)) in
        let w = yields number (join g.left g.end) p z in
        subst (λ (v : Reading). Told number t v (Ok q)) (sym y) (subst (Yields number (join g.left g.end)) (sym g.emits) w)
