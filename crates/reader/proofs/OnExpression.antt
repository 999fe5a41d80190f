-- Rows 12 and 13 are met where the reading has come to the E line, and nowhere else; there is one such line.
use mathlib.Core.Path.{◌≡◌, refl, sym, ap, ◌∙◌, subst}
use mathlib.Core.Bool.{true, false, or-true, false≢true}
use mathlib.Core.List.{List}
use mathlib.Core.Option.{Option, none, some}
use Prim.Native.Nat.{ℕ, suc, ◌≤◌, ◌<◌}
use native.Mathlib.Omega.{arith}
use Rattle.grammar.specs.Expression.{Exp}
use Rattle.grammar.specs.Machine.{read, wrong, reading}
use Rattle.grammar.specs.Names.{missing}
use Rattle.reader.specs.Line.{Line, member_line, predicate_line, table_line_lem, grant_line, rule_line, body_line, expression_line, parse}
use Rattle.reader.specs.Declarations.{Declared}
use Rattle.reader.specs.Expression.{is_declared}
use Rattle.reader.specs.Rows.{row, placeless, good, refuse, first, rows, out_of_order, bad_counts, too_many, declared_already, not_declared, grants_away}
use Rattle.reader.specs.Rows.{two_sorts, not_of_grammar, name_not_declared, expression_rows}
use Rattle.reader.specs.File.{refused, judge, after, add, read_file}
use Rattle.reader.specs.Reached.{line_at, declared_before, verdict, Reached, AtExpression}
use Rattle.reader.proofs.Rows.{past_seven, not_empty, good_rows}
use Rattle.reader.proofs.Refusals.{refused_at, reached_refused, before_next}

-- ---- from a refusal to the E line

-- a line that meets row 12 or one after it is an E line
record IsExpression (l : Line) : Type 0 where
  limit : ℕ
  expression : List ℕ
  is_expression : l ≡ expression_line limit expression

late_line : (d : Declared) (l : Line) (k p : ℕ) → first (expression_rows d l) ≡ refuse k p → IsExpression l
unfolding expression_rows
late_line d (member_line σ n q) k p e = absurd (not_empty k p e)
late_line d (predicate_line σ n m) k p e = absurd (not_empty k p e)
late_line d (table_line_lem t h) k p e = absurd (not_empty k p e)
late_line d (grant_line t s o a) k p e = absurd (not_empty k p e)
late_line d (rule_line r s o a) k p e = absurd (not_empty k p e)
late_line d (body_line b) k p e = absurd (not_empty k p e)
late_line d (expression_line n t) k p e = record { limit = n; expression = t; is_expression = refl }

-- the E line, and what its rows say
pub record RefusedExpression (f : List ℕ) (l k p : ℕ) : Type 0 where
  pub expression : List ℕ
  pub at : AtExpression f l expression
  pub is_refused : first (rows (declared_before f l) (expression_line at.limit expression)) ≡ refuse k p

refused_line : (f : List ℕ) (k l p : ℕ) → 12 ≤ k → Reached f l → (o : Option Line) → parse (line_at f l) ≡ o → judge (declared_before f l) o ≡ refuse k p
    → RefusedExpression f l k p
unfolding judge
refused_line f k l p h r none q e = absurd (let y : 3 ≡ k = cc in omega arith)
refused_line f k l p h r (some x) q e =
    let w = late_line (declared_before f l) x k p (past_seven _ x k p h e).3 in
    let z = subst (λ (y : Line). first (rows (declared_before f l) y) ≡ refuse k p) w.is_expression e in
    let v = past_seven _ _ k p h z in
    record {
      expression = w.expression;
      at = record { reached = r; limit = w.limit; is_expression = q ∙ ap some w.is_expression; row_4 = v.0; row_8 = v.1; row_7 = v.2 };
      is_refused = z;
    }

pub refused_expression : (f : List ℕ) (k l p : ℕ) → 12 ≤ k → read_file f ≡ refused k l p → RefusedExpression f l k p
unfolding verdict
refused_expression f k l p h e =
    let r = refused_at f k l p (λ z. omega arith) (λ z. omega arith) e in
    refused_line f k l p h r.0 (parse (line_at f l)) refl r.1

-- ---- from the E line to a refusal

-- it meets none of the rows before 12
past_eleven : (d : Declared) (n : ℕ) (t : List ℕ) → out_of_order d (expression_line n t) ≡ false → bad_counts d (expression_line n t) ≡ false
    → too_many d (expression_line n t) ≡ false → first (rows d (expression_line n t)) ≡ first (expression_rows d (expression_line n t))
unfolding rows row first placeless declared_already not_declared grants_away two_sorts
past_eleven d n t p4 p8 p7 = rw (p4, p8, p7)

module _ (f : List ℕ) (n : ℕ) (t : List ℕ) (w : AtExpression f n t) where
  expression_refused : (k p : ℕ) → first (expression_rows (declared_before f n) (expression_line w.limit t)) ≡ refuse k p → read_file f ≡ refused k n p
  unfolding verdict judge
  expression_refused k p e =
      reached_refused f k n p w.reached
      (ap (judge (declared_before f n)) w.is_expression ∙ past_eleven _ w.limit t w.row_4 w.row_8 w.row_7 ∙ e)

  pub wrong_refused : (p : ℕ) → reading t ≡ wrong p → read_file f ≡ refused 12 n p
  unfolding expression_rows row first not_of_grammar
  wrong_refused p e = expression_refused 12 p (rw e)

  pub missing_refused : (e : Exp) (p : ℕ) → reading t ≡ read e → missing (is_declared (declared_before f n)) e ≡ some p → read_file f ≡ refused 13 n p
  unfolding expression_rows row first not_of_grammar name_not_declared
  missing_refused e p q h = expression_refused 13 p (rw (q, h))

-- ---- the E line is one

-- "a line after E": no line is in order there
pub no_line_after : (d : Declared) (l : Line) → d.group ≡ 7 → ¬ (out_of_order d l ≡ false)
unfolding out_of_order
no_line_after d l e h =
    let z : out_of_order d l ≡ true = simp (e, or-true) in
    false≢true (sym h ∙ z)

none_good_after : (d : Declared) (o : Option Line) → d.group ≡ 7 → ¬ (judge d o ≡ good)
unfolding judge
none_good_after d none e h = absurd (let z : ◌≡◌ {A = ℕ} 0 1 = cc in omega arith)
none_good_after d (some l) e h = no_line_after d l e (good_rows d l h).row_4

module _ (f : List ℕ) (n m : ℕ) (t u : List ℕ) (w : AtExpression f n t) (v : AtExpression f m u) where
  group_after : (declared_before f (suc n)).group ≡ 7
  unfolding after add
  group_after =
      ap (λ (d : Declared). d.group) (before_next f n w.reached.is_line.0 w.reached.is_line.1)
      ∙ ap (λ (o : Option Line). (after (declared_before f n) o).group) w.is_expression

  not_before : ¬ (n < m)
  unfolding verdict
  not_before h =
      let a : ¬ (suc n < m) = λ g. none_good_after _ (parse (line_at f (suc n))) group_after (v.reached.good_before (suc n) (omega arith) g) in
      let b : ¬ (suc n ≡ m) = λ g. no_line_after _ _ (subst (λ (j : ℕ). (declared_before f j).group ≡ 7) g group_after) v.row_4 in
      absurd (omega arith)

pub one_expression : (f : List ℕ) (n m : ℕ) (t u : List ℕ) → AtExpression f n t → AtExpression f m u → (n ≡ m) × (t ≡ u)
one_expression f n m t u w v =
    let a = not_before f n m t u w v in
    let b = not_before f m n u t v w in
    let e : n ≡ m = omega arith in
    let q = ap (λ (j : ℕ). parse (line_at f j)) e in
    let p = w.is_expression in
    let r = v.is_expression in
    (e, cc)
