-- How far a file is read: a line, what the lines before it declare, and that the reading comes to it.
use Rattle.std.specs.Prelude.{◌≡◌, true, false, List, [], ◌∷◌, ℕ, ◌-◌, ◌≤◌, ◌<◌, length, get_or, take}
use Rattle.std.proofs.Math.Option.{some}
use Rattle.reader.specs.Text.{lines}
use Rattle.reader.specs.Line.{expression_line, parse}
use Rattle.reader.specs.Declarations.{Declared, start}
use Rattle.reader.specs.Rows.{Verdict, good, out_of_order, bad_counts, too_many}
use Rattle.reader.specs.File.{judge, after, is_file_lem}

-- line n of a file, from 1
unfoldable pub line_at : List ℕ → ℕ → List ℕ
line_at f n = get_or (lines f) (n - 1) []

-- what lines declare, one after the other, where d is declared already
unfoldable pub declares : Declared → List (List ℕ) → Declared
declares d [] = d
declares d (l ∷ ls) = declares (after d (parse l)) ls

-- what the lines before line n declare
unfoldable pub declared_before : List ℕ → ℕ → Declared
declared_before f n = declares start (take (n - 1) (lines f))

-- rows 3 to 14 and 16 on line n
unfoldable pub verdict : List ℕ → ℕ → Verdict
verdict f n = judge (declared_before f n) (parse (line_at f n))

-- the reading comes to line n: row 2 is not met, and every line before it is good
pub record Reached (f : List ℕ) (n : ℕ) : Type 0 where
  pub is_file_fact : is_file_lem f ≡ true
  pub is_line : (1 ≤ n) × (n ≤ length (lines f))
  pub good_before : (i : ℕ) → 1 ≤ i → i < n → verdict f i ≡ good

-- and the E line is reached: it is line n and its expression's text is t; of the rows before 12 it could meet 4, 8 and 7, and does not
pub record AtExpression (f : List ℕ) (n : ℕ) (t : List ℕ) : Type 0 where
  pub reached : Reached f n
  pub limit : ℕ
  pub is_expression : parse (line_at f n) ≡ some (expression_line limit t)
  pub row_4 : out_of_order (declared_before f n) (expression_line limit t) ≡ false
  pub row_8 : bad_counts (declared_before f n) (expression_line limit t) ≡ false
  pub row_7 : too_many (declared_before f n) (expression_line limit t) ≡ false
