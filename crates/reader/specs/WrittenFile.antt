-- A file with templates of its expression written out and nothing else altered.
use Rattle.std.specs.Prelude.{◌≡◌, List, ◌∷◌, ℕ}
use Rattle.std.proofs.Math.Option.{some}
use Rattle.grammar.specs.Expression.{Exp, text_e, WellFormed}
use Rattle.grammar.specs.WrittenOut.{WrittenE}
use Rattle.reader.specs.Text.{lines}
use Rattle.reader.specs.Line.{expression_line, parse}

-- the lines of the one file and of the other: an E line's expression differs, its limit does not
pub data WrittenLines : List (List ℕ) → List (List ℕ) → Type 0 where
  same : {ls ls' : List (List ℕ)} {l : List ℕ} → WrittenLines ls ls' → WrittenLines (l ∷ ls) (l ∷ ls')
  written : {ls : List (List ℕ)} {l l' : List ℕ} (n : ℕ) (e e' : Exp) → WellFormed e → parse l ≡ some (expression_line n (text_e e))
      → WellFormed e' → parse l' ≡ some (expression_line n (text_e e')) → WrittenE e e' → WrittenLines (l ∷ ls) (l' ∷ ls)

unfoldable pub WrittenFile : List ℕ → List ℕ → Type 0
WrittenFile f f' = WrittenLines (lines f) (lines f')
