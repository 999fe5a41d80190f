-- Where an accepted file's tree comes from: the expression of its last line, with the names that the lines before it declare.
use Rattle.std.specs.Prelude.{◌≡◌, List, [], ◌∷◌, ◌++◌, ℕ}
use Rattle.std.proofs.Math.Option.{some}
use Rattle.algebra.specs.Algebra.{Tree}
use Rattle.algebra.specs.Policy.{Scope}
use Rattle.grammar.specs.Expression.{Exp, text_e, WellFormed}
use Rattle.grammar.specs.Tree.{tree_of}
use Rattle.reader.specs.Line.{expression_line, parse}
use Rattle.reader.specs.Declarations.{Declared}
use Rattle.reader.specs.Expression.{lookup}
use Rattle.reader.specs.Reached.{declares}

-- t is the tree of the expression that ends the lines ls, where d is declared already
pub record Origin (d : Declared) (ls : List (List ℕ)) (t : Tree Scope) : Type 0 where
  pub before : List (List ℕ)
  pub last : List ℕ
  pub is_last : ls ≡ before ++ (last ∷ [])
  pub limit : ℕ
  pub expression : Exp
  pub well_formed : WellFormed expression
  pub parsed : parse last ≡ some (expression_line limit (text_e expression))
  pub is_tree : t ≡ tree_of (lookup (declares d before)) expression
