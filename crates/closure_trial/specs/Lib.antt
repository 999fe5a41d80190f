-- What the contracts of `closure_trial` cite: the counts of the rules that are run, and the state between two rounds.
use Rattle.std.specs.Prelude.{◌≡◌, List, ℕ, get_or}
use Rattle.algebra.specs.Meant.{of_atoms}
use Rattle.algebra.specs.declared.Counts.{Counts}
use Rattle.algebra.specs.declared.Triple.{Triple}
use Rattle.algebra.specs.declared.Atom.{Atom}
use Rattle.algebra.specs.declared.Rule.{Rule}
use Rattle.plans.specs.Rows.{in_set, SetRows}
use Rattle.marking.specs.declared.Board.{Board}
use Rattle.marking.specs.Marking.{bytes}

-- two subjects, two objects and an action
abbrev pub four : Counts
four = record { subjects = 2; objects = 2; actions = 1 }

-- a rule of set 0
abbrev pub of_first_set : Triple → List Atom → Rule
of_first_set head atoms = record { set = 0; head = head; body = of_atoms atoms }

-- the board has these counts and nothing new, and the rows are those of the set
pub record Between (n : Counts) (b : Board) (r : List ℕ) : Type 0 where
  pub counts : b.counts ≡ n
  pub none : (x : ℕ) → get_or (bytes b) x 0 ≡ 3 → ⊥
  pub rows : SetRows n in_set (bytes b) r
