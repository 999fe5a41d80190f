-- An accepted file's tree is that of the expression of its E line, which is its last.
use mathlib.Core.Path.{◌≡◌, refl, sym, ap, ◌∙◌}
use mathlib.Core.List.{List, [], ◌∷◌}
use mathlib.Core.Option.{none, some}
use Prim.Native.Nat.{ℕ, suc}
use native.Mathlib.Omega.{arith}
use Rattle.grammar.specs.Expression.{Exp}
use Rattle.grammar.specs.Machine.{Reading, read, wrong, reading}
use Rattle.grammar.specs.Tree.{tree_of}
use Rattle.grammar.proofs.Reading.{readings_are_trees}
use Rattle.reader.specs.Text.{lines}
use Rattle.reader.specs.Line.{Line, member_line, predicate_line, table_line_lem, grant_line, rule_line, body_line, expression_line, parse}
use Rattle.reader.specs.Declarations.{Declared, start}
use Rattle.reader.specs.Expression.{lookup}
use Rattle.reader.specs.File.{Accepted, accepted, goal_of, add, frame_of, policy_of, ended, after, read_lines, read_file}
use Rattle.reader.specs.Reached.{declares}
use Rattle.reader.specs.Origin.{Origin}
use Rattle.reader.proofs.Rows.{good_line, accepted_lines}
use Rattle.reader.proofs.OnExpression.{no_line_after}

-- ---- the E line of what is accepted: no line follows, its text is read, and that is the tree

pub record AtEnd (d : Declared) (k : ℕ) (t : List ℕ) (ls : List (List ℕ)) (a : Accepted) : Type 0 where
  pub is_last : ls ≡ []
  pub expression : Exp
  pub is_read : reading t ≡ read expression
  pub gives : record { members = d.members; policy = policy_of d (record { limit = k; tree = tree_of (lookup d) expression }) } ≡ a

pub at_end_lem : (n : ℕ) (d : Declared) (k : ℕ) (t : List ℕ) (ls : List (List ℕ)) (a : Accepted) → read_lines n (add d (expression_line k t)) ls ≡ accepted a
    → AtEnd d k t ls a
unfolding read_lines add ended policy_of frame_of goal_of
at_end_lem n d k t [] a r = go (reading t) refl r
  where
    go : (o : Reading) → reading t ≡ o → ended (add d (expression_line k t)) (goal_of d k o) ≡ accepted a → AtEnd d k t [] a
    go (read e) q r = record { is_last = refl; expression = e; is_read = q; gives = cc }
    go (wrong p) q r = absurd (let z : ◌≡◌ {A = ℕ} 0 1 = cc in omega arith)
at_end_lem n d k t (l ∷ ls) a r = absurd (no_line_after _ _ refl (good_line n _ l ls a r).is_good.row_4)

-- ---- the lines

from_last : (n : ℕ) (d : Declared) (l : List ℕ) (k : ℕ) (t : List ℕ) (ls : List (List ℕ)) (a : Accepted) → parse l ≡ some (expression_line k t)
    → read_lines n (add d (expression_line k t)) ls ≡ accepted a → Origin d (l ∷ ls) a.policy.tree
unfolding declares policy_of
from_last n d l k t ls a p r =
    let w = at_end_lem n d k t ls a r in
    let x = readings_are_trees t w.expression w.is_read in
    record {
      before = [];
      last = l;
      is_last = ap (λ (m : List (List ℕ)). l ∷ m) w.is_last;
      limit = k;
      expression = w.expression;
      well_formed = x.1;
      parsed = p ∙ ap (λ (u : List ℕ). some (expression_line k u)) (sym x.0);
      is_tree = ap (λ (b : Accepted). b.policy.tree) (sym w.gives);
    }

from_next : (d : Declared) (l : List ℕ) (x : Line) (ls : List (List ℕ)) (a : Accepted) → parse l ≡ some x → Origin (add d x) ls a.policy.tree
    → Origin d (l ∷ ls) a.policy.tree
unfolding declares after
from_next d l x ls a p o = record {
  before = l ∷ o.before;
  last = o.last;
  is_last = ap (λ (m : List (List ℕ)). l ∷ m) o.is_last;
  limit = o.limit;
  expression = o.expression;
  well_formed = o.well_formed;
  parsed = o.parsed;
  is_tree = rw p o.is_tree;
}

from_lines : (ls : List (List ℕ)) (n : ℕ) (d : Declared) (a : Accepted) → d.goal ≡ none → read_lines n d ls ≡ accepted a → Origin d ls a.policy.tree
unfolding read_lines ended add
from_lines [] n d a h e = absurd (let z : ◌≡◌ {A = ℕ} 0 1 = cc in omega arith)
from_lines (l ∷ ls) n d a h e = let g = good_line n d l ls a e in go g.line g.parsed (from_lines ls (suc n) (add d g.line) a) g.rest
  where
    go : (x : Line) → parse l ≡ some x → ((add d x).goal ≡ none → read_lines (suc n) (add d x) ls ≡ accepted a → Origin (add d x) ls a.policy.tree)
        → read_lines (suc n) (add d x) ls ≡ accepted a → Origin d (l ∷ ls) a.policy.tree
    go (member_line σ k m) p rest r = from_next d l _ ls a p (rest h r)
    go (predicate_line σ k m) p rest r = from_next d l _ ls a p (rest h r)
    go (table_line_lem t b) p rest r = from_next d l _ ls a p (rest h r)
    go (grant_line t s o b) p rest r = from_next d l _ ls a p (rest h r)
    go (rule_line t s o b) p rest r = from_next d l _ ls a p (rest h r)
    go (body_line b) p rest r = from_next d l _ ls a p (rest h r)
    go (expression_line k t) p rest r = from_last (suc n) d l k t ls a p r

pub origin : (f : List ℕ) (a : Accepted) → read_file f ≡ accepted a → Origin start (lines f) a.policy.tree
unfolding start
origin f a e = from_lines (lines f) 1 start a refl (accepted_lines f a e)
