-- What the code's answer on an E line means, in terms of the rows and of what is declared after it.
use Rattle.std.specs.Prelude.{◌≡◌, List, ℕ, ◌≤◌, ◌<◌, get_or, Result, Ok, Err}
use Rattle.algebra.specs.Algebra.{Uses, operators, held, bindings}
use Rattle.algebra.specs.Nodes.{Encodes}
use Rattle.algebra.specs.Meant.{sort_meant}
use Rattle.algebra.specs.declared.Scope.TheVariants.{Compared, Marked}
use Rattle.short_list.specs.ShortList.{how_many}
use Rattle.grammar.specs.Expression.{Exp}
use Rattle.grammar.specs.Machine.{read, reading}
use Rattle.grammar.specs.Names.{table}
use Rattle.grammar.specs.Tree.{tree_of}
use Rattle.names.specs.Looks.{member_count}
use Rattle.nodes.specs.Cells.{label}
use Rattle.words.specs.Cells.{NumberOf, NodeWithin}
use Rattle.nodes.specs.declared.Node.{Node}
use Rattle.nodes.specs.declared.Node.TheVariants.{Table, Join, Override, Scope, Closure, Template}
use Rattle.names.specs.declared.table.Names.{Names}
use Rattle.words.specs.declared.Nodes.{Nodes}
use Rattle.reader.specs.Line.{expression_line}
use Rattle.reader.specs.Declarations.{Declared}
use Rattle.reader.specs.Expression.{lookup}
use Rattle.reader.specs.Rows.{good, refuse, first, rows}
use Rattle.rows.specs.First.{number_of}
use Rattle.state.specs.declared.Group.TheVariants.{Expression}
use Rattle.state.specs.declared.State.{State}
use Rattle.goals.specs.declared.Fault.{Fault}
use Rattle.goals.specs.declared.Goal.{Goal}

-- the nodes are those of the tree of the expression that was read
pub record GoalGood (d : Declared) (limit : ℕ) (t : List ℕ) (p : Nodes) : Type 0 where
  pub expression : Exp
  pub reads : reading t ≡ read expression
  pub tree : Encodes (label p.nodes.items) (tree_of (lookup d) expression) 0 (how_many p.nodes)
  pub few_nodes : how_many p.nodes ≤ 193
  pub within : (j : ℕ) → j < how_many p.nodes → NodeWithin (lookup d) (get_or p.nodes.items j Template)
  pub limited : limit ≤ 4096
  pub few_held : held (tree_of (lookup d) expression) ≤ 14
  pub few_operators : operators (tree_of (lookup d) expression) ≤ 64
  pub few_bindings : bindings (tree_of (lookup d) expression) ≤ 4
  pub tables : (i : ℕ) → Uses (tree_of (lookup d) expression) i → NumberOf (lookup d) table i

-- the number of a scope's node is in its range, for the names
unfoldable pub NodeFits : {A K : ℕ} → Names A K → Node → Type 0
NodeFits names (Table i) = Unit {0}
NodeFits names (Join j) = Unit {0}
NodeFits names Override = Unit {0}
NodeFits names (Scope (Compared s op m)) = m < member_count names (sort_meant s)
NodeFits names (Scope (Marked s p)) = p < 16
NodeFits names (Closure i) = Unit {0}
NodeFits names Template = Unit {0}

-- a goal that no row refuses, with the limit that was written
pub record GoalTaken (d : Declared) (limit : ℕ) (t : List ℕ) (g : Goal) : Type 0 where
  pub verdict : first (rows d (expression_line limit t)) ≡ good
  pub limit_is : g.limit ≡ limit
  pub good_goal : GoalGood d limit t g.nodes

-- a goal, or the first row that is met
unfoldable pub GoalJudged : Declared → ℕ → List ℕ → Result Goal Fault → Type 0
GoalJudged d limit t (Ok g) = GoalTaken d limit t g
GoalJudged d limit t (Err e) = first (rows d (expression_line limit t)) ≡ refuse (number_of e.refusal) e.place

-- the state after an E line
unfoldable pub ended_of : {A K : ℕ} → State A K → State A K
ended_of st = record st { group = Expression }
