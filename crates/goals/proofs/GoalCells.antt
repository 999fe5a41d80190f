-- The numbers in a good goal's nodes are in the ranges that a run asks for, and so are those of the tables that its tree uses.
use Rattle.std.proofs.Common.{◌∙◌, List, ℕ, ◌<◌, get_or, arith}
use Rattle.short_list.specs.ShortList.{how_many}
use Rattle.algebra.specs.Algebra.{Uses}
use Rattle.algebra.specs.Meant.{sort_meant}
use Rattle.algebra.specs.declared.Scope.TheVariants.{Compared, Marked}
use Rattle.grammar.specs.Names.{Kind, table, member, predicate}
use Rattle.grammar.specs.Tree.{tree_of}
use Rattle.names.specs.Looks.{NamesOfFile}
use Rattle.names.proofs.Bounds.{many_of, looked_lt}
use Rattle.nodes.specs.declared.Node.{Node}
use Rattle.nodes.specs.declared.Node.TheVariants.{Table, Join, Override, Scope, Closure, Template}
use Rattle.words.specs.Cells.{NumberOf, NodeWithin}
use Rattle.words.specs.declared.Nodes.{Nodes}
use Rattle.reader.specs.Declarations.{Declared}
use Rattle.reader.specs.Expression.{lookup}
use Rattle.state.specs.NameTables.{NamesHeld}
use Rattle.state.specs.Standing.{StateOfFile, Stands}
use Rattle.state.proofs.NameTables.{lookup_is}
use Rattle.goals.specs.Goals.{GoalGood, NodeFits}

module _ (names : NamesOfFile) (d : Declared) (N : NamesHeld names d) where
  -- a name's number is below the count of its kind
  number_lt : (k : Kind) (i : ℕ) → NumberOf (lookup d) k i → i < many_of names k
  number_lt k i x = looked_lt names k x.0 (lookup_is names d N k x.0 ∙ x.1)

  within_fits : (x : Node) → NodeWithin (lookup d) x → NodeFits names x
  unfolding NodeWithin NodeFits
  within_fits (Table i) h = tt
  within_fits (Join j) h = tt
  within_fits Override h = tt
  within_fits (Scope (Compared s op m)) h = number_lt (member (sort_meant s)) m h
  within_fits (Scope (Marked s p)) h = let l = number_lt (predicate (sort_meant s)) p h in omega (arith, names.few_predicates)
  within_fits (Closure i) h = tt
  within_fits Template h = tt

module _ (w : List ℕ) (st : StateOfFile) (d : Declared) (limit : ℕ) (t : List ℕ) (p : Nodes) (G : GoalGood d limit t p) where
  pub goal_cells : Stands w st d → (j : ℕ) → j < how_many p.nodes → NodeFits st.names (get_or p.nodes.items j Template)
  goal_cells S j l = within_fits st.names d S.names _ (G.within j l)

  pub goal_tables : Stands w st d → (i : ℕ) → Uses (tree_of (lookup d) G.expression) i → i < how_many st.names.tables
  goal_tables S i u = number_lt st.names d S.names table i (G.tables i u)
