-- What the nodes of a slice mean, and when they are those of a tree.
use Rattle.std.specs.Prelude.{List, ℕ, ◌≤◌, length, get_or}
use Rattle.algebra.specs.Algebra.{Tree}
use Rattle.algebra.specs.Policy as policy
use Rattle.algebra.specs.Meant.{joiner_meant, scope_meant}
use Rattle.algebra.specs.Nodes.{Encodes, table_node, join_node, override_node, scope_node, closure_node, template_node}
use Rattle.algebra.specs.Nodes as meanings
use Rattle.nodes.specs.declared.Node.{Node}
use Rattle.nodes.specs.declared.Node.TheVariants.{Table, Join, Override, Scope, Closure, Template}

abbrev pub node_meant : Node → meanings.Node policy.Scope
node_meant (Table n) = table_node n
node_meant (Join j) = join_node (joiner_meant j)
node_meant Override = override_node
node_meant (Scope c) = scope_node (scope_meant c)
node_meant (Closure set) = closure_node set
node_meant Template = template_node

-- node j of the slice, where it has so many
abbrev pub label : List Node → ℕ → meanings.Node policy.Scope
label nodes j = node_meant (get_or nodes j Template)

-- before `end` stand the nodes of a tree
pub record HasTree (nodes : List Node) (end : ℕ) : Type 0 where
  pub tree : Tree policy.Scope
  pub start : ℕ
  pub coded : Encodes (label nodes) tree start end
  pub few : end ≤ 193
  pub long : end ≤ length nodes
