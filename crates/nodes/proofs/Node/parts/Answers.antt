-- `nodes::Node::parts` meets its contract.
use borrow.Author.Rules.{rules}
use Rattle.algebra.specs.Nodes.{parts}
use Rattle.nodes.proofs.Node.parts.Goals as goal

pub returns-in-Table-clause-value : goal.returns-in-Table-clause-value
unfolding parts
returns-in-Table-clause-value c = rw c.in-Table.is

pub returns-in-Scope-clause-value : goal.returns-in-Scope-clause-value
unfolding parts
returns-in-Scope-clause-value c = search rules

pub returns-in-Join-clause-value : goal.returns-in-Join-clause-value
unfolding parts
returns-in-Join-clause-value c = search rules

pub returns-in-Override-clause-value : goal.returns-in-Override-clause-value
unfolding parts
returns-in-Override-clause-value c = rw c.in-Override.is
