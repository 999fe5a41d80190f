-- `scopes::is_so` meets its contract: each comparison by its own law.
use Rattle.algebra.specs.Order.{compares}
use Rattle.scopes.proofs.Scopes.{so_at_most, so_at_least, so_below, so_above}
use Rattle.scopes.proofs.is_so.Goals as goal

pub returns-in-AtMost : goal.returns-in-AtMost
returns-in-AtMost c fr n st l l' = rw c.in-AtMost.is (so_at_most _ fr n st _ _ _ l l' _ (rw c.order_start-order.ensures at c.entry.ensures))

pub returns-in-AtLeast : goal.returns-in-AtLeast
returns-in-AtLeast c fr n st l l' = rw c.in-AtLeast.is (so_at_least _ fr n st _ _ _ l l' _ (rw c.order_start-order.ensures at c.entry-in-AtLeast.ensures))

pub returns-in-Below : goal.returns-in-Below
returns-in-Below c fr n st l l' = rw c.in-Below.is (so_below _ fr n st _ _ _ l l' _ (rw c.order_start-order.ensures at c.entry-in-Below.ensures))

pub returns-in-Above : goal.returns-in-Above
returns-in-Above c fr n st l l' = rw c.in-Above.is (so_above _ fr n st _ _ _ l l' _ (rw c.order_start-order.ensures at c.entry-in-Above.ensures))

pub returns-in-Equal : goal.returns-in-Equal
unfolding compares
returns-in-Equal c fr n st l l' = rw c.in-Equal.is
