-- The laws behind the proofs: the verdict on an E line, what is declared after it, and the nodes of its expression.
pub mod Goals
pub mod GoalCells
