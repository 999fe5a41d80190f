-- The laws behind the proofs: what a node's number stands for, what a run asks of the parts of a tree, what each kind of node makes of the sets,
-- the whole run, and the table of a frame.
pub mod Ranges
pub mod Named
pub mod Parts
pub mod Runs
pub mod Whole
pub mod Frames
