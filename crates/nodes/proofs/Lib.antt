-- The laws of the nodes of a slice.
pub mod Parts
pub mod Held
