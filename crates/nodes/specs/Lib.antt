-- The definitions that the contracts cite: what the nodes of a slice mean.
pub mod Cells
