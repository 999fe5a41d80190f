-- The laws behind the proofs.
pub mod Composing
