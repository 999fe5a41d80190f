-- The laws behind the proofs.
pub mod Checks
pub mod Promises
