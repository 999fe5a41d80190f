-- The laws behind the proofs of the exports.
pub mod Handing
pub mod Numbers
