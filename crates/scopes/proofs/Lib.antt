-- The laws of the definitions.
pub mod Turns
pub mod Scopes
