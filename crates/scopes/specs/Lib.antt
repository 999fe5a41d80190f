-- The definitions that the contracts cite: what a scope asks.
pub mod Scopes
