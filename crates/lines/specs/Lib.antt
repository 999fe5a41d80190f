pub mod Fields
pub mod Parsed
