-- Laws that belong to no one function.
pub mod Rules
pub mod Between
