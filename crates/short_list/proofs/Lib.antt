-- Laws of short lists.
pub mod Places
