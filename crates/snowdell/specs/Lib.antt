pub mod Returned
pub mod Promised
