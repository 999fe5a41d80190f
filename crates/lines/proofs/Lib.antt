pub mod Names
pub mod Cuts
pub mod Words
pub mod Forms
