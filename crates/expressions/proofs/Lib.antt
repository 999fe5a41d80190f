-- The ways through the code, and in Emits what the nodes of a reading say.
mod SuffixWays
mod ReaderWays
pub mod Emits
mod Whole
mod Goes
