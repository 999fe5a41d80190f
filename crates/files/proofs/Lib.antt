-- The law behind the proof of `read_text`.
pub mod Taken
