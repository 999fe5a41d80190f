-- What the contracts of the reader's methods say.
pub mod Reads
