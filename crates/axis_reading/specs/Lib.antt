-- What the functions that read an axis are given.
pub mod Turned
