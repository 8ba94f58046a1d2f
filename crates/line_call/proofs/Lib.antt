pub mod Answers
pub mod ServedLine
