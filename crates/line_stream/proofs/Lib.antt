pub mod Advance
pub mod AnswerLines
pub mod Pieces
pub mod Printed
pub mod Written
