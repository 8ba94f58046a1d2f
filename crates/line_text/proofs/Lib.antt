pub mod AnswerText
pub mod LineChecks
pub mod PrintedAnswer
pub mod PrintedLine
