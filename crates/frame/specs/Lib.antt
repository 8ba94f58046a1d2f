-- REQUIREMENTS, "Frames", "Words", "Refusals" and demands 1 to 3, for whole frames. Each file is one concept, with no lemma in it.
pub mod Answers
pub mod Checks
pub mod Demand3
pub mod Frame
pub mod FrameCall
pub mod Limits
pub mod Mapping
pub mod Points
pub mod Promise
pub mod Refusals
pub mod Sent
pub mod Verdicts
pub mod Words
