pub mod Answers
pub mod Capture
pub mod Converting
pub mod Samples
pub mod SoftOut
