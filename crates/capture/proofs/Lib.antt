pub mod Accepted
pub mod CaptureChecks
pub mod Checking
pub mod InRange
