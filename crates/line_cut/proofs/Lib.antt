pub mod Cutting
pub mod Pending
