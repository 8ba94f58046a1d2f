pub mod Blocks
pub mod Digits
pub mod Fields
pub mod Signs
