pub mod Cases
pub mod Cellular
pub mod Weighted
