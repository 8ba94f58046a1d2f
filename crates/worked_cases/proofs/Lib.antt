pub mod Cases
pub mod GainZero
pub mod Cellular
pub mod Weighted
