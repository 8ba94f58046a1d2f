pub mod Difference
pub mod Probes
pub mod Soft
pub mod GainZero
pub mod Complement
