-- REQUIREMENTS, "Probes" and "Soft values", for one part of a symbol.
pub mod Probes
pub mod Soft
pub mod Reading
pub mod Rounding
pub mod Lent
