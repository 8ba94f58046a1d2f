-- Mapping, then reading.
pub mod Echo
