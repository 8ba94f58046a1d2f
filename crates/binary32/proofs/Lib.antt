pub mod Comparing
pub mod Dividing
pub mod Edges
pub mod Range
pub mod Rounding
pub mod SoftValues
pub mod Summing
