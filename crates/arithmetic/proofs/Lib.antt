pub mod Integers
pub mod Lists
pub mod Spread
pub mod Least
pub mod Tests
pub mod Ranges
pub mod Rounding
pub mod Signed
