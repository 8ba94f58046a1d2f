pub mod Conversion
pub mod Scaling
pub mod SoftFloat
