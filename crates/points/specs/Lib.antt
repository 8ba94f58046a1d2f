-- What the functions about labels read.
pub mod LabelWithin
