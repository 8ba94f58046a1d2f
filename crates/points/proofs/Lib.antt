pub mod LabelWithin
