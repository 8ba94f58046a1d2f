pub mod PartReading
