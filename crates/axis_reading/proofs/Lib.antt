pub mod AxisReading
