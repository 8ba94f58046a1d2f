pub mod AxisNearest
