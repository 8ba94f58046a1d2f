pub mod SentBits
pub mod PartsReading
