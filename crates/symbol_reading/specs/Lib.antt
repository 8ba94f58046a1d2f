-- What reading symbols needs and does.
pub mod PartsRead
