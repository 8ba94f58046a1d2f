-- How many digits a soft value is written with.
pub mod Width
