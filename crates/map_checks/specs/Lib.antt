-- What the checks of a message hand back.
pub mod Checked
