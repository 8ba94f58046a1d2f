-- What the checks of a header hand back.
pub mod Called
