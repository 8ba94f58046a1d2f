-- What the checks of all symbols at once count. The checks and their order stand in the crate frame (specs/Checks, FrameCall and Mapping).
pub mod OutsideCount
