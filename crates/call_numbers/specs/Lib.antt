-- The numbers that stand for the answers of the frame call, the mapping call and the conversion of a capture.
pub mod Numbers
