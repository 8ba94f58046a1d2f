-- What the function behind the mapping call does.
pub mod SamplesWritten
