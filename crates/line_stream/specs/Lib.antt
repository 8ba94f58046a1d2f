-- A stream of lines and the answers to it (REQUIREMENTS, "Lines": the program `softlines`). Each file is one concept, with no lemma in it.
pub mod Feeding
pub mod Run
pub mod FoundInside
pub mod Stream
