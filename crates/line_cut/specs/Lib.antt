-- The lines of an input, and what a step of cutting it hands back. Each file is one concept, with no lemma in it.
pub mod Lines
pub mod Cut
