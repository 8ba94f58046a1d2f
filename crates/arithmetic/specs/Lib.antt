-- What the crates above define their terms by. Each file is one concept, with no lemma in it.
pub mod Rounding
pub mod Least
pub mod Lists
pub mod Tests
