-- What the line call promises (REQUIREMENTS, "Lines"). Each file is one concept, with no lemma in it.
pub mod Promise
pub mod AnsweredAt
