-- REQUIREMENTS, "Lines", and the refusals of a line: fields, frame, answer and order of checks. Each file is one concept, with no lemma in it.
pub mod Answer
pub mod Line
pub mod LineCall
pub mod Printed
pub mod Shown
pub mod Within
