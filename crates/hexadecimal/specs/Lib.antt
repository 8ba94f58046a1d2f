-- Hexadecimal text (REQUIREMENTS, "Lines"): digits, fields of unsigned numbers, and two's complement. Each file is one concept, with no lemma in it.
pub mod Digits
pub mod TwosComplement
