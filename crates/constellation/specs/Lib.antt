-- REQUIREMENTS, "Points and labels", "Cost of a point" and the rival index of "Probes": numbers and formulas, the parts of a symbol that are built of them,
-- and what each modulation is. Each file is one concept, with no lemma in it.
pub mod Ranges
pub mod Gray
pub mod Levels
pub mod Heights
pub mod Psk
pub mod Counter
pub mod Parts
pub mod Nearest
pub mod Shown
pub mod Schemes
