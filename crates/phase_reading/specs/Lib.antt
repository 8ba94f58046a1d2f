-- What the functions that read a phase hand to each other.
pub mod PhaseProbes
