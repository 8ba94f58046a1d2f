-- What the functions that give the costs of a phase need and do.
pub mod PhaseCosts
