pub mod PhaseNearest
