pub mod PhaseReading
