pub mod PhaseCosts
