pub mod SymbolChecks
