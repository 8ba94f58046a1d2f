pub mod SymbolsReady
