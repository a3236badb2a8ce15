pub mod DifferentSymbols
mod SymbolExamples
mod LoadExamples
mod LayoutExamples
