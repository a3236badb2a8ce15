pub mod Related
pub mod Steady
pub mod Forms
pub mod Ticks
pub mod TickLaws
pub mod Fuel
pub mod SameKey
pub mod LookUps
pub mod Dispatch
pub mod Equations
pub mod Trees
pub mod Samples
mod ReleaseExamples
mod ClientExamples
mod ClassExamples
mod PlaceExamples
mod ConformanceExamples
mod WholeExample
