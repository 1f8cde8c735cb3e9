mod OwnBody
mod CoveredPaths
pub mod LoopState
pub mod Firsts
pub mod FirstPass
pub mod RoundCounts
pub mod PushedElements
pub mod LabelEntries
pub mod LabelRounds
pub mod Actors
pub mod ValidPools
pub mod NormalPools
