pub mod Tables
pub mod NamePlaces
pub mod Numbers
pub mod SlotStates
pub mod OnLiterals
mod Samples
pub mod FilledSlots
mod BodyLaws
pub mod Buildable
pub mod SpelledActions
pub mod ReadActions
pub mod Members
pub mod Images
mod SlotNames
mod SpelledBodies
pub mod EffectivePlans
pub mod ReadSizes
mod SpelledEntries
mod SpelledPlan
mod KeyNames
mod JoinedSteps
mod PoolParts
mod NamedPlans
