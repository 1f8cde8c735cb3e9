pub mod Plan
pub mod WellFormed
pub mod ValidBody
pub mod GetTable
pub mod Checks
pub mod Build
pub mod FaultText
pub mod Limits
