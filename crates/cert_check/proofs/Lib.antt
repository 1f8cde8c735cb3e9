pub mod Pools
pub mod AppendedTexts
pub mod Conditions
pub mod Yes
pub mod Standing
pub mod WorkedPlans
pub mod WorkedVerdicts
