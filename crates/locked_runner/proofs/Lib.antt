pub mod Traces
mod Worlds
mod Owners
mod CarriedPools
mod Prefixes
mod Received
mod Replays
pub mod Histories
mod KindsOfClients
mod CompleteClients
mod Capped
mod Generations
mod Levels
mod ExceededLimits
mod BoundedNumbers
mod Faults
mod Reports
