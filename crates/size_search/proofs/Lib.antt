pub mod Growth
pub mod Following
pub mod GraphDepths
mod Sums
mod Opened
mod Balance
mod Depths
mod SteadyRows
mod Steadiness
mod Holding
mod Computations
mod WaitLevels
mod ZeroVectors
mod Fitting
mod RowSteps
pub mod Accepting
pub mod JobGraphs
pub mod Waits
pub mod Nothing
pub mod Shapes
pub mod Numbered
pub mod TotalRows
pub mod Changes
pub mod RaisedPlans
pub mod LeastSizes
pub mod SmallestPlans
pub mod LeastMaxes
pub mod FitErrors
pub mod ReportedCores
pub mod TotalBounds
pub mod Loops
pub mod WorkedFits
mod Circles
mod Losses
mod Repeats
mod LastThreads
pub mod BeyondSizes
pub mod SizesExist
pub mod SteadyRoom
pub mod WithoutPools
pub mod Caused
pub mod Sizings
pub mod Deciding
pub mod Tight
