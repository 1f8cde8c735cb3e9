pub mod Unchanged
mod PoolLines
mod ShareSums
mod Rows
mod Pairs
mod EventsSeen
mod EventLists
mod Runs
mod EventQueues
mod JobsFound
mod ReplayLines
mod WaitsShown
mod Witnesses
mod JsonLists
mod JsonObjects
mod StoryTurns
mod StoryState
mod CompactText
