pub mod PoolConditions
pub mod Standing
pub mod Verdict
pub mod Text
pub mod Certified
pub mod Check
pub mod OnThreads
