pub mod Bodies
pub mod BuildLaws
pub mod DistinctNames
pub mod Loops
pub mod Passing
