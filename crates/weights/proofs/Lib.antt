pub mod FirstFailing
pub mod Walks
pub mod Fitting
pub mod Loops
pub mod RanksFitting
