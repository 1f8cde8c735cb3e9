pub mod Rising
pub mod PermanentSets
pub mod Witness
pub mod ReplayResult
pub mod NoThreadStarts
pub mod Confirmed
pub mod EventLines
pub mod Rejection
