pub mod Line
pub mod Explanation
pub mod FailingRows
