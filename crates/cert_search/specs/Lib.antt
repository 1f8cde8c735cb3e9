pub mod Board
pub mod Results
