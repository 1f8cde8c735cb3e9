pub mod Application
pub mod Command
