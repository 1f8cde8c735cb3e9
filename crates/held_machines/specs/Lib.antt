pub mod Replay
pub mod StoredState
pub mod HeldValue
