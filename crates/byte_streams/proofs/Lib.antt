pub mod KnownBytes
pub mod Walks
