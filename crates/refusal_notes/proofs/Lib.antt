pub mod CollectedNotes
pub mod WorkedLines
pub mod Explaining
