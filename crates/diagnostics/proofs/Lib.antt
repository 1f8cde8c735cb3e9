mod AtCore
mod EntryPlaces
mod InOrder
mod Lines
mod PrintedLines
mod Single
