pub mod Entries
pub mod Labels
