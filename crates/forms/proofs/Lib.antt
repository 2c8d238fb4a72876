pub mod Entry
pub mod Labels
pub mod Field22
pub mod Faults
pub mod Index
pub mod Forms
pub mod Meaning
