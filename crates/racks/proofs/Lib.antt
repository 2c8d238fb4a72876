pub mod Written
pub mod Racks
pub mod Loops
pub mod Slots
