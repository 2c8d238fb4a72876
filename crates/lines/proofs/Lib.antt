pub mod Decimal
pub mod Rooms
pub mod Writing
pub mod Refusals
pub mod Steps
pub mod Pieces
pub mod Examples
