pub mod Dates
pub mod Pieces
pub mod Walk
pub mod Writing
pub mod Items
pub mod Contents
pub mod With
pub mod Bytes
