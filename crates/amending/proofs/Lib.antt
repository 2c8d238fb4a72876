pub mod Writing
pub mod Dated
pub mod Room
