pub mod Steps
pub mod Walk
pub mod Words
pub mod Counts
pub mod Parts
pub mod Items
pub mod Exact
pub mod Stages
