pub mod Runs
pub mod Field3
pub mod Field7
pub mod Field8
pub mod Field9
