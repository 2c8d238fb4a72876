pub mod Rows
pub mod Steps
pub mod Laws
pub mod Runs
pub mod Zero
