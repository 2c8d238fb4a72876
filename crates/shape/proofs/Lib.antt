pub mod Numbers
pub mod Index
pub mod Exact
pub mod Times
pub mod Fields
