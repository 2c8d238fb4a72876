pub mod Places
pub mod Number3
pub mod Reached
