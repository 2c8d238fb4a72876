pub mod Places
pub mod Index
