pub mod Places
pub mod Landed
