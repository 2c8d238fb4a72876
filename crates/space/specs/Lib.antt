pub mod Reduced
pub mod Part
pub mod Fields
pub mod Hyphens
pub mod Places
pub mod Stays
