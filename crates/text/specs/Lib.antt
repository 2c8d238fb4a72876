pub mod Words
pub mod Kinds
pub mod Pairs
pub mod Places
pub mod Lent
