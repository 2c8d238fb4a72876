pub mod Canonical
pub mod Meaning
pub mod Rewriting
