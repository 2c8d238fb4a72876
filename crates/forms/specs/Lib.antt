pub mod Field22
pub mod Forms
pub mod Meaning
