pub mod Refusal
pub mod Outer
