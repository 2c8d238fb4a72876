pub mod Bytes
pub mod Ends
pub mod Letters
pub mod Passed
pub mod Sent
