pub mod Laws
pub mod Field10
pub mod Limits
