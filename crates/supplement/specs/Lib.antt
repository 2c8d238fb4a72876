pub mod Field19
pub mod Walk
