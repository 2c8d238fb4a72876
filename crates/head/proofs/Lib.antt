pub mod Laws
pub mod Field8
pub mod Field7
pub mod Field9
pub mod Field3
