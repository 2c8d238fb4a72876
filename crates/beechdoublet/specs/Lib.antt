pub mod Numbers
pub mod Handed
pub mod Causes
pub mod Laws
