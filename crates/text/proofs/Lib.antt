pub mod Tests
pub mod Iterated
pub mod Index
pub mod Pairs
pub mod Joined
pub mod Tidy
pub mod Lent
