pub mod Unexplained
