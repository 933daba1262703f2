pub mod Names
pub mod Spelled
pub mod Rows
pub mod Texts
pub mod Checks
pub mod Meanings
