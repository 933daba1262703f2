pub mod Walks
pub mod Slots
pub mod Promises
