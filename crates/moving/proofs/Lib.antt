pub mod Kept
pub mod Passed
pub mod Counted
pub mod Freed
pub mod Moved
