pub mod Numbers
pub mod Visits
pub mod Steps
pub mod Rows
pub mod Shown
pub mod Promised
