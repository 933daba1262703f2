pub mod Numbers
pub mod Rosters
pub mod Shown
pub mod Submitted
pub mod Singles
pub mod Leaving
pub mod Joining
