pub mod Outcomes
pub mod Rosters
pub mod Views
pub mod Names
pub mod Joins
