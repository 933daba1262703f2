pub mod Kinds
pub mod Requests
pub mod Answers
pub mod Stations
pub mod Fits
