pub mod Runs
pub mod Cuts
