mod Standing
mod Choosing
mod Sets
mod Firsts
mod Lowest
mod Lasts
mod Counts
mod Holders
