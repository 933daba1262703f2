pub mod Numbers
pub mod ClassCounts
pub mod Modular
pub mod ClassCountsLemmas
pub mod NumbersLemmas
pub mod TallyTexts
