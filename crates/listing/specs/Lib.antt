pub mod RowTexts
pub mod FaultTexts
pub mod Reports
pub mod Unknown
pub mod Kinds
