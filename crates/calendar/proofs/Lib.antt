pub mod Counting
pub mod Dates
pub mod Answers
pub mod Claimed
pub mod March
pub mod Formulas
