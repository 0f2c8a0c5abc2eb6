pub mod Answers
pub mod Meaning
pub mod ByNumber
pub mod Uses
