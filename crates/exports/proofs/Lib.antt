pub mod Answers
pub mod Handing
pub mod Banking
pub mod Rivals
pub mod Lending
