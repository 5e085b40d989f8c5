pub mod LetterLemmas
pub mod LineLemmas
pub mod Examples
