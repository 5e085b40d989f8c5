-- objects are found among those with names as long
pub mod ObjectLemmas
pub mod RowLemmas
pub mod CommandLemmas
pub mod ReadingLemmas
pub mod LawLemmas
pub mod Examples
