pub mod LineLemmas
pub mod WriteLemmas
pub mod WeekLemmas
pub mod RowLemmas
pub mod PictureLemmas
