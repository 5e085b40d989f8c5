pub mod PastLemmas
pub mod WatchLemmas
pub mod SessionLemmas
pub mod PlayLemmas
pub mod Examples
