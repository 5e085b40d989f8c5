pub mod PlaceLemmas
pub mod ByteLemmas
pub mod EntryLemmas
pub mod QuietLemmas
pub mod LawLemmas
pub mod Examples
