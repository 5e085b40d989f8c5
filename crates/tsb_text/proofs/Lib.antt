pub mod LaterLemmas
pub mod LineLemmas
pub mod BackLemmas
pub mod WatchLemmas
pub mod TextLemmas
pub mod ObeyLemmas
pub mod EventLemmas
pub mod CourseLemmas
pub mod FollowLemmas
pub mod AnswerLemmas
pub mod ReplyLemmas
pub mod HeardLemmas
pub mod EndedLemmas
pub use Rattle.tsb_objects.proofs.tsb_rules as tsb_rules
