pub mod FollowLemmas
pub mod CommandLemmas
pub mod Examples
