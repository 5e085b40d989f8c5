pub mod ChannelLemmas
pub mod RunLemmas
pub mod WriteLemmas
pub mod ReadLemmas
pub mod Examples
