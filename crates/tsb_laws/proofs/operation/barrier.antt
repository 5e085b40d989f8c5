-- Crossings of the barrier, and sides in cyclic order.
pub mod BarrierWishLemmas
pub mod CrossingTickLemmas
pub mod CoordinatedBarrierLemmas
pub mod HomeEntryLemmas
pub mod SideSumLemmas
pub mod SideRangeLemmas
pub mod SideTimeLemmas
