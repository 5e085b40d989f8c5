-- Computed mistakes that the definitions refuse.
pub mod WaitingMistakes
pub mod OffsetMistakes
