pub mod LineLemmas
pub mod KeptLemmas
pub mod ShortLemmas
pub mod RoomLemmas
pub mod WordLemmas
pub mod LawLemmas
pub mod DigitLemmas
-- known bytes of readers and writers, a piece at a time
pub mod StreamLemmas
pub mod Examples
