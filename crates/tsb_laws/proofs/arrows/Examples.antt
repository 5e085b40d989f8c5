-- Computed mistakes that the laws of arrows and trails refuse, and states that meet their premises.
pub mod ArrowMistakes
