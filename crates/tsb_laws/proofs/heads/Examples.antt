-- Computed mistakes that the laws of heads refuse, and states that meet their premises.
pub mod HeadMistakes
