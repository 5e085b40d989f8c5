-- Computed mistakes that the laws of a session refuse, and a session that meets their premises.
pub mod Mistakes
