pub mod NoteLemmas
pub mod Examples
-- texts of several pieces
pub mod PieceLemmas
-- a text stops at its place, whatever follows
pub mod StopLemmas
