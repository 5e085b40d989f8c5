pub mod SaidLemmas
pub mod HeardLemmas
pub mod PieceLemmas
pub mod EndLemmas
pub mod RunLemmas
