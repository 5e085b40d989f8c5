-- What ends a green, and when: for the laws of greens, and of what waits for them.
pub mod GreenTimeLemmas
pub mod GreenEndLemmas
pub mod RunningMaximumLemmas
pub mod WalkTimeLemmas
pub mod PressedGreenLemmas
pub mod PressedRunLemmas
