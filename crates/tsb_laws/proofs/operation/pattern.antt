-- What patterns do: force-offs, their options, and calls that are served.
pub mod CoordinatedCallLemmas
pub mod CoordinatedForceLemmas
pub mod CoordinatedInstantLemmas
pub mod CoordinatedRunLemmas
pub mod InStepLemmas
pub mod SelectionLemmas
pub mod ComingLemmas
pub mod OptionLemmas
pub mod OptionsOffLemmas
pub mod PatternEndLemmas
pub mod PatternGreenLemmas
pub mod PatternPressLemmas
pub mod PatternRunLemmas
pub mod LateGreenLemmas
