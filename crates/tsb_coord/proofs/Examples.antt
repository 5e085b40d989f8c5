-- Computed examples of the definitions, and mistakes that they refuse.
pub mod Examples
pub mod PatternExamples
pub mod LateExamples
pub mod PermissiveExamples
pub mod LeadLagExamples
pub mod RecycleExamples
pub mod CorrectionExamples
pub mod OffsetExamples
pub mod ClockExamples
pub mod Mistakes
pub mod LawMistakes
pub mod LateMistakes
pub mod PermissiveMistakes
pub mod RecycleMistakes
pub mod CorrectionMistakes
pub mod RangeMistakes
pub mod ClockMistakes
