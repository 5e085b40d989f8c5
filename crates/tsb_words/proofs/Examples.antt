-- words and what they ask for
mod WordExamples
-- those of `tsb_live`
mod LiveExamples
