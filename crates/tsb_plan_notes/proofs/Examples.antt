-- Computed examples of the definitions, and mistakes that they refuse.
-- notes on plan texts
pub mod Notes
-- places, by texts
pub mod PlaceExamples
-- mistakes, each with a text that shows it
pub mod Mistakes
