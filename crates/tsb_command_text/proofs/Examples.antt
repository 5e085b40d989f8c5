-- What lines ask, line by line.
pub mod LineExamples
-- Computed mistakes that the definitions refuse.
pub mod Mistakes
-- Computed mistakes of the calendar.
pub mod CalendarMistakes
