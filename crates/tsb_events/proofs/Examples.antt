-- Computed examples of the definition of events: each code of the table.
pub mod Examples
-- Events in order, and mistakes that put them in another.
pub mod OrderExamples
