-- Runs with the events of their display lines and logs, and mistakes that the laws refuse.
pub mod LineRuns
