-- the fields of a line of CSV
pub mod Fields
-- which field of a line is what, and the header that says so
pub mod Columns
-- the moment that a time of a clock without a zone names
pub mod Times
-- times in the forms in which exports have them
pub mod TimeForms
-- what a row of events says
pub mod Rows
-- times as text
pub mod Written
-- lines of events, written
pub mod Events
-- rows as exports have them
pub mod Wide
-- why a line is no row
pub mod Faults
-- what holds of rows in other forms
pub mod Laws
