-- numbers, clocks and titles as text
pub mod Text
-- the bands of a diagram, and what each shows
pub mod Bands
-- the bars of a band, and their text
pub mod Bars
-- which bands a diagram has
pub mod Lit
-- the lines of a diagram
pub mod Lines
-- the letters that say why greens ended
pub mod Letters
-- the ends of greens in an event log
pub mod Ends
-- how a flashing yellow arrow is drawn and named
pub mod ArrowKey
-- what a diagram is made of
pub mod Given
-- a diagram as a whole
pub mod Page
-- a week as a picture
pub mod Week
-- what holds of bars, told without how they are found
pub mod Laws
