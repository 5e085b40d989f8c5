-- channels, the phases by which each is lit, and the permissive pairs
pub mod Pairs
-- cards, and what is permissive on one
pub mod Card
-- the lines of a card, and of what one has otherwise
pub mod Lines
-- the card that a text is, or its fault
pub mod Reading
