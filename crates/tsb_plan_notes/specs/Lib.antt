-- the unit of each object's values
pub mod Units
-- the object that was perhaps meant by a name
pub mod Near
-- phases that a text lists
pub mod PhaseLists
-- names that a later version has
pub mod Newer
-- what is noted of a plan text
pub mod Notes
-- a number, taken apart at its point
pub mod Parts
-- what a byte does
pub mod Steps
-- where a text stops, and what is told of it
pub mod Places
-- what holds of each text
pub mod Laws
