-- what reading a file comes to, and what is told of it
pub mod ReadLemmas
-- the built-in plan
pub mod TwoLemmas
-- how a session ends, once its fault is reported
pub mod TalkLemmas
