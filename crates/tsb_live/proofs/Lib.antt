-- why there is no run
pub mod StopLemmas
-- how a live run ends, once its fault is reported
pub mod TalkLemmas
