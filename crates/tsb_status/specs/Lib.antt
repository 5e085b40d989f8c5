-- what a phase waits for, of what was found of it and of the rings
pub mod WaitBy
-- what it is found from, of a state; and that it is then what the definition says
pub mod WaitFound
-- the timers of a phase as they were given, as phase timing has them
pub mod Times
-- the status that a plain value means
pub mod Plain
-- the status of a phase, as a state has it
pub mod TimesFound
-- the status of a ring, from its phase in service as it was given
pub mod RingBy
-- a ring as a state has it
pub mod RingFound
-- what waits are found from, of phases as they are given
pub mod Told
-- statuses that say the same of all numbers that there are
pub mod Alike
