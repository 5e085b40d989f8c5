-- stretches of runs: what has held since a moment, and which time was due as it ended
pub mod Stretches
-- what lies between a green that ends, or a walk that begins, and the start of a phase that is not concurrent
pub mod Intergreens
-- what lies between the yellow of a phase and its next start
pub mod RedReverts
-- that a trip stays until a reset, and what heads show meanwhile
pub mod Trips
-- what changes heads that give right of way, and how they turn red
pub mod LitHeads
-- which phases are served, and in what time a commitment is
pub mod Commitments
-- in what time a crossing of the barrier is completed
pub mod Crossings
-- that coordinated greens end by their force-off, and that what is omitted is not served
pub mod Coordination
-- for how long all red lasts while some phase is wanted
pub mod AllRed
-- a bound for the dwell of a preempt that is false
pub mod PreemptDwells
-- that what calls is remembered until it is served
pub mod KeptCalls
-- between which times the maximum in use stays, and how far it moves
pub mod RunningMaximum
-- why a green ends
pub mod GreenEnds
-- that overlaps go with the phases that they include
pub mod OverlapPhases
-- when arrows flash, beside what they are green, and how overlaps with intervals of their own turn red
pub mod Arrows
-- that the card of a monitor permits what is lit
pub mod Cards
-- to what a preempt in service gives way, and when its service ends
pub mod PreemptTurns
-- within what time a preempt has the phases of its stage Green, reaches its dwell and leaves its exit
pub mod PreemptStages
-- within what shorter time it has them where it chooses anew
pub mod PreemptChoices
-- that the longest entry of a worksheet holds
pub mod PreemptWorksheets
-- that nothing is Green in a crossing, nor in a ring that is committed
pub mod CrossingGreens
-- what enters under a preempt
pub mod PreemptEntries
-- how long a green lasts that the preempt in service does not want
pub mod UnwantedGreens
-- when a phase starts that the preempt in service wants
pub mod WantedStarts
-- in what time calls are served in free operation
pub mod ServedCalls
-- the runs that the laws are about
pub mod Runs
-- timers among the cells, and what a tick makes of them
pub mod Timers
-- the laws
pub mod WayBack
-- the desk after every run
pub mod Desk
-- plans, inputs and states of 8 phases and 2 sides as those of 16 and 4
pub mod Widened
-- the built-in plans as version 1 has them
pub mod BuiltIn
-- that a bench with fewer detectors, overlaps and preempts does the same
pub mod Sizes
-- that both benches show and refuse the same
pub mod Versions
-- plan texts of version 1, and the plans that they name and give
pub mod Texts
-- that a session has one text, up to want of memory
pub mod OneText
-- that a live run has one answer to each line, up to want of memory
pub mod OneAnswer
-- that what is saved of a live run is a session which ends alike
pub mod SavedRuns
-- that what a schedule does are commands
pub mod Schedules
-- what the events of runs show
pub mod Told
-- that coordinated phases are awaited and other greens forced off, and within which time a coordinated phase is Green again
pub mod CoordinatedGreens
-- when the local counter is in step, and from where a selected pattern goes on
pub mod InStep
-- that the options of a plan change nothing where they are 0
pub mod Options
-- that greens which begin behind their force-off instant end late, where the plan says so
pub mod LateGreens
-- by what else greens may end in a pattern: floating force-off, maximums and the permissive time
pub mod PatternEnds
-- when a phase walks again within its green, and that no force-off waits for such a walk
pub mod RecycledWalks
-- what the laws of runs, and those of cells and records, say of one run
pub mod PlayLaws
pub mod PlayRecords
-- what enters where no preempt is in service
pub mod CalledStarts
-- when the times run out that a status shows
pub mod TimesLeft
-- plans that differ in some objects alone
pub mod Differing
-- the controller whose definitions have no options: its parts, its step and its runs
pub mod PlainParts
pub mod PlainStep
-- that runs in which the options are 0 are the runs of that controller
pub mod WithoutOptions
-- that the correction limit changes no run while the correction mode is 0
pub mod CorrectionLimits
-- that offsets change no run where local 0 comes at the same time
pub mod ConvertedOffsets
