-- the errors of a plan text, and when an answer is right
pub mod PlanErrors
-- what the tree of a text takes of memory
pub mod TreeSize
-- the plan of a text or its first error, member after member
pub mod PlanText
-- the same plan told number by number, without how it is read
pub mod PlanTextSays
-- how a rule is told
pub mod RuleLines
-- the line that tells a fault
pub mod FaultLines
-- that notes change nothing
pub mod NotesLaw
