use Rattle.std.proofs.Common.{rules}
use Rattle.tsb_review.proofs.place.place_of.Goals as goal

pub returns-in-PatternPhase : goal.returns-in-PatternPhase
returns-in-PatternPhase c = search rules fits 100
