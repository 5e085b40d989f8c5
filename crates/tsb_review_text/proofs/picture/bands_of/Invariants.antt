use Rattle.std.proofs.Common.{◌≡◌, ◌-◌, ◌++◌}
use Rattle.tsb_plan.specs.PlanOf.{plan_of}
use Rattle.tsb_review_text.proofs.PictureLemmas.{bands-from}
use Rattle.tsb_review_text.proofs.picture.bands_of.Given as goal

-- the bands so far, and those of the minutes that are left, are all
abbrev pub invariant-loop-minute : goal.invariant-loop-minute
invariant-loop-minute l = l.bands.items ++ bands-from (plan_of l.plan) l.first l.minute (10080 - l.minute) ≡ bands-from (plan_of l.plan) l.first 0 10080
