-- Breaches one by one, as the code looks for them.
use Rattle.std.specs.Prelude.{if◌then◌else◌, Option, Some, None}
use Rattle.tsb_plan.specs.Plan.{Plan}
use Rattle.tsb_breaches.specs.declared.breach.Breach.{Breach}
use Rattle.tsb_breaches.specs.declared.fault.RuleFault.{RuleFault}
use Rattle.tsb_review.specs.declared.place.Place.{Place}
use Rattle.tsb_breaches.specs.Breaches.{is_at}

-- the breach at a place, where there is one
abbrev pub breach_at : Plan → RuleFault → Place → Option Breach
breach_at plan f place = if is_at plan f place then Some (record { fault = f; place = place }) else None
