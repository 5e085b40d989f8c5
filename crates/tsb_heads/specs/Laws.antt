-- Laws of displays and of the monitor. Each is the contract of a function in src/laws.rt, and proved there.
use Rattle.std.specs.Prelude.{◌≡◌, ℕ, ◌≤◌, false, true, Option, None}
use Rattle.tsb_objects.specs.tsb_types.declared.limits.TheConstants.{OVERLAPS}
use Rattle.tsb_objects.specs.tsb_types.declared.lamp.Aspect.TheVariants.{Dark}
use Rattle.tsb_objects.specs.tsb_types.declared.flow.OverlapLights.{OverlapLights}
use Rattle.tsb_objects.specs.tsb_plan.Parts.{includes_none, is_arrow, is_timed}
use Rattle.tsb_objects.specs.tsb_types.declared.flow.Intervals.{Intervals}
use Rattle.tsb_objects.specs.tsb_types.declared.flow.Pedestrians.{Pedestrians}
use Rattle.tsb_objects.specs.tsb_types.declared.lamp.Lamp.{Lamp}
use Rattle.tsb_objects.specs.tsb_plan.Plan.{Plan}
use Rattle.tsb_objects.specs.tsb_rules.Consistent.{IsPhase}
use Rattle.tsb_objects.specs.tsb_rules.Rules.{first_broken}
use Rattle.tsb_heads.specs.declared.display.Display.{Display}
use Rattle.tsb_heads.specs.declared.field.Field.{Field}
use Rattle.tsb_heads.specs.Heads.{Shown, Heads}
use Rattle.tsb_heads.specs.Displays.{display, field, laid_over}
use Rattle.tsb_heads.specs.Monitoring.{has_right_of_way, has_way, is_green, IsSafe, AreSafeByPhases, ArrowsGoWithTurns, conflict, judge}
use Rattle.tsb_heads.specs.Overlaps.{head_by_phases, overlap_head, is_kept_green, some_lasts}
use Rattle.tsb_heads.specs.Reading.{shown_by, heads_of_field}
use Rattle.tsb_heads.specs.Promises.{IsSame, IsDisplayed, IsLaidOver}

-- ## Safe heads

-- safe heads are in no conflict
abbrev pub SafeHeadsDoNotConflict : Type 0
SafeHeadsDoNotConflict = (plan : Plan) (heads : Heads) → IsSafe plan heads → conflict plan heads ≡ None

-- and heads in no conflict are safe, in a plan that breaks no rule, where phases that it has not have no right of way
abbrev pub HeadsWithoutConflictAreSafe : Type 0
HeadsWithoutConflictAreSafe = (plan : Plan) (heads : Heads) → first_broken plan ≡ None →
    ((p : ℕ) → has_right_of_way heads p ≡ true → IsPhase plan p) → conflict plan heads ≡ None → IsSafe plan heads

-- heads that are safe by phases alone are safe, where each green arrow goes with its turn
abbrev pub SafePhasesAreSafe : Type 0
SafePhasesAreSafe = (plan : Plan) (heads : Heads) → ArrowsGoWithTurns plan heads → AreSafeByPhases plan heads → IsSafe plan heads

-- ## Without arrows

-- no overlap of the plan is an arrow
abbrev pub HasNoArrows : Plan → Type 0
HasNoArrows plan = (o : ℕ) → 1 ≤ o → o ≤ plan.counts.overlaps → is_arrow plan o ≡ false

-- then right of way is by the heads of phases alone
abbrev pub OnlyArrowsAddWay : Type 0
OnlyArrowsAddWay = (plan : Plan) (heads : Heads) → HasNoArrows plan → (p : ℕ) → has_way plan heads p ≡ has_right_of_way heads p

-- ## Overlaps that go by the phases

-- what the head of an overlap shows that is no arrow and does not trail is found of the phases and rings alone
abbrev pub UntimedOverlapsGoByPhases : Type 0
UntimedOverlapsGoByPhases = (plan : Plan) (s : Shown) (o : ℕ) → is_timed plan o ≡ false → overlap_head plan s o ≡ head_by_phases plan s o

-- and one that includes no phase is dark
abbrev pub OverlapsWithoutPhasesAreDark : Type 0
OverlapsWithoutPhasesAreDark = (plan : Plan) (s : Shown) (o : ℕ) → includes_none plan o ≡ true → overlap_head plan s o ≡ Dark

-- ## What displays, fields and the monitor look at

-- the same intervals and pedestrian parts of phases 1 to 16, the same commitments, and the same lights of overlaps
pub record AreAlike (one : Shown) (other : Shown) : Type 0 where
  pub interval : (p : ℕ) → 1 ≤ p → p ≤ 16 → one.interval p ≡ other.interval p
  pub pedestrian : (p : ℕ) → 1 ≤ p → p ≤ 16 → one.pedestrian p ≡ other.pedestrian p
  pub commitment : (r : ℕ) → one.commitment r ≡ other.commitment r
  pub light : (o : ℕ) → 1 ≤ o → o ≤ OVERLAPS → one.light o ≡ other.light o
  pub tripped : one.tripped ≡ other.tripped

-- a display looks at nothing else
abbrev pub DisplaysLookOnlyAtTheirOwn : Type 0
DisplaysLookOnlyAtTheirOwn = (plan : Plan) (one other : Shown) → plan.phase_count ≤ 16 → AreAlike one other → IsSame (display plan one) (display plan other)

-- the same intervals of phases 1 to 16, and the same commitments
pub record ServeAlike (one : Shown) (other : Shown) : Type 0 where
  pub interval : (p : ℕ) → 1 ≤ p → p ≤ 16 → one.interval p ≡ other.interval p
  pub commitment : (r : ℕ) → one.commitment r ≡ other.commitment r

-- whether an overlap is kept green, and whether some overlap lasts through a clearance, looks at these alone
abbrev pub LastingLooksOnlyAtItsOwn : Type 0
LastingLooksOnlyAtItsOwn = (plan : Plan) (one other : Shown) → plan.phase_count ≤ 16 → ServeAlike one other →
    (some_lasts plan one ≡ some_lasts plan other) × ((o : ℕ) → is_kept_green plan one o ≡ is_kept_green plan other o)

-- a lamp over heads that show the same makes heads that show the same
abbrev pub LampsLookOnlyAtTheirOwn : Type 0
LampsLookOnlyAtTheirOwn = (lamp : Option Lamp) (one other : Heads) → IsSame one other → IsSame (laid_over lamp one) (laid_over lamp other)

-- so the field that is laid over a display is that of the definitions, of all that is alike
abbrev pub FieldsAreTold : Type 0
FieldsAreTold = (plan : Plan) (intervals : Intervals) (pedestrians : Pedestrians) (ring_1 ring_2 : Option ℕ) (lights : OverlapLights) (lamp : Option Lamp) (d : Display) (f : Field) (s : Shown) →
    plan.phase_count ≤ 16 → AreAlike (shown_by intervals pedestrians ring_1 ring_2 lights false) s →
    IsDisplayed intervals pedestrians ring_1 ring_2 lights false plan d → IsLaidOver d lamp f →
    IsSame (heads_of_field f) (field plan s lamp)

-- the monitor looks at the vehicle and pedestrian heads of phases 1 to 16
pub record ShowAlike (one : Heads) (other : Heads) : Type 0 where
  pub vehicle : (p : ℕ) → 1 ≤ p → p ≤ 16 → one.vehicle p ≡ other.vehicle p
  pub pedestrian : (p : ℕ) → 1 ≤ p → p ≤ 16 → one.pedestrian p ≡ other.pedestrian p

-- and at which arrows are green
abbrev pub AreGreenAlike : Plan → Heads → Heads → Type 0
AreGreenAlike plan one other = (o : ℕ) → 1 ≤ o → o ≤ plan.counts.overlaps → is_arrow plan o ≡ true → is_green (one.overlap o) ≡ is_green (other.overlap o)

-- so it judges alike what shows alike, before and after; of arrows after it alone
abbrev pub MonitorsLookOnlyAtTheirOwn : Type 0
MonitorsLookOnlyAtTheirOwn = (plan : Plan) (before before_too after after_too : Heads) → plan.phase_count ≤ 16 →
    ShowAlike before before_too → ShowAlike after after_too → AreGreenAlike plan after after_too →
    judge plan before after ≡ judge plan before_too after_too

-- without arrows the heads of overlaps make no difference
abbrev pub MonitorsLookAtArrowsAlone : Type 0
MonitorsLookAtArrowsAlone = (plan : Plan) (before before_too after after_too : Heads) → HasNoArrows plan → plan.phase_count ≤ 16 →
    ShowAlike before before_too → ShowAlike after after_too → judge plan before after ≡ judge plan before_too after_too

-- ## Quiet ticks

-- heads in no conflict that stay trip nothing
abbrev pub StayingHeadsPass : Type 0
StayingHeadsPass = (plan : Plan) (heads : Heads) → conflict plan heads ≡ None → judge plan heads heads ≡ None

-- nor do heads that stay once the monitor has let them pass
abbrev pub PassedHeadsPassAgain : Type 0
PassedHeadsPassAgain = (plan : Plan) (before heads : Heads) → judge plan before heads ≡ None → judge plan heads heads ≡ None
