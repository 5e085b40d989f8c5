-- A run from power-up in which an overlap is green, a state in which one goes on over the barrier, and mistakes that
-- the laws of overlaps refuse.
use Rattle.std.proofs.Common.{◌≡◌, ℕ, Bool, true, false, List, [], ◌∷◌, Some, None, refl}
use Rattle.tsb_step.specs.tsb_types.Sets.{all_off}
use Rattle.tsb_step.specs.tsb_types.declared.lamp.Aspect.TheVariants as aspects
use Rattle.tsb_step.specs.tsb_types.Intervals.{in_service}
use Rattle.tsb_step.specs.tsb_plan.declared.object.Object.TheVariants.{OverlapIncludedPhases, OverlapAcrossRings}
use Rattle.tsb_step.specs.tsb_plan.Parts.{is_included}
use Rattle.tsb_step.specs.tsb_plan.Plan.{Plan, with_values}
use Rattle.tsb_step.specs.tsb_plan.Quad.{quad}
use Rattle.tsb_step.specs.tsb_rules.PatternRules.{some_and}
use Rattle.tsb_step.specs.tsb_heads.Overlaps.{is_followed_in_ring}
use Rattle.tsb_step.specs.tsb_heads.Monitoring.{gives_way}
use Rattle.tsb_step.specs.tsb_ring.Rings.{Ring1}
use Rattle.tsb_step.proofs.tsb_ring.Examples.Scenes.{both}
use Rattle.tsb_step.specs.declared.inputs.Input.{Input}
use Rattle.tsb_step.specs.declared.inputs.Input.TheVariants.{Tick}
use Rattle.tsb_step.specs.State.{State, interval}
use Rattle.tsb_step.specs.Signs.{shown, display}
use Rattle.tsb_step.specs.Runs.{replay, AreTaken}
use Rattle.tsb_step.specs.Laws.{IsConsistent}
use Rattle.tsb_step.proofs.Examples.Scenes.{opened, clearing, these, all_red, red}
use Rattle.tsb_laws.specs.OverlapPhases.{GoesOver}
use Rattle.tsb_laws.proofs.safety.Examples.PlanFits.{quad_consistent}

-- ## Overlap 1 includes 1 and 2, and 2 is Green from tick 1 on

taken : AreTaken quad (Tick all_off ∷ [])
unfolding opened
taken = (tt, refl)

is_shown : gives_way ((display (replay quad (Tick all_off ∷ []))).overlap 1) ≡ true
unfolding opened
is_shown = refl

record Overlap (plan : Plan) (is : List Input) (o : ℕ) : Type 0 where
  consistent : IsConsistent plan
  taken : AreTaken plan is
  shown : gives_way ((display (replay plan is)).overlap o) ≡ true

an_overlap : Overlap quad (Tick all_off ∷ []) 1
an_overlap = record { consistent = quad_consistent; taken = taken; shown = is_shown }

-- ## An overlap that is green as soon as a ring is committed to one of its phases

-- a crossing to 2 and 6, while 3 clears
abbrev leaving : State
leaving = record red {
  phases = these (3 ∷ []) (clearing 5) all_red;
  rings = record { last = both (Some 3) None; commitment = both (Some 2) (Some 6); side = 2; crossing = Some 1 };
}

serves_3 : in_service (interval leaving 3) ≡ true
serves_3 = refl

shows_red : (display leaving).overlap 1 ≡ aspects.Red
unfolding opened
shows_red = refl

abbrev green_by_commitment : State → ℕ → Bool
green_by_commitment s o = some_and (is_included s.plan o) (s.rings.commitment Ring1)

would_show_green : green_by_commitment leaving 1 ≡ true
unfolding opened
would_show_green = refl

-- ## Overlap 1 includes 1 and 8, and phase 1 clears while both rings cross to 4 and 8

-- with this value of overlapAcrossRings
abbrev pub over : ℕ → State
over option = record red {
  plan = with_values quad ((OverlapIncludedPhases, 1, 129) ∷ (OverlapAcrossRings, 1, option) ∷ []);
  phases = these (1 ∷ []) (clearing 5) all_red;
  rings = record { last = both (Some 1) (Some 6); commitment = both (Some 4) (Some 8); side = 1; crossing = Some 2 };
}

goes_over : GoesOver (over 1) 1
unfolding quad
goes_over = record {
  option = refl;
  ring = Ring1;
  from = 1;
  own = refl;
  included = refl;
  clears = refl;
  beside = 4;
  commits = refl;
  to = 8;
  crosses = refl;
  comes = refl;
  apart = refl;
}

shows_green : (display (over 1)).overlap 1 ≡ aspects.Green
unfolding opened
shows_green = refl

-- ## An overlap that goes by the commitment of the phase's own ring, though it has the option

abbrev by_own_ring : State → ℕ → ℕ → Bool
by_own_ring s o p = is_followed_in_ring s.plan (shown s) o p

would_leave_green : by_own_ring (over 1) 1 1 ≡ false
unfolding opened
would_leave_green = refl
