-- What the laws of heads refuse: for each law a mistake in the definitions, and by computing what comes of it. Beside each
-- stands what the definitions as they are make of the same state, and so that the law's premises can be met.
use Rattle.std.specs.Prelude.{◌≡◌, ℕ, true, false, List, [], ◌∷◌, Some, None, refl}
use Rattle.tsb_step.specs.tsb_types.declared.interval.Interval.TheVariants.{RedClear}
use Rattle.tsb_step.specs.tsb_types.declared.lamp.Aspect.TheVariants.{Dark, Red, Green, FlashingRed}
use Rattle.tsb_step.specs.tsb_types.declared.refusal.Refusal.TheVariants.{InService}
use Rattle.tsb_step.specs.tsb_types.declared.row.Row.{Row}
use Rattle.tsb_step.specs.tsb_types.Sets.{all_off}
use Rattle.tsb_step.specs.tsb_plan.declared.object.Object.TheVariants.{OverlapIncludedPhases}
use Rattle.tsb_step.specs.tsb_plan.Plan.{Plan}
use Rattle.tsb_step.specs.tsb_plan.Quad.{quad}
use Rattle.tsb_step.specs.tsb_heads.Heads.{Heads}
use Rattle.tsb_step.specs.tsb_heads.Displays.{ordered}
use Rattle.tsb_step.specs.tsb_heads.Monitoring.{gives_way}
use Rattle.tsb_step.specs.tsb_transact.declared.desk_state.DeskState.TheVariants.{Done}
use Rattle.tsb_step.specs.declared.inputs.Input.{Input}
use Rattle.tsb_step.specs.declared.inputs.Input.TheVariants.{Tick, Pattern, Reset, Commit}
use Rattle.tsb_step.specs.State.{State, restarted}
use Rattle.tsb_step.specs.Tick.{next}
use Rattle.tsb_step.specs.Signs.{display, shown, watched}
use Rattle.tsb_step.specs.Step.{step, verdict, with_pattern}
use Rattle.tsb_step.specs.Runs.{replay, AreTaken}
use Rattle.tsb_step.specs.Laws.{IsConsistent}
use Rattle.tsb_step.specs.TimeLaws.{is_tick}
use Rattle.tsb_step.proofs.Examples.Scenes.{opened, resting}
use Rattle.tsb_step.proofs.Examples.SignsExamples.{tripped}
use Rattle.tsb_step.proofs.Examples.StepExamples.{edit, editing}
use Rattle.tsb_laws.proofs.safety.Examples.PlanFits.{quad_consistent}

-- ## Trips stay: a tick that judges a controller which has tripped

abbrev judged_again : Row → State → State
judged_again row s = watched s (next s row)

stays_tripped : (step tripped (Tick all_off)).trip ≡ tripped.trip
unfolding opened
stays_tripped = refl

would_recover : (judged_again all_off tripped).trip ≡ None
unfolding opened
would_recover = refl

-- ## Resets end trips: a reset that keeps the trip

has_ended : (step tripped Reset).trip ≡ None
unfolding opened
has_ended = refl

abbrev reset_tripped : State → State
reset_tripped s = record (restarted s) { trip = s.trip }

would_stay : (reset_tripped tripped).trip ≡ tripped.trip
would_stay = refl

-- ## Tripped heads flash: heads that a trip leaves

is_in_flash : (display tripped).vehicle 2 ≡ FlashingRed
unfolding opened
is_in_flash = refl

abbrev heads_left : State → Heads
heads_left s = ordered s.plan (shown s)

would_be_green : (heads_left tripped).vehicle 2 ≡ Green
unfolding opened
would_be_green = refl

-- ## Lit heads stay: a commit of overlaps that does not wait

-- overlap 1 includes 1 and 2, and 2 is Green; it is to include none
abbrev unlisting : State
unlisting = editing Done (edit OverlapIncludedPhases 1 0 ∷ []) resting

shows_green : (display unlisting).overlap 1 ≡ Green
unfolding opened
shows_green = refl

has_to_wait : verdict unlisting (Commit 1) ≡ Some InService
unfolding opened
has_to_wait = refl

would_go_dark : (display (step unlisting (Commit 1))).overlap 1 ≡ Dark
unfolding opened
would_go_dark = refl

-- a pattern is selected beside a green
record LitHead (plan : Plan) (is : List Input) (i : Input) (p : ℕ) : Type 0 where
  consistent : IsConsistent plan
  taken : AreTaken plan is
  no_tick : is_tick i ≡ false
  allowed : verdict (replay plan is) i ≡ None
  same_trip : (step (replay plan is) i).trip ≡ (replay plan is).trip
  lit : gives_way ((display (replay plan is)).vehicle p) ≡ true

a_lit_head : LitHead quad (Tick all_off ∷ []) (Pattern 1) 2
unfolding opened
a_lit_head = record {
  consistent = quad_consistent;
  taken = (tt, refl);
  no_tick = refl;
  allowed = refl;
  same_trip = refl;
  lit = refl;
}

-- ## Lit heads clear in yellow: a pattern that ends greens

stays_green : (display (step resting (Pattern 1))).vehicle 2 ≡ Green
unfolding opened
stays_green = refl

abbrev pattern_ends : ℕ → State → State
pattern_ends n s = record (with_pattern n s) { phases = λ p. record (s.phases p) { interval = RedClear } }

would_be_red : (display (pattern_ends 1 resting)).vehicle 2 ≡ Red
unfolding opened
would_be_red = refl

-- ## And a commit of overlaps that does not wait

-- overlap 1 is to include 3 alone, which is Red
abbrev relisting : State
relisting = editing Done (edit OverlapIncludedPhases 1 4 ∷ []) resting

waits_too : verdict relisting (Commit 1) ≡ Some InService
unfolding opened
waits_too = refl

would_turn_red : (display (step relisting (Commit 1))).overlap 1 ≡ Red
unfolding opened
would_turn_red = refl
