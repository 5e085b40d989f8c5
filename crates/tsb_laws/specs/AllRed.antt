-- All red ends: where some phase is wanted in each tick, no phase being in service does not last. The law here is the
-- contract of a function in src/safety.rt, and proved there. Times are in tenths of a second, which are ticks.
--
-- A plan here has 16 phases at most, as every plan in memory has: what layers give one another is of phases 1 to 16
-- alone, so that a phase of a greater number would never be served.
use Rattle.std.specs.Prelude.{◌≡◌, ℕ, ◌+◌, ◌≤◌, Bool, true, false, ◌||◌, List, [], ◌∷◌, ◌++◌, is_some}
use Rattle.tsb_step.specs.tsb_types.Intervals.{in_service}
use Rattle.tsb_step.specs.tsb_types.Lists.{some_passes}
use Rattle.tsb_step.specs.tsb_plan.declared.object.Object.{Object}
use Rattle.tsb_step.specs.tsb_plan.Plan.{Plan, phases, red_revert}
use Rattle.tsb_step.specs.declared.inputs.Input.{Input}
use Rattle.tsb_step.specs.declared.inputs.Input.TheVariants.{Tick}
use Rattle.tsb_step.specs.State.{State, interval}
use Rattle.tsb_step.specs.Tick.{service, callable}
use Rattle.tsb_step.specs.Tables.{greatest_of}
use Rattle.tsb_step.specs.Runs.{replay, AreTaken}
use Rattle.tsb_step.specs.Laws.{IsConsistent}
use Rattle.tsb_laws.specs.Stretches.{IsUntripped, largest}

-- no phase is Green, Yellow or in red clearance
abbrev pub IsAllRed : State → Type 0
IsAllRed s = (p : ℕ) → in_service (interval s p) ≡ false

-- all is red after the inputs `is`, and after each of those that came later
abbrev pub HasBeenRed : Plan → List Input → List Input → Type 0
HasBeenRed plan is [] = IsAllRed (replay plan is)
HasBeenRed plan is (i ∷ later) = HasBeenRed plan is later × IsAllRed (replay plan (i ∷ (later ++ is)))

-- some phase is wanted: a preempt is in service, or some phase is callable, which is one that is enabled, not omitted,
-- not Green, and has a call or a recall
abbrev pub is_wanted : State → Input → Bool
is_wanted s (Tick row) = is_some (service s row) || some_passes (callable s row) (phases s.plan)
is_wanted s i = true

-- in each tick that came later some phase was wanted, be it now this one and now that
abbrev pub HasBeenWanted : Plan → List Input → List Input → Type 0
HasBeenWanted plan is [] = Unit {0}
HasBeenWanted plan is (i ∷ later) = HasBeenWanted plan is later × (is_wanted (replay plan (later ++ is)) i ≡ true)

-- no value is over the greatest of its object, where there are so many phases and sides: as in every plan in memory. So
-- no list of a preempt names a phase that the plan has not
abbrev pub IsInRange : Plan → Type 0
IsInRange plan = (o : Object) (i : ℕ) → plan.value o i ≤ greatest_of plan o

-- All red, while some phase is wanted, lasts for the largest red revert time and two ticks at most, whatever inputs
-- come: n is as large as the red revert of each phase, the largest by the plans in effect meanwhile.
abbrev pub AllRedEnds : Type 0
AllRedEnds = (plan : Plan) (base later : List Input) (n : ℕ) → IsConsistent plan → IsInRange plan → plan.phase_count ≤ 16 →
    AreTaken plan (later ++ base) → IsUntripped plan base later → HasBeenRed plan base later → HasBeenWanted plan base later →
    ((p : ℕ) → largest (λ x. red_revert x p) plan base later ≤ n) →
    (replay plan (later ++ base)).now ≤ (replay plan base).now + n + 2
