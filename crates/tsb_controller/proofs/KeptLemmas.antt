-- A tick that left the phases as they were: nothing moved in it, and where no output rose in it another one would set no
-- memory and count no vehicle.
use Rattle.std.proofs.Common.{◌≡◌, ℕ, ◌+◌, ◌-◌, ◌≤◌, min, Bool, true, false, not, ◌&&◌, ◌||◌, if◌then◌else◌, List, Option, is_some, is_none, refl, sym, ap, subst, ◌∙◌, inl, inr, arith}
use Rattle.std.proofs.Math.Path.{fun_ext}
use Rattle.std.proofs.lemmas.Bool.{and_parts, cases_Bool, true≢false}
use Rattle.tsb_step.specs.tsb_types.declared.flow.Called.{Called}
use Rattle.tsb_step.specs.tsb_types.declared.lamp.Lamp.{Lamp}
use Rattle.tsb_step.specs.tsb_types.declared.row.Row.{Row}
use Rattle.tsb_step.specs.tsb_types.Clip.{clipped}
use Rattle.tsb_step.specs.tsb_types.Flow.{gives_walk}
use Rattle.tsb_step.specs.tsb_types.Intervals.{is_green}
use Rattle.tsb_step.proofs.tsb_types.ClipLemmas.{clipped-agrees}
use Rattle.tsb_step.specs.tsb_plan.Plan.{Plan}
use Rattle.tsb_detect.specs.Cells.{detector_in}
use Rattle.tsb_detect.specs.Detector.{Detector}
use Rattle.tsb_calls.specs.Cells.{memories_in}
use Rattle.tsb_calls.specs.Looks as calls_looks
use Rattle.tsb_calls.specs.Memories.{Memories, Given, actuations, as_set, calls as calls_phase, counted, pedestrian_memory, vehicle_memory, was_green}
use Rattle.tsb_calls.specs.Promises as calls
use Rattle.tsb_calls.specs.Settled as settled
use Rattle.tsb_calls.proofs.CountLemmas.{count-none, count-same}
use Rattle.tsb_calls.proofs.LookLemmas.{look-alike}
use Rattle.tsb_phase.specs.Cells.{phase_in}
use Rattle.tsb_phase.specs.Next as phase_next
use Rattle.tsb_ring.specs.Cells.{rings_in}
use Rattle.tsb_ring.specs.Moves.{is_ended, is_cleared, is_started}
use Rattle.tsb_ring.proofs.MoveLemmas.{ends_ready, clears_over}
use Rattle.tsb_preempt.specs.Cells.{preempts_in}
use Rattle.tsb_preempt.specs.Preempts as preempts_words
use Rattle.tsb_preempt.specs.Preempts.{Preempts}
use Rattle.tsb_preempt.specs.Service.{service_as_read}
use Rattle.tsb_transact.specs.Desk.{Desk}
use Rattle.tsb_step.specs.State.{State, interval}
use Rattle.tsb_step.specs.Tick as tick
use Rattle.tsb_step.specs.Tick.{preempts_given, calls_given, phases_given, rings_given, new_detectors, over, lets_go, walks_again, omitted, service_ended, moves, moved, done, next}
use Rattle.tsb_step.proofs.ClipLemmas.{clipped_holds}
use Rattle.tsb_controller.specs.declared.values.Sensed.{Sensed}
use Rattle.tsb_controller.specs.Found.{observed}
use Rattle.tsb_controller.specs.Passing.{IsSeen, NoneRose}
use Rattle.tsb_controller.specs.Promises.{IsTicked}
use Rattle.tsb_controller.specs.Rows.{Rows, AreBy, untripped, state_of}
use Rattle.tsb_controller.proofs.PlacedLemmas.{IsPlaced}
use Rattle.tsb_controller.proofs.TickLemmas.{alike-own}
use Rattle.tsb_controller.proofs.LaterLemmas.{not-ended, starts-off, ends-off, clears-off, walks-off}

-- memories that nothing moved are those that were set
kept-vehicle : (starts ends gapped memory : Bool) → starts ≡ false → ends ≡ false → (if starts then false else (memory || (ends && not gapped))) ≡ memory
kept-vehicle starts ends gapped true unstarted unended = rw unstarted refl
kept-vehicle starts ends gapped false unstarted unended = rw (unstarted, unended) refl

kept-pedestrian : (starts gives walks memory : Bool) → starts ≡ false → walks ≡ false → (memory && not ((starts && gives) || walks)) ≡ memory
kept-pedestrian starts gives walks true unstarted unwalked = rw (unstarted, unwalked) refl
kept-pedestrian starts gives walks false unstarted unwalked = refl

kept-count : (ends : Bool) (count : ℕ) → ends ≡ false → (if ends then 0 else count) ≡ count
kept-count ends count unended = rw unended refl

-- set once more they are as they were set
twice : (memory sets : Bool) → ((memory || sets) || sets) ≡ (memory || sets)
twice true sets = refl
twice false true = refl
twice false false = refl

-- a count with no actuations
abbrev with_none : Bool → ℕ → ℕ
with_none green count = if green then count else min 255 (count + 0)

none-twice : (green : Bool) (count : ℕ) → with_none green (with_none green count) ≡ with_none green count
none-twice true count = refl
none-twice false count = omega arith

and-false : (b : Bool) → (b && false) ≡ false
and-false true = refl
and-false false = refl

-- The rows before tick `now` are `r`, apart from detectors and calls.
module _ (now : ℕ) (plan : Plan) (desk : Desk) (lamp : Option Lamp) (row : Row) (detectors calls_row : List ℕ) (r : Rows) (one : 1 ≤ now)
    (by : AreBy (now - 1) (record r { detectors = detectors; calls = calls_row })) (settled_by : IsTicked now row plan (record r { detectors = detectors; calls = calls_row }) r) where
  -- the state before the tick
  abbrev s : State
  s = state_of (now - 1) (untripped plan desk lamp) (record r { detectors = detectors; calls = calls_row })

  -- what calls were given
  abbrev given : Given
  given = calls_given s row

  pub here : state_of now (untripped plan desk lamp) r ≡ next s row
  here = settled_by desk lamp

  -- ## Nothing moved

  phase_now : (p : ℕ) → phase_in now r.phases p ≡ phase_next.next plan (phases_given s row) (moved s row) p (phase_in (now - 1) r.phases p)
  phase_now p = ap (λ (x : State). x.phases p) here

  pub starts_none : (p : ℕ) → is_started (moves s row) p ≡ false
  starts_none p = starts-off now plan r.phases (phases_given s row) (moved s row) p one by.phases (phase_now p)

  pub ends_none : (p : ℕ) → is_ended (moves s row) p ≡ false
  unfolding moves rings_given
  ends_none p = ends-off now plan r.phases (phases_given s row) (moved s row) p one by.phases (phase_now p) greens
    where
      greens : is_ended (moves s row) p ≡ true → is_green (interval s p) ≡ true
      greens on = (ends_ready plan (rings_in r.rings) (rings_given s row) p on).0

  pub clears_none : (p : ℕ) → is_cleared (moves s row) p ≡ false
  unfolding moves rings_given
  clears_none p = clears-off now plan r.phases (phases_given s row) (moved s row) p one by.phases (phase_now p) overs
    where
      overs : is_cleared (moves s row) p ≡ true → over s p ≡ true
      overs on = (and_parts (over s p) (not (tick.held s row p)) (clipped_holds (lets_go s row) p (clears_over plan (rings_in r.rings) (rings_given s row) p on))).0

  walks_none : (p : ℕ) → clipped (walks_again s row) p ≡ false
  walks_none p = elim (cases_Bool (clipped (walks_again s row) p)) [
    | inl on ↦
        (let never : walks_again s row p ≡ false = walks-off now plan r.phases (phases_given s row) (moved s row) p one by.phases (phase_now p) (ends_none p) in
        absurd (true≢false (sym (clipped_holds (walks_again s row) p on) ∙ never)))
    | inr off ↦ off
  ]

  -- ## What the tick found

  pub detectors_now : detector_in now r.detectors ≡ new_detectors s row
  detectors_now = ap (λ (x : State). x.detectors) here

  pub preempts_now : preempts_in now r.preempts ≡ preempts_words.next plan (preempts_given s row) (preempts_in (now - 1) r.preempts)
  preempts_now = ap (λ (x : State). x.preempts) here

  pub ended_now : service_ended s row ≡ false
  ended_now =
      ap (λ (x : Preempts). is_some (service_as_read (preempts_in (now - 1) r.preempts).service) && is_none x.service) (sym preempts_now)
      ∙ not-ended (now - 1) now r.preempts

  -- ## The memories

  -- nothing moved any
  pub unmoved : (w : Memories) → settled.next plan given (done s row) w ≡ as_set plan given w
  unmoved w = λ i. record {
    vehicle = fun_ext (λ p. kept-vehicle (is_started (moves s row) p) (is_ended (moves s row) p) ((done s row).gapped p) (vehicle_memory plan given w p) (starts_none p) (ends_none p)) i;
    pedestrian = fun_ext (λ p. kept-pedestrian (is_started (moves s row) p) (gives_walk (settled.pedestrian_call plan given w p) (done s row).service) (clipped (walks_again s row) p) (pedestrian_memory plan given w p) (starts_none p) (walks_none p)) i;
    count = fun_ext (λ p. kept-count (is_ended (moves s row) p) (counted plan given w p) (ends_none p)) i;
  }

  pub memories_now : memories_in r.calls ≡ tick.set s row
  memories_now = ap (λ (x : State). x.memories) here ∙ unmoved s.memories

  module _ (placed : IsPlaced plan) (calm : NoneRose now r) where
    none_actuated : (p : ℕ) → actuations plan given p ≡ 0
    unfolding actuations
    none_actuated p =
        count-same (λ d. calls_phase plan d p && given.actuated d) (λ d. false) 1 plan.counts.vehicle_detectors (λ d from to. ap (λ (b : Bool). calls_phase plan d p && b) (rose d from (omega (arith, to))) ∙ and-false (calls_phase plan d p))
        ∙ count-none (λ d. false) 1 plan.counts.vehicle_detectors (λ d. refl)
      where
        rose : (d : ℕ) → 1 ≤ d → d ≤ plan.counts.vehicle_detectors → given.actuated d ≡ false
        rose d from to = ap (λ (f : ℕ → Detector). (f d).actuated) (sym detectors_now) ∙ calm d from (omega (arith, to, placed.detectors))

    -- what was set once is set
    pub set_twice : (w : Memories) → as_set plan given (as_set plan given w) ≡ as_set plan given w
    unfolding vehicle_memory pedestrian_memory counted
    set_twice w = λ i. record {
      vehicle = fun_ext (λ p. vehicles p) i;
      pedestrian = fun_ext (λ p. pedestrians p) i;
      count = fun_ext (λ p. counts p) i;
    }
      where
        vehicles : (p : ℕ) → vehicle_memory plan given (as_set plan given w) p ≡ vehicle_memory plan given w p
        vehicles p = twice (w.vehicle p) _

        pedestrians : (p : ℕ) → pedestrian_memory plan given (as_set plan given w) p ≡ pedestrian_memory plan given w p
        pedestrians p = twice (w.pedestrian p) _

        counts : (p : ℕ) → counted plan given (as_set plan given w) p ≡ counted plan given w p
        counts p = rw (none_actuated p) (none-twice (was_green given p) (w.count p))

    pub stands : as_set plan given (memories_in r.calls) ≡ memories_in r.calls
    stands = ap (as_set plan given) memories_now ∙ set_twice s.memories ∙ sym memories_now

  module _ (placed : IsPlaced plan) (sensed : Sensed) (seen : IsSeen now plan r sensed) where
    -- what the calls were given, by what was seen
    abbrev told : Given
    told = calls.given_of (observed row sensed)

    pub calls_alike : calls_looks.AgreeOnPhases plan told given
    calls_alike = record {
      output = λ d from to. seen.outputs_are now d from (omega (arith, to, placed.detectors)) ∙ ap (λ (f : ℕ → Detector). (f d).output) detectors_now;
      actuated = λ d from to. seen.actuated_are now d from (omega (arith, to, placed.detectors)) ∙ ap (λ (f : ℕ → Detector). (f d).actuated) detectors_now;
      button = λ d from to. refl;
      interval = λ p from to. seen.shown (now - 1) p from to;
      pedestrian_part = λ p from to. seen.walking (now - 1) p from to;
      runs = seen.ordered.runs;
      omitted = λ p from to. seen.ordered.omit p from to ∙ sym (clipped-agrees (omitted s) p from to);
      service_ended = seen.standing.ended ∙ sym ended_now;
    }

    pub look : calls_looks.LookAlike plan told given
    look = look-alike plan told given placed.count calls_alike

    module _ (calm : NoneRose now r) where
      -- the memories as they are now are those that are set
      pub as_sets : calls_looks.AreAlike (as_set plan told (memories_in r.calls)) (memories_in r.calls)
      as_sets =
          subst (calls_looks.AreAlike (as_set plan told (memories_in r.calls))) (stands placed calm)
          (look.sets (memories_in r.calls) (memories_in r.calls) (alike-own (memories_in r.calls)))

      pub sets : calls.IsSet (observed row sensed) plan r.calls r.calls
      sets p from to = record {
        vehicle = sym (as_sets.vehicle p from to);
        pedestrian = sym (as_sets.pedestrian p from to);
        count = sym (as_sets.count p from to);
      }

      -- so what is called by the memories as they are now is called by those that are set
      pub calls_told : (called : Called) → ((p : ℕ) → 1 ≤ p → p ≤ 16 → calls.IsCalledAs plan told (memories_in r.calls) called p) →
          calls.TellsCalled (observed row sensed) plan r.calls called
      calls_told called stands p from to = record {
        callable = (stands p from to).callable ∙ alike.callable p from to;
        conflict = (stands p from to).conflict ∙ alike.conflict p from to;
        pedestrian = (stands p from to).pedestrian ∙ alike.pedestrian p from to;
        output = (stands p from to).output;
      }
        where
          set_alike : calls_looks.AreAlike (memories_in r.calls) (as_set plan told (memories_in r.calls))
          set_alike = record {
            vehicle = λ q low high. (sets q low high).vehicle;
            pedestrian = λ q low high. (sets q low high).pedestrian;
            count = λ q low high. (sets q low high).count;
          }

          own : calls_looks.AgreeOnPhases plan told told
          own = record {
            output = λ d low high. refl;
            actuated = λ d low high. refl;
            button = λ d low high. refl;
            interval = λ q low high. refl;
            pedestrian_part = λ q low high. refl;
            runs = refl;
            omitted = λ q low high. refl;
            service_ended = refl;
          }

          alike : calls_looks.AreCalledAlike plan told told (memories_in r.calls) (as_set plan told (memories_in r.calls))
          alike = (look-alike plan told told placed.count own).called (memories_in r.calls) (as_set plan told (memories_in r.calls)) set_alike
