-- What holds of plan, intervals and rings where nothing is in service or about to be, and is kept by a tick and by a commit
-- that leaves the structure, holds in every run.
use Rattle.std.proofs.Common.{◌≡◌, ℕ, ◌+◌, Bool, true, false, ◌&&◌, if◌then◌else◌, List, [], ◌∷◌, Option, None, is_some, refl, inl, inr}
use Rattle.std.proofs.lemmas.Bool.{cases_Bool}
use Rattle.tsb_types.specs.declared.interval.Interval.{Interval}
use Rattle.tsb_types.specs.declared.interval.Interval.TheVariants.{Red}
use Rattle.tsb_types.specs.declared.lamp.Lamp.{Lamp}
use Rattle.tsb_types.specs.declared.row.Row.{Row}
use Rattle.tsb_types.specs.Intervals.{in_service}
use Rattle.tsb_objects.specs.tsb_plan.Plan.{Plan}
use Rattle.tsb_ring.specs.Rings as rings
use Rattle.tsb_ring.specs.Rings.{Ring}
use Rattle.tsb_ring.specs.GivenUp.{given_up}
use Rattle.tsb_transact.specs.Desk.{with_edits}
use Rattle.tsb_transact.specs.Commit.{changes_structure}
use Rattle.tsb_step.specs.declared.inputs.Input.{Input}
use Rattle.tsb_step.specs.declared.inputs.Input.TheVariants as inputs
use Rattle.tsb_step.specs.State.{State, start, restarted, interval}
use Rattle.tsb_step.specs.Tick.{target, after_moves, next}
use Rattle.tsb_step.specs.Signs.{watched}
use Rattle.tsb_step.specs.Step.{is_serving, committed, ticked, with_lamp, reset, step, verdict}
use Rattle.tsb_step.specs.Runs.{replay, AreTaken}
use Rattle.tsb_step.specs.Laws.{IsConsistent}
use Rattle.tsb_step.specs.Good.{IsGood}
use Rattle.tsb_step.proofs.CommitLemmas.{IsStill, still}
use Rattle.tsb_step.proofs.EditLemmas.{or_false}
use Rattle.tsb_step.proofs.FieldLemmas.{not_both_then}
use Rattle.tsb_step.proofs.GiveUpLemmas.{by_rings}
use Rattle.tsb_step.proofs.GoodLemmas.{allowed, good_run}

pub record IsKept (Q : Plan → (ℕ → Interval) → rings.State → Type 0) : Type 0 where
  pub still : (plan : Plan) (i : ℕ → Interval) (s : rings.State) → ((p : ℕ) → in_service (i p) ≡ true → ⊥) →
      ((r : Ring) → s.commitment r ≡ None) → Q plan i s
  pub ticks : (s : State) (row : Row) → IsGood s → Q s.plan (interval s) s.rings → Q s.plan (interval (next s row)) (after_moves s row).rings
  pub gives : (plan : Plan) (i : ℕ → Interval) (target : Option (ℕ → Bool)) (s : rings.State) → Q plan i s → Q plan i (given_up plan target s)
  pub commits : (s : State) → changes_structure s.plan s.desk.edits ≡ false → Q s.plan (interval s) s.rings →
      Q (with_edits s.plan s.desk.edits) (interval s) s.rings

module _ (Q : Plan → (ℕ → Interval) → rings.State → Type 0) (kept : IsKept Q) where
  abbrev Holds : State → Type 0
  Holds s = Q s.plan (interval s) s.rings

  at_start : (plan : Plan) → Holds (start plan)
  at_start plan = kept.still plan (λ p. Red) rings.power_up (λ p h. cc) (λ r. refl)

  after_tick : (s : State) (row : Row) → IsGood s → Holds s → Holds (ticked row s)
  unfolding watched
  after_tick s row good was = go (is_some s.trip)
    where
      go : (b : Bool) → Holds (if b then record s { now = s.now + 1 } else (if b then next s row else watched s (next s row)))
      go true = was
      go false =
          by_rings (λ (x : rings.State). Q s.plan (interval (next s row)) x) s row (kept.ticks s row good was)
          (kept.gives s.plan (interval (next s row)) (target s row) (after_moves s row).rings (kept.ticks s row good was))

  after_lamp : (s : State) (lamp : Option Lamp) → Holds s → Holds (with_lamp lamp s)
  unfolding watched
  after_lamp s lamp was = go (is_some s.trip)
    where
      go : (b : Bool) → Holds (if b then record s { lamp = lamp } else watched s (record s { lamp = lamp }))
      go true = was
      go false = was

  after_reset : (s : State) → Holds s → Holds (reset s)
  after_reset s was = go (is_some s.trip)
    where
      go : (b : Bool) → Holds (if b then restarted s else s)
      go true = at_start s.plan
      go false = was

  after_commit : (s : State) (station : ℕ) → verdict s (inputs.Commit station) ≡ None → IsGood s → Holds s → Holds (committed s)
  after_commit s station taken good was =
      elim (cases_Bool (changes_structure s.plan s.desk.edits)) [
        | inr unchanged ↦ rw unchanged (kept.commits s unchanged was)
        | inl change ↦ rw change (idle (still s good.rings (not_both_then (is_serving s) (changes_structure s.plan s.desk.edits) waits change)))
      ]
    where
      waits : (is_serving s && changes_structure s.plan s.desk.edits) ≡ false
      waits = (or_false (is_serving s && changes_structure s.plan s.desk.edits) _ (allowed s station taken).waits_not).0

      idle : IsStill (interval s) s.rings → Q (with_edits s.plan s.desk.edits) (interval s) (rings.forgotten s.rings)
      idle it = kept.still (with_edits s.plan s.desk.edits) (interval s) (rings.forgotten s.rings) it.none_serves it.none_is_next

  after_input : (s : State) (i : Input) → verdict s i ≡ None → IsGood s → Holds s → Holds (step s i)
  unfolding step
  after_input s (inputs.Tick row) taken good was = after_tick s row good was
  after_input s (inputs.Fault lamp) taken good was = after_lamp s lamp was
  after_input s inputs.Reset taken good was = after_reset s was
  after_input s (inputs.Commit station) taken good was = after_commit s station taken good was
  after_input s i taken good was = was

  pub kept_run : (plan : Plan) (is : List Input) → IsConsistent plan → AreTaken plan is → Q (replay plan is).plan (interval (replay plan is)) (replay plan is).rings
  kept_run plan [] ok taken = at_start plan
  kept_run plan (i ∷ is) ok taken = after_input (replay plan is) i taken.1 (good_run plan is ok taken.0) (kept_run plan is ok taken.0)
