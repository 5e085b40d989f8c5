-- A tick in which a walk begins within a green, by pedestrian recycle: what it has found, and what it makes of the
-- phase. For `recycled_calls_walk` and `recycled_walks_end_in_time`.
use Rattle.std.proofs.Common.{◌≡◌, ℕ, ◌≤◌, nat_le, Bool, true, false, not, ◌&&◌, ◌||◌, None, is_none, refl, sym, ap, arith, ◌∙◌, inl, inr}
use Rattle.std.proofs.lemmas.Bool.{and_parts, cases_Bool, true≢false}
use Rattle.std.proofs.lemmas.Bool.Decides.{nat_tests}
use Rattle.tsb_step.specs.tsb_types.declared.interval.Interval.TheVariants.{Green}
use Rattle.tsb_step.specs.tsb_types.declared.interval.PedestrianInterval.TheVariants.{DontWalk, Walk}
use Rattle.tsb_step.specs.tsb_types.declared.row.Row.{Row}
use Rattle.tsb_step.specs.tsb_types.Flow.{gives_walk}
use Rattle.tsb_step.specs.tsb_types.Intervals.{is_green, is_dont_walk}
use Rattle.tsb_step.specs.tsb_types.Sets.{is_phase}
use Rattle.tsb_step.specs.tsb_plan.declared.object.Object.TheVariants.{PhaseWalk}
use Rattle.tsb_step.specs.tsb_plan.Plan.{Plan, is_enabled, walk}
use Rattle.tsb_step.specs.tsb_plan.Running.{is_on_pedestrian_recall}
use Rattle.tsb_step.specs.tsb_rules.Rules.{serves_pedestrians, has_walk}
use Rattle.tsb_step.specs.tsb_phase.Phase.{Phase}
use Rattle.tsb_step.specs.tsb_phase.Pedestrian.{may_walk_again, pedestrian_now, walks_again}
use Rattle.tsb_step.specs.tsb_ring.Moves.{is_ended, is_started}
use Rattle.tsb_step.specs.declared.inputs.Input.TheVariants.{Tick}
use Rattle.tsb_step.specs.State.{State, interval, pedestrian_part}
use Rattle.tsb_step.specs.Tick.{service, forced, recycle, set, runs, pedestrian_call, phases_given, phase_read, moves, next}
use Rattle.tsb_step.specs.Step.{step}
use Rattle.tsb_step.specs.Good.{IsGood}
use Rattle.tsb_step.proofs.ClearLemmas.{phases_then}
use Rattle.tsb_step.proofs.TellLemmas.{starts_no_green, is_in_green}
use Rattle.tsb_step.proofs.WaitedLemmas.{ended_has_lasted}
use Rattle.tsb_step.proofs.tsb_rules.ConsistentLemmas.{is-off}
use Rattle.tsb_step.proofs.tsb_phase.ReadyLemmas.{is_in_dont_walk}
use Rattle.tsb_laws.proofs.operation.recycle.RecycleTimeLemmas.{unforced_now}
use Rattle.tsb_step.proofs.EventLemmas.{none-of}

-- who has a pedestrian call is enabled, and has a walk
pub record IsWalked (plan : Plan) (p : ℕ) : Type 0 where
  pub enabled : is_enabled plan p ≡ true
  pub long : 1 ≤ walk plan p

pub called_walks : (s : State) (row : Row) (p : ℕ) → pedestrian_call s row p ≡ true → IsWalked s.plan p
called_walks s row p h = record {
  enabled = both.0;
  long = (let least : 1 ≤ s.plan.value PhaseWalk p = at_least (s.plan.value PhaseWalk p) both.1 in omega (arith, least));
}
  where
    serves : serves_pedestrians s.plan p ≡ true
    serves = (and_parts (serves_pedestrians s.plan p) ((set s row).pedestrian p || is_on_pedestrian_recall s.plan (runs s) p) h).0

    both : (is_enabled s.plan p ≡ true) × (has_walk s.plan p ≡ true)
    both = and_parts (is_enabled s.plan p) (has_walk s.plan p) serves

    at_least : (n : ℕ) → nat_le 1 n ≡ true → 1 ≤ n
    at_least n k = grind (arith, nat_tests, k)

-- ## What it has found

pub record Again (s : State) (row : Row) (p : ℕ) : Type 0 where
  pub on : is_phase p ≡ true
  pub green : interval s p ≡ Green
  pub dark : pedestrian_part s p ≡ DontWalk
  pub recycled : recycle s p ≡ true
  pub not_now : forced s p ≡ false
  pub called : pedestrian_call s row p ≡ true
  pub long : 1 ≤ walk s.plan p
  pub quiet : service s row ≡ None
  pub unforced : ((s.phases p).forced && (phases_given s row).conflict p) ≡ false
  pub now : pedestrian_now s.plan (phases_given s row) p (phase_read s p) ≡ Walk

-- a phase in DontWalk that may walk again does
walks_now : (s : State) (row : Row) (p : ℕ) → pedestrian_part s p ≡ DontWalk → may_walk_again (phases_given s row) p (phase_read s p) ≡ true →
    pedestrian_now s.plan (phases_given s row) p (phase_read s p) ≡ Walk
unfolding pedestrian_now
walks_now s row p e h = rw (e, h) refl

pub again_parts : (s : State) (row : Row) (p : ℕ) → walks_again (phases_given s row) p (phase_read s p) ≡ true → Again s row p
unfolding phases_given
again_parts s row p h = record {
  on = phase.0;
  green = is_in_green (interval s p) outer.0;
  dark = dark;
  recycled = phase.1;
  not_now = unforced_now s p phase.1;
  called = called;
  long = (called_walks s row p called).long;
  quiet = none-of (service s row) given.1;
  unforced = is-off stands inner.1;
  now = walks_now s row p dark both.1;
}
  where
    stands : Bool
    stands = (s.phases p).forced && (phases_given s row).conflict p

    both : (is_dont_walk (pedestrian_part s p) ≡ true) × (may_walk_again (phases_given s row) p (phase_read s p) ≡ true)
    both = and_parts (is_dont_walk (pedestrian_part s p)) (may_walk_again (phases_given s row) p (phase_read s p)) h

    dark : pedestrian_part s p ≡ DontWalk
    dark = is_in_dont_walk (pedestrian_part s p) both.0

    outer : (is_green (interval s p) ≡ true)
        × (((phases_given s row).recycle p && (gives_walk ((phases_given s row).pedestrian_call p) (service s row) && not stands)) ≡ true)
    outer = and_parts (is_green (interval s p)) ((phases_given s row).recycle p && (gives_walk ((phases_given s row).pedestrian_call p) (service s row) && not stands)) both.1

    middle : ((phases_given s row).recycle p ≡ true) × ((gives_walk ((phases_given s row).pedestrian_call p) (service s row) && not stands) ≡ true)
    middle = and_parts ((phases_given s row).recycle p) (gives_walk ((phases_given s row).pedestrian_call p) (service s row) && not stands) outer.1

    phase : (is_phase p ≡ true) × (recycle s p ≡ true)
    phase = and_parts (is_phase p) (recycle s p) middle.0

    inner : (gives_walk ((phases_given s row).pedestrian_call p) (service s row) ≡ true) × (not stands ≡ true)
    inner = and_parts (gives_walk ((phases_given s row).pedestrian_call p) (service s row)) (not stands) middle.1

    given : ((phases_given s row).pedestrian_call p ≡ true) × (is_none (service s row) ≡ true)
    given = and_parts ((phases_given s row).pedestrian_call p) (is_none (service s row)) inner.0

    called : pedestrian_call s row p ≡ true
    called = (and_parts (is_phase p) (pedestrian_call s row p) given.0).1

-- ## What it makes of the phase

-- a green that goes on has the pedestrian part that phase timing finds
pub part_goes_on : (s : State) (row : Row) (p : ℕ) → IsGood s → interval s p ≡ Green → is_ended (moves s row) p ≡ false →
    pedestrian_part (next s row) p ≡ pedestrian_now s.plan (phases_given s row) p (phase_read s p)
part_goes_on s row p good e h = rw (no_start, e, h) refl
  where
    no_start : is_started (moves s row) p ≡ false
    no_start =
        elim (cases_Bool (is_started (moves s row) p)) [
          | inl k ↦ absurd (true≢false (sym (ap is_green e) ∙ starts_no_green s row p good k))
          | inr k ↦ k
        ]

-- one that ends is in DontWalk
pub part_ends : (s : State) (row : Row) (p : ℕ) → IsGood s → interval s p ≡ Green → is_ended (moves s row) p ≡ true → pedestrian_part (next s row) p ≡ DontWalk
part_ends s row p good e h = rw (no_start, e, h) refl
  where
    no_start : is_started (moves s row) p ≡ false
    no_start =
        elim (cases_Bool (is_started (moves s row) p)) [
          | inl k ↦ absurd (true≢false (sym (ap is_green e) ∙ starts_no_green s row p good k))
          | inr k ↦ k
        ]

-- and one that walks does not end
pub walk_goes_on : (s : State) (row : Row) (p : ℕ) → pedestrian_now s.plan (phases_given s row) p (phase_read s p) ≡ Walk → is_ended (moves s row) p ≡ false
walk_goes_on s row p h =
    elim (cases_Bool (is_ended (moves s row) p)) [
      | inl k ↦ (let bad : DontWalk ≡ Walk = sym (ended_has_lasted s row p k).dont_walk ∙ h in absurd cc)
      | inr k ↦ k
    ]

-- the phase is in Walk after the tick
pub again_walks : (s : State) (row : Row) (p : ℕ) → IsGood s → s.trip ≡ None → Again s row p → pedestrian_part (step s (Tick row)) p ≡ Walk
again_walks s row p good dark it =
    ap (λ (f : ℕ → Phase). (f p).pedestrian) (phases_then s row dark)
    ∙ (part_goes_on s row p good it.green (walk_goes_on s row p it.now) ∙ it.now)
