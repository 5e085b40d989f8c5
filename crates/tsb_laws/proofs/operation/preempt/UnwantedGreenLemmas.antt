-- Under a preempt a green that it does not want and that is ready ends, or waits for the barrier. Proves
-- `unwanted_greens_end`.
use Rattle.std.proofs.Common.{◌≡◌, ℕ, ◌≤◌, Bool, true, false, not, ◌&&◌, List, ◌∷◌, Option, Some, None, refl, sym, ap, ◌∙◌, inl, inr, arith}
use Rattle.std.proofs.lemmas.Bool.{true≢false, false≢true}
use Rattle.tsb_step.specs.tsb_types.declared.interval.Interval.{Interval}
use Rattle.tsb_step.specs.tsb_types.declared.interval.Interval.TheVariants.{Green}
use Rattle.tsb_step.specs.tsb_types.declared.row.Row.{Row}
use Rattle.tsb_step.specs.tsb_types.Intervals.{is_green, in_service}
use Rattle.tsb_step.specs.tsb_plan.Plan.{Plan, is_enabled}
use Rattle.tsb_step.specs.tsb_phase.Phase.{Phase}
use Rattle.tsb_step.specs.tsb_preempt.Preempts as preempts
use Rattle.tsb_step.specs.tsb_ring.declared.want.Want.TheVariants.{Cross}
use Rattle.tsb_step.specs.tsb_ring.Rings.{Ring, in_ring, serving}
use Rattle.tsb_step.specs.tsb_ring.Wants.{is_targeted, is_targeted_elsewhere, want_of}
use Rattle.tsb_step.specs.tsb_ring.Crossings.{begins}
use Rattle.tsb_step.specs.tsb_ring.Next.{starting}
use Rattle.tsb_step.specs.tsb_ring.Moves.{is_ended}
use Rattle.tsb_step.specs.tsb_ring.Laws.{IsListed}
use Rattle.tsb_step.proofs.tsb_ring.WaitLemmas.{is_serving}
use Rattle.tsb_step.specs.declared.inputs.Input.{Input}
use Rattle.tsb_step.specs.declared.inputs.Input.TheVariants.{Tick}
use Rattle.tsb_step.specs.State.{State, interval}
use Rattle.tsb_step.specs.Tick.{service, must_end, ready, rings_given, moves, yellow_done, next}
use Rattle.tsb_step.specs.Runs.{replay, AreTaken}
use Rattle.tsb_step.specs.Laws.{IsConsistent}
use Rattle.tsb_step.specs.TimeLaws.{IsSided}
use Rattle.tsb_step.specs.Good.{IsGood}
use Rattle.tsb_step.proofs.ClearLemmas.{phases_then}
use Rattle.tsb_step.proofs.GivenLemmas.{symmetric, given}
use Rattle.tsb_step.proofs.GoodLemmas.{good_run}
use Rattle.tsb_step.proofs.IntervalLemmas.{intervals_after}
use Rattle.tsb_step.proofs.SideRunLemmas.{sided_run}
use Rattle.tsb_step.proofs.TellLemmas.{is_in_green}
use Rattle.tsb_laws.specs.CrossingGreens.{IsCalm}
use Rattle.tsb_laws.specs.UnwantedGreens.{WaitsFor, a_commitment, a_green}
use Rattle.tsb_laws.proofs.safety.CrossingRingLemmas.{begins_ending}
use Rattle.tsb_laws.proofs.safety.DueLemmas.{count_run, clipped_at}
use Rattle.tsb_laws.proofs.safety.EnabledLemmas.{callable_no_green}
use Rattle.tsb_laws.proofs.operation.step.CalmLemmas.{stays_green, not_started, calm_run}
use Rattle.tsb_laws.proofs.operation.preempt.PreemptEntryLemmas.{Asks, asked, told, pairs}
use Rattle.tsb_laws.proofs.operation.preempt.PressLemmas.{Bars, committed_to, green_of, serving_is, leaves_or_crosses, not_wanted_here, barred}

not_in : (a b : Bool) → not b ≡ true → (a && b) ≡ false
not_in false b h = refl
not_in true false h = refl
not_in true true h = absurd (false≢true h)

module _ (s : State) (row : Row) (p : ℕ) (good : IsGood s) (calm : IsCalm s.plan (interval s) s.rings) (sided : IsSided s.plan (interval s) s.rings) (few : s.plan.phase_count ≤ 16) (it : Asks s row) (green : interval s p ≡ Green) (must : must_end s row p ≡ true) (fit : ready s row p ≡ true) (after : interval (next s row) p ≡ Green) where
  serves : in_service (interval s p) ≡ true
  serves = ap in_service green

  own : (r : Ring) × (in_ring s.plan r p ≡ true)
  own = good.rings.ringed p serves

  listed : IsListed s.plan p
  listed = good.rings.listed p serves

  no_crossing : s.rings.crossing ≡ None
  no_crossing = go s.rings.crossing refl
    where
      go : (o : Option ℕ) → s.rings.crossing ≡ o → s.rings.crossing ≡ None
      go None e = e
      go (Some d) e = absurd (true≢false (sym (ap is_green green) ∙ calm.crosses d e p))

  uncommitted : s.rings.commitment own.0 ≡ None
  uncommitted = go (s.rings.commitment own.0) refl
    where
      go : (o : Option ℕ) → s.rings.commitment own.0 ≡ o → s.rings.commitment own.0 ≡ None
      go None e = e
      go (Some c) e = absurd (true≢false (sym (ap is_green green) ∙ calm.bound own.0 c p e own.1))

  at_it : serving s.plan (rings_given s row) own.0 ≡ Some p
  unfolding rings_given
  at_it = is_serving s.plan s.rings (rings_given s row) own.0 p good.rings own.1 serves

  unwanted : is_targeted s.plan it.list p ≡ false
  unwanted = not_in (is_enabled s.plan p) (it.list p) (sym (ap (λ (o : Option (ℕ → Bool)). preempts.is_outside o p) it.is_target) ∙ must)

  is_told : (q : ℕ) → IsListed s.plan q → (rings_given s row).ready q ≡ ready s row q
  unfolding rings_given
  is_told q h = clipped_at (ready s row) s.plan q few h

  starts_none : starting s.plan s.rings (rings_given s row) own.0 ≡ None
  unfolding starting
  starts_none = rw (uncommitted, at_it) refl

  not_ended : is_ended (moves s row) p ≡ false
  unfolding moves rings_given
  not_ended =
      (stays_green s.plan s.rings (rings_given s row) (yellow_done s) (symmetric s.plan good.plan.rules) good.rings (given s row good)
      (callable_no_green s row) calm p (ap is_green (sym (ap (λ (f : ℕ → Interval). f p) (intervals_after s row)) ∙ after))
      (not_started s.plan s.rings (rings_given s row) (yellow_done s) (symmetric s.plan good.plan.rules) good.rings (given s row good)
      (callable_no_green s row) calm own.0 p own.1 starts_none)).1

  waits : Bars s.rings s.plan (rings_given s row) → WaitsFor s row
  unfolding rings_given
  waits (committed_to r c e) = a_commitment r c e
  waits (green_of r q e is unready) =
      let here : in_service (interval s q) ≡ true = (serving_is s.plan (rings_given s row) r q e).1 in
      a_green q (is_in_green (interval s q) is) (sym (is_told q (good.rings.listed q here)) ∙ unready)

  unserved : is_targeted_elsewhere s.plan s.rings it.list ≡ true → (r : Ring) (q : ℕ) → serving s.plan (rings_given s row) r ≡ Some q →
      is_targeted s.plan it.list q ≡ false
  unfolding rings_given
  unserved away r q e =
      let here : in_service (interval s q) ≡ true = (serving_is s.plan (rings_given s row) r q e).1 in
      not_wanted_here s.plan s.rings (rings_given s row) it.list (told s row good it) good.plan.rules (pairs s row good it) q away
      (good.rings.listed q here) (sided.serves q here)

  crosses : (b : Bool) → begins s.plan s.rings (rings_given s row) ≡ b → want_of s.plan s.rings (rings_given s row) own.0 ≡ Some Cross →
      is_targeted_elsewhere s.plan s.rings it.list ≡ true → WaitsFor s row
  unfolding rings_given moves
  crosses true b w away =
      absurd (true≢false (sym (begins_ending s.plan s.rings (rings_given s row) own.0 p good.rings own.1 serves (ap is_green green) b) ∙ not_ended))
  crosses false b w away =
      waits (barred s.plan s.rings (rings_given s row) it.list (told s row good it) good.plan.rules (pairs s row good it) own.0 w no_crossing away
      (unserved away) b)

  must_wait : WaitsFor s row
  unfolding rings_given moves
  must_wait =
      elim (leaves_or_crosses s.plan s.rings (rings_given s row) it.list (told s row good it) good.plan.rules (pairs s row good it) own.0 p at_it own.1
      (ap is_green green) (is_told p listed ∙ fit) no_crossing uncommitted unwanted) [
        | inl ended ↦ absurd (true≢false (sym ended ∙ not_ended))
        | inr both ↦ crosses (begins s.plan s.rings (rings_given s row)) refl both.0 both.1
      ]

pub waits_or_ends : (plan : Plan) (is : List Input) (row : Row) (n p : ℕ) → IsConsistent plan → plan.phase_count ≤ 16 → AreTaken plan is →
    (replay plan is).trip ≡ None → service (replay plan is) row ≡ Some n → must_end (replay plan is) row p ≡ true →
    ready (replay plan is) row p ≡ true → interval (replay plan is) p ≡ Green → interval (replay plan (Tick row ∷ is)) p ≡ Green →
    WaitsFor (replay plan is) row
waits_or_ends plan is row n p ok few taken dark h must fit green after =
    must_wait (replay plan is) row p (good_run plan is ok taken) (calm_run plan is ok taken) (sided_run plan is ok taken) few_now
    (asked (replay plan is) row n h) green must fit (sym (ap (λ (f : ℕ → Phase). (f p).interval) (phases_then (replay plan is) row dark)) ∙ after)
  where
    few_now : (replay plan is).plan.phase_count ≤ 16
    few_now = let same = count_run plan is in omega (arith, same, few)
