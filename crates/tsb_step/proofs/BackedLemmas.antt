-- After every run each overlap that has intervals of its own is lit by phases: inputs of every kind keep it so.
use Rattle.std.proofs.Common.{◌≡◌, ℕ, ◌+◌, ◌≤◌, Bool, true, false, not, ◌&&◌, if◌then◌else◌, List, [], ◌∷◌, Option, Some, None, is_some, refl, sym, subst, ap, arith, ◌∙◌, inl, inr, ◌⊎◌}
use Rattle.std.specs.List.{list_any}
use Rattle.std.proofs.lemmas.Bool.{cases_Bool, and_parts, or_right, or_cases, true≢false, false≢true, false_from_ne_true, leb-true}
use Rattle.std.proofs.lemmas.Bool.Decides.{nat_tests}
use Rattle.tsb_cells.specs.declared.timer.Timer.{Timer}
use Rattle.tsb_cells.specs.declared.timer.Timer.TheVariants.{Off, On}
use Rattle.tsb_cells.specs.Timer.{advanced, has_reached}
use Rattle.tsb_types.specs.declared.interval.Interval.{Interval}
use Rattle.tsb_types.specs.declared.interval.Interval.TheVariants as intervals
use Rattle.tsb_types.specs.declared.lamp.Lamp.{Lamp}
use Rattle.tsb_types.specs.declared.row.Row.{Row}
use Rattle.tsb_types.specs.Intervals.{is_green, is_yellow, in_service}
use Rattle.tsb_types.specs.Lists.{among, first, run_from}
use Rattle.tsb_types.specs.Sets.{names}
use Rattle.tsb_types.proofs.FirstLemmas.{first-any, first-passes, first-within}
use Rattle.tsb_types.proofs.RunLemmas.{among-run, any-at}
use Rattle.tsb_objects.specs.tsb_plan.declared.object.Object.TheVariants.{OverlapModifierPhases}
use Rattle.tsb_objects.specs.tsb_plan.Parts.{heeds_pedestrians, is_arrow, is_included, is_modifier, is_timed, trails}
use Rattle.tsb_objects.specs.tsb_plan.Plan.{Plan, phases, yellow_change}
use Rattle.tsb_objects.specs.tsb_rules.Consistent.{IsArrowSound}
use Rattle.tsb_phase.specs.Phase.{Phase}
use Rattle.tsb_phase.specs.Ready.{yellow_is_done}
use Rattle.tsb_heads.specs.Overlaps.{IsOverlap, is_kept_green}
use Rattle.tsb_ring.specs.Moves.{is_cleared, is_started}
use Rattle.tsb_transact.specs.Commit.{changes_structure}
use Rattle.tsb_overlap.specs.declared.parts.OverlapInterval.{OverlapInterval}
use Rattle.tsb_overlap.specs.declared.parts.OverlapInterval.TheVariants.{Red, Green, TrailGreen, Flashing, Yellow, RedClear}
use Rattle.tsb_overlap.specs.Overlap as overlaps
use Rattle.tsb_overlap.specs.Overlap.{Overlap, Given, yellow_of, as_read, run_on, is_held, holds, is_trailing, may_flash, is_open_to, turn_of, ended_flash, settled}
use Rattle.tsb_step.specs.Backed.{IsOpposed, IsYellowBy, PointsBy, IsTrailed, TrailsBy, IsBacked, AreBacked, IsGoodInAll}
use Rattle.tsb_step.specs.declared.inputs.Input.{Input}
use Rattle.tsb_step.specs.declared.inputs.Input.TheVariants as inputs
use Rattle.tsb_step.specs.Events.{is_by}
use Rattle.tsb_step.specs.State.{State, Tripped, start, restarted, interval}
use Rattle.tsb_step.specs.Tick.{service, moves, moved, phase_read, held, overlaps_given, next}
use Rattle.tsb_step.specs.Signs.{shown, watched, unless_tripped}
use Rattle.tsb_step.specs.Step.{ticked, committed, is_serving, reset, step, verdict}
use Rattle.tsb_step.specs.Runs.{replay, AreTaken}
use Rattle.tsb_step.specs.Laws.{IsConsistent}
use Rattle.tsb_step.specs.Good.{IsGood}
use Rattle.tsb_step.proofs.ArrowLemmas as arrows
use Rattle.tsb_step.proofs.ArrowLemmas.{YellowIs, BecomesArrow, turns, flashes, stops, ends_green, ends_flash, goes_on, arrow_after}
use Rattle.tsb_step.proofs.TrailLemmas as trail
use Rattle.tsb_overlap.proofs.DueLemmas.{trail-run_on}
use Rattle.tsb_step.proofs.TrailLemmas.{BecomesTrail, Holds, trail_after}
use Rattle.tsb_step.proofs.TurnLemmas.{arrow_turn, trailing_placed}
use Rattle.tsb_step.proofs.ClearLemmas.{started_was_free, phases_then}
use Rattle.tsb_step.proofs.CommitLemmas.{still}
use Rattle.tsb_step.proofs.EditLemmas.{or_false}
use Rattle.tsb_step.proofs.EndLemmas.{ends_in_next}
use Rattle.tsb_step.proofs.GiveUpHeadLemmas.{kept_aside, kept_by_moves}
use Rattle.tsb_step.proofs.GivenLemmas.{phase_is_listed}
use Rattle.tsb_step.proofs.GoodLemmas.{allowed, good_step, good_run}
use Rattle.tsb_step.proofs.HoldLemmas.{cleared_was_free}
use Rattle.tsb_step.proofs.OverlapLemmas.{Found, found_in, any_by, and_both, Keeper, keeper, is_clearing, clearing_serves, Turned, turned_by_moves}
use Rattle.tsb_step.proofs.SightLemmas.{SameSight, kept_too, plain, same_committed}
use Rattle.tsb_step.proofs.TellLemmas.{is_in_green, is_in_yellow}
use Rattle.tsb_types.proofs.IntervalLemmas.{serves-green}
use Rattle.tsb_step.proofs.TimerLemmas.{is_shown, yellow_timer}

-- ## Phases over a tick

module _ (s : State) (row : Row) where
  -- a phase that an overlap holds goes on clearing
  clears_on : (p : ℕ) → IsGood s → held s row p ≡ true → is_clearing (interval s p) ≡ true → is_clearing (interval (next s row) p) ≡ true
  clears_on p good holds e = go (interval s p) (yellow_is_done s.plan p (phase_read s p)) refl refl
    where
      starts_not : is_started (moves s row) p ≡ false
      starts_not =
          false_from_ne_true (is_started (moves s row) p)
          (λ h. true≢false (sym holds ∙ started_was_free s row p good (clearing_serves (interval s p) e) h))

      clears_not : is_cleared (moves s row) p ≡ false
      clears_not = false_from_ne_true (is_cleared (moves s row) p) (λ h. true≢false (sym holds ∙ cleared_was_free s row p h))

      go : (i : Interval) (done : Bool) → interval s p ≡ i → yellow_is_done s.plan p (phase_read s p) ≡ done → is_clearing (interval (next s row) p) ≡ true
      go intervals.Red done x d = absurd (false≢true (rw x at e))
      go intervals.Green done x d = absurd (false≢true (rw x at e))
      go intervals.Yellow true x d = rw (starts_not, x, clears_not, rw x at d) refl
      go intervals.Yellow false x d = rw (starts_not, x, clears_not, rw x at d) refl
      go intervals.RedClear done x d = rw (starts_not, x, clears_not) refl

  -- a Green phase is Green or Yellow after the tick, and its yellow begins then
  green_then : (p : ℕ) → IsGood s → interval s p ≡ intervals.Green → is_shown (interval (next s row) p) ≡ true
  green_then p good e =
      elim (cases_Bool (is_green (interval (next s row) p))) [
        | inl h ↦ rw h refl
        | inr h ↦ (let yellow : interval (next s row) p ≡ intervals.Yellow =
            ((ends_in_next s row p good).green e (λ k. true≢false (sym (ap is_green k) ∙ h))).0 in rw yellow refl)
      ]

  -- by the interval before, the timer of a yellow phase after the tick
  yellow_then : (p : ℕ) → interval (next s row) p ≡ intervals.Yellow →
      ((next s row).phases p).timer ≡ (if is_yellow (interval s p) then advanced (s.phases p).timer else On 0)
  yellow_then p h = yellow_timer s.plan (moved s row) p (phase_read s p) h

-- ## An arrow over a tick

-- it flashes with a green that it includes
opens : (plan : Plan) (given : Given) (o t : ℕ) → may_flash plan given o t ≡ true → list_any (is_open_to plan given o) (phases plan) ≡ true
unfolding may_flash
opens plan given o t h =
    let a = and_parts (not (given.omitted o)) _ h in
    let b = and_parts (not (overlaps.is_turning given t)) _ a.1 in
    (and_parts (not (heeds_pedestrians plan o && list_any (overlaps.is_walked plan given o) (phases plan))) _ b.1).1

zero_only : (m : ℕ) → On 0 ≡ On m → m ≤ 0
zero_only m h = let same : 0 ≡ m = cc in omega (arith, same)

-- a timer that runs on is no later than another that does
still_later : (timer : Timer) (m n : ℕ) → advanced timer ≡ On m → ((k : ℕ) → timer ≡ On k → k ≤ n) → m ≤ n + 1
still_later Off m n e later = absurd cc
still_later (On k) m n e later = let same : k + 1 ≡ m = cc in let within : k ≤ n = later k refl in omega (arith, same, within)

-- and where it has reached its time so has the other
reached_too : (timer : Timer) (time n : ℕ) → ((k : ℕ) → timer ≡ On k → k ≤ n) → has_reached (advanced timer) time ≡ true → has_reached (On (n + 1)) time ≡ true
reached_too Off time n later h = absurd (false≢true h)
reached_too (On k) time n later h = let within : k ≤ n = later k refl in let long : time ≤ k + 1 = leb-true time (k + 1) h in grind (arith, nat_tests, within, long)

module _ (s : State) (row : Row) (o : ℕ) (good : IsGood s) (arrow : is_arrow s.plan o ≡ true) where
  sound : IsArrowSound s.plan o
  sound = arrow_turn s.plan good.plan o arrow

  turn_is : (t : ℕ) → turn_of s.plan o ≡ Some t → sound.turn ≡ t
  turn_is t h = let both : Some sound.turn ≡ Some t = sym sound.is_first ∙ h in cc

  -- its turn, and each phase that it includes, is one by which it is lit
  turn_by : is_by s.plan o sound.turn ≡ true
  turn_by =
      let named : is_modifier s.plan o sound.turn ≡ true = first-passes (is_modifier s.plan o) (phases s.plan) sound.turn sound.is_first in
      or_right (is_included s.plan o sound.turn) _ (rw (arrow, named) refl)

  included_by : (p : ℕ) → is_included s.plan o p ≡ true → is_by s.plan o p ≡ true
  included_by p h = rw h refl

  -- a yellow that begins with the end of a green that was
  begins_by : (q : ℕ) → (next s row).overlaps o ≡ yellow_of q → among q (phases s.plan) ≡ true → is_by s.plan o q ≡ true →
      interval s q ≡ intervals.Green → IsYellowBy (next s row) o
  begins_by q e listed by green = record {
    phase = q;
    ticks = 0;
    shows = ap (λ (z : Overlap). z.phase) e;
    runs = ap (λ (z : Overlap). z.timer) e;
    listed = listed;
    by = by;
    lit = green_then s row q good green;
    later = λ m yellow runs. zero_only m (sym (yellow_then s row q yellow ∙ rw green refl) ∙ runs);
  }

  -- the least included phase that was Green: there is one
  least_green : (f : Option ℕ) → first (λ p. is_included s.plan o p && is_green (interval s p)) (phases s.plan) ≡ f → IsOpposed s o →
      (next s row).overlaps o ≡ ended_flash sound.turn f → IsYellowBy (next s row) o
  least_green None none k e =
      let any : list_any (λ p. is_included s.plan o p && is_green (interval s p)) (phases s.plan) ≡ true =
      any_by (λ p. is_included s.plan o p && is_green (interval s p)) k.phase (phases s.plan) k.listed
      (and_both (is_included s.plan o k.phase) (is_green (interval s k.phase)) k.included (ap is_green k.green)) in
      absurd (false≢true (sym (ap is_some none) ∙ first-any (λ p. is_included s.plan o p && is_green (interval s p)) (phases s.plan) ∙ any))
  least_green (Some q) some k e =
      let both = and_parts (is_included s.plan o q) (is_green (interval s q)) (first-passes (λ p. is_included s.plan o p && is_green (interval s p)) (phases s.plan) q some) in
      let at = first-within (λ p. is_included s.plan o p && is_green (interval s p)) 1 s.plan.phase_count q some in
      begins_by q e (among-run q 1 s.plan.phase_count at.0 at.1) (included_by q both.0) (is_in_green (interval s q) both.1)

  -- a yellow that goes on: its phase does not end its own before
  goes_on_by : IsYellowBy s o → YellowIs s.plan (s.overlaps o) false → (next s row).overlaps o ≡ as_read (s.overlaps o) → IsYellowBy (next s row) o
  goes_on_by y not_over e = record {
    phase = y.phase;
    ticks = y.ticks + 1;
    shows = ap (λ (z : Overlap). z.phase) e ∙ y.shows;
    runs = ap (λ (z : Overlap). z.timer) e ∙ ap advanced y.runs;
    listed = y.listed;
    by = y.by;
    lit = still_lit;
    later = λ m yellow runs. later m yellow runs (cases_Bool (is_yellow (interval s y.phase)));
  }
    where
      not_yet : has_reached (On (y.ticks + 1)) (yellow_change s.plan y.phase) ≡ false
      not_yet = sym (ap (λ (z : Timer). has_reached (advanced z) (yellow_change s.plan y.phase)) y.runs) ∙ not_over y.phase y.shows

      was_later : interval s y.phase ≡ intervals.Yellow → (k : ℕ) → (s.phases y.phase).timer ≡ On k → k ≤ y.ticks
      was_later yellow k runs = y.later k yellow runs

      from_yellow : interval s y.phase ≡ intervals.Yellow → is_shown (interval (next s row) y.phase) ≡ true
      from_yellow yellow =
          elim (cases_Bool (is_yellow (interval (next s row) y.phase))) [
            | inl h ↦ rw (is_in_yellow (interval (next s row) y.phase) h) refl
            | inr h ↦
                (let reached : has_reached (phase_read s y.phase).timer (yellow_change s.plan y.phase) ≡ true =
                (ends_in_next s row y.phase good).yellow yellow (λ k. true≢false (sym (ap is_yellow k) ∙ h)) in
                absurd (true≢false (sym (reached_too (s.phases y.phase).timer (yellow_change s.plan y.phase) y.ticks (was_later yellow) reached) ∙ not_yet)))
          ]

      still_lit : is_shown (interval (next s row) y.phase) ≡ true
      still_lit =
          elim (or_cases (is_green (interval s y.phase)) (is_yellow (interval s y.phase)) y.lit) [
            | inl h ↦ green_then s row y.phase good (is_in_green (interval s y.phase) h)
            | inr h ↦ from_yellow (is_in_yellow (interval s y.phase) h)
          ]

      later : (m : ℕ) → interval (next s row) y.phase ≡ intervals.Yellow → ((next s row).phases y.phase).timer ≡ On m →
          (is_yellow (interval s y.phase) ≡ true) ⊎ (is_yellow (interval s y.phase) ≡ false) → m ≤ y.ticks + 1
      later m yellow runs (inl h) =
          still_later (s.phases y.phase).timer m y.ticks (sym (yellow_then s row y.phase yellow ∙ rw h refl) ∙ runs)
          (was_later (is_in_yellow (interval s y.phase) h))
      later m yellow runs (inr h) =
          let none : m ≤ 0 = zero_only m (sym (yellow_then s row y.phase yellow ∙ rw h refl) ∙ runs) in omega (arith, none)

  points_then : PointsBy s o (s.overlaps o).interval → PointsBy (next s row) o ((next s row).overlaps o).interval
  points_then was = by (arrow_after s.plan (overlaps_given s row) s.overlaps o sound.turn arrow sound.is_first)
    where
      so : (i : OverlapInterval) → ((next s row).overlaps o).interval ≡ i → PointsBy (next s row) o i → PointsBy (next s row) o ((next s row).overlaps o).interval
      so i e h = subst (PointsBy (next s row) o) (sym e) h

      opposed : Found (is_open_to s.plan (overlaps_given s row) o) (phases s.plan) → IsOpposed (next s row) o
      opposed f =
          let a = and_parts (is_included s.plan o f.phase) _ f.passes in
          let b = and_parts (is_green (interval (next s row) f.phase)) _ a.1 in
          record { phase = f.phase; listed = f.listed; included = a.0; green = is_in_green (interval (next s row) f.phase) b.0 }

      by : BecomesArrow s.plan (overlaps_given s row) o sound.turn (s.overlaps o) ((next s row).overlaps o) →
          PointsBy (next s row) o ((next s row).overlaps o).interval
      by (turns g e) =
          so Green (ap (λ (z : Overlap). z.interval) e)
          (λ t h. is_in_green (interval (next s row) t) (subst (λ (q : ℕ). is_green (interval (next s row) q) ≡ true) (turn_is t h) g))
      by (flashes g may e) =
          so Flashing (ap (λ (z : Overlap). z.interval) e)
          (opposed (found_in (is_open_to s.plan (overlaps_given s row) o) (phases s.plan) (opens s.plan (overlaps_given s row) o sound.turn may)))
      by (stops late e) = so Red (ap (λ (z : Overlap). z.interval) e) tt
      by (ends_green x g e) =
          so Yellow (ap (λ (z : Overlap). z.interval) e)
          (begins_by sound.turn e (phase_is_listed s.plan sound.turn sound.is_phase) turn_by (green_was sound.turn sound.is_first))
        where
          green_was : PointsBy s o Green
          green_was = subst (PointsBy s o) x was
      by (ends_flash x g e) =
          so Yellow (ap (λ (z : Overlap). z.interval) e ∙ is_yellow_of (first (λ p. is_included s.plan o p && is_green (interval s p)) (phases s.plan)))
          (least_green (first (λ p. is_included s.plan o p && is_green (interval s p)) (phases s.plan)) refl (subst (PointsBy s o) x was) e)
        where
          is_yellow_of : (f : Option ℕ) → (ended_flash sound.turn f).interval ≡ Yellow
          is_yellow_of None = refl
          is_yellow_of (Some q) = refl
      by (goes_on x not_over e) =
          so Yellow (ap (λ (z : Overlap). z.interval) e ∙ x) (goes_on_by (subst (PointsBy s o) x was) not_over e)

-- ## An overlap that trails over a tick

module _ (s : State) (row : Row) (o : ℕ) (good : IsGood s) (normal : is_arrow s.plan o ≡ false) (trailing : trails s.plan o ≡ true) where
  at : IsOverlap s.plan o
  at = trailing_placed s.plan good.plan o trailing

  -- while it is not off it holds the phases that it includes
  holds_by : (p : ℕ) → is_included s.plan o p ≡ true → Holds s.plan (overlaps_given s row) o (s.overlaps o) → held s row p ≡ true
  unfolding held is_held
  holds_by p named not_off =
      any-at (holds s.plan (is_some (service s row)) s.overlaps p) 1 s.plan.counts.overlaps o at.0 (omega (arith, at.1))
      (rw (trailing, named, trail-run_on s.plan (is_some (service s row)) o (as_read (s.overlaps o)) normal trailing) not_off)

  trailed_then : Holds s.plan (overlaps_given s row) o (s.overlaps o) → IsTrailed s o → IsTrailed (next s row) o
  trailed_then not_off k = record {
    phase = k.phase;
    listed = k.listed;
    included = k.included;
    clears = clears_on s row k.phase good (holds_by k.phase k.included not_off) k.clears;
  }

  by_trailing : (i : OverlapInterval) → is_trailing i ≡ true → TrailsBy s o i → IsTrailed s o
  by_trailing Red h k = absurd (false≢true h)
  by_trailing Green h k = absurd (false≢true h)
  by_trailing TrailGreen h k = k
  by_trailing Flashing h k = absurd (false≢true h)
  by_trailing Yellow h k = k
  by_trailing RedClear h k = k

  to_trailing : (i : OverlapInterval) → is_trailing i ≡ true → IsTrailed (next s row) o → TrailsBy (next s row) o i
  to_trailing Red h k = absurd (false≢true h)
  to_trailing Green h k = absurd (false≢true h)
  to_trailing TrailGreen h k = k
  to_trailing Flashing h k = absurd (false≢true h)
  to_trailing Yellow h k = k
  to_trailing RedClear h k = k

  trails_then : s.trip ≡ None → TrailsBy s o (s.overlaps o).interval → TrailsBy (next s row) o ((next s row).overlaps o).interval
  trails_then dark was = by (trail_after s.plan (overlaps_given s row) s.overlaps o normal trailing)
    where
      so : (i : OverlapInterval) → ((next s row).overlaps o).interval ≡ i → TrailsBy (next s row) o i → TrailsBy (next s row) o ((next s row).overlaps o).interval
      so i e h = subst (TrailsBy (next s row) o) (sym e) h

      -- as its phases keep it green no more, one of them clears
      turns_trailing : is_kept_green s.plan (shown s) o ≡ true → is_kept_green s.plan (overlaps_given s row).shown o ≡ false → IsTrailed (next s row) o
      turns_trailing kept off =
          let y : Turned s row o = turned_by_moves s row o good dark kept (sym (kept_by_moves s row o at) ∙ kept_aside s row o ∙ off) in
          let yellow : interval (next s row) y.phase ≡ intervals.Yellow =
          sym (ap (λ (f : ℕ → Phase). (f y.phase).interval) (phases_then s row dark)) ∙ y.now in
          record { phase = y.phase; listed = y.of.listed; included = y.of.included; clears = rw yellow refl }

      by : BecomesTrail s.plan (overlaps_given s row) o (s.overlaps o) ((next s row).overlaps o) → TrailsBy (next s row) o ((next s row).overlaps o).interval
      by (trail.stays_green kept e) = so Green (ap (λ (z : Overlap). z.interval) e) (kept_aside s row o ∙ kept)
      by (trail.stops late e) = so Red e tt
      by (trail.begins x off (inl e)) = so TrailGreen (ap (λ (z : Overlap). z.interval) e) (turns_trailing (subst (TrailsBy s o) x was) off)
      by (trail.begins x off (inr e)) = so Yellow (ap (λ (z : Overlap). z.interval) e) (turns_trailing (subst (TrailsBy s o) x was) off)
      by (trail.goes_on x not_off e) =
          so (s.overlaps o).interval (ap (λ (z : Overlap). z.interval) e) (to_trailing (s.overlaps o).interval x (trailed_then not_off (by_trailing (s.overlaps o).interval x was)))
      by (trail.yellow_begins x not_off e) = so Yellow (ap (λ (z : Overlap). z.interval) e) (trailed_then not_off (subst (TrailsBy s o) x was))
      by (trail.red_begins x passed not_off e) = so RedClear (ap (λ (z : Overlap). z.interval) e) (trailed_then not_off (subst (TrailsBy s o) x was))
      by (trail.flashes x) = absurd (subst (TrailsBy s o) x was)

-- ## Any overlap over a tick

pub other_after : (plan : Plan) (given : Given) (f : ℕ → Overlap) (o : ℕ) → is_timed plan o ≡ false → overlaps.next plan given f o ≡ as_read (f o)
unfolding overlaps.next settled run_on
other_after plan given f o h =
    let both = or_false (is_arrow plan o) (trails plan o) h in rw (both.0, both.1) refl

pub backed_next : (s : State) (row : Row) → IsGood s → s.trip ≡ None → AreBacked s → AreBacked (next s row)
backed_next s row good dark was o = record {
  arrow = λ h. points_then s row o good h ((was o).arrow h);
  trail = λ h k. trails_then s row o good h k dark ((was o).trail h k);
  other = λ h. ap (λ (z : Overlap). z.interval) (other_after s.plan (overlaps_given s row) s.overlaps o h) ∙ (was o).other h;
}

-- ## States in which an overlap is backed alike

pub record SameBacking (s t : State) (o : ℕ) : Type 0 where
  pub sight : SameSight s t o
  pub timer : (p : ℕ) → (t.phases p).timer ≡ (s.phases p).timer
  pub overlap : t.overlaps o ≡ s.overlaps o

module _ (s t : State) (o : ℕ) (same : SameBacking s t o) where
  arrow_too : is_arrow t.plan o ≡ is_arrow s.plan o
  arrow_too = rw (same.sight.type, same.sight.value) refl

  trails_too : trails t.plan o ≡ trails s.plan o
  trails_too = rw (same.sight.trail, same.sight.value) refl

  included_too : (p : ℕ) → is_included s.plan o p ≡ true → is_included t.plan o p ≡ true
  included_too p h = rw same.sight.value h

  listed_too : (p : ℕ) → among p (phases s.plan) ≡ true → among p (phases t.plan) ≡ true
  listed_too p h = rw same.sight.count h

  by_too : (p : ℕ) → is_by s.plan o p ≡ true → is_by t.plan o p ≡ true
  by_too p h = rw (same.sight.value, same.sight.type, same.sight.modifiers) h

  turn_too : (p : ℕ) → turn_of t.plan o ≡ Some p → turn_of s.plan o ≡ Some p
  turn_too p h = sym (ap (λ (list : ℕ). first (λ q. names list q) (phases t.plan)) same.sight.modifiers
      ∙ ap (λ (n : ℕ). first (λ q. names (s.plan.value OverlapModifierPhases o) q) (run_from 1 n)) same.sight.count) ∙ h

  points_too : (i : OverlapInterval) → PointsBy s o i → PointsBy t o i
  points_too Red k = tt
  points_too Green k = λ p h. same.sight.interval p ∙ k p (turn_too p h)
  points_too TrailGreen k = k
  points_too Flashing k = record {
    phase = k.phase;
    listed = listed_too k.phase k.listed;
    included = included_too k.phase k.included;
    green = same.sight.interval k.phase ∙ k.green;
  }
  points_too Yellow k = record {
    phase = k.phase;
    ticks = k.ticks;
    shows = ap (λ (z : Overlap). z.phase) same.overlap ∙ k.shows;
    runs = ap (λ (z : Overlap). z.timer) same.overlap ∙ k.runs;
    listed = listed_too k.phase k.listed;
    by = by_too k.phase k.by;
    lit = ap is_shown (same.sight.interval k.phase) ∙ k.lit;
    later = λ m yellow runs. k.later m (sym (same.sight.interval k.phase) ∙ yellow) (sym (same.timer k.phase) ∙ runs);
  }
  points_too RedClear k = k

  trailed_too : IsTrailed s o → IsTrailed t o
  trailed_too k = record {
    phase = k.phase;
    listed = listed_too k.phase k.listed;
    included = included_too k.phase k.included;
    clears = ap is_clearing (same.sight.interval k.phase) ∙ k.clears;
  }

  trails_by_too : (i : OverlapInterval) → TrailsBy s o i → TrailsBy t o i
  trails_by_too Red k = tt
  trails_by_too Green k = kept_too s t o same.sight k
  trails_by_too TrailGreen k = trailed_too k
  trails_by_too Flashing k = k
  trails_by_too Yellow k = trailed_too k
  trails_by_too RedClear k = trailed_too k

  interval_too : (s.overlaps o).interval ≡ (t.overlaps o).interval
  interval_too = sym (ap (λ (z : Overlap). z.interval) same.overlap)

  pub backed_too : IsBacked s o → IsBacked t o
  backed_too k = record {
    arrow = λ h. subst (PointsBy t o) interval_too (points_too (s.overlaps o).interval (k.arrow (sym arrow_too ∙ h)));
    trail = λ h j. subst (TrailsBy t o) interval_too (trails_by_too (s.overlaps o).interval (k.trail (sym arrow_too ∙ h) (sym trails_too ∙ j)));
    other = λ h. sym interval_too ∙ k.other (rw (← arrow_too, ← trails_too) h);
  }

-- ## Inputs that leave phases and rings

pub backed_plain : (s t : State) → t.plan ≡ s.plan → ((p : ℕ) → (t.phases p).interval ≡ (s.phases p).interval) →
    ((p : ℕ) → (t.phases p).timer ≡ (s.phases p).timer) → t.rings ≡ s.rings → t.overlaps ≡ s.overlaps → AreBacked s → AreBacked t
backed_plain s t plans intervals timers same left was o =
    backed_too s t o (record { sight = plain s t o plans intervals same; timer = timers; overlap = ap (λ (f : ℕ → Overlap). f o) left }) (was o)

backed_watched : (before after : State) → AreBacked after → AreBacked (watched before after)
unfolding watched
backed_watched before after was = backed_plain after _ refl (λ p. refl) (λ p. refl) refl refl was

backed_unless : (before after : State) → AreBacked after → AreBacked (unless_tripped before after)
backed_unless before after was = go (is_some before.trip)
  where
    go : (b : Bool) → AreBacked (if b then after else watched before after)
    go true = was
    go false = backed_watched before after was

backed_lit : (s : State) (lamp : Option Lamp) → AreBacked s → AreBacked (record s { lamp = lamp })
backed_lit s lamp was = backed_plain s (record s { lamp = lamp }) refl (λ p. refl) (λ p. refl) refl refl was

-- ## Where all are red

pub red_backed : (s : State) → ((o : ℕ) → (s.overlaps o).interval ≡ Red) → AreBacked s
red_backed s red o = record {
  arrow = λ h. subst (PointsBy s o) (sym (red o)) tt;
  trail = λ h k. subst (TrailsBy s o) (sym (red o)) tt;
  other = λ h. red o;
}

-- where no phase is in service, all are
module _ (s : State) (good : IsGood s) (idle : (p : ℕ) → in_service (interval s p) ≡ true → ⊥) where
  idle_points : (o : ℕ) → is_arrow s.plan o ≡ true → (i : OverlapInterval) → PointsBy s o i → i ≡ Red
  idle_points o arrow Red k = refl
  idle_points o arrow Green k =
      let sound : IsArrowSound s.plan o = arrow_turn s.plan good.plan o arrow in
      absurd (idle sound.turn (rw (k sound.turn sound.is_first) refl))
  idle_points o arrow TrailGreen k = absurd k
  idle_points o arrow Flashing k = absurd (idle k.phase (rw k.green refl))
  idle_points o arrow Yellow k = absurd (idle k.phase (shown_serves (interval s k.phase) k.lit))
    where
      shown_serves : (i : Interval) → is_shown i ≡ true → in_service i ≡ true
      shown_serves intervals.Green h = refl
      shown_serves intervals.Yellow h = refl
      shown_serves intervals.RedClear h = refl
      shown_serves intervals.Red h = h
  idle_points o arrow RedClear k = absurd k

  idle_trailed : (o : ℕ) → IsTrailed s o → ⊥
  idle_trailed o k = idle k.phase (clearing_serves (interval s k.phase) k.clears)

  idle_trails : (o : ℕ) (i : OverlapInterval) → TrailsBy s o i → i ≡ Red
  idle_trails o Red k = refl
  idle_trails o Green k = absurd (kept_not (keeper s o k))
    where
      kept_not : Keeper s o → ⊥
      kept_not x =
          elim (or_cases (is_green (interval s x.phase)) _ x.keeps) [
            | inl g ↦ idle x.phase (serves-green (interval s x.phase) g)
            | inr c ↦ idle x.phase (clearing_serves (interval s x.phase) (and_parts (is_clearing (interval s x.phase)) _ c).0)
          ]
  idle_trails o TrailGreen k = absurd (idle_trailed o k)
  idle_trails o Flashing k = absurd k
  idle_trails o Yellow k = absurd (idle_trailed o k)
  idle_trails o RedClear k = absurd (idle_trailed o k)

  pub idle_red : AreBacked s → (o : ℕ) → (s.overlaps o).interval ≡ Red
  idle_red was o =
      elim (cases_Bool (is_arrow s.plan o)) [
        | inl arrow ↦ idle_points o arrow (s.overlaps o).interval ((was o).arrow arrow)
        | inr normal ↦
            elim (cases_Bool (trails s.plan o)) [
              | inl trailing ↦ idle_trails o (s.overlaps o).interval ((was o).trail normal trailing)
              | inr plain_one ↦ (was o).other (rw (normal, plain_one) refl)
            ]
      ]

-- ## A commit

backed_unchanged : (s : State) → changes_structure s.plan s.desk.edits ≡ false → AreBacked s → AreBacked (committed s)
backed_unchanged s unchanged was o =
    backed_too s (committed s) o (record { sight = same_committed s o unchanged; timer = λ p. refl; overlap = refl }) (was o)

pub backed_committed : (s : State) (station : ℕ) → verdict s (inputs.Commit station) ≡ None → IsGood s → AreBacked s → AreBacked (committed s)
backed_committed s station taken good was =
    elim (cases_Bool (changes_structure s.plan s.desk.edits)) [
      | inr unchanged ↦ backed_unchanged s unchanged was
      | inl change ↦ red_backed (committed s)
          (idle_red s good (still s good.rings (not_both_then (is_serving s) (changes_structure s.plan s.desk.edits) waits change)).none_serves was)
    ]
  where
    waits : (is_serving s && changes_structure s.plan s.desk.edits) ≡ false
    waits = (or_false (is_serving s && changes_structure s.plan s.desk.edits) _ (allowed s station taken).waits_not).0

    not_both_then : (a b : Bool) → (a && b) ≡ false → b ≡ true → a ≡ false
    not_both_then true b h k = absurd (true≢false (sym k ∙ h))
    not_both_then false b h k = refl

-- ## Every input, and every run

backed_ticked : (s : State) (row : Row) → IsGood s → AreBacked s → AreBacked (ticked row s)
backed_ticked s row good was = go s.trip refl
  where
    go : (trip : Option Tripped) → s.trip ≡ trip → AreBacked (if is_some trip then record s { now = s.now + 1 } else unless_tripped s (next s row))
    go None dark = backed_unless s (next s row) (backed_next s row good dark was)
    go (Some t) lit = backed_plain s (record s { now = s.now + 1 }) refl (λ p. refl) (λ p. refl) refl refl was

backed_reset : (s : State) → AreBacked s → AreBacked (reset s)
backed_reset s was = go (is_some s.trip)
  where
    go : (b : Bool) → AreBacked (if b then restarted s else s)
    go true = red_backed (restarted s) (λ o. refl)
    go false = was

pub backed_step : (s : State) (i : Input) → verdict s i ≡ None → IsGood s → AreBacked s → AreBacked (step s i)
unfolding step
backed_step s (inputs.Tick row) h good was = backed_ticked s row good was
backed_step s (inputs.Fault lamp) h good was = backed_unless s (record s { lamp = lamp }) (backed_lit s lamp was)
backed_step s inputs.Reset h good was = backed_reset s was
backed_step s (inputs.Commit station) h good was = backed_committed s station h good was
backed_step s i h good was = backed_plain s _ refl (λ p. refl) (λ p. refl) refl refl was

pub backed_run : (plan : Plan) (is : List Input) → IsConsistent plan → AreTaken plan is → AreBacked (replay plan is)
backed_run plan [] ok taken = red_backed (start plan) (λ o. refl)
backed_run plan (i ∷ is) ok taken = backed_step (replay plan is) i taken.1 (good_run plan is ok taken.0) (backed_run plan is ok taken.0)

-- ## Good in all

pub all_started : (plan : Plan) → IsConsistent plan → IsGoodInAll (start plan)
all_started plan ok = record { good = good_run plan [] ok tt; backed = red_backed (start plan) (λ o. refl) }

pub all_step : (s : State) (i : Input) → verdict s i ≡ None → IsGoodInAll s → IsGoodInAll (step s i)
all_step s i taken all = record { good = good_step s i taken all.good; backed = backed_step s i taken all.good all.backed }

pub all_run : (plan : Plan) (is : List Input) → IsConsistent plan → AreTaken plan is → IsGoodInAll (replay plan is)
all_run plan is ok taken = record { good = good_run plan is ok taken; backed = backed_run plan is ok taken }
