-- The times of a preempt that is in a stage, what the controller has in a tick of it, and what such a tick does to
-- phases and commitments. For the laws that preempts reach their stages and dwell.
use Rattle.std.proofs.Common.{◌≡◌, ℕ, ◌+◌, ◌≤◌, Bool, true, false, not, max, Option, Some, None, refl, sym, ap, ◌∙◌, inl, inr, ◌⊎◌, arith}
use Rattle.std.proofs.lemmas.Bool.{false_from_ne_true, false≢true, not-false, true≢false}
use Rattle.tsb_step.specs.tsb_cells.declared.timer.Timer.{Timer}
use Rattle.tsb_step.specs.tsb_types.declared.interval.Interval.{Interval}
use Rattle.tsb_step.specs.tsb_types.declared.interval.Interval.TheVariants.{Red, Green, Yellow, RedClear}
use Rattle.tsb_step.specs.tsb_types.declared.row.Row.{Row}
use Rattle.tsb_step.specs.tsb_types.Intervals.{is_green, in_service}
use Rattle.tsb_step.proofs.tsb_types.IntervalLemmas.{serves-green}
use Rattle.tsb_step.specs.tsb_plan.Parts.{preempt_minimum_green}
use Rattle.tsb_step.specs.tsb_plan.Plan.{Plan, yellow_change, red_clear, red_revert}
use Rattle.tsb_step.specs.tsb_rules.Consistent.{AreCompatible}
use Rattle.tsb_step.specs.tsb_phase.Phase.{Phase}
use Rattle.tsb_step.specs.tsb_phase.Pedestrian.{ended_by, walk_time, clearance_time}
use Rattle.tsb_step.specs.tsb_phase.Ready.{yellow_is_done}
use Rattle.tsb_step.specs.tsb_preempt.Preempts as preempts
use Rattle.tsb_step.specs.tsb_ring.Rings.{Ring}
use Rattle.tsb_step.specs.tsb_ring.Moves.{is_ended, is_cleared, is_started}
use Rattle.tsb_step.specs.tsb_ring.Laws.{IsListed, IsPairwiseConcurrent}
use Rattle.tsb_step.specs.State.{State, interval}
use Rattle.tsb_step.specs.Tick.{service, target, must_end, phases_given, phase_read, rings_given, moves, next, after_moves}
use Rattle.tsb_step.specs.TimeLaws.{IsSided}
use Rattle.tsb_step.specs.Good.{IsGood}
use Rattle.tsb_step.proofs.IntervalLemmas.{ended_was_green}
use Rattle.tsb_step.proofs.TellLemmas.{starts_no_green}
use Rattle.tsb_laws.specs.CrossingGreens.{IsCalm}
use Rattle.tsb_laws.specs.Stretches.{has_no_trails}
use Rattle.tsb_laws.proofs.safety.EnabledLemmas.{AreEnabled}
use Rattle.tsb_laws.proofs.operation.step.AcrossLemmas.{GoesAcross}
use Rattle.tsb_laws.proofs.operation.green.GreenEndLemmas.{ends_unwanted, ended_by_some}
use Rattle.tsb_laws.proofs.operation.step.PhaseTimeLemmas.{left, past, green_left, clearing_in, clearing_left, revert_in, revert_left, IsTimed, left_most, walking_most, past_most}
use Rattle.tsb_laws.proofs.operation.preempt.PreemptEntryLemmas.{Asks, starts_own, moves_own, told, pairs}

-- ## Times that no plan in effect exceeds

pub record Limits : Type 0 where
  pub green : ℕ
  pub walks : ℕ
  pub clears : ℕ
  pub walk : ℕ → ℕ
  pub clearance : ℕ → ℕ
  pub yellow : ℕ → ℕ
  pub red : ℕ → ℕ
  pub revert : ℕ → ℕ
  pub walks_most : (p : ℕ) → walk p + clearance p ≤ walks
  pub clears_most : (p : ℕ) → yellow p + red p ≤ clears
  pub reverts_most : (p : ℕ) → revert p ≤ clears

-- the times of this plan for preempt n
pub record Within (t : Limits) (plan : Plan) (n : ℕ) : Type 0 where
  pub untrailed : has_no_trails plan ≡ true
  pub green : preempt_minimum_green plan n ≤ t.green
  pub walk : (p : ℕ) → walk_time plan p (Some n) ≤ t.walk p
  pub clearance : (p : ℕ) → clearance_time plan p (Some n) ≤ t.clearance p
  pub yellow : (p : ℕ) → yellow_change plan p ≤ t.yellow p
  pub red : (p : ℕ) → red_clear plan p ≤ t.red p
  pub revert : (p : ℕ) → red_revert plan p ≤ t.revert p

-- what a phase has left, in ticks
abbrev pub clear_of : Limits → (ℕ → Phase) → ℕ → ℕ
clear_of t phases p = clearing_left (t.yellow p) (t.red p) (phases p)

abbrev pub revert_of : Limits → (ℕ → Phase) → ℕ → ℕ
revert_of t phases p = revert_left (t.yellow p) (t.revert p) (phases p)

abbrev pub green_of : Limits → (ℕ → Phase) → ℕ → ℕ
green_of t phases p = green_left t.green (t.walk p) (t.clearance p) (phases p)

clearing_most : (y z : ℕ) (t : Timer) (i : Interval) → clearing_in y z t i ≤ y + z
clearing_most y z t Red = omega arith
clearing_most y z t Green = omega arith
clearing_most y z t Yellow = let h : left y t ≤ y = left_most y t in omega (arith, h)
clearing_most y z t RedClear = let h : left z t ≤ z = left_most z t in omega (arith, h)

reverting_most : (y r : ℕ) (t v : Timer) (i : Interval) → revert_in y r t v i ≤ y + r
reverting_most y r t v Red = let h : past r v ≤ r = past_most r v in omega (arith, h)
reverting_most y r t v Green = omega arith
reverting_most y r t v Yellow = let h : left y t ≤ y = left_most y t in omega (arith, h)
reverting_most y r t v RedClear = let h : past r v ≤ r = past_most r v in omega (arith, h)

reverting_dark : (y r : ℕ) (t v : Timer) (i : Interval) → in_service i ≡ false → revert_in y r t v i ≤ r
reverting_dark y r t v Red h = past_most r v
reverting_dark y r t v Green h = absurd (true≢false h)
reverting_dark y r t v Yellow h = absurd (true≢false h)
reverting_dark y r t v RedClear h = absurd (true≢false h)

larger : (i j k l m : ℕ) → i ≤ k → j ≤ l → l ≤ m → max i j ≤ max m k
larger i j k l m h o n = omega (arith, h, o, n)

pub under : (i j k : ℕ) → i ≤ j → j ≤ k → i ≤ k
under i j k h o = omega (arith, h, o)

sum_under : (i y r m : ℕ) → i ≤ y + r → y ≤ m → r ≤ m → i ≤ m + m
sum_under i y r m h o n = omega (arith, h, o, n)

first_under : (y z m : ℕ) → y + z ≤ m → y ≤ m
first_under y z m h = omega (arith, h)

pub green_most : (t : Limits) (phases : ℕ → Phase) (p : ℕ) → green_of t phases p ≤ max t.walks t.green
green_most t phases p =
    larger _ _ _ _ _ (left_most t.green (phases p).timer) (walking_most (t.walk p) (t.clearance p) (phases p).pedestrian_timer (phases p).pedestrian) (t.walks_most p)

pub clear_most : (t : Limits) (phases : ℕ → Phase) (p : ℕ) → clear_of t phases p ≤ t.clears
clear_most t phases p = under _ _ _ (clearing_most (t.yellow p) (t.red p) (phases p).timer (phases p).interval) (t.clears_most p)

pub revert_most : (t : Limits) (phases : ℕ → Phase) (p : ℕ) → revert_of t phases p ≤ t.clears + t.clears
revert_most t phases p =
    sum_under _ _ _ _ (reverting_most (t.yellow p) (t.revert p) (phases p).timer (phases p).red_revert (phases p).interval)
    (first_under (t.yellow p) (t.red p) t.clears (t.clears_most p)) (t.reverts_most p)

pub revert_sum : (t : Limits) (phases : ℕ → Phase) (p : ℕ) → revert_of t phases p ≤ t.yellow p + t.revert p
revert_sum t phases p = reverting_most (t.yellow p) (t.revert p) (phases p).timer (phases p).red_revert (phases p).interval

pub revert_dark : (t : Limits) (phases : ℕ → Phase) (p : ℕ) → in_service (phases p).interval ≡ false → revert_of t phases p ≤ t.clears
revert_dark t phases p h =
    under _ _ _ (reverting_dark (t.yellow p) (t.revert p) (phases p).timer (phases p).red_revert (phases p).interval h) (t.reverts_most p)

-- ## A tick in a stage

pub record Stays (s : State) (row : Row) (list : ℕ → Bool) (n : ℕ) : Type 0 where
  pub good : IsGood s
  pub calm : IsCalm s.plan (interval s) s.rings
  pub sided : IsSided s.plan (interval s) s.rings
  pub on : AreEnabled s.plan (interval s) s.rings
  pub across : GoesAcross s.plan (interval s) s.rings
  pub timed : (p : ℕ) → IsTimed (s.phases p)
  pub few : s.plan.phase_count ≤ 16
  pub dark : s.trip ≡ None
  pub asks : target s row ≡ Some list
  pub serves : service s row ≡ Some n
  pub fits : AreCompatible s.plan list

-- a phase that is Green after a tick has started, or was Green and has not ended
pub green_after : (s : State) (row : Row) (p : ℕ) → is_green (interval (next s row) p) ≡ true →
    (is_started (moves s row) p ≡ true) ⊎ ((interval s p ≡ Green) × (is_ended (moves s row) p ≡ false))
green_after s row p h = go (is_started (moves s row) p) refl
  where
    by : is_started (moves s row) p ≡ false → (i : Interval) (c d y : Bool) → interval s p ≡ i → is_cleared (moves s row) p ≡ c →
        is_ended (moves s row) p ≡ d → yellow_is_done s.plan p (phase_read s p) ≡ y → (interval s p ≡ Green) × (is_ended (moves s row) p ≡ false)
    by n Red c d y e k l m = absurd (false≢true (rw (n, e) at h))
    by n Green c true y e k l m = absurd (false≢true (rw (n, e, l) at h))
    by n Green c false y e k l m = (e, l)
    by n Yellow true d y e k l m = absurd (false≢true (rw (n, e, k) at h))
    by n Yellow false d true e k l m = absurd (false≢true (rw (n, e, k, rw e at m) at h))
    by n Yellow false d false e k l m = absurd (false≢true (rw (n, e, k, rw e at m) at h))
    by n RedClear true d y e k l m = absurd (false≢true (rw (n, e, k) at h))
    by n RedClear false d y e k l m = absurd (false≢true (rw (n, e, k) at h))

    go : (b : Bool) → is_started (moves s row) p ≡ b → (is_started (moves s row) p ≡ true) ⊎ ((interval s p ≡ Green) × (is_ended (moves s row) p ≡ false))
    go true n = inl n
    go false n = inr (by n (interval s p) (is_cleared (moves s row) p) (is_ended (moves s row) p) (yellow_is_done s.plan p (phase_read s p)) refl refl refl refl)

pub started_green : (s : State) (row : Row) (p : ℕ) → is_started (moves s row) p ≡ true → interval (next s row) p ≡ Green
started_green s row p h = rw h refl

pub still_green : (s : State) (row : Row) (p : ℕ) → is_started (moves s row) p ≡ false → is_ended (moves s row) p ≡ false → interval s p ≡ Green →
    interval (next s row) p ≡ Green
still_green s row p n l e = rw (n, e, l) refl

module _ (s : State) (row : Row) (list : ℕ → Bool) (n : ℕ) (x : Stays s row list n) where
  pub it : Asks s row
  it = record { list = list; is_target = x.asks }

  in_list : (p : ℕ) → must_end s row p ≡ false → list p ≡ true
  in_list p h = not-false (list p) (sym (ap (λ (o : Option (ℕ → Bool)). preempts.is_outside o p) x.asks) ∙ h)

  pub told_list : (rings_given s row).target ≡ Some list
  told_list = told s row x.good (record { list = list; is_target = x.asks })

  pub pairs_list : IsPairwiseConcurrent s.plan (Some list)
  pairs_list = pairs s row x.good (record { list = list; is_target = x.asks })

  -- what the preempt does not want, it ends
  pub ends_it : (p : ℕ) → IsListed s.plan p → list p ≡ false → ended_by (phases_given s row) p ≡ Some n
  ends_it p listed h =
      ended_by_some s row p n x.few listed (ap (λ (o : Option (ℕ → Bool)). preempts.is_outside o p) x.asks ∙ ap not h) x.serves

  -- what it wants stays Green
  pub wanted_stays : (p : ℕ) → list p ≡ true → is_ended (moves s row) p ≡ false
  wanted_stays p h =
      false_from_ne_true _ (λ e. (let serves : in_service (interval s p) ≡ true = serves-green (interval s p) (ended_was_green s row p e) in
      ends_unwanted s row p x.good list x.asks (x.on.serves p serves) (x.good.rings.listed p serves) (x.sided.serves p serves) e h))

  -- what starts is wanted, or a ring was committed to it
  pub enters : (p : ℕ) → is_started (moves s row) p ≡ true → (list p ≡ true) ⊎ ((r : Ring) × (s.rings.commitment r ≡ Some p))
  enters p h =
      elim (starts_own s row x.good (record { list = list; is_target = x.asks }) p h) [
        | inl k ↦ inl (in_list p k)
        | inr k ↦ inr k
      ]

  -- and so is what a ring commits to
  pub binds : (r : Ring) (c : ℕ) → (after_moves s row).rings.commitment r ≡ Some c → (list c ≡ true) ⊎ (s.rings.commitment r ≡ Some c)
  binds r c h =
      elim (moves_own s row x.good (record { list = list; is_target = x.asks }) r c h) [
        | inl k ↦ inl (in_list c k)
        | inr k ↦ inr k
      ]

  -- a green does not start
  pub green_no_start : (p : ℕ) → interval s p ≡ Green → is_started (moves s row) p ≡ false
  green_no_start p e = false_from_ne_true _ (λ h. true≢false (sym (ap is_green e) ∙ starts_no_green s row p x.good h))

  -- nor does what is not Green end
  pub dark_no_end : (p : ℕ) → is_green (interval s p) ≡ false → is_ended (moves s row) p ≡ false
  dark_no_end p e = false_from_ne_true _ (λ h. true≢false (sym (ended_was_green s row p h) ∙ e))
