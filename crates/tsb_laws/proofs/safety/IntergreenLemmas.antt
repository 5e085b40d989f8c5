-- What lies between the end of a green and the start of a phase that is not concurrent.
use Rattle.std.proofs.Common.{suc, ◌≡◌, ◌≢◌, ℕ, ◌+◌, ◌≤◌, ◌==◌, Bool, true, false, List, [], ◌∷◌, ◌++◌, None, refl, sym, ap, subst, ◌∙◌, inl, inr, arith}
use Rattle.std.proofs.lemmas.Bool.{and_parts, eqb-true, true≢false}
use Rattle.tsb_step.specs.tsb_cells.Timer.{has_reached}
use Rattle.tsb_step.specs.tsb_types.declared.interval.Interval.{Interval}
use Rattle.tsb_step.specs.tsb_types.declared.interval.Interval.TheVariants.{Red, Green, Yellow, RedClear}
use Rattle.tsb_step.specs.tsb_types.declared.row.Row.{Row}
use Rattle.tsb_step.specs.tsb_types.Intervals.{is_yellow, is_red_clear, in_service}
use Rattle.tsb_step.specs.tsb_plan.Plan.{Plan, is_concurrent, yellow_change, red_clear}
use Rattle.tsb_step.specs.tsb_phase.Ready.{yellow_is_done, is_over}
use Rattle.tsb_step.specs.tsb_ring.Laws.{IsListed}
use Rattle.tsb_step.specs.tsb_ring.Moves.{is_cleared, is_started}
use Rattle.tsb_step.specs.declared.inputs.Input.{Input}
use Rattle.tsb_step.specs.declared.inputs.Input.TheVariants.{Tick}
use Rattle.tsb_step.specs.State.{State, interval}
use Rattle.tsb_step.specs.Tick.{phase_read, moves, over, next}
use Rattle.tsb_step.specs.Step.{step, kind_of}
use Rattle.tsb_step.specs.Runs.{replay, AreTaken}
use Rattle.tsb_step.specs.Past.{ticks_of}
use Rattle.tsb_step.specs.Laws.{IsConsistent}
use Rattle.tsb_step.specs.Good.{IsGood}
use Rattle.tsb_step.specs.TimeLaws.{held_for, TellsTime}
use Rattle.tsb_step.proofs.ClearLemmas.{plan_stays, started_was_over, one_later}
use Rattle.tsb_step.proofs.EndLemmas.{ends_in_time, red_clear_has_lasted}
use Rattle.tsb_step.proofs.GivenLemmas.{symmetric}
use Rattle.tsb_step.proofs.GoodLemmas.{good_ticked, good_run}
use Rattle.tsb_step.proofs.HeldLemmas.{has_held}
use Rattle.tsb_step.proofs.SafeLemmas.{starts_waiting}
use Rattle.tsb_step.proofs.TellLemmas.{held_on, held_none, timers_tell_time}
use Rattle.tsb_step.proofs.WaitedLemmas.{cleared_was_over}
use Rattle.tsb_step.proofs.YellowLemmas.{lasted_by}
use Rattle.tsb_laws.specs.Stretches.{IsUntripped, has_held_since, EndsGreen, StartsGreen}
use Rattle.tsb_laws.specs.Intergreens.{is_clearing, yellow_due, red_clear_due, AreApart, HasCleared}
use Rattle.tsb_laws.proofs.safety.StretchLemmas.{dark_now, taken_before, since_on, since_off, since_gone, due_now, due_before, IsSame, Goes, ticks, stays, goes, at_next}

-- ## A phase that leaves its clearance is over

yellow_was_over : (s : State) (row : Row) (p : ℕ) → IsGood s → interval s p ≡ Yellow → is_clearing (interval (next s row) p) ≡ false → over s p ≡ true
yellow_was_over s row p good e out =
    go (is_started (moves s row) p) (is_cleared (moves s row) p) (yellow_is_done s.plan p (phase_read s p)) refl refl refl
  where
    go : (starts clears ends : Bool) → is_started (moves s row) p ≡ starts → is_cleared (moves s row) p ≡ clears →
        yellow_is_done s.plan p (phase_read s p) ≡ ends → over s p ≡ true
    go true clears ends k h d = started_was_over s row p good (rw e refl) k
    go false true ends k h d = cleared_was_over s row p h
    go false false true k h d = let bad : true ≡ false = rw (k, e, h, rw e at d) at out in absurd (true≢false bad)
    go false false false k h d = let bad : true ≡ false = rw (k, e, h, rw e at d) at out in absurd (true≢false bad)

-- red clearance is not followed by yellow
no_yellow : (s : State) (row : Row) (p : ℕ) → interval s p ≡ RedClear → interval (next s row) p ≡ Yellow → ⊥
no_yellow s row p e h = go (is_started (moves s row) p) (is_cleared (moves s row) p) refl refl
  where
    go : (starts clears : Bool) → is_started (moves s row) p ≡ starts → is_cleared (moves s row) p ≡ clears → ⊥
    go true clears k c = let bad : Green ≡ Yellow = rw k at h in absurd cc
    go false true k c = let bad : Red ≡ Yellow = rw (k, e, c) at h in absurd cc
    go false false k c = let bad : RedClear ≡ Yellow = rw (k, e, c) at h in absurd cc

pub over_in_yellow : (s : State) (p : ℕ) → interval s p ≡ Yellow → over s p ≡ true →
    (has_reached (phase_read s p).timer (yellow_change s.plan p) ≡ true) × (red_clear s.plan p ≡ 0)
unfolding is_over
over_in_yellow s p e h =
    let both = and_parts (has_reached (phase_read s p).timer (yellow_change s.plan p)) (red_clear s.plan p == 0) (rw e at h) in
    (both.0, eqb-true (red_clear s.plan p) 0 both.1)

-- ## How far the clearance has come

-- `base` is the run up to and with the tick that ended the green
data Course (plan : Plan) (base : List Input) (p : ℕ) (later : List Input) : Type 0 where
  in_yellow : interval (replay plan (later ++ base)) p ≡ Yellow → has_held_since (λ s. is_yellow (interval s p)) plan base later ≡ true →
      has_held_since (λ s. is_clearing (interval s p)) plan base later ≡ true →
      (replay plan base).now + held_for (λ s. is_yellow (interval s p)) plan (later ++ base) ≡ (replay plan (later ++ base)).now →
      Course plan base p later
  in_red_clear : interval (replay plan (later ++ base)) p ≡ RedClear → has_held_since (λ s. is_yellow (interval s p)) plan base later ≡ false →
      has_held_since (λ s. is_clearing (interval s p)) plan base later ≡ true →
      (replay plan base).now + yellow_due plan p base later + held_for (λ s. is_red_clear (interval s p)) plan (later ++ base)
      ≤ (replay plan (later ++ base)).now → Course plan base p later
  done : has_held_since (λ s. is_yellow (interval s p)) plan base later ≡ false →
      has_held_since (λ s. is_clearing (interval s p)) plan base later ≡ false →
      (replay plan base).now + yellow_due plan p base later + red_clear_due plan p base later ≤ (replay plan (later ++ base)).now →
      Course plan base p later

module _ (plan : Plan) (base : List Input) (p : ℕ) (ok : IsConsistent plan) where
  abbrev state : List Input → State
  state later = replay plan (later ++ base)

  -- an input that leaves the phases
  still : (i : Input) (later : List Input) → ticks_of (kind_of i) ≡ 0 → IsSame (replay plan (later ++ base)) (step (replay plan (later ++ base)) i) →
      Course plan base p later → Course plan base p (i ∷ later)
  still i later none same (in_yellow e y c t) =
      let now : interval (replay plan (i ∷ (later ++ base))) p ≡ Yellow = same.interval p ∙ e in
      let held : held_for (λ s. is_yellow (interval s p)) plan (i ∷ (later ++ base)) ≡ ticks_of (kind_of i) + held_for (λ s. is_yellow (interval s p)) plan (later ++ base) =
      held_on (λ s. is_yellow (interval s p)) plan i (later ++ base) (rw now refl) (rw e refl) in
      in_yellow now (since_on (λ s. is_yellow (interval s p)) plan base later i (rw now refl) y)
      (since_on (λ s. is_clearing (interval s p)) plan base later i (rw now refl) c)
      (let clock : (replay plan (i ∷ (later ++ base))).now ≡ (replay plan (later ++ base)).now = same.now in omega (arith, none, held, clock, t))
  still i later none same (in_red_clear e y c t) =
      let now : interval (replay plan (i ∷ (later ++ base))) p ≡ RedClear = same.interval p ∙ e in
      let held : held_for (λ s. is_red_clear (interval s p)) plan (i ∷ (later ++ base)) ≡ ticks_of (kind_of i) + held_for (λ s. is_red_clear (interval s p)) plan (later ++ base) =
      held_on (λ s. is_red_clear (interval s p)) plan i (later ++ base) (rw now refl) (rw e refl) in
      let due_y : yellow_due plan p base (i ∷ later) ≡ yellow_due plan p base later =
      due_before (λ s. is_yellow (interval s p)) (λ s j. yellow_change s.plan p) plan base later i y in
      in_red_clear now (since_gone (λ s. is_yellow (interval s p)) plan base later i y)
      (since_on (λ s. is_clearing (interval s p)) plan base later i (rw now refl) c)
      (let clock : (replay plan (i ∷ (later ++ base))).now ≡ (replay plan (later ++ base)).now = same.now in omega (arith, none, held, clock, due_y, t))
  still i later none same (done y c t) =
      let due_y : yellow_due plan p base (i ∷ later) ≡ yellow_due plan p base later =
      due_before (λ s. is_yellow (interval s p)) (λ s j. yellow_change s.plan p) plan base later i y in
      let due_c : red_clear_due plan p base (i ∷ later) ≡ red_clear_due plan p base later =
      due_before (λ s. is_clearing (interval s p)) (λ s j. red_clear s.plan p) plan base later i c in
      let clock : (replay plan (i ∷ (later ++ base))).now ≡ (replay plan (later ++ base)).now = same.now in
      done (since_gone (λ s. is_yellow (interval s p)) plan base later i y) (since_gone (λ s. is_clearing (interval s p)) plan base later i c)
      (omega (arith, clock, due_y, due_c, t))

  -- a tick
  ticked_on : (row : Row) (later : List Input) → AreTaken plan (later ++ base) → (replay plan (later ++ base)).trip ≡ None →
      Course plan base p later → Course plan base p (Tick row ∷ later)
  ticked_on row later taken dark (in_yellow e y c t) = go (interval (replay plan (Tick row ∷ (later ++ base))) p) refl
    where
      clock : (replay plan (Tick row ∷ (later ++ base))).now ≡ (replay plan (later ++ base)).now + 1
      clock = one_later (replay plan (later ++ base)) row

      due_y : yellow_due plan p base (Tick row ∷ later) ≡ yellow_change (replay plan (later ++ base)).plan p
      due_y = due_now (λ s. is_yellow (interval s p)) (λ s j. yellow_change s.plan p) plan base later (Tick row) y

      due_c : red_clear_due plan p base (Tick row ∷ later) ≡ red_clear (replay plan (later ++ base)).plan p
      due_c = due_now (λ s. is_clearing (interval s p)) (λ s j. red_clear s.plan p) plan base later (Tick row) c

      long : interval (replay plan (Tick row ∷ (later ++ base))) p ≢ Yellow →
          yellow_change (replay plan (later ++ base)).plan p ≤ suc (held_for (λ s. is_yellow (interval s p)) plan (later ++ base))
      long ends = (has_held plan (later ++ base) ok taken dark row p).yellow e ends

      out : is_clearing (interval (replay plan (Tick row ∷ (later ++ base))) p) ≡ false → interval (replay plan (Tick row ∷ (later ++ base))) p ≢ Yellow →
          is_yellow (interval (replay plan (Tick row ∷ (later ++ base))) p) ≡ false → Course plan base p (Tick row ∷ later)
      out h ends k =
          let is_done : over (replay plan (later ++ base)) p ≡ true =
          yellow_was_over (replay plan (later ++ base)) row p (good_run plan (later ++ base) ok taken) e (sym (ap is_clearing (at_next (replay plan (later ++ base)) row p dark)) ∙ h) in
          let none : red_clear (replay plan (later ++ base)).plan p ≡ 0 = (over_in_yellow (replay plan (later ++ base)) p e is_done).1 in
          let time = long ends in
          done (since_off (λ s. is_yellow (interval s p)) plan base later (Tick row) k) (since_off (λ s. is_clearing (interval s p)) plan base later (Tick row) h)
          (omega (arith, clock, due_y, due_c, none, time, t))

      go : (a : Interval) → interval (replay plan (Tick row ∷ (later ++ base))) p ≡ a → Course plan base p (Tick row ∷ later)
      go Yellow h =
          let held : held_for (λ s. is_yellow (interval s p)) plan (Tick row ∷ (later ++ base)) ≡ 1 + held_for (λ s. is_yellow (interval s p)) plan (later ++ base) =
          held_on (λ s. is_yellow (interval s p)) plan (Tick row) (later ++ base) (rw h refl) (rw e refl) in
          in_yellow h (since_on (λ s. is_yellow (interval s p)) plan base later (Tick row) (rw h refl) y)
          (since_on (λ s. is_clearing (interval s p)) plan base later (Tick row) (rw h refl) c) (omega (arith, clock, held, t))
      go RedClear h =
          let held : held_for (λ s. is_red_clear (interval s p)) plan (Tick row ∷ (later ++ base)) ≡ 0 =
          held_none (λ s. is_red_clear (interval s p)) plan (Tick row) (later ++ base) (rw e refl) in
          let time = long (λ k. (let bad : RedClear ≡ Yellow = sym h ∙ k in absurd cc)) in
          in_red_clear h (since_off (λ s. is_yellow (interval s p)) plan base later (Tick row) (rw h refl))
          (since_on (λ s. is_clearing (interval s p)) plan base later (Tick row) (rw h refl) c) (omega (arith, clock, held, due_y, time, t))
      go Red h = out (rw h refl) (λ k. (let bad : Red ≡ Yellow = sym h ∙ k in absurd cc)) (rw h refl)
      go Green h = out (rw h refl) (λ k. (let bad : Green ≡ Yellow = sym h ∙ k in absurd cc)) (rw h refl)
  ticked_on row later taken dark (in_red_clear e y c t) = go (interval (replay plan (Tick row ∷ (later ++ base))) p) refl
    where
      clock : (replay plan (Tick row ∷ (later ++ base))).now ≡ (replay plan (later ++ base)).now + 1
      clock = one_later (replay plan (later ++ base)) row

      due_y : yellow_due plan p base (Tick row ∷ later) ≡ yellow_due plan p base later
      due_y = due_before (λ s. is_yellow (interval s p)) (λ s j. yellow_change s.plan p) plan base later (Tick row) y

      due_c : red_clear_due plan p base (Tick row ∷ later) ≡ red_clear (replay plan (later ++ base)).plan p
      due_c = due_now (λ s. is_clearing (interval s p)) (λ s j. red_clear s.plan p) plan base later (Tick row) c

      out : is_clearing (interval (replay plan (Tick row ∷ (later ++ base))) p) ≡ false → interval (replay plan (Tick row ∷ (later ++ base))) p ≢ RedClear →
          Course plan base p (Tick row ∷ later)
      out h ends =
          let time : red_clear (replay plan (later ++ base)).plan p ≤ suc (held_for (λ s. is_red_clear (interval s p)) plan (later ++ base)) =
          (has_held plan (later ++ base) ok taken dark row p).red_clear e ends in
          done (since_gone (λ s. is_yellow (interval s p)) plan base later (Tick row) y) (since_off (λ s. is_clearing (interval s p)) plan base later (Tick row) h)
          (omega (arith, clock, due_y, due_c, time, t))

      go : (a : Interval) → interval (replay plan (Tick row ∷ (later ++ base))) p ≡ a → Course plan base p (Tick row ∷ later)
      go Yellow h = absurd (no_yellow (replay plan (later ++ base)) row p e (sym (at_next (replay plan (later ++ base)) row p dark) ∙ h))
      go RedClear h =
          let held : held_for (λ s. is_red_clear (interval s p)) plan (Tick row ∷ (later ++ base)) ≡ 1 + held_for (λ s. is_red_clear (interval s p)) plan (later ++ base) =
          held_on (λ s. is_red_clear (interval s p)) plan (Tick row) (later ++ base) (rw h refl) (rw e refl) in
          in_red_clear h (since_gone (λ s. is_yellow (interval s p)) plan base later (Tick row) y)
          (since_on (λ s. is_clearing (interval s p)) plan base later (Tick row) (rw h refl) c) (omega (arith, clock, held, due_y, t))
      go Red h = out (rw h refl) (λ k. (let bad : Red ≡ RedClear = sym h ∙ k in absurd cc))
      go Green h = out (rw h refl) (λ k. (let bad : Green ≡ RedClear = sym h ∙ k in absurd cc))
  ticked_on row later taken dark (done y c t) =
      let due_y : yellow_due plan p base (Tick row ∷ later) ≡ yellow_due plan p base later =
      due_before (λ s. is_yellow (interval s p)) (λ s j. yellow_change s.plan p) plan base later (Tick row) y in
      let due_c : red_clear_due plan p base (Tick row ∷ later) ≡ red_clear_due plan p base later =
      due_before (λ s. is_clearing (interval s p)) (λ s j. red_clear s.plan p) plan base later (Tick row) c in
      let clock : (replay plan (Tick row ∷ (later ++ base))).now ≡ (replay plan (later ++ base)).now + 1 = one_later (replay plan (later ++ base)) row in
      done (since_gone (λ s. is_yellow (interval s p)) plan base later (Tick row) y) (since_gone (λ s. is_clearing (interval s p)) plan base later (Tick row) c)
      (omega (arith, clock, due_y, due_c, t))

  one_on : (i : Input) (later : List Input) → AreTaken plan (later ++ base) → (replay plan (later ++ base)).trip ≡ None →
      Course plan base p later → Course plan base p (i ∷ later)
  one_on i later taken dark was = go (goes (replay plan (later ++ base)) i dark)
    where
      go : Goes (replay plan (later ++ base)) i → Course plan base p (i ∷ later)
      go (ticks row e) = subst (λ (j : Input). Course plan base p (j ∷ later)) (sym e) (ticked_on row later taken dark was)
      go (stays none same) = still i later none same was

  course : (later : List Input) → AreTaken plan (later ++ base) → IsUntripped plan base later → Course plan base p [] → Course plan base p later
  course [] taken dark first = first
  course (i ∷ later) taken dark first = one_on i later taken.0 (dark_now plan base later dark.0) (course later taken.0 dark.0 first)

  -- a tick in which p is over, if it is in service
  at_start : (row : Row) (later : List Input) → AreTaken plan (later ++ base) → (replay plan (later ++ base)).trip ≡ None →
      (in_service (interval (replay plan (later ++ base)) p) ≡ true → over (replay plan (later ++ base)) p ≡ true) → Course plan base p later →
      (replay plan base).now + yellow_due plan p base (Tick row ∷ later) + red_clear_due plan p base (Tick row ∷ later)
      ≤ (replay plan (Tick row ∷ (later ++ base))).now
  at_start row later taken dark over_by (in_yellow e y c t) =
      let is_done = over_in_yellow (replay plan (later ++ base)) p e (over_by (rw e refl)) in
      let told : TellsTime plan (later ++ base) p = timers_tell_time plan (later ++ base) ok taken dark p in
      let time : yellow_change (replay plan (later ++ base)).plan p ≤ held_for (λ s. is_yellow (interval s p)) plan (later ++ base) + 1 =
      lasted_by ((replay plan (later ++ base)).phases p).timer (held_for (λ s. is_yellow (interval s p)) plan (later ++ base))
      (yellow_change (replay plan (later ++ base)).plan p) (told.yellow e) is_done.0 in
      let due_y : yellow_due plan p base (Tick row ∷ later) ≡ yellow_change (replay plan (later ++ base)).plan p =
      due_now (λ s. is_yellow (interval s p)) (λ s j. yellow_change s.plan p) plan base later (Tick row) y in
      let due_c : red_clear_due plan p base (Tick row ∷ later) ≡ red_clear (replay plan (later ++ base)).plan p =
      due_now (λ s. is_clearing (interval s p)) (λ s j. red_clear s.plan p) plan base later (Tick row) c in
      let clock : (replay plan (Tick row ∷ (later ++ base))).now ≡ (replay plan (later ++ base)).now + 1 = one_later (replay plan (later ++ base)) row in
      let none : red_clear (replay plan (later ++ base)).plan p ≡ 0 = is_done.1 in
      omega (arith, time, due_y, due_c, clock, none, t)
  at_start row later taken dark over_by (in_red_clear e y c t) =
      let told : TellsTime plan (later ++ base) p = timers_tell_time plan (later ++ base) ok taken dark p in
      let time : red_clear (replay plan (later ++ base)).plan p ≤ held_for (λ s. is_red_clear (interval s p)) plan (later ++ base) + 1 =
      lasted_by ((replay plan (later ++ base)).phases p).timer (held_for (λ s. is_red_clear (interval s p)) plan (later ++ base))
      (red_clear (replay plan (later ++ base)).plan p) (told.red_clear e) (red_clear_has_lasted (replay plan (later ++ base)) p e (over_by (rw e refl))) in
      let due_y : yellow_due plan p base (Tick row ∷ later) ≡ yellow_due plan p base later =
      due_before (λ s. is_yellow (interval s p)) (λ s j. yellow_change s.plan p) plan base later (Tick row) y in
      let due_c : red_clear_due plan p base (Tick row ∷ later) ≡ red_clear (replay plan (later ++ base)).plan p =
      due_now (λ s. is_clearing (interval s p)) (λ s j. red_clear s.plan p) plan base later (Tick row) c in
      let clock : (replay plan (Tick row ∷ (later ++ base))).now ≡ (replay plan (later ++ base)).now + 1 = one_later (replay plan (later ++ base)) row in
      omega (arith, time, due_y, due_c, clock, t)
  at_start row later taken dark over_by (done y c t) =
      let due_y : yellow_due plan p base (Tick row ∷ later) ≡ yellow_due plan p base later =
      due_before (λ s. is_yellow (interval s p)) (λ s j. yellow_change s.plan p) plan base later (Tick row) y in
      let due_c : red_clear_due plan p base (Tick row ∷ later) ≡ red_clear_due plan p base later =
      due_before (λ s. is_clearing (interval s p)) (λ s j. red_clear s.plan p) plan base later (Tick row) c in
      let clock : (replay plan (Tick row ∷ (later ++ base))).now ≡ (replay plan (later ++ base)).now + 1 = one_later (replay plan (later ++ base)) row in
      omega (arith, due_y, due_c, clock, t)

-- ## The start of a phase that is not concurrent

pub good_then : (s : State) (row : Row) → IsGood s → IsGood (step s (Tick row))
unfolding step
good_then s row good = good_ticked s row good

pub started_now : (plan : Plan) (is : List Input) (row : Row) (q : ℕ) → IsConsistent plan → AreTaken plan is → StartsGreen plan is row q →
    is_started (moves (replay plan is) row) q ≡ true
started_now plan is row q ok taken starts = (ends_in_time (replay plan is) (good_run plan is ok taken) row q).starts starts.was_not starts.starts

-- what starts is one of the plan's phases
pub listed_then : (plan : Plan) (is : List Input) (row : Row) (q : ℕ) → IsConsistent plan → AreTaken plan is → StartsGreen plan is row q →
    IsListed (replay plan is).plan q
listed_then plan is row q ok taken starts =
    rw (plan_stays (replay plan is) row) at
    ((good_then (replay plan is) row (good_run plan is ok taken)).rings.listed q (ap in_service starts.starts))

pub over_by_then : (plan : Plan) (is : List Input) (row : Row) (p q : ℕ) → IsConsistent plan → AreTaken plan is → StartsGreen plan is row q →
    is_concurrent (replay plan is).plan p q ≡ false → in_service (interval (replay plan is) p) ≡ true → over (replay plan is) p ≡ true
over_by_then plan is row p q ok taken starts apart serves =
    elim (starts_waiting (replay plan is) good row q p (started_now plan is row q ok taken starts) serves) [
      | inl both ↦ absurd (true≢false (sym (symmetric (replay plan is).plan good.plan.rules q p listed_q (good.rings.listed p serves) both) ∙ apart))
      | inr is_done ↦ is_done
    ]
  where
    good : IsGood (replay plan is)
    good = good_run plan is ok taken

    listed_q : IsListed (replay plan is).plan q
    listed_q = listed_then plan is row q ok taken starts

-- ## From the end of a green

pub turns_yellow : (plan : Plan) (is : List Input) (row : Row) (p : ℕ) → IsConsistent plan → AreTaken plan is → EndsGreen plan is row p →
    interval (replay plan (Tick row ∷ is)) p ≡ Yellow
turns_yellow plan is row p ok taken ends = ((ends_in_time (replay plan is) (good_run plan is ok taken) row p).green ends.was_green ends.ends).0

first_course : (plan : Plan) (is : List Input) (row : Row) (p : ℕ) → IsConsistent plan → AreTaken plan is → EndsGreen plan is row p →
    Course plan (Tick row ∷ is) p []
first_course plan is row p ok taken ends =
    let now : interval (replay plan (Tick row ∷ is)) p ≡ Yellow = turns_yellow plan is row p ok taken ends in
    let held : held_for (λ s. is_yellow (interval s p)) plan (Tick row ∷ is) ≡ 0 =
    held_none (λ s. is_yellow (interval s p)) plan (Tick row) is (rw ends.was_green refl) in
    in_yellow now (rw now refl) (rw now refl) (omega (arith, held))

pub has_cleared : (plan : Plan) (is later : List Input) (row next : Row) (p q : ℕ) → IsConsistent plan →
    AreTaken plan (later ++ (Tick row ∷ is)) → AreApart plan is row p later next q → HasCleared plan is row p later next
has_cleared plan is later row next p q ok taken x =
    at_start plan (Tick row ∷ is) p ok next later taken (dark_now plan (Tick row ∷ is) later x.untripped)
    (over_by_then plan (later ++ (Tick row ∷ is)) next p q ok taken x.started x.apart)
    (course plan (Tick row ∷ is) p ok later taken x.untripped
    (first_course plan is row p ok (taken_before plan (Tick row ∷ is) later taken).0 x.ended))
