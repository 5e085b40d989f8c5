-- The sets of a status, and the states of preempts, are those of the state.
use Rattle.std.proofs.Common.{◌≡◌, ℕ, ◌==◌, arith, ◌≤◌, Bool, true, false, not, ◌&&◌, ◌||◌, if◌then◌else◌, Option, Some, None, is_some, option_map, IfSome, refl, sym, ap, subst, ◌∙◌}
use Rattle.tsb_step.specs.tsb_types.declared.interval.Interval.{Interval}
use Rattle.tsb_step.specs.tsb_types.declared.interval.Interval.TheVariants.{Red, Green, Yellow, RedClear}
use Rattle.tsb_step.specs.tsb_types.declared.interval.PedestrianInterval.{PedestrianInterval}
use Rattle.tsb_step.specs.tsb_types.declared.interval.PedestrianInterval.TheVariants.{DontWalk, Walk, PedestrianClear}
use Rattle.tsb_step.specs.tsb_types.declared.lamp.Aspect.{Aspect}
use Rattle.tsb_step.specs.tsb_types.declared.lamp.Aspect.TheVariants as aspects
use Rattle.tsb_step.specs.tsb_types.declared.stage.Stage.{Stage}
use Rattle.tsb_step.specs.tsb_types.declared.flow.Intervals.{Intervals}
use Rattle.tsb_step.specs.tsb_types.declared.limits.TheConstants.{OVERLAPS}
use Rattle.tsb_step.specs.tsb_types.declared.number_set.NumberSet.{NumberSet}
use Rattle.tsb_step.specs.tsb_types.Clip.{Agree}
use Rattle.tsb_step.specs.tsb_types.Flow.{interval_of}
use Rattle.tsb_step.specs.tsb_types.Sets.{has_number}
use Rattle.tsb_step.specs.tsb_plan.Parts.{is_arrow}
use Rattle.tsb_step.specs.tsb_plan.Plan.{Plan}
use Rattle.tsb_step.specs.tsb_plan.PlanOf.{plan_of}
use Rattle.tsb_step.specs.tsb_types.Intervals.{in_service, is_green, is_yellow, is_red_clear, is_walk, is_clearance, is_dont_walk}
use Rattle.tsb_phase.specs.Promises.{TellsIntervals}
use Rattle.tsb_preempt.specs.Promises.{TellsCalled, TellsEntered, TellsSpent, TellsStage, entered_of, stage_of}
use Rattle.tsb_preempt.specs.Service.{Service, has_entered}
use Rattle.tsb_preempt.proofs.OwnLemmas.{entered-same}
use Rattle.tsb_objects.specs.declared.checked.Checked.{Checked}
use Rattle.tsb_objects.specs.Checked.{checked_plan}
use Rattle.tsb_objects.specs.TimedOverlaps.{AreArrows}
use Rattle.tsb_heads.specs.Colours.{is_flashing}
use Rattle.tsb_heads.specs.Monitoring.{is_red as is_red_aspect}
use Rattle.tsb_heads.specs.Reading.{flashed_if}
use Rattle.tsb_objects.proofs.tsb_types.RunLemmas.{any-at, any-never}
use Rattle.tsb_step.specs.Cells.{clock_at}
use Rattle.tsb_step.specs.State.{State, interval}
use Rattle.tsb_status.specs.Alike.{AgreeIfAny}
use Rattle.tsb_step.specs.Status.{has_arrows, idle_state, is_called as step_called, is_red_head, preempt_state, state_in}
use Rattle.tsb_controller.specs.Rows.{Rows, Beside, state_of}
use Rattle.tsb_controller.specs.StatusPromises.{TellsPreempt, stage_by, state_by}
use Rattle.tsb_controller.proofs.PlacedLemmas.{placed}

pub on-set : (i : Interval) → ((is_green i || is_yellow i) || is_red_clear i) ≡ in_service i
on-set Red = refl
on-set Green = refl
on-set Yellow = refl
on-set RedClear = refl

pub held-set : (x : PedestrianInterval) → not (is_walk x || is_clearance x) ≡ is_dont_walk x
held-set DontWalk = refl
held-set Walk = refl
held-set PedestrianClear = refl

pub red-head : (a : Aspect) → (is_red_aspect a || is_flashing a) ≡ is_red_head a
red-head aspects.Dark = refl
red-head aspects.Red = refl
red-head aspects.Yellow = refl
red-head aspects.Green = refl
red-head aspects.FlashingRed = refl
red-head aspects.FlashingYellow = refl

pub dark-red : (b : Bool) → is_red_head (flashed_if b aspects.Dark) ≡ false
dark-red true = refl
dark-red false = refl

-- some overlap is an arrow
pub arrows-told : (checked : Checked) (arrows : NumberSet) (o : Option ℕ) → AreArrows (checked_plan checked) arrows → (o ≡ None → (n : ℕ) → has_number arrows n ≡ false) →
    IfSome o (λ n. 1 ≤ n) → IfSome o (λ n. n ≤ 16) → IfSome o (λ n. has_number arrows n ≡ true) → is_some o ≡ has_arrows (checked_plan checked)
unfolding checked_plan plan_of
arrows-told checked arrows None are none from within had =
    sym (any-never (is_arrow (checked_plan checked)) 1 OVERLAPS (λ k low high. sym (are k) ∙ none refl k))
arrows-told checked arrows (Some n) are none from within had =
    sym (any-at (is_arrow (checked_plan checked)) 1 OVERLAPS n from (omega (arith, within)) (sym (are n) ∙ had))

-- a set of overlaps where the plan has an arrow
pub agree-if_any : (a b : Bool) (x : NumberSet) (f : ℕ → Bool) (o : Option NumberSet) → o ≡ (if b then Some x else None) → a ≡ b → Agree (has_number x) f →
    AgreeIfAny (option_map has_number o) (if a then Some f else None)
agree-if_any true b x f o is same agree = let here : o ≡ Some x = is ∙ ap (λ (y : Bool). if y then Some x else None) (sym same) in subst (λ (y : Option NumberSet). AgreeIfAny (option_map has_number y) (Some f)) (sym here) agree
agree-if_any false b x f o is same agree = let here : o ≡ None = is ∙ ap (λ (y : Bool). if y then Some x else None) (sym same) in subst (λ (y : Option NumberSet). AgreeIfAny (option_map has_number y) None) (sym here) tt

-- what is called and not Green
pub waiting-set : (w called green c g : Bool) → w ≡ (called && not green) → called ≡ c → green ≡ g → w ≡ (not g && c)
waiting-set w called green c true is calls greens = is ∙ rw greens (swapped called)
  where
    swapped : (x : Bool) → (x && false) ≡ false
    swapped true = refl
    swapped false = refl
waiting-set w called green c false is calls greens = is ∙ rw greens (swapped called ∙ calls)
  where
    swapped : (x : Bool) → (x && true) ≡ x
    swapped true = refl
    swapped false = refl

-- the state of a preempt
pub preempt-told : (rows : Rows) (n : ℕ) (entered spent called : Bool) (served : Option (ℕ × Stage)) →
    TellsSpent rows.preempts n spent → TellsCalled rows.preempts n called → TellsStage rows.preempts served →
    TellsPreempt entered rows n (state_by entered spent called (stage_by served n))
preempt-told rows n entered spent called served is_spent is_called is_stage now b is_entered =
    let clock : ℕ = clock_at now b.trip in
    rw (is_entered, is_spent clock, is_called clock, is_stage clock) (go (state_of now b rows).preempts.service)
  where
    s : State
    s = state_of now b rows

    branch : (same : Bool) (x : Service) →
        state_by (has_entered s.plan (interval s) x) (s.preempts.spent n) (step_called s n) (if same then Some x.stage else None)
        ≡ (if same then state_in (has_entered s.plan (interval s) x) x.stage else idle_state (s.preempts.spent n) (step_called s n))
    branch true x = refl
    branch false x = refl

    go : (o : Option Service) →
        state_by (entered_of s.plan (interval s) o) (s.preempts.spent n) (step_called s n) (stage_by (stage_of o) n) ≡ preempt_state s o n
    go None = refl
    go (Some x) = branch (x.preempt == n) x

-- the preempt in service has entered, by the intervals of phase timing
pub entered-told : (rows : Rows) (i : Intervals) (checked : Checked) (entered : Bool) → TellsIntervals rows.phases i →
    TellsEntered i (checked_plan checked) rows.preempts entered → (now : ℕ) (b : Beside) → b.plan ≡ checked_plan checked →
    entered ≡ entered_of b.plan (interval (state_of now b rows)) (state_of now b rows).preempts.service
entered-told rows i checked entered told is now b same =
    is (clock_at now b.trip)
    ∙ entered-same (checked_plan checked) (interval_of i) (interval (state_of now b rows)) (placed checked).count (told (clock_at now b.trip)) (state_of now b rows).preempts.service
    ∙ ap (λ (plan : Plan). entered_of plan (interval (state_of now b rows)) (state_of now b rows).preempts.service) (sym same)
