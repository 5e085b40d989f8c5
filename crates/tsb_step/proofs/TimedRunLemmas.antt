-- An arrow or an overlap that trails which turns red has shown yellow for the last 30 ticks, through inputs of every kind.
use Rattle.std.proofs.Common.{◌≡◌, ◌≢◌, ℕ, ◌+◌, ◌≤◌, Bool, true, false, if◌then◌else◌, List, [], ◌∷◌, Option, Some, None, is_some, refl, sym, ap, subst, arith, ◌∙◌, inl, inr, ◌⊎◌}
use Rattle.std.proofs.lemmas.Bool.{cases_Bool, and_parts, or_cases, true≢false, false≢true}
use Rattle.tsb_cells.specs.declared.timer.Timer.{Timer}
use Rattle.tsb_cells.specs.declared.timer.Timer.TheVariants.{Off, On}
use Rattle.tsb_cells.specs.Timer.{advanced, has_reached}
use Rattle.tsb_types.specs.declared.interval.Interval.{Interval}
use Rattle.tsb_types.specs.declared.interval.Interval.TheVariants as intervals
use Rattle.tsb_types.specs.declared.lamp.Aspect.{Aspect}
use Rattle.tsb_types.specs.declared.lamp.Aspect.TheVariants as aspects
use Rattle.tsb_types.specs.declared.lamp.Lamp.{Lamp}
use Rattle.tsb_types.specs.declared.row.Row.{Row}
use Rattle.tsb_types.specs.Intervals.{in_service}
use Rattle.tsb_types.specs.Lists.{among}
use Rattle.tsb_objects.specs.tsb_plan.Parts.{is_arrow, is_included, is_modifier, is_timed, trails, trail_yellow}
use Rattle.tsb_objects.specs.tsb_plan.Plan.{Plan, phases, is_enabled, yellow_change}
use Rattle.tsb_objects.specs.tsb_rules.Consistent.{IsArrowSound}
use Rattle.tsb_overlap.specs.declared.parts.OverlapInterval.{OverlapInterval}
use Rattle.tsb_overlap.specs.declared.parts.OverlapInterval.TheVariants.{Red, Green, TrailGreen, Flashing, Yellow, RedClear}
use Rattle.tsb_overlap.specs.Overlap.{Overlap, as_read, light, ended_flash}
use Rattle.tsb_step.specs.declared.inputs.Input.{Input}
use Rattle.tsb_step.specs.declared.inputs.Input.TheVariants as inputs
use Rattle.tsb_step.specs.declared.inputs.Input.TheVariants.{Tick}
use Rattle.tsb_step.specs.Backed.{IsYellowBy, PointsBy, IsTrailed, TrailsBy, AreBacked}
use Rattle.tsb_step.specs.Events.{is_by}
use Rattle.tsb_step.specs.State.{State, Tripped, restarted, interval}
use Rattle.tsb_step.specs.Tick.{overlaps_given, next}
use Rattle.tsb_step.specs.Signs.{display, watched}
use Rattle.tsb_step.specs.Step.{with_lamp, step, verdict, kind_of}
use Rattle.tsb_step.specs.Runs.{replay, AreTaken}
use Rattle.tsb_step.specs.Past.{ticks_of}
use Rattle.tsb_step.specs.Laws.{IsConsistent}
use Rattle.tsb_step.specs.Good.{IsGood}
use Rattle.tsb_step.specs.TimeLaws.{held_for, is_tick, is_reset, is_yellow_head}
use Rattle.tsb_step.proofs.ArrowLemmas as arrows
use Rattle.tsb_step.proofs.ArrowLemmas.{BecomesArrow, arrow_after}
use Rattle.tsb_step.proofs.TrailLemmas as trail
use Rattle.tsb_step.proofs.TrailLemmas.{BecomesTrail, YellowHasPassed, trail_after}
use Rattle.tsb_step.proofs.BackedLemmas.{backed_run}
use Rattle.tsb_step.proofs.ClearLemmas.{plan_stays}
use Rattle.tsb_step.proofs.GivenLemmas.{listed_is_phase}
use Rattle.tsb_step.proofs.GoodLemmas.{good_run}
use Rattle.tsb_step.proofs.OverlapLemmas.{clearing_serves}
use Rattle.tsb_step.proofs.SightLemmas.{SameSight}
use Rattle.tsb_step.proofs.SightRunLemmas.{included_enabled, same_sight}
use Rattle.tsb_step.proofs.TellLemmas.{dark_before, held_on}
use Rattle.tsb_step.proofs.TimerLemmas.{is_shown}
use Rattle.tsb_step.proofs.TurnLemmas.{arrow_turn, trail_is_sound}
use Rattle.tsb_step.proofs.YellowLemmas.{flashes_no_red, long_yellow, lasted_by}

-- ## What the head shows

shows_light : (s : State) (o : ℕ) → s.trip ≡ None → is_timed s.plan o ≡ true → (display s).overlap o ≡ light (s.overlaps o).interval
unfolding display
shows_light s o dark timed = rw (dark, timed) refl

shows_yellow : (s : State) (o : ℕ) → s.trip ≡ None → is_timed s.plan o ≡ true → (s.overlaps o).interval ≡ Yellow →
    is_yellow_head ((display s).overlap o) ≡ true
shows_yellow s o dark timed e = ap is_yellow_head (shows_light s o dark timed ∙ ap light e)

-- one that is red has not tripped
red_light : (s : State) (o : ℕ) → is_timed s.plan o ≡ true → (display s).overlap o ≡ aspects.Red → light (s.overlaps o).interval ≡ aspects.Red
unfolding display
red_light s o timed h = go (is_some s.trip) refl
  where
    go : (t : Bool) → is_some s.trip ≡ t → light (s.overlaps o).interval ≡ aspects.Red
    go true e = absurd (flashes_no_red (light (s.overlaps o).interval) (rw (e, timed) at h))
    go false e = rw (e, timed) at h

-- an interval that is red, and one that is lit
abbrev pub is_off : OverlapInterval → Bool
is_off Red = true
is_off Green = false
is_off TrailGreen = false
is_off Flashing = false
is_off Yellow = false
is_off RedClear = true

off_by : (i : OverlapInterval) → light i ≡ aspects.Red → is_off i ≡ true
off_by Red h = refl
off_by Green h = cc
off_by TrailGreen h = cc
off_by Flashing h = cc
off_by Yellow h = cc
off_by RedClear h = refl

lit_by : (i : OverlapInterval) → light i ≢ aspects.Red → is_off i ≡ false
lit_by Red h = absurd (h refl)
lit_by Green h = refl
lit_by TrailGreen h = refl
lit_by Flashing h = refl
lit_by Yellow h = refl
lit_by RedClear h = absurd (h refl)

-- ## Overlaps over an input

-- after a tick of a controller that has not tripped
overlaps_then : (s : State) (row : Row) → s.trip ≡ None → (step s (Tick row)).overlaps ≡ (next s row).overlaps
unfolding step watched
overlaps_then s row dark = go (is_some s.trip) (ap is_some dark)
  where
    go : (b : Bool) → b ≡ false →
        (if b then record s { now = s.now + 1 } else (if b then next s row else watched s (next s row))).overlaps ≡ (next s row).overlaps
    go true h = absurd (true≢false h)
    go false h = refl

lit_leaves : (s : State) (lamp : Option Lamp) → (with_lamp lamp s).overlaps ≡ s.overlaps
unfolding watched
lit_leaves s lamp = go (is_some s.trip)
  where
    go : (b : Bool) → (if b then record s { lamp = lamp } else watched s (record s { lamp = lamp })).overlaps ≡ s.overlaps
    go true = refl
    go false = refl

others_leave_overlaps : (s : State) (i : Input) → is_tick i ≡ false → is_reset i ≡ false → (step s i).overlaps ≡ s.overlaps
unfolding step
others_leave_overlaps s (inputs.Tick row) t r = absurd (true≢false t)
others_leave_overlaps s (inputs.Fault lamp) t r = lit_leaves s lamp
others_leave_overlaps s inputs.Reset t r = absurd (true≢false r)
others_leave_overlaps s i t r = refl

-- a reset of a controller that has tripped turns all red
reset_overlaps : (s : State) → ((o : ℕ) → ((step s inputs.Reset).overlaps o).interval ≡ Red) ⊎ ((step s inputs.Reset ≡ s) × (s.trip ≡ None))
unfolding step
reset_overlaps s = go s.trip refl
  where
    go : (trip : Option Tripped) → s.trip ≡ trip → ((o : ℕ) → ((if is_some trip then restarted s else s).overlaps o).interval ≡ Red)
        ⊎ (((if is_some trip then restarted s else s) ≡ s) × (s.trip ≡ None))
    go None e = inr (refl, e)
    go (Some t) e = inl (λ o. refl)

-- ## The phase by which it is yellow is in service

shown_serves : (i : Interval) → is_shown i ≡ true → in_service i ≡ true
shown_serves intervals.Green h = refl
shown_serves intervals.Yellow h = refl
shown_serves intervals.RedClear h = refl
shown_serves intervals.Red h = h

record Serves (s : State) : Type 0 where
  pub phase : ℕ
  pub serves : in_service (interval s phase) ≡ true

yellow_serves : (s : State) (o : ℕ) → AreBacked s → (s.overlaps o).interval ≡ Yellow → Serves s
yellow_serves s o backed e =
    elim (cases_Bool (is_arrow s.plan o)) [
      | inl arrow ↦ (let y : IsYellowBy s o = subst (PointsBy s o) e ((backed o).arrow arrow) in
          record { phase = y.phase; serves = shown_serves (interval s y.phase) y.lit })
      | inr normal ↦ elim (cases_Bool (trails s.plan o)) [
        | inl trailing ↦ (let y : IsTrailed s o = subst (TrailsBy s o) e ((backed o).trail normal trailing) in
            record { phase = y.phase; serves = clearing_serves (interval s y.phase) y.clears })
        | inr other ↦ (let bad : Red ≡ Yellow = sym ((backed o).other (rw (normal, other) refl)) ∙ e in absurd cc)
      ]
    ]

-- ## For how long it has been yellow

abbrev yellow_for : Plan → List Input → ℕ → ℕ
yellow_for plan is o = held_for (λ s. is_yellow_head ((display s).overlap o)) plan is

-- its timer counts no more ticks than it has shown yellow
abbrev IsTold : Plan → List Input → ℕ → Type 0
IsTold plan is o = (replay plan is).trip ≡ None → is_timed (replay plan is).plan o ≡ true → ((replay plan is).overlaps o).interval ≡ Yellow → (n : ℕ) →
    ((replay plan is).overlaps o).timer ≡ On n → n ≤ yellow_for plan is o

-- where it was yellow before the input too
goes_on : (plan : Plan) (i : Input) (is : List Input) (o m n : ℕ) → (replay plan (i ∷ is)).trip ≡ None → (replay plan is).trip ≡ None →
    is_timed (replay plan (i ∷ is)).plan o ≡ true → is_timed (replay plan is).plan o ≡ true →
    ((replay plan (i ∷ is)).overlaps o).interval ≡ Yellow → ((replay plan is).overlaps o).interval ≡ Yellow → m ≤ yellow_for plan is o →
    n ≤ ticks_of (kind_of i) + m → n ≤ yellow_for plan (i ∷ is) o
goes_on plan i is o m n dark dark_then timed timed_then now before within runs =
    let on : yellow_for plan (i ∷ is) o ≡ ticks_of (kind_of i) + yellow_for plan is o =
    held_on (λ s. is_yellow_head ((display s).overlap o)) plan i is (shows_yellow (replay plan (i ∷ is)) o dark timed now) (shows_yellow (replay plan is) o dark_then timed_then before) in
    omega (arith, on, within, runs)

-- a timer that runs on, and one that begins
on_before : (t : Timer) (n : ℕ) → advanced t ≡ On n → (m : ℕ) × ((t ≡ On m) × (n ≡ m + 1))
on_before Off n e = cc
on_before (On m) n e = let same : m + 1 ≡ n = cc in (m, (refl, sym same))

at_zero : (n : ℕ) → On 0 ≡ On n → n ≡ 0
at_zero n e = let same : 0 ≡ n = cc in sym same

-- what a yellow after a tick was before it
came_arrow : (s : State) (row : Row) (o t : ℕ) → BecomesArrow s.plan (overlaps_given s row) o t (s.overlaps o) ((next s row).overlaps o) →
    ((next s row).overlaps o).interval ≡ Yellow →
    (((s.overlaps o).interval ≡ Yellow) × ((next s row).overlaps o ≡ as_read (s.overlaps o))) ⊎ (((next s row).overlaps o).timer ≡ On 0)
came_arrow s row o t (arrows.turns g e) y = let bad : Green ≡ Yellow = sym (ap (λ (z : Overlap). z.interval) e) ∙ y in absurd cc
came_arrow s row o t (arrows.flashes g m e) y = let bad : Flashing ≡ Yellow = sym (ap (λ (z : Overlap). z.interval) e) ∙ y in absurd cc
came_arrow s row o t (arrows.stops l e) y = let bad : Red ≡ Yellow = sym (ap (λ (z : Overlap). z.interval) e) ∙ y in absurd cc
came_arrow s row o t (arrows.ends_green x g e) y = inr (ap (λ (z : Overlap). z.timer) e)
came_arrow s row o t (arrows.ends_flash x g e) y = inr (ap (λ (z : Overlap). z.timer) e ∙ at_once _)
  where
    at_once : (f : Option ℕ) → (ended_flash t f).timer ≡ On 0
    at_once None = refl
    at_once (Some q) = refl
came_arrow s row o t (arrows.goes_on x not_over e) y = inl (x, e)

came_trail : (s : State) (row : Row) (o : ℕ) → BecomesTrail s.plan (overlaps_given s row) o (s.overlaps o) ((next s row).overlaps o) →
    TrailsBy s o (s.overlaps o).interval → ((next s row).overlaps o).interval ≡ Yellow →
    (((s.overlaps o).interval ≡ Yellow) × ((next s row).overlaps o ≡ as_read (s.overlaps o))) ⊎ (((next s row).overlaps o).timer ≡ On 0)
came_trail s row o (trail.stays_green k e) was y = let bad : Green ≡ Yellow = sym (ap (λ (z : Overlap). z.interval) e) ∙ y in absurd cc
came_trail s row o (trail.stops l e) was y = let bad : Red ≡ Yellow = sym e ∙ y in absurd cc
came_trail s row o (trail.begins x off (inl e)) was y = let bad : TrailGreen ≡ Yellow = sym (ap (λ (z : Overlap). z.interval) e) ∙ y in absurd cc
came_trail s row o (trail.begins x off (inr e)) was y = inr (ap (λ (z : Overlap). z.timer) e)
came_trail s row o (trail.goes_on x h e) was y = inl (sym (ap (λ (z : Overlap). z.interval) e) ∙ y, e)
came_trail s row o (trail.yellow_begins x h e) was y = inr (ap (λ (z : Overlap). z.timer) e)
came_trail s row o (trail.red_begins x p h e) was y = let bad : RedClear ≡ Yellow = sym (ap (λ (z : Overlap). z.interval) e) ∙ y in absurd cc
came_trail s row o (trail.flashes x) was y = absurd (subst (TrailsBy s o) x was)

came : (s : State) (row : Row) (o : ℕ) → IsGood s → AreBacked s → is_timed s.plan o ≡ true → ((next s row).overlaps o).interval ≡ Yellow →
    (((s.overlaps o).interval ≡ Yellow) × ((next s row).overlaps o ≡ as_read (s.overlaps o))) ⊎ (((next s row).overlaps o).timer ≡ On 0)
came s row o good backed timed y =
    elim (cases_Bool (is_arrow s.plan o)) [
      | inl arrow ↦ (let sound : IsArrowSound s.plan o = arrow_turn s.plan good.plan o arrow in
          came_arrow s row o sound.turn (arrow_after s.plan (overlaps_given s row) s.overlaps o sound.turn arrow sound.is_first) y)
      | inr normal ↦ (let trailing : trails s.plan o ≡ true = rw normal at timed in
          came_trail s row o (trail_after s.plan (overlaps_given s row) s.overlaps o normal trailing) ((backed o).trail normal trailing) y)
    ]

told_after_tick : (plan : Plan) (row : Row) (is : List Input) (o : ℕ) → IsConsistent plan → AreTaken plan is → IsTold plan is o → IsTold plan (Tick row ∷ is) o
told_after_tick plan row is o ok taken was dark timed now n runs = by (came s row o (good_run plan is ok taken) (backed_run plan is ok taken) timed_then (sym (ap (λ (z : Overlap). z.interval) moved) ∙ now))
  where
    s : State
    s = replay plan is

    dark_then : (replay plan is).trip ≡ None
    dark_then = dark_before (replay plan is) (Tick row) refl dark

    timed_then : is_timed (replay plan is).plan o ≡ true
    timed_then = sym (ap (λ (x : Plan). is_timed x o) (plan_stays (replay plan is) row)) ∙ timed

    moved : (replay plan (Tick row ∷ is)).overlaps o ≡ (next (replay plan is) row).overlaps o
    moved = ap (λ (f : ℕ → Overlap). f o) (overlaps_then (replay plan is) row dark_then)

    by : ((((replay plan is).overlaps o).interval ≡ Yellow) × ((next (replay plan is) row).overlaps o ≡ as_read ((replay plan is).overlaps o)))
        ⊎ (((next (replay plan is) row).overlaps o).timer ≡ On 0) → n ≤ yellow_for plan (Tick row ∷ is) o
    by (inr z) = let none : n ≡ 0 = at_zero n (sym z ∙ sym (ap (λ (x : Overlap). x.timer) moved) ∙ runs) in omega (arith, none)
    by (inl k) =
        let m = on_before ((replay plan is).overlaps o).timer n (sym (ap (λ (x : Overlap). x.timer) (moved ∙ k.1)) ∙ runs) in
        goes_on plan (Tick row) is o m.0 n dark dark_then timed timed_then now k.0 (was dark_then timed_then k.0 m.0 m.1.0) (omega (arith, m.1.1))

told_after_reset : (plan : Plan) (is : List Input) (o : ℕ) → IsTold plan is o → IsTold plan (inputs.Reset ∷ is) o
told_after_reset plan is o was dark timed now n runs =
    elim (reset_overlaps (replay plan is)) [
      | inl anew ↦ (let bad : Red ≡ Yellow = sym (anew o) ∙ now in absurd cc)
      | inr same ↦
          (let timed_then : is_timed (replay plan is).plan o ≡ true = sym (ap (λ (x : State). is_timed x.plan o) same.0) ∙ timed in
          let before : ((replay plan is).overlaps o).interval ≡ Yellow = sym (ap (λ (x : State). (x.overlaps o).interval) same.0) ∙ now in
          goes_on plan inputs.Reset is o n n dark same.1 timed timed_then now before
          (was same.1 timed_then before n (sym (ap (λ (x : State). (x.overlaps o).timer) same.0) ∙ runs)) (omega arith))
    ]

told_after_other : (plan : Plan) (i : Input) (is : List Input) (o : ℕ) → is_tick i ≡ false → is_reset i ≡ false → IsGood (replay plan is) →
    AreBacked (replay plan is) → verdict (replay plan is) i ≡ None → IsTold plan is o → IsTold plan (i ∷ is) o
told_after_other plan i is o t r good backed taken was dark timed now n runs =
    goes_on plan i is o n n dark dark_then timed timed_then now before
    (was dark_then timed_then before n (sym (ap (λ (f : ℕ → Overlap). (f o).timer) left) ∙ runs)) (omega arith)
  where
    left : (replay plan (i ∷ is)).overlaps ≡ (replay plan is).overlaps
    left = others_leave_overlaps (replay plan is) i t r

    dark_then : (replay plan is).trip ≡ None
    dark_then = dark_before (replay plan is) i r dark

    before : ((replay plan is).overlaps o).interval ≡ Yellow
    before = sym (ap (λ (f : ℕ → Overlap). (f o).interval) left) ∙ now

    y : Serves (replay plan is)
    y = yellow_serves (replay plan is) o backed before

    same : SameSight (replay plan is) (replay plan (i ∷ is)) o
    same = same_sight (replay plan is) i y.phase o t r good taken y.serves

    timed_then : is_timed (replay plan is).plan o ≡ true
    timed_then = rw (same.type, same.value, same.trail) at timed

told : (plan : Plan) (is : List Input) (o : ℕ) → IsConsistent plan → AreTaken plan is → IsTold plan is o
told plan [] o ok taken dark timed now n runs = let bad : Red ≡ Yellow = now in absurd cc
told plan (inputs.Tick row ∷ is) o ok taken dark timed now n runs = told_after_tick plan row is o ok taken.0 (told plan is o ok taken.0) dark timed now n runs
told plan (inputs.Reset ∷ is) o ok taken dark timed now n runs = told_after_reset plan is o (told plan is o ok taken.0) dark timed now n runs
told plan (i ∷ is) o ok taken dark timed now n runs =
    told_after_other plan _ is o refl refl (good_run plan is ok taken.0) (backed_run plan is ok taken.0) taken.1 (told plan is o ok taken.0) dark timed now n runs

-- ## Its yellow is at least 30 ticks

-- a phase by whose yellow an arrow is yellow is enabled
by_enabled : (s : State) (o q : ℕ) → IsGood s → is_arrow s.plan o ≡ true → among q (phases s.plan) ≡ true → is_by s.plan o q ≡ true → is_enabled s.plan q ≡ true
by_enabled s o q good arrow listed by =
    elim (or_cases (is_included s.plan o q) _ by) [
      | inl named ↦ included_enabled s.plan good.plan o q sound.includes_some (record { listed = listed; included = named })
      | inr turns ↦
          (let both = and_parts (is_arrow s.plan o) (is_modifier s.plan o q) turns in
          let same : q ≡ sound.turn = sound.is_only q (listed_is_phase s.plan q listed) both.1 in
          subst (λ (p : ℕ). is_enabled s.plan p ≡ true) (sym same) sound.enabled)
    ]
  where
    sound : IsArrowSound s.plan o
    sound = arrow_turn s.plan good.plan o arrow

-- the timer of a yellow that has passed
runs_long : (timer : Timer) (limit : ℕ) → has_reached (advanced timer) limit ≡ true → (m : ℕ) × ((timer ≡ On m) × (limit ≤ m + 1))
runs_long Off limit h = absurd (false≢true h)
runs_long (On m) limit h = (m, (refl, lasted_by (On m) m limit refl h))

-- what was lit and is red after a tick was yellow, whose time has passed
record HasBeenYellow (s : State) (o : ℕ) : Type 0 where
  pub yellow : (s.overlaps o).interval ≡ Yellow
  pub ticks : ℕ
  pub runs : (s.overlaps o).timer ≡ On ticks
  pub long : 29 ≤ ticks

arrow_ends : (s : State) (row : Row) (o : ℕ) → IsGood s → is_arrow s.plan o ≡ true → PointsBy s o (s.overlaps o).interval → is_off (s.overlaps o).interval ≡ false →
    (sound : IsArrowSound s.plan o) → BecomesArrow s.plan (overlaps_given s row) o sound.turn (s.overlaps o) ((next s row).overlaps o) →
    is_off ((next s row).overlaps o).interval ≡ true → HasBeenYellow s o
arrow_ends s row o good arrow was lit sound (arrows.turns g e) off = absurd (false≢true (sym (ap (λ (z : Overlap). is_off z.interval) e) ∙ off))
arrow_ends s row o good arrow was lit sound (arrows.flashes g m e) off = absurd (false≢true (sym (ap (λ (z : Overlap). is_off z.interval) e) ∙ off))
arrow_ends s row o good arrow was lit sound (arrows.ends_green x g e) off = absurd (false≢true (sym (ap (λ (z : Overlap). is_off z.interval) e) ∙ off))
arrow_ends s row o good arrow was lit sound (arrows.ends_flash x g e) off = absurd (false≢true (sym (ap (λ (z : Overlap). is_off z.interval) e ∙ not_off _) ∙ off))
  where
    not_off : (f : Option ℕ) → is_off (ended_flash sound.turn f).interval ≡ false
    not_off None = refl
    not_off (Some q) = refl
arrow_ends s row o good arrow was lit sound (arrows.goes_on x n e) off = absurd (true≢false (sym (sym (ap (λ (z : Overlap). is_off z.interval) e) ∙ off) ∙ lit))
arrow_ends s row o good arrow was lit sound (arrows.stops late e) off = by (s.overlaps o).interval refl
  where
    yellow : (s.overlaps o).interval ≡ Yellow → HasBeenYellow s o
    yellow x =
        let y : IsYellowBy s o = subst (PointsBy s o) x was in
        let on : is_enabled s.plan y.phase ≡ true = by_enabled s o y.phase good arrow y.listed y.by in
        let long : 30 ≤ yellow_change s.plan y.phase = long_yellow s y.phase good (shown_serves (interval s y.phase) y.lit) on in
        let lasted : yellow_change s.plan y.phase ≤ y.ticks + 1 = lasted_by (s.overlaps o).timer y.ticks (yellow_change s.plan y.phase) y.runs (late.yellow x y.phase y.shows) in
        record { yellow = x; ticks = y.ticks; runs = y.runs; long = omega (arith, long, lasted) }

    by : (i : OverlapInterval) → (s.overlaps o).interval ≡ i → HasBeenYellow s o
    by Red x = absurd (true≢false (sym (ap is_off x) ∙ lit))
    by Green x = absurd (late.green x)
    by TrailGreen x = absurd (subst (PointsBy s o) x was)
    by Flashing x = absurd (late.flashing x)
    by Yellow x = yellow x
    by RedClear x = absurd (true≢false (sym (ap is_off x) ∙ lit))

trail_yellow_passed : (s : State) (o : ℕ) → IsGood s → trails s.plan o ≡ true → (s.overlaps o).interval ≡ Yellow → YellowHasPassed s.plan o (s.overlaps o) → HasBeenYellow s o
trail_yellow_passed s o good trailing x passed =
    let long : 30 ≤ trail_yellow s.plan o = (trail_is_sound s.plan good.plan o trailing).yellow in
    let m = runs_long (s.overlaps o).timer (trail_yellow s.plan o) passed in
    record { yellow = x; ticks = m.0; runs = m.1.0; long = omega (arith, long, m.1.1) }

trail_ends : (s : State) (row : Row) (o : ℕ) → IsGood s → trails s.plan o ≡ true → TrailsBy s o (s.overlaps o).interval → is_off (s.overlaps o).interval ≡ false →
    BecomesTrail s.plan (overlaps_given s row) o (s.overlaps o) ((next s row).overlaps o) → is_off ((next s row).overlaps o).interval ≡ true → HasBeenYellow s o
trail_ends s row o good trailing was lit (trail.stays_green k e) off = absurd (false≢true (sym (ap (λ (z : Overlap). is_off z.interval) e) ∙ off))
trail_ends s row o good trailing was lit (trail.begins x k (inl e)) off = absurd (false≢true (sym (ap (λ (z : Overlap). is_off z.interval) e) ∙ off))
trail_ends s row o good trailing was lit (trail.begins x k (inr e)) off = absurd (false≢true (sym (ap (λ (z : Overlap). is_off z.interval) e) ∙ off))
trail_ends s row o good trailing was lit (trail.goes_on x h e) off = absurd (true≢false (sym (sym (ap (λ (z : Overlap). is_off z.interval) e) ∙ off) ∙ lit))
trail_ends s row o good trailing was lit (trail.yellow_begins x h e) off = absurd (false≢true (sym (ap (λ (z : Overlap). is_off z.interval) e) ∙ off))
trail_ends s row o good trailing was lit (trail.red_begins x passed h e) off = trail_yellow_passed s o good trailing x passed
trail_ends s row o good trailing was lit (trail.flashes x) off = absurd (subst (TrailsBy s o) x was)
trail_ends s row o good trailing was lit (trail.stops late e) off = by (s.overlaps o).interval refl
  where
    by : (i : OverlapInterval) → (s.overlaps o).interval ≡ i → HasBeenYellow s o
    by Red x = absurd (true≢false (sym (ap is_off x) ∙ lit))
    by Green x = absurd (late.green x)
    by TrailGreen x = absurd (late.trailing x)
    by Flashing x = absurd (subst (TrailsBy s o) x was)
    by Yellow x = trail_yellow_passed s o good trailing x (late.yellow x)
    by RedClear x = absurd (true≢false (sym (ap is_off x) ∙ lit))

ends_yellow : (s : State) (row : Row) (o : ℕ) → IsGood s → AreBacked s → is_timed s.plan o ≡ true → is_off (s.overlaps o).interval ≡ false →
    is_off ((next s row).overlaps o).interval ≡ true → HasBeenYellow s o
ends_yellow s row o good backed timed lit off =
    elim (cases_Bool (is_arrow s.plan o)) [
      | inl arrow ↦ (let sound : IsArrowSound s.plan o = arrow_turn s.plan good.plan o arrow in
          arrow_ends s row o good arrow ((backed o).arrow arrow) lit sound
          (arrow_after s.plan (overlaps_given s row) s.overlaps o sound.turn arrow sound.is_first) off)
      | inr normal ↦ (let trailing : trails s.plan o ≡ true = rw normal at timed in
          trail_ends s row o good trailing ((backed o).trail normal trailing) lit (trail_after s.plan (overlaps_given s row) s.overlaps o normal trailing) off)
    ]

-- ## Every run

pub timed_clear : (plan : Plan) (is : List Input) → IsConsistent plan → AreTaken plan is → (replay plan is).trip ≡ None →
    (row : Row) (o : ℕ) → is_timed (replay plan is).plan o ≡ true → (display (replay plan is)).overlap o ≢ aspects.Red →
    (display (replay plan (Tick row ∷ is))).overlap o ≡ aspects.Red → 29 ≤ held_for (λ s. is_yellow_head ((display s).overlap o)) plan is
timed_clear plan is ok taken dark row o timed before after =
    let timed_now : is_timed (replay plan (Tick row ∷ is)).plan o ≡ true = ap (λ (x : Plan). is_timed x o) (plan_stays (replay plan is) row) ∙ timed in
    let lit : is_off ((replay plan is).overlaps o).interval ≡ false =
    lit_by ((replay plan is).overlaps o).interval (λ h. before (shows_light (replay plan is) o dark timed ∙ h)) in
    let off : is_off ((next (replay plan is) row).overlaps o).interval ≡ true =
    sym (ap (λ (f : ℕ → Overlap). is_off (f o).interval) (overlaps_then (replay plan is) row dark))
    ∙ off_by ((replay plan (Tick row ∷ is)).overlaps o).interval (red_light (replay plan (Tick row ∷ is)) o timed_now after) in
    let y : HasBeenYellow (replay plan is) o = ends_yellow (replay plan is) row o (good_run plan is ok taken) (backed_run plan is ok taken) timed lit off in
    let within : y.ticks ≤ yellow_for plan is o = told plan is o ok taken dark timed y.yellow y.ticks y.runs in
    let long : 29 ≤ y.ticks = y.long in
    omega (arith, long, within)
