-- A lit head stays lit over an input, or a tick turns it red after its yellow.
use Rattle.std.proofs.Common.{◌≡◌, ℕ, ◌==◌, Bool, true, false, ◌||◌, if◌then◌else◌, List, ◌∷◌, None, is_some, refl, sym, ap, ◌∙◌, inl, inr, ◌⊎◌}
use Rattle.std.proofs.lemmas.Bool.{true≢false, false≢true}
use Rattle.tsb_step.specs.tsb_types.declared.interval.Interval.{Interval}
use Rattle.tsb_step.specs.tsb_types.declared.interval.Interval.TheVariants as intervals
use Rattle.tsb_step.specs.tsb_types.declared.lamp.Aspect.{Aspect}
use Rattle.tsb_step.specs.tsb_types.declared.lamp.Aspect.TheVariants.{Dark, Red, Yellow, Green}
use Rattle.tsb_step.specs.tsb_plan.declared.object.Object.TheVariants.{OverlapIncludedPhases}
use Rattle.tsb_step.specs.tsb_plan.Parts.{is_arrow, is_minus_green_yellow, is_timed, trails}
use Rattle.tsb_step.specs.tsb_plan.Plan.{Plan, is_enabled}
use Rattle.tsb_step.specs.tsb_heads.Heads.{aspect_of, vehicle_head}
use Rattle.tsb_step.specs.tsb_heads.Monitoring.{gives_way}
use Rattle.tsb_step.specs.tsb_heads.Overlaps.{is_kept_green, is_on_yellow, aspect_by_type, head_by_phases, overlap_head}
use Rattle.tsb_step.specs.declared.inputs.Input.{Input}
use Rattle.tsb_step.specs.declared.inputs.Input.TheVariants as inputs
use Rattle.tsb_step.specs.declared.inputs.Input.TheVariants.{Tick}
use Rattle.tsb_step.specs.State.{State, interval}
use Rattle.tsb_step.specs.Signs.{display, shown}
use Rattle.tsb_step.specs.Step.{step, verdict}
use Rattle.tsb_step.specs.Runs.{replay, AreTaken}
use Rattle.tsb_step.specs.Laws.{IsConsistent}
use Rattle.tsb_step.proofs.ClearLemmas.{plan_stays}
use Rattle.tsb_step.specs.Backed.{TrailsBy}
use Rattle.tsb_step.specs.tsb_overlap.declared.parts.OverlapInterval.{OverlapInterval}
use Rattle.tsb_step.specs.tsb_overlap.declared.parts.OverlapInterval.TheVariants as overlaps
use Rattle.tsb_step.specs.tsb_overlap.Overlap.{light}
use Rattle.tsb_step.proofs.BackedLemmas.{backed_run}
use Rattle.tsb_step.proofs.GoodLemmas.{good_run}
use Rattle.tsb_step.proofs.OverlapRunLemmas.{overlaps_clear}
use Rattle.tsb_step.proofs.YellowLemmas.{clears_in_yellow}
use Rattle.tsb_laws.specs.LitHeads.{KeepsLitHeads, StaysOrClears}
use Rattle.tsb_laws.proofs.heads.LitLemmas.{dark_is_ordered, vehicle_serves, keeps_lit_heads, way_is_lit}

-- no head that is red gives right of way
not_red : (a : Aspect) → gives_way a ≡ true → a ≡ Red → ⊥
not_red a lit red = true≢false (sym lit ∙ ap gives_way red)

lit_or_red : (on : Bool) (i : Interval) → on ≡ true →
    (gives_way (if on then aspect_of i else Dark) ≡ true) ⊎ ((if on then aspect_of i else Dark) ≡ Red)
lit_or_red false i e = absurd (false≢true e)
lit_or_red true intervals.Red e = inr refl
lit_or_red true intervals.Green e = inl refl
lit_or_red true intervals.Yellow e = inl refl
lit_or_red true intervals.RedClear e = inr refl

-- an overlap that trails shows green, yellow or red
trail_or_red : (s : State) (o : ℕ) (i : OverlapInterval) → TrailsBy s o i → (gives_way (light i) ≡ true) ⊎ (light i ≡ Red)
trail_or_red s o overlaps.Red by = inr refl
trail_or_red s o overlaps.Green by = inl refl
trail_or_red s o overlaps.TrailGreen by = inl refl
trail_or_red s o overlaps.Flashing by = absurd by
trail_or_red s o overlaps.Yellow by = inl refl
trail_or_red s o overlaps.RedClear by = inr refl

-- of a normal overlap that includes a phase
lit_or_red_by : (empty kept on : Bool) (other : Aspect) → empty ≡ false →
    (gives_way (if empty then Dark else (if false then other else (if kept then Green else (if on then Yellow else Red)))) ≡ true)
    ⊎ ((if empty then Dark else (if false then other else (if kept then Green else (if on then Yellow else Red)))) ≡ Red)
lit_or_red_by true kept on other e = absurd (true≢false e)
lit_or_red_by false true on other e = inl refl
lit_or_red_by false false true other e = inl refl
lit_or_red_by false false false other e = inr refl

filled : (empty : Bool) (other : Aspect) → gives_way (if empty then Dark else other) ≡ true → empty ≡ false
filled true other h = absurd (false≢true h)
filled false other h = refl

pub phase_clears : (plan : Plan) (is : List Input) → IsConsistent plan → AreTaken plan is → (replay plan is).trip ≡ None →
    (i : Input) (p : ℕ) → verdict (replay plan is) i ≡ None → (replay plan (i ∷ is)).trip ≡ None →
    gives_way ((display (replay plan is)).vehicle p) ≡ true → StaysOrClears (λ s. (display s).vehicle p) plan is i
phase_clears plan is ok taken dark (inputs.Tick row) p allowed after lit =
    elim seen [
      | inl h ↦ inl h
      | inr h ↦ inr (refl, h, clears_in_yellow plan is ok taken dark row p (not_red ((display (replay plan is)).vehicle p) lit) h)
    ]
  where
    on : is_enabled (step (replay plan is) (Tick row)).plan p ≡ true
    on =
        let here : gives_way (vehicle_head (replay plan is).plan (shown (replay plan is)) p) ≡ true =
        rw (dark_is_ordered (replay plan is) (ap is_some dark)) at lit in
        ap (λ (x : Plan). is_enabled x p) (plan_stays (replay plan is) row)
        ∙ (vehicle_serves (is_enabled (replay plan is).plan p) (interval (replay plan is) p) here).0

    seen : (gives_way ((display (step (replay plan is) (Tick row))).vehicle p) ≡ true) ⊎ ((display (step (replay plan is) (Tick row))).vehicle p ≡ Red)
    seen =
        rw (dark_is_ordered (step (replay plan is) (Tick row)) (ap is_some after))
        (lit_or_red (is_enabled (step (replay plan is) (Tick row)).plan p) (interval (step (replay plan is) (Tick row)) p) on)
phase_clears plan is ok taken dark i p allowed after lit =
    let keeps : KeepsLitHeads (display (replay plan is)) (display (step (replay plan is) i)) =
    keeps_lit_heads (replay plan is) i (good_run plan is ok taken) (backed_run plan is ok taken) refl allowed (after ∙ sym dark) in
    inl (ap gives_way (keeps.vehicle p lit) ∙ lit)

pub overlap_clears : (plan : Plan) (is : List Input) → IsConsistent plan → AreTaken plan is → (replay plan is).trip ≡ None →
    (i : Input) (o : ℕ) → verdict (replay plan is) i ≡ None → (replay plan (i ∷ is)).trip ≡ None →
    is_minus_green_yellow (replay plan is).plan o ≡ false → is_arrow (replay plan is).plan o ≡ false →
    gives_way ((display (replay plan is)).overlap o) ≡ true → StaysOrClears (λ s. (display s).overlap o) plan is i
overlap_clears plan is ok taken dark (inputs.Tick row) o allowed after normal none lit =
    elim seen [
      | inl h ↦ inl h
      | inr h ↦ inr (refl, h, overlaps_clear plan is ok taken dark row o normal (not_red ((display (replay plan is)).overlap o) lit) h)
    ]
  where
    type : is_minus_green_yellow (step (replay plan is) (Tick row)).plan o ≡ false
    type = ap (λ (x : Plan). is_minus_green_yellow x o) (plan_stays (replay plan is) row) ∙ normal

    here : gives_way (overlap_head (replay plan is).plan (shown (replay plan is)) o) ≡ true
    here = rw (dark_is_ordered (replay plan is) (ap is_some dark)) at lit

    by_phases : is_timed (replay plan is).plan o ≡ false → gives_way (head_by_phases (replay plan is).plan (shown (replay plan is)) o) ≡ true
    by_phases untimed = rw untimed at here

    some : is_timed (replay plan is).plan o ≡ false → ((step (replay plan is) (Tick row)).plan.value OverlapIncludedPhases o == 0) ≡ false
    some untimed =
        ap (λ (x : Plan). x.value OverlapIncludedPhases o == 0) (plan_stays (replay plan is) row)
        ∙ filled ((replay plan is).plan.value OverlapIncludedPhases o == 0) (aspect_by_type (replay plan is).plan (shown (replay plan is)) o) (by_phases untimed)

    by_type : (s : State) → is_minus_green_yellow s.plan o ≡ false → (s.plan.value OverlapIncludedPhases o == 0) ≡ false →
        (gives_way (head_by_phases s.plan (shown s) o) ≡ true) ⊎ (head_by_phases s.plan (shown s) o ≡ Red)
    by_type s normal filled = rw normal
        (lit_or_red_by (s.plan.value OverlapIncludedPhases o == 0) (is_kept_green s.plan (shown s) o) (is_on_yellow s.plan (shown s) o) Red filled)

    seen : (gives_way ((display (step (replay plan is) (Tick row))).overlap o) ≡ true) ⊎ ((display (step (replay plan is) (Tick row))).overlap o ≡ Red)
    seen =
        rw (dark_is_ordered (step (replay plan is) (Tick row)) (ap is_some after))
        (by_timed (is_timed (step (replay plan is) (Tick row)).plan o) refl)
      where
        s : State
        s = step (replay plan is) (Tick row)

        no_arrow : is_arrow s.plan o ≡ false
        no_arrow = ap (λ (x : Plan). is_arrow x o) (plan_stays (replay plan is) row) ∙ none

        by_timed : (b : Bool) → is_timed s.plan o ≡ b →
            (gives_way (if b then light (s.overlaps o).interval else head_by_phases s.plan (shown s) o) ≡ true)
            ⊎ ((if b then light (s.overlaps o).interval else head_by_phases s.plan (shown s) o) ≡ Red)
        by_timed true timed =
            let trail : trails s.plan o ≡ true = sym (ap (λ (a : Bool). a || trails s.plan o) no_arrow) ∙ timed in
            trail_or_red s o (s.overlaps o).interval ((backed_run plan (Tick row ∷ is) ok (taken, allowed) o).trail no_arrow trail)
        by_timed false untimed = by_type s type (some (ap (λ (x : Plan). is_timed x o) (sym (plan_stays (replay plan is) row)) ∙ untimed))
overlap_clears plan is ok taken dark i o allowed after normal none lit =
    let keeps : KeepsLitHeads (display (replay plan is)) (display (step (replay plan is) i)) =
    keeps_lit_heads (replay plan is) i (good_run plan is ok taken) (backed_run plan is ok taken) refl allowed (after ∙ sym dark) in
    inl (ap gives_way (keeps.overlap o (way_is_lit ((display (replay plan is)).overlap o) lit)) ∙ lit)
