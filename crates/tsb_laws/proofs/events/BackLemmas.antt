-- The events of a run give its heads back, as those of its display lines do.
use Rattle.std.proofs.Common.{◌≡◌, ◌∙◌, ℕ, ◌≤◌, ◌==◌, Bool, true, false, ◌&&◌, List, [], ◌∷◌, ◌++◌, filter, Option, None, is_some, refl, sym, ap, inl, inr, append_assoc}
use Rattle.std.proofs.lemmas.Bool.{cases_Bool, and_right}
use Rattle.std.proofs.lemmas.List.{append-nil}
use Rattle.std.proofs.lemmas.List.Elements.{filter-append}
use Rattle.tsb_step.specs.tsb_types.Events.{either}
use Rattle.tsb_step.specs.tsb_types.Lists.{run_from}
use Rattle.tsb_step.specs.tsb_types.Sets.{has_number}
use Rattle.tsb_step.specs.tsb_types.declared.event.Event.{Event}
use Rattle.tsb_step.specs.tsb_types.declared.lamp.Aspect.{Aspect}
use Rattle.tsb_step.specs.tsb_types.declared.lamp.Aspect.TheVariants.{Dark, Red}
use Rattle.tsb_step.proofs.tsb_types.EventLemmas.{none-told}
use Rattle.tsb_step.proofs.tsb_types.FirstLemmas.{first-none}
use Rattle.tsb_step.proofs.tsb_types.SetLemmas.{names-zero}
use Rattle.tsb_step.specs.tsb_heads.Colours as colours
use Rattle.tsb_step.specs.tsb_heads.Monitoring as monitor
use Rattle.tsb_step.specs.tsb_heads.Overlaps.{is_kept_green, is_on_last_yellow, is_on_yellow, head_by_phases, overlap_head}
use Rattle.tsb_step.specs.tsb_plan.declared.object.Object.TheVariants.{OverlapIncludedPhases}
use Rattle.tsb_step.specs.tsb_plan.Parts.{is_included, is_minus_green_yellow, is_timed}
use Rattle.tsb_step.specs.tsb_plan.Plan.{Plan, phases}
use Rattle.tsb_step.specs.declared.inputs.Input.{Input}
use Rattle.tsb_step.specs.declared.log_form.LogForm.{LogForm}
use Rattle.tsb_step.specs.Events.{View, events_of, is_overlap, lit_overlaps, view}
use Rattle.tsb_step.specs.Laws.{IsConsistent}
use Rattle.tsb_step.specs.Runs.{replay, AreTaken}
use Rattle.tsb_step.specs.Signs.{display, local, shown, stage}
use Rattle.tsb_step.specs.State.{State, start}
use Rattle.tsb_text.specs.Answers.{line_in, preempt_in_service}
use Rattle.tsb_field_display.specs.declared.shown.Shown.{Shown}
use Rattle.tsb_field_display.specs.declared.shown.Signals.{Signals}
use Rattle.tsb_field_display.specs.Events as lines
use Rattle.tsb_field_display.specs.Events.{events_after, events_of_lines}
use Rattle.tsb_field_display.specs.Laws.{AreAllApart, IsLit}
use Rattle.tsb_field_display.specs.ReadBack.{lit_after, read_back, says_at, says_clearance, says_flash, says_green, says_overlap_arrow, says_overlap_green, says_overlap_yellow, says_walk, says_yellow}
use Rattle.tsb_field_display.specs.Reading.{field}
use Rattle.tsb_field_display.specs.Shows.{AreApart, nothing_lit}
use Rattle.tsb_field_display.proofs.HeadLemmas.{Shows, line-shows}
use Rattle.tsb_field_display.proofs.LawLemmas.{tell-the-heads}
use Rattle.tsb_field_display.proofs.LetterLemmas.{apart-green_arrows, apart-overlaps, apart-pedestrians, apart-yellow_arrows}
use Rattle.tsb_text.specs.recording.Along.{noted_after, told_along}
use Rattle.tsb_laws.specs.Told.{RunsTellTheHeads, is_of_line, shown_in, signals}
use Rattle.tsb_laws.proofs.events.LineLemmas.{Sees, by_line, lines-same, lines_of, wide-whole}
use Rattle.tsb_laws.proofs.events.SayLemmas.{at-head, differs, silent}
use Rattle.tsb_laws.proofs.events.RunLemmas.{run-sees, tell-the-same}
use Rattle.tsb_laws.proofs.events.ServedLemmas.{known-run}
use Rattle.tsb_laws.proofs.events.SeenLemmas.{preempt-known}
use Rattle.tsb_laws.proofs.versions.PatternLemmas.{any-never}

-- ## Before the first input

kept-none : (plan : Plan) (o : ℕ) → is_kept_green plan (shown (start plan)) o ≡ false
unfolding is_kept_green
kept-none plan o = any-never _ (phases plan) (λ p. and_right (is_included plan o p) false refl)

yellow-none : (plan : Plan) (o : ℕ) → is_on_yellow plan (shown (start plan)) o ≡ false
unfolding is_on_yellow
yellow-none plan o = any-never _ (phases plan) (λ p. and_right (is_included plan o p) false refl)

last-yellow-none : (plan : Plan) (o : ℕ) → is_on_last_yellow plan (shown (start plan)) o ≡ false
unfolding is_on_last_yellow
last-yellow-none plan o = any-never _ (phases plan) (λ p. and_right (is_included plan o p) false refl)

unlit-by-phases : (test : Aspect → Bool) → test Dark ≡ false → test Red ≡ false → (plan : Plan) (o : ℕ) →
    test (head_by_phases plan (shown (start plan)) o) ≡ false
unlit-by-phases test dark red plan o = elim (cases_Bool (plan.value OverlapIncludedPhases o == 0)) [
  | inl h ↦ rw h dark
  | inr h ↦ elim (cases_Bool (is_minus_green_yellow plan o)) [
    | inl k ↦ rw (h, k) (rw (kept-none plan o, last-yellow-none plan o) red)
    | inr k ↦ rw (h, k) (rw (kept-none plan o, yellow-none plan o) red)
  ]
]

-- an overlap is red or dark
unlit : (test : Aspect → Bool) → test Dark ≡ false → test Red ≡ false → (plan : Plan) (o : ℕ) → test (overlap_head plan (shown (start plan)) o) ≡ false
unlit test dark red plan o = elim (cases_Bool (is_timed plan o)) [
  | inl t ↦ rw t red
  | inr t ↦ rw t (unlit-by-phases test dark red plan o)
]

nothing-seen : (plan : Plan) → Sees nothing_lit (view (start plan)) (stage (start plan))
unfolding view display
nothing-seen plan = record {
  greens = λ p from within. names-zero p;
  yellows = λ p from within. names-zero p;
  walks = λ p from within. names-zero p;
  clearances = λ p from within. names-zero p;
  overlap_greens = λ o from within. names-zero o ∙ sym (ap (λ (b : Bool). is_overlap o && b) (unlit monitor.is_green refl refl plan o) ∙ and_right (is_overlap o) false refl);
  overlap_yellows = λ o from within. names-zero o ∙ sym (ap (λ (b : Bool). is_overlap o && b) (unlit colours.is_yellow refl refl plan o) ∙ and_right (is_overlap o) false refl);
  overlap_arrows = λ o from within. names-zero o ∙ sym (ap (λ (b : Bool). is_overlap o && b) (unlit colours.is_flashing_yellow refl refl plan o) ∙ and_right (is_overlap o) false refl);
  preempt = refl;
  known = tt;
  preempts = refl;
  flash = ap is_some (first-none (has_number nothing_lit.vehicles.flashing) (run_from 1 16) names-zero);
}

same-flash : (b : Bool) (tick : ℕ) → lines.flash_events b tick b ≡ []
same-flash true tick = refl
same-flash false tick = refl

lines-none : (tick : ℕ) (v : View) → lines_of tick v v ≡ []
lines-none tick v =
    λ i. (none-told tick 1 v.greens i ++ none-told tick 7 v.greens i ++ none-told tick 8 v.yellows i ++ none-told tick 9 v.yellows i)
    ++ (none-told tick 21 v.walks i ++ none-told tick 22 v.clearances i ++ none-told tick 23 (either v.walks v.clearances) i)
    ++ (none-told tick 32 v.overlap_arrows i ++ none-told tick 33 v.overlap_arrows i)
    ++ (none-told tick 61 v.overlap_greens i ++ none-told tick 63 v.overlap_yellows i ++ none-told tick 64 (lit_overlaps v) i)
    ++ none-told tick 105 v.preempts i ++ same-flash v.flashes tick i

-- at power-up nothing is lit
first-line : (plan : Plan) → IsConsistent plan → plan.phase_count ≤ 16 → lines.events_of nothing_lit (shown_in true (start plan)) ≡ []
first-line plan ok few =
    lines-same nothing_lit (shown_in true (start plan)) (view (start plan)) (view (start plan)) (stage (start plan)) (stage (start plan))
    (nothing-seen plan) (run-sees true plan [] ok few tt) ∙ lines-none 0 (view (start plan))

-- ## The lines of a run

-- those of the states before
abbrev earlier : Plan → List Input → List Shown
earlier plan [] = []
earlier plan (i ∷ is) = earlier plan is ++ shown_in true (replay plan is) ∷ []

-- and with the newest
abbrev all_lines : Plan → List Input → List Shown
all_lines plan is = earlier plan is ++ shown_in true (replay plan is) ∷ []

then-next : (before : Signals) (ls : List Shown) (line next : Shown) →
    events_after before ((ls ++ line ∷ []) ++ next ∷ []) ≡ events_after before (ls ++ line ∷ []) ++ lines.events_of line.signals next
then-next before [] line next =
    ap (λ (es : List Event). lines.events_of before line ++ es) (append-nil (lines.events_of line.signals next))
    ∙ ap (λ (es : List Event). es ++ lines.events_of line.signals next) (sym (append-nil (lines.events_of before line)))
then-next before (l ∷ ls) line next =
    ap (λ (es : List Event). lines.events_of before l ++ es) (then-next l.signals ls line next)
    ∙ sym (append_assoc (lines.events_of before l) (events_after l.signals (ls ++ line ∷ [])) (lines.events_of line.signals next))

lines-told : (form : LogForm) (plan : Plan) (is : List Input) → IsConsistent plan → plan.phase_count ≤ 16 → AreTaken plan is →
    filter (is_of_line true) (told_along form plan is) ≡ events_of_lines (all_lines plan is)
lines-told form plan [] ok few taken = sym (append-nil (lines.events_of nothing_lit (shown_in true (start plan))) ∙ first-line plan ok few)
lines-told form plan (i ∷ is) ok few taken =
    filter-append (is_of_line true) (told_along form plan is) (events_of (noted_after form is) (replay plan is) i)
    ∙ (λ j. lines-told form plan is ok few taken.0 j ++ sym (tell-the-same true plan is i (noted_after form is) ok few taken) j)
    ∙ sym (then-next nothing_lit (earlier plan is) (shown_in true (replay plan is)) (shown_in true (replay plan (i ∷ is))))

line-apart : (s : State) → AreApart (signals true s)
line-apart s = record {
  pedestrians = apart-pedestrians (field 25 16 (line_in true s));
  overlaps = apart-overlaps (field 54 16 (line_in true s));
  green_arrows = apart-green_arrows (field 54 16 (line_in true s));
  yellow_arrows = apart-yellow_arrows (field 54 16 (line_in true s));
}

apart-more : (ls : List Shown) (line : Shown) → AreAllApart ls → AreApart line.signals → AreAllApart (ls ++ line ∷ [])
apart-more [] line all apart = (apart, tt)
apart-more (l ∷ ls) line all apart = (all.0, apart-more ls line all.1 apart)

earlier-apart : (plan : Plan) (is : List Input) → AreAllApart (earlier plan is)
earlier-apart plan [] = tt
earlier-apart plan (i ∷ is) = apart-more (earlier plan is) (shown_in true (replay plan is)) (earlier-apart plan is) (line-apart (replay plan is))

-- ## What other events say

none-green : (c : ℕ) → by_line c ≡ false → says_green c ≡ None
none-green c h = rw (differs by_line c 1 h refl, differs by_line c 7 h refl) refl

none-yellow : (c : ℕ) → by_line c ≡ false → says_yellow c ≡ None
none-yellow c h = rw (differs by_line c 8 h refl, differs by_line c 9 h refl) refl

none-walk : (c : ℕ) → by_line c ≡ false → says_walk c ≡ None
none-walk c h = rw (differs by_line c 21 h refl, differs by_line c 22 h refl, differs by_line c 23 h refl) refl

none-clearance : (c : ℕ) → by_line c ≡ false → says_clearance c ≡ None
none-clearance c h = rw (differs by_line c 21 h refl, differs by_line c 22 h refl, differs by_line c 23 h refl) refl

none-overlap-green : (c : ℕ) → by_line c ≡ false → says_overlap_green c ≡ None
none-overlap-green c h = rw (differs by_line c 61 h refl, differs by_line c 63 h refl, differs by_line c 64 h refl, differs by_line c 32 h refl) refl

none-overlap-yellow : (c : ℕ) → by_line c ≡ false → says_overlap_yellow c ≡ None
none-overlap-yellow c h = rw (differs by_line c 61 h refl, differs by_line c 63 h refl, differs by_line c 64 h refl, differs by_line c 32 h refl) refl

none-overlap-arrow : (c : ℕ) → by_line c ≡ false → says_overlap_arrow c ≡ None
none-overlap-arrow c h = rw (differs by_line c 32 h refl, differs by_line c 33 h refl) refl

none-flash : (e : Event) → by_line e.code ≡ false → says_flash e ≡ None
none-flash e h = rw (differs by_line e.code 173 h refl) refl

-- ## Heads given back

flash-is-a-trip : (s : State) → (view s).flashes ≡ is_some s.trip
unfolding view
flash-is-a-trip s = refl

pub heads-told-back : RunsTellTheHeads
heads-told-back form plan is ok few taken = record {
  green = λ p from within. by says_green p none-green ∙ lit.green p from within ∙ shows.greens p from within;
  yellow = λ p from within. by says_yellow p none-yellow ∙ lit.yellow p from within ∙ shows.yellows p from within;
  walk = λ p from within. by says_walk p none-walk ∙ lit.walk p from within ∙ shows.walks p from within;
  clearance = λ p from within. by says_clearance p none-clearance ∙ lit.clearance p from within ∙ shows.clearances p from within;
  overlap_green = λ o from within. by says_overlap_green o none-overlap-green ∙ lit.overlap_green o from within ∙ shows.overlap_greens o from within;
  overlap_yellow = λ o from within. by says_overlap_yellow o none-overlap-yellow ∙ lit.overlap_yellow o from within ∙ shows.overlap_yellows o from within;
  overlap_arrow = λ o from within. by says_overlap_arrow o none-overlap-arrow ∙ lit.overlap_arrow o from within ∙ shows.overlap_arrows o from within;
  flash = all says_flash none-flash ∙ lit.flash ∙ flash;
}
  where
    s : State
    s = replay plan is

    told : List Event
    told = events_of_lines (all_lines plan is)

    lit : IsLit (read_back told) (signals true s)
    lit = tell-the-heads (earlier plan is) (shown_in true s) (apart-more (earlier plan is) (shown_in true s) (earlier-apart plan is) (line-apart s))

    shows : Shows true (display s) (preempt_in_service s) (signals true s)
    shows = line-shows true s.now (display s) (preempt_in_service s) (local s) (preempt-known s (known-run plan is taken))

    all : (says : Event → Option Bool) → ((e : Event) → by_line e.code ≡ false → says e ≡ None) →
        lit_after says false (told_along form plan is) ≡ lit_after says false told
    all says none = sym (silent by_line says false (told_along form plan is) none) ∙ ap (lit_after says false) (sym (wide-whole (told_along form plan is)) ∙ lines-told form plan is ok few taken)

    by : (by_code : ℕ → Option Bool) (n : ℕ) → ((c : ℕ) → by_line c ≡ false → by_code c ≡ None) →
        lit_after (says_at by_code n) false (told_along form plan is) ≡ lit_after (says_at by_code n) false told
    by by_code n none = all (says_at by_code n) (at-head by_line by_code n none)

    flash : lines.is_in_flash (signals true s) ≡ is_some s.trip
    flash = (run-sees true plan is ok few taken).flash ∙ flash-is-a-trip s
