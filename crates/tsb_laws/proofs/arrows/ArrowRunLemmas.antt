-- What arrows and overlaps that trail show, of what every run keeps of them. Proves the laws of src/arrows.rt.
use Rattle.std.proofs.Common.{◌≡◌, ◌≢◌, ◌∙◌, ℕ, ◌==◌, Bool, true, false, ◌||◌, List, ◌∷◌, Option, Some, None, is_some, refl, sym, ap, subst, inl, inr, ◌⊎◌}
use Rattle.std.proofs.lemmas.Bool.{and_parts, cases_Bool, eqb-true, or_cases, true≢false}
use Rattle.tsb_step.specs.tsb_types.declared.interval.Interval.{Interval}
use Rattle.tsb_step.specs.tsb_types.declared.interval.Interval.TheVariants as intervals
use Rattle.tsb_step.specs.tsb_types.declared.lamp.Aspect.{Aspect}
use Rattle.tsb_step.specs.tsb_types.declared.lamp.Aspect.TheVariants as aspects
use Rattle.tsb_step.specs.tsb_types.Intervals.{in_service, is_green}
use Rattle.tsb_step.specs.tsb_plan.declared.object.Object.TheVariants.{OverlapType}
use Rattle.tsb_step.specs.tsb_plan.Parts.{is_arrow, is_included, is_minus_green_yellow, is_timed, trails}
use Rattle.tsb_step.specs.tsb_plan.Plan.{Plan, phases}
use Rattle.tsb_step.specs.tsb_rules.Consistent.{IsArrowSound, IsPhase}
use Rattle.tsb_step.specs.tsb_heads.Displays.{ordered}
use Rattle.tsb_step.specs.tsb_heads.Monitoring.{has_right_of_way, has_green_arrow, has_way}
use Rattle.tsb_step.specs.tsb_heads.Overlaps.{overlap_head}
use Rattle.tsb_step.specs.tsb_overlap.declared.parts.OverlapInterval.{OverlapInterval}
use Rattle.tsb_step.specs.tsb_overlap.declared.parts.OverlapInterval.TheVariants as overlaps
use Rattle.tsb_step.specs.tsb_overlap.Overlap.{light, turn_of}
use Rattle.tsb_step.specs.tsb_ring.Rings.{Ring, Ring1, Ring2, in_ring, other}
use Rattle.tsb_step.specs.declared.inputs.Input.{Input}
use Rattle.tsb_step.specs.declared.inputs.Input.TheVariants as inputs
use Rattle.tsb_step.specs.declared.inputs.Input.TheVariants.{Tick}
use Rattle.tsb_step.specs.State.{State, interval}
use Rattle.tsb_step.specs.Signs.{commitment, display, shown}
use Rattle.tsb_step.specs.Step.{is_serving, step, verdict}
use Rattle.tsb_step.specs.Runs.{replay, AreTaken}
use Rattle.tsb_step.specs.Laws.{IsConsistent}
use Rattle.tsb_step.specs.Good.{IsGood}
use Rattle.tsb_step.specs.Backed.{AreBacked, IsOpposed, PointsBy}
use Rattle.tsb_step.proofs.BackedLemmas.{backed_run}
use Rattle.tsb_step.proofs.ClearLemmas.{plan_stays}
use Rattle.tsb_step.proofs.DisplayLemmas.{turns_have_way}
use Rattle.tsb_step.proofs.GivenLemmas.{listed_is_phase}
use Rattle.tsb_step.proofs.GoodLemmas.{good_run}
use Rattle.tsb_step.proofs.OverlapLemmas.{any_by}
use Rattle.tsb_step.proofs.OverlapRunLemmas.{overlaps_clear}
use Rattle.tsb_step.proofs.SafeLemmas.{served_together, way_in_service}
use Rattle.tsb_step.proofs.TurnLemmas.{arrow_turn, trail_is_sound}
use Rattle.tsb_laws.specs.Arrows.{ArrowGoesWithPhases, IsProtected, MayFlash}
use Rattle.tsb_laws.specs.CrossingGreens.{IsCalm}
use Rattle.tsb_laws.specs.LitHeads.{is_lit, KeepsLitHeads, StaysOrClears}
use Rattle.tsb_laws.proofs.heads.LitLemmas.{dark_by_lit, dark_is_ordered, keeps_lit_heads, overlap_serves}
use Rattle.tsb_laws.proofs.heads.TimedLemmas.{Source, arrow_source}

-- ## What the head of an arrow shows

-- the light of an arrow that is lit
module _ (s : State) (o : ℕ) (arrow : is_arrow s.plan o ≡ true) (lit : is_lit ((display s).overlap o) ≡ true) where
  dark : is_some s.trip ≡ false
  dark = dark_by_lit s o lit

  shows : (display s).overlap o ≡ light (s.overlaps o).interval
  shows = rw (dark_is_ordered s dark, arrow) refl

  pub own_lit : is_lit (light (s.overlaps o).interval) ≡ true
  own_lit = ap is_lit (sym shows) ∙ lit

red_of : (i : Interval) → in_service i ≡ false → i ≡ intervals.Red
red_of intervals.Red h = refl
red_of intervals.Green h = absurd (true≢false h)
red_of intervals.Yellow h = absurd (true≢false h)
red_of intervals.RedClear h = absurd (true≢false h)

-- what an arrow includes and its turn are not in service together
module _ (s : State) (good : IsGood s) (o : ℕ) (arrow : is_arrow s.plan o ≡ true) where
  sound : IsArrowSound s.plan o
  sound = arrow_turn s.plan good.plan o arrow

  is_served : (p : ℕ) → in_service (interval s p) ≡ true → IsPhase s.plan p
  is_served p serves = listed_is_phase s.plan p (good.rings.listed p serves)

  never_both : (p : ℕ) → is_included s.plan o p ≡ true → in_service (interval s p) ≡ true → in_service (interval s sound.turn) ≡ true → ⊥
  never_both p included serves turns = elim (served_together s good sound.turn p turns serves) [
    | inl same ↦ sound.apart p (is_served p serves) included (sym same)
    | inr go ↦ true≢false (sym go ∙ sound.opposed p (is_served p serves) included)
  ]

  -- there is one turn
  the_turn : (t : ℕ) → turn_of s.plan o ≡ Some t → t ≡ sound.turn
  the_turn t e = let same : Some t ≡ Some sound.turn = sym e ∙ sound.is_first in cc

-- ## When it flashes

flashing_is : (i : OverlapInterval) → light i ≡ aspects.FlashingYellow → i ≡ overlaps.Flashing
flashing_is overlaps.Flashing h = refl
flashing_is overlaps.Red h = cc
flashing_is overlaps.Green h = cc
flashing_is overlaps.TrailGreen h = cc
flashing_is overlaps.Yellow h = cc
flashing_is overlaps.RedClear h = cc

pub may_flash : (s : State) → IsGood s → AreBacked s → IsCalm s.plan (interval s) s.rings → (o : ℕ) → is_arrow s.plan o ≡ true → (display s).overlap o ≡ aspects.FlashingYellow → MayFlash s o
may_flash s good backed calm o arrow h = record {
  phase = by.phase;
  included = by.included;
  green = by.green;
  turn = λ t e. red_of (interval s t) (not_served t e);
  next = λ r t e c. not_next r (subst (λ (q : ℕ). s.rings.commitment r ≡ Some q) (the_turn s good o arrow t e) c);
}
  where
    flashes : (s.overlaps o).interval ≡ overlaps.Flashing
    flashes = flashing_is (s.overlaps o).interval (sym (shows s o arrow (ap is_lit h)) ∙ h)

    by : IsOpposed s o
    by = subst (λ (i : OverlapInterval). PointsBy s o i) flashes ((backed o).arrow arrow)

    serves : in_service (interval s by.phase) ≡ true
    serves = ap in_service by.green

    -- a ring that is committed has no green, nor does one in a crossing; and its commitment goes with what the other serves
    not_next : (r : Ring) → s.rings.commitment r ≡ Some (sound s good o arrow).turn → ⊥
    not_next r c = go s.rings.crossing refl
      where
        apart : s.rings.crossing ≡ None → in_ring s.plan (other r) by.phase ≡ true → ⊥
        apart out own =
            true≢false (sym (good.rings.outside out r (sound s good o arrow).turn by.phase c own serves)
            ∙ (sound s good o arrow).opposed by.phase (is_served s good o arrow by.phase serves) by.included)

        itself : in_ring s.plan r by.phase ≡ true → ⊥
        itself own = true≢false (sym (ap is_green by.green) ∙ calm.bound r (sound s good o arrow).turn by.phase c own)

        ring : (x : Ring) → in_ring s.plan x by.phase ≡ true → (in_ring s.plan r by.phase ≡ true) ⊎ (in_ring s.plan (other r) by.phase ≡ true)
        ring x own = pick r x own
          where
            pick : (a b : Ring) → in_ring s.plan b by.phase ≡ true → (in_ring s.plan a by.phase ≡ true) ⊎ (in_ring s.plan (other a) by.phase ≡ true)
            pick Ring1 Ring1 k = inl k
            pick Ring1 Ring2 k = inr k
            pick Ring2 Ring1 k = inr k
            pick Ring2 Ring2 k = inl k

        go : (d : Option ℕ) → s.rings.crossing ≡ d → ⊥
        go (Some d) way = true≢false (sym (ap is_green by.green) ∙ calm.crosses d way by.phase)
        go None out =
            let of = good.rings.ringed by.phase serves in
            elim (ring of.0 of.1) [ inl own ↦ itself own | inr own ↦ apart out own ]

    not_served : (t : ℕ) → turn_of s.plan o ≡ Some t → in_service (interval s t) ≡ false
    not_served t e = elim (cases_Bool (in_service (interval s t))) [
      | inr none ↦ none
      | inl turns ↦ absurd (never_both s good o arrow by.phase by.included (ap in_service by.green)
          (subst (λ (q : ℕ). in_service (interval s q) ≡ true) (the_turn s good o arrow t e) turns))
    ]

-- ## When it is green

green_is : (s : State) (o : ℕ) (i : OverlapInterval) → PointsBy s o i → light i ≡ aspects.Green → PointsBy s o overlaps.Green
green_is s o overlaps.Green by h = by
green_is s o overlaps.TrailGreen by h = absurd by
green_is s o overlaps.Red by h = cc
green_is s o overlaps.Flashing by h = cc
green_is s o overlaps.Yellow by h = cc
green_is s o overlaps.RedClear by h = cc

pub protected : (s : State) → IsGood s → AreBacked s → (o : ℕ) → is_arrow s.plan o ≡ true → (display s).overlap o ≡ aspects.Green → IsProtected s o
protected s good backed o arrow h = record { turn = points; opposed = opposed }
  where
    points : PointsBy s o overlaps.Green
    points = green_is s o (s.overlaps o).interval ((backed o).arrow arrow) (sym (shows s o arrow (ap is_lit h)) ∙ h)

    turns : in_service (interval s (sound s good o arrow).turn) ≡ true
    turns = ap in_service (points (sound s good o arrow).turn (sound s good o arrow).is_first)

    opposed : (p : ℕ) → is_included s.plan o p ≡ true → in_service (interval s p) ≡ false
    opposed p included = elim (cases_Bool (in_service (interval s p))) [
      | inr none ↦ none
      | inl serves ↦ absurd (never_both s good o arrow p included serves turns)
    ]

-- ## It goes with its phases

pub arrow_goes : (s : State) → IsGood s → AreBacked s → (o : ℕ) → is_arrow s.plan o ≡ true → is_lit ((display s).overlap o) ≡ true → ArrowGoesWithPhases s o
arrow_goes s good backed o arrow lit = record {
  phase = x.phase;
  by = x.by;
  serves = x.serves;
  together = λ q serves. served_together s good x.phase q x.serves serves;
  ways = λ q way. served_together s good x.phase q x.serves (way_in_service s good q (right q (rw (dark_is_ordered s (dark s o arrow lit)) at way)));
}
  where
    x : Source s o
    x = arrow_source s good backed o arrow (own_lit s o arrow lit)

    right : (q : ℕ) → has_way s.plan (ordered s.plan (shown s)) q ≡ true → has_right_of_way (ordered s.plan (shown s)) q ≡ true
    right q way = elim (or_cases (has_right_of_way (ordered s.plan (shown s)) q) (has_green_arrow s.plan (ordered s.plan (shown s)) q) way) [
      | inl own ↦ own
      | inr by ↦ turns_have_way s good backed q by
    ]

-- ## It clears in yellow

lit_or_red : (i : OverlapInterval) → (is_lit (light i) ≡ true) ⊎ (light i ≡ aspects.Red)
lit_or_red overlaps.Red = inr refl
lit_or_red overlaps.Green = inl refl
lit_or_red overlaps.TrailGreen = inl refl
lit_or_red overlaps.Flashing = inl refl
lit_or_red overlaps.Yellow = inl refl
lit_or_red overlaps.RedClear = inr refl

not_red : (a : Aspect) → is_lit a ≡ true → a ≢ aspects.Red
not_red a lit red = true≢false (sym lit ∙ ap is_lit red)

-- neither is of type 1
not_minus : (plan : Plan) → IsConsistent plan → (o : ℕ) → is_timed plan o ≡ true → is_minus_green_yellow plan o ≡ false
not_minus plan ok o timed = go (is_arrow plan o) refl
  where
    go : (b : Bool) → is_arrow plan o ≡ b → is_minus_green_yellow plan o ≡ false
    go true arrow = let two : plan.value OverlapType o ≡ 2 = eqb-true (plan.value OverlapType o) 2 (and_parts (plan.value OverlapType o == 2) _ arrow).0 in rw two refl
    go false none =
        let trail : trails plan o ≡ true = sym (ap (λ (a : Bool). a || trails plan o) none) ∙ timed in
        let zero_is : plan.value OverlapType o ≡ 0 = (trail_is_sound plan ok o trail).normal in rw zero_is refl

pub timed_clears : (plan : Plan) (is : List Input) → IsConsistent plan → AreTaken plan is → (replay plan is).trip ≡ None →
    (i : Input) (o : ℕ) → verdict (replay plan is) i ≡ None → (replay plan (i ∷ is)).trip ≡ None → is_timed (replay plan is).plan o ≡ true →
    is_lit ((display (replay plan is)).overlap o) ≡ true →
    (is_lit ((display (replay plan (i ∷ is))).overlap o) ≡ true) ⊎ StaysOrClears (λ s. (display s).overlap o) plan is i
timed_clears plan is ok taken dark_now (inputs.Tick row) o allowed after timed lit =
    elim seen [
      | inl h ↦ inl h
      | inr h ↦ inr (inr (
        refl,
        h,
        overlaps_clear plan is ok taken dark_now row o (not_minus (replay plan is).plan (good_run plan is ok taken).plan o timed)
            (not_red ((display (replay plan is)).overlap o) lit) h,
      ))
    ]
  where
    timed_then : is_timed (step (replay plan is) (Tick row)).plan o ≡ true
    timed_then = ap (λ (x : Plan). is_timed x o) (plan_stays (replay plan is) row) ∙ timed

    seen : (is_lit ((display (step (replay plan is) (Tick row))).overlap o) ≡ true) ⊎ ((display (step (replay plan is) (Tick row))).overlap o ≡ aspects.Red)
    seen = rw (dark_is_ordered (step (replay plan is) (Tick row)) (ap is_some after), timed_then) (lit_or_red ((step (replay plan is) (Tick row)).overlaps o).interval)
timed_clears plan is ok taken dark_now i o allowed after timed lit =
    let keeps : KeepsLitHeads (display (replay plan is)) (display (step (replay plan is) i)) =
    keeps_lit_heads (replay plan is) i (good_run plan is ok taken) (backed_run plan is ok taken) refl allowed (after ∙ sym dark_now) in
    inl (ap is_lit (keeps.overlap o lit) ∙ lit)

-- ## Where nothing serves

pub idle_unlit : (s : State) → IsGood s → AreBacked s → (o : ℕ) → s.trip ≡ None → is_serving s ≡ false → is_lit ((display s).overlap o) ≡ false
idle_unlit s good backed o untripped idle = elim (cases_Bool (is_lit ((display s).overlap o))) [
  | inr none ↦ none
  | inl lit ↦
      let here : is_lit (overlap_head s.plan (shown s) o) ≡ true = rw (dark_is_ordered s (ap is_some untripped)) at lit in
      let x = overlap_serves s good backed o here in
      absurd (true≢false (sym (serving x.phase x.serves) ∙ idle))
]
  where
    serving : (p : ℕ) → in_service (interval s p) ≡ true → is_serving s ≡ true
    serving p h =
        let some = any_by (λ q. in_service (interval s q)) p (phases s.plan) (good.rings.listed p h) h in
        ap (λ (b : Bool). (b || (is_some (commitment s 1) || is_some (commitment s 2))) || is_some s.rings.crossing) some
