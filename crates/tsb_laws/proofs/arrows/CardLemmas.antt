-- Each channel that is lit has a phase in service that lights it, on the card too. Proves `cards_permit_what_is_lit`.
use Rattle.std.proofs.Common.{◌≡◌, ◌∙◌, ℕ, ◌≤◌, ◌==◌, nat_le, Bool, true, false, not, ◌&&◌, ◌||◌, if◌then◌else◌, is_some, refl, sym, ap, arith, inl, inr, ◌⊎◌}
use Rattle.std.specs.List.{list_any}
use Rattle.std.proofs.lemmas.Bool.{and_parts, eq-eqb, eqb-true, false≢true}
use Rattle.std.proofs.lemmas.Bool.Decides.{nat_tests}
use Rattle.tsb_step.specs.tsb_types.declared.interval.Interval.{Interval}
use Rattle.tsb_step.specs.tsb_types.declared.interval.Interval.TheVariants as intervals
use Rattle.tsb_step.specs.tsb_types.declared.lamp.Aspect.TheVariants.{Dark, Red, Yellow, Green}
use Rattle.tsb_step.specs.tsb_types.Intervals.{in_service}
use Rattle.tsb_step.specs.tsb_plan.Parts.{includes_none, is_arrow, is_included, is_minus_green_yellow, is_modifier, is_timed, trails}
use Rattle.tsb_step.specs.tsb_plan.Plan.{Plan, phases, is_concurrent, is_enabled}
use Rattle.tsb_step.specs.tsb_heads.Displays.{flashing, ordered}
use Rattle.tsb_step.specs.tsb_heads.Heads.{aspect_of, has_pedestrian_head, pedestrian_aspect_of, pedestrian_head, vehicle_head}
use Rattle.tsb_step.specs.tsb_heads.Monitoring.{gives_way, lets_walk}
use Rattle.tsb_step.specs.tsb_heads.Overlaps.{IsOverlap, is_kept_green, is_on_yellow, has_green_modifier, has_yellow_modifier, is_on_last_yellow, head_by_phases, overlap_head}
use Rattle.tsb_step.specs.tsb_overlap.declared.parts.OverlapInterval.{OverlapInterval}
use Rattle.tsb_step.specs.tsb_overlap.declared.parts.OverlapInterval.TheVariants as overlaps
use Rattle.tsb_step.specs.tsb_overlap.Overlap.{light}
use Rattle.tsb_step.specs.tsb_types.declared.lamp.PedestrianAspect.TheVariants as pedestrian_aspects
use Rattle.tsb_step.specs.tsb_types.declared.interval.PedestrianInterval.{PedestrianInterval}
use Rattle.tsb_step.specs.Backed.{AreBacked, TrailsBy}
use Rattle.tsb_step.specs.Good.{IsGood}
use Rattle.tsb_step.specs.Signs.{display, shown}
use Rattle.tsb_step.specs.State.{State, interval, pedestrian_part}
use Rattle.tsb_step.proofs.OverlapLemmas.{any_by, placed}
use Rattle.tsb_step.proofs.SafeLemmas.{served_together, walks_in_service}
use Rattle.tsb_step.proofs.TurnLemmas.{arrow_placed}
use Rattle.tsb_card.specs.declared.channels.Control.{Control}
use Rattle.tsb_card.specs.Pairs.{agree, channel, is_lit_beside, is_pair, lights, lights_overlap, meets}
use Rattle.tsb_laws.specs.Cards.{HasItsWalk, is_channel_lit}
use Rattle.tsb_laws.specs.LitHeads.{is_lit}
use Rattle.tsb_laws.specs.OverlapPhases.{GoesWithPhases}
use Rattle.tsb_laws.proofs.arrows.ArrowRunLemmas.{own_lit}
use Rattle.tsb_laws.proofs.heads.LitLemmas.{dark_by_lit, dark_by_pedestrian, dark_is_ordered, flashes_not_lit}
use Rattle.tsb_laws.proofs.heads.TimedLemmas.{Source, arrow_source}
use Rattle.tsb_laws.proofs.operation.overlap.OverlapPhaseLemmas.{goes_with_phases}

-- a phase in service that lights a channel
record Lights (s : State) (x : Control) : Type 0 where
  phase : ℕ
  lights : lights s.plan x phase ≡ true
  serves : in_service (interval s phase) ≡ true

-- ## Phases

vehicle_by : (on : Bool) (i : Interval) → is_lit (if on then aspect_of i else Dark) ≡ true → (on ≡ true) × (in_service i ≡ true)
vehicle_by false i h = absurd (false≢true h)
vehicle_by true intervals.Red h = absurd (false≢true h)
vehicle_by true intervals.Green h = (refl, refl)
vehicle_by true intervals.Yellow h = (refl, refl)
vehicle_by true intervals.RedClear h = absurd (false≢true h)

dark_by_phase : (s : State) (p : ℕ) → is_lit ((display s).vehicle p) ≡ true → is_some s.trip ≡ false
unfolding display
dark_by_phase s p h = go (is_some s.trip) h
  where
    go : (b : Bool) → is_lit ((if b then flashing (ordered s.plan (shown s)) else ordered s.plan (shown s)).vehicle p) ≡ true → b ≡ false
    go true k = absurd (flashes_not_lit (vehicle_head s.plan (shown s) p) k)
    go false k = refl

by_vehicle : (s : State) (x : Control) → (x.kind == 2) ≡ true → is_lit ((display s).vehicle x.source) ≡ true → Lights s x
by_vehicle s x kind lit =
    let here : is_lit (vehicle_head s.plan (shown s) x.source) ≡ true = rw (dark_is_ordered s (dark_by_phase s x.source lit)) at lit in
    let both = vehicle_by (is_enabled s.plan x.source) (interval s x.source) here in
    let same : (x.source == x.source) ≡ true = eq-eqb x.source x.source refl in
    record { phase = x.source; lights = rw (kind, same) both.0; serves = both.1 }

-- ## Crosswalks

has_head : (on : Bool) (i : PedestrianInterval) → lets_walk (if on then pedestrian_aspect_of i else pedestrian_aspects.Dark) ≡ true → on ≡ true
has_head false i h = absurd (false≢true h)
has_head true i h = refl

by_crosswalk : (s : State) → IsGood s → (x : Control) → HasItsWalk s.plan x → (x.kind == 2) ≡ false → (x.kind == 3) ≡ true →
    lets_walk ((display s).pedestrian x.source) ≡ true → Lights s x
by_crosswalk s good x walks other kind lit =
    let here : lets_walk (pedestrian_head s.plan (shown s) x.source) ≡ true = rw (dark_is_ordered s (dark_by_pedestrian s x.source lit)) at lit in
    let enabled = and_parts (is_enabled s.plan x.source) _ (has_head (has_pedestrian_head s.plan (shown s) x.source) (pedestrian_part s x.source) here) in
    let same : (x.source == x.source) ≡ true = eq-eqb x.source x.source refl in
    let some = walks (eqb-true x.kind 3 kind) in
    record { phase = x.source; lights = rw (other, kind, same, enabled.0, some) refl; serves = walks_in_service s good x.source here }

-- ## Overlaps

-- one that includes a phase is an overlap of the plan
by_overlap : (s : State) (x : Control) → (x.kind == 2) ≡ false → (x.kind == 3) ≡ false → (x.kind == 4) ≡ true → IsOverlap s.plan x.source → (p : ℕ) →
    lights_overlap s.plan x.source p ≡ true → in_service (interval s p) ≡ true → Lights s x
by_overlap s x two three four at p by serves =
    let from : 1 ≤ x.source = at.0 in
    let to : x.source ≤ s.plan.counts.overlaps = at.1 in
    let first : nat_le 1 x.source ≡ true = grind (arith, nat_tests) in
    let last : nat_le x.source s.plan.counts.overlaps ≡ true = grind (arith, nat_tests) in
    record { phase = p; lights = rw (two, three, four, first, last) by; serves = serves }

-- an arrow lights by what it includes or by its turn
lights_arrow : (plan : Plan) (o p : ℕ) → is_arrow plan o ≡ true → (is_included plan o p ≡ true) ⊎ (is_modifier plan o p ≡ true) → lights_overlap plan o p ≡ true
lights_arrow plan o p arrow (inl h) = rw h refl
lights_arrow plan o p arrow (inr h) = go (is_included plan o p)
  where
    go : (b : Bool) → (b || (is_arrow plan o && is_modifier plan o p)) ≡ true
    go true = refl
    go false = rw (arrow, h) refl

-- the head of an overlap that is no arrow gives right of way where it is lit
trail_way : (s : State) (o : ℕ) (i : OverlapInterval) → TrailsBy s o i → is_lit (light i) ≡ true → gives_way (light i) ≡ true
trail_way s o overlaps.Red by h = absurd (false≢true h)
trail_way s o overlaps.Green by h = refl
trail_way s o overlaps.TrailGreen by h = refl
trail_way s o overlaps.Flashing by h = absurd by
trail_way s o overlaps.Yellow by h = refl
trail_way s o overlaps.RedClear by h = absurd (false≢true h)

phases_way : (s : State) (o : ℕ) → is_lit (head_by_phases s.plan (shown s) o) ≡ true → gives_way (head_by_phases s.plan (shown s) o) ≡ true
phases_way s o h =
    go (includes_none s.plan o) (is_minus_green_yellow s.plan o)
    (is_kept_green s.plan (shown s) o && not (has_green_modifier s.plan (shown s) o))
    (is_on_last_yellow s.plan (shown s) o && not (has_yellow_modifier s.plan (shown s) o)) (is_kept_green s.plan (shown s) o) (is_on_yellow s.plan (shown s) o) h
  where
    go : (a b c d e f : Bool) →
        is_lit (if a then Dark else (if b then (if c then Green else (if d then Yellow else Red)) else (if e then Green else (if f then Yellow else Red)))) ≡ true →
        gives_way (if a then Dark else (if b then (if c then Green else (if d then Yellow else Red)) else (if e then Green else (if f then Yellow else Red)))) ≡ true
    go true b c d e f k = absurd (false≢true k)
    go false true true d e f k = refl
    go false true false true e f k = refl
    go false true false false e f k = absurd (false≢true k)
    go false false c d true f k = refl
    go false false c d false true k = refl
    go false false c d false false k = absurd (false≢true k)

way_of : (s : State) → AreBacked s → (o : ℕ) → is_arrow s.plan o ≡ false → is_lit (overlap_head s.plan (shown s) o) ≡ true →
    gives_way (overlap_head s.plan (shown s) o) ≡ true
way_of s backed o none h = go (is_timed s.plan o) refl h
  where
    go : (b : Bool) → is_timed s.plan o ≡ b → is_lit (if b then light (s.overlaps o).interval else head_by_phases s.plan (shown s) o) ≡ true →
        gives_way (if b then light (s.overlaps o).interval else head_by_phases s.plan (shown s) o) ≡ true
    go true timed k =
        let trail : trails s.plan o ≡ true = sym (ap (λ (a : Bool). a || trails s.plan o) none) ∙ timed in
        trail_way s o (s.overlaps o).interval ((backed o).trail none trail) k
    go false timed k = phases_way s o k

way : (s : State) → AreBacked s → (o : ℕ) → is_arrow s.plan o ≡ false → is_lit ((display s).overlap o) ≡ true → gives_way ((display s).overlap o) ≡ true
way s backed o none lit =
    let dark : is_some s.trip ≡ false = dark_by_lit s o lit in
    let here : is_lit (overlap_head s.plan (shown s) o) ≡ true = rw (dark_is_ordered s dark) at lit in
    rw (dark_is_ordered s dark) (way_of s backed o none here)

overlap_by : (s : State) → IsGood s → AreBacked s → (x : Control) → (x.kind == 2) ≡ false → (x.kind == 3) ≡ false → (x.kind == 4) ≡ true →
    is_lit ((display s).overlap x.source) ≡ true → Lights s x
overlap_by s good backed x two three four lit = go (is_arrow s.plan x.source) refl
  where
    go : (b : Bool) → is_arrow s.plan x.source ≡ b → Lights s x
    go true arrow =
        let by : Source s x.source = arrow_source s good backed x.source arrow (own_lit s x.source arrow lit) in
        by_overlap s x two three four (arrow_placed s.plan good.plan x.source arrow) by.phase (lights_arrow s.plan x.source by.phase arrow by.by) by.serves
    go false none =
        let by : GoesWithPhases s x.source = goes_with_phases s good backed x.source none (way s backed x.source none lit) in
        by_overlap s x two three four (placed s.plan good.plan x.source by.phase by.included) by.phase (rw by.included refl) by.serves

-- ## Channels

channel_by : (s : State) → IsGood s → AreBacked s → (x : Control) → HasItsWalk s.plan x → is_channel_lit s x ≡ true → Lights s x
channel_by s good backed x walks lit = go (x.kind == 2) (x.kind == 3) (x.kind == 4) refl refl refl lit
  where
    go : (a b c : Bool) → (x.kind == 2) ≡ a → (x.kind == 3) ≡ b → (x.kind == 4) ≡ c →
        (if a then is_lit ((display s).vehicle x.source) else
        (if b then lets_walk ((display s).pedestrian x.source) else (if c then is_lit ((display s).overlap x.source) else false))) ≡ true → Lights s x
    go true b c two three four k = by_vehicle s x two k
    go false true c two three four k = by_crosswalk s good x walks two three k
    go false false true two three four k = overlap_by s good backed x two three four k
    go false false false two three four k = absurd (false≢true k)

agrees : (plan : Plan) (p q : ℕ) → (p ≡ q) ⊎ (is_concurrent plan p q ≡ true) → agree plan p q ≡ true
agrees plan p q (inl same) = let e : (p == q) ≡ true = eq-eqb p q same in rw e refl
agrees plan p q (inr go) = or_with (p == q)
  where
    or_with : (b : Bool) → (b || is_concurrent plan p q) ≡ true
    or_with true = refl
    or_with false = go

pub permits_lit : (s : State) → IsGood s → AreBacked s → (a b : ℕ) → HasItsWalk s.plan (channel s.plan a) → HasItsWalk s.plan (channel s.plan b) →
    is_channel_lit s (channel s.plan a) ≡ true → is_channel_lit s (channel s.plan b) ≡ true → is_pair s.plan a b ≡ true
unfolding is_pair
permits_lit s good backed a b walks walks_too lit lit_too =
    any_by (meets s.plan (channel s.plan a) (channel s.plan b)) one.phase (phases s.plan) (good.rings.listed one.phase one.serves)
    (both (lights s.plan (channel s.plan a) one.phase) _ one.lights beside)
  where
    one : Lights s (channel s.plan a)
    one = channel_by s good backed (channel s.plan a) walks lit

    other : Lights s (channel s.plan b)
    other = channel_by s good backed (channel s.plan b) walks_too lit_too

    both : (x y : Bool) → x ≡ true → y ≡ true → (x && y) ≡ true
    both x y h k = rw (h, k) refl

    beside : list_any (is_lit_beside s.plan (channel s.plan b) one.phase) (phases s.plan) ≡ true
    beside =
        any_by (is_lit_beside s.plan (channel s.plan b) one.phase) other.phase (phases s.plan) (good.rings.listed other.phase other.serves)
        (both (lights s.plan (channel s.plan b) other.phase) (agree s.plan one.phase other.phase) other.lights
        (agrees s.plan one.phase other.phase (served_together s good one.phase other.phase one.serves other.serves)))
