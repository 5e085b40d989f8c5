-- Displays and fields look at phases 1 to 16, overlaps and commitments alone, the monitor at the vehicle and pedestrian
-- heads of phases 1 to 16; and heads that stay are let pass again.
use Rattle.std.proofs.Common.{◌≡◌, ℕ, ◌+◌, ◌<◌, ◌≤◌, nat_lt, Bool, true, false, not, ◌&&◌, ◌||◌, if◌then◌else◌, Option, Some, None, is_some, refl, ap, ap₂, ◌∙◌, arith}
use Rattle.std.specs.List.{list_any}
use Rattle.std.specs.Option.{option_map, option_or}
use Rattle.std.proofs.Math.Path.{fun_ext}
use Rattle.std.proofs.lemmas.Bool.{both_ways}
use Rattle.tsb_objects.specs.tsb_types.declared.interval.Interval.{Interval}
use Rattle.tsb_objects.specs.tsb_types.declared.lamp.Lamp.TheVariants as lamps
use Rattle.tsb_objects.specs.tsb_types.declared.lamp.Aspect.{Aspect}
use Rattle.tsb_objects.specs.tsb_types.declared.lamp.Aspect.TheVariants.{Dark, Red, Yellow, Green, FlashingRed, FlashingYellow}
use Rattle.tsb_objects.specs.tsb_types.Intervals.{is_green, is_yellow, is_red_clear}
use Rattle.tsb_objects.specs.tsb_types.Lists.{first, run_from}
use Rattle.tsb_objects.specs.tsb_plan.Plan.{Plan, phases, ring_of, is_concurrent}
use Rattle.tsb_objects.specs.tsb_plan.Parts.{is_included, is_modifier, is_arrow, is_timed, overlaps_across_rings}
use Rattle.tsb_objects.specs.tsb_rules.PatternRules.{some_and}
use Rattle.tsb_heads.specs.declared.monitor.Trip.{Trip}
use Rattle.tsb_heads.specs.declared.monitor.Trip.TheVariants.{Conflict, GreenToRed}
use Rattle.tsb_heads.specs.Heads.{Shown, Heads}
use Rattle.tsb_heads.specs.Overlaps.{some_of, other_ring, comes_across, is_followed, keeps_green, is_kept_green, is_on_yellow, has_green_modifier, has_yellow_modifier, is_on_last_yellow, is_lasted_through, lasts, some_lasts, head_by_phases}
use Rattle.tsb_heads.specs.Displays.{ordered, flashing, flashed, field, laid_over}
use Rattle.tsb_heads.specs.Monitoring as monitor
use Rattle.tsb_heads.specs.Monitoring.{is_red, has_green_arrow, has_way, are_in_conflict, conflict_of, conflict_by, conflict, goes_red, green_to_red}
use Rattle.tsb_heads.specs.Reading.{shown_by, heads_of, heads_of_field}
use Rattle.tsb_heads.specs.Promises.{IsSame}
use Rattle.tsb_heads.specs.Laws.{AreAlike, ServeAlike, ShowAlike, AreGreenAlike, DisplaysLookOnlyAtTheirOwn, LastingLooksOnlyAtItsOwn, LampsLookOnlyAtTheirOwn, FieldsAreTold, MonitorsLookOnlyAtTheirOwn, MonitorsLookAtArrowsAlone, StayingHeadsPass, PassedHeadsPassAgain}
use Rattle.tsb_objects.proofs.tsb_types.FirstLemmas.{first-none}
use Rattle.tsb_objects.proofs.tsb_types.FirstLemmas.{first-within}
use Rattle.tsb_objects.proofs.tsb_types.ClipLemmas.{any-agree, first-agree}
use Rattle.tsb_heads.proofs.ArrowLemmas.{arrow-same}

-- ## Displays

module _ (plan : Plan) (s t : Shown) (count : plan.phase_count ≤ 16) (alike : ServeAlike s t) where
  some-same : (list f g : ℕ → Bool) → ((p : ℕ) → 1 ≤ p → p ≤ 16 → f p ≡ g p) → some_of plan list f ≡ some_of plan list g
  some-same list f g same = any-agree plan.phase_count (λ p. list p && f p) (λ p. list p && g p) count (λ p from to. ap (λ (b : Bool). list p && b) (same p from to))

  followed-same : (o p : ℕ) → is_followed plan s o p ≡ is_followed plan t o p
  followed-same o p =
      ap₂ (λ (own other : Option ℕ). some_and (is_included plan o) own || (overlaps_across_rings plan o && (is_some own && some_and (comes_across plan o p) other)))
      (alike.commitment (ring_of plan p)) (alike.commitment (other_ring (ring_of plan p)))

  keeps-same : (o p : ℕ) → 1 ≤ p → p ≤ 16 → keeps_green plan s o p ≡ keeps_green plan t o p
  keeps-same o p from to = ap₂ (λ (i : Interval) (b : Bool). is_green i || ((is_yellow i || is_red_clear i) && b)) (alike.interval p from to) (followed-same o p)

  pub kept-same : (o : ℕ) → is_kept_green plan s o ≡ is_kept_green plan t o
  unfolding is_kept_green
  kept-same o = some-same (is_included plan o) (keeps_green plan s o) (keeps_green plan t o) (λ p from to. keeps-same o p from to)

  yellow-same : (o : ℕ) → is_on_yellow plan s o ≡ is_on_yellow plan t o
  unfolding is_on_yellow
  yellow-same o = some-same (is_included plan o) (λ p. is_yellow (s.interval p)) (λ p. is_yellow (t.interval p)) (λ p from to. ap is_yellow (alike.interval p from to))

  green_modifier-same : (o : ℕ) → has_green_modifier plan s o ≡ has_green_modifier plan t o
  unfolding has_green_modifier
  green_modifier-same o = some-same (is_modifier plan o) (λ p. is_green (s.interval p)) (λ p. is_green (t.interval p)) (λ p from to. ap is_green (alike.interval p from to))

  yellow_modifier-same : (o : ℕ) → has_yellow_modifier plan s o ≡ has_yellow_modifier plan t o
  unfolding has_yellow_modifier
  yellow_modifier-same o = some-same (is_modifier plan o) (λ p. is_yellow (s.interval p)) (λ p. is_yellow (t.interval p)) (λ p from to. ap is_yellow (alike.interval p from to))

  last-same : (o : ℕ) → is_on_last_yellow plan s o ≡ is_on_last_yellow plan t o
  unfolding is_on_last_yellow
  last-same o =
      some-same (is_included plan o) (λ p. is_yellow (s.interval p) && not (is_followed plan s o p)) (λ p. is_yellow (t.interval p) && not (is_followed plan t o p))
      (λ p from to. ap₂ (λ (i : Interval) (b : Bool). is_yellow i && not b) (alike.interval p from to) (followed-same o p))

  lasted-same : (o p : ℕ) → 1 ≤ p → p ≤ 16 → is_lasted_through plan s o p ≡ is_lasted_through plan t o p
  lasted-same o p from to = ap₂ (λ (i : Interval) (b : Bool). (is_yellow i || is_red_clear i) && b) (alike.interval p from to) (followed-same o p)

  lasts-same : (o : ℕ) → lasts plan s o ≡ lasts plan t o
  unfolding lasts
  lasts-same o = some-same (is_included plan o) (is_lasted_through plan s o) (is_lasted_through plan t o) (λ p from to. lasted-same o p from to)

  -- so whether some overlap lasts through a clearance is seen of them alone
  pub some_lasts-same : some_lasts plan s ≡ some_lasts plan t
  unfolding some_lasts
  some_lasts-same = ap (λ (test : ℕ → Bool). list_any test (run_from 1 plan.counts.overlaps)) (fun_ext lasts-same)

  by_phases-same : (o : ℕ) → head_by_phases plan s o ≡ head_by_phases plan t o
  by_phases-same o = rw (kept-same o, yellow-same o, green_modifier-same o, yellow_modifier-same o, last-same o) refl

pub lasting-own : LastingLooksOnlyAtItsOwn
lasting-own plan s t count alike = (some_lasts-same plan s t count alike, kept-same plan s t count alike)

serve-alike : (s t : Shown) → AreAlike s t → ServeAlike s t
serve-alike s t alike = record { interval = alike.interval; commitment = alike.commitment }

ordered-same : (plan : Plan) (s t : Shown) → plan.phase_count ≤ 16 → AreAlike s t → IsSame (ordered plan s) (ordered plan t)
ordered-same plan s t count alike = record {
  vehicle = λ p from to. (let here : s.interval p ≡ t.interval p = alike.interval p from to in rw here refl);
  pedestrian = λ p from to. (let here : s.pedestrian p ≡ t.pedestrian p = alike.pedestrian p from to in rw here refl);
  overlap = λ o from to. ap₂ (λ (light head : Aspect). if is_timed plan o then light else head) (alike.light o from to)
      (by_phases-same plan s t count (serve-alike s t alike) o);
}

flashing-same : (one other : Heads) → IsSame one other → IsSame (flashing one) (flashing other)
flashing-same one other same = record {
  vehicle = λ p from to. ap flashed (same.vehicle p from to);
  pedestrian = λ p from to. refl;
  overlap = λ o from to. ap flashed (same.overlap o from to);
}

pub displays-own : DisplaysLookOnlyAtTheirOwn
displays-own plan s t count alike = go s.tripped t.tripped alike.tripped
  where
    go : (b c : Bool) → b ≡ c → IsSame (if b then flashing (ordered plan s) else ordered plan s) (if c then flashing (ordered plan t) else ordered plan t)
    go true true e = flashing-same (ordered plan s) (ordered plan t) (ordered-same plan s t count alike)
    go false false e = ordered-same plan s t count alike
    go true false e = absurd (cc)
    go false true e = absurd (cc)

-- ## Fields

pub lamps-own : LampsLookOnlyAtTheirOwn
lamps-own None h g same = same
lamps-own (Some (lamps.Phase n color)) h g same = record {
  vehicle = λ p from to. (let here : h.vehicle p ≡ g.vehicle p = same.vehicle p from to in rw here refl);
  pedestrian = same.pedestrian;
  overlap = same.overlap;
}
lamps-own (Some (lamps.Pedestrian n color)) h g same = record {
  vehicle = same.vehicle;
  pedestrian = λ p from to. (let here : h.pedestrian p ≡ g.pedestrian p = same.pedestrian p from to in rw here refl);
  overlap = same.overlap;
}
lamps-own (Some (lamps.Overlap n color)) h g same = record {
  vehicle = same.vehicle;
  pedestrian = same.pedestrian;
  overlap = λ o from to. (let here : h.overlap o ≡ g.overlap o = same.overlap o from to in rw here refl);
}
lamps-own (Some (lamps.Arrow n)) h g same = record {
  vehicle = same.vehicle;
  pedestrian = same.pedestrian;
  overlap = λ o from to. (let here : h.overlap o ≡ g.overlap o = same.overlap o from to in rw here refl);
}

pub same-both : (f g h : Heads) → IsSame f g → IsSame g h → IsSame f h
same-both f g h one two = record {
  vehicle = λ p from to. one.vehicle p from to ∙ two.vehicle p from to;
  pedestrian = λ p from to. one.pedestrian p from to ∙ two.pedestrian p from to;
  overlap = λ o from to. one.overlap o from to ∙ two.overlap o from to;
}

pub fields-told : FieldsAreTold
fields-told plan intervals pedestrians ring_1 ring_2 lights lamp d f s count alike displayed laid =
    same-both (heads_of_field f) (laid_over lamp (heads_of d)) (field plan s lamp) laid
    (lamps-own lamp (heads_of d) (ordered plan s)
    (same-both (heads_of d) (ordered plan (shown_by intervals pedestrians ring_1 ring_2 lights false)) (ordered plan s) displayed
    (ordered-same plan (shown_by intervals pedestrians ring_1 ring_2 lights false) s count alike)))

-- ## The monitor

way-same : (plan : Plan) (h g : Heads) → ShowAlike h g → AreGreenAlike plan h g → (p : ℕ) → 1 ≤ p → p ≤ 16 → has_way plan h p ≡ has_way plan g p
way-same plan h g same arrows p from to =
    (let a : h.vehicle p ≡ g.vehicle p = same.vehicle p from to in
    let b : h.pedestrian p ≡ g.pedestrian p = same.pedestrian p from to in
    let c : has_green_arrow plan h p ≡ has_green_arrow plan g p = arrow-same plan h g p arrows in
    rw (a, b, c) refl)

conflict_of-same : (plan : Plan) (h g : Heads) (p : ℕ) → plan.phase_count ≤ 16 → 1 ≤ p → p ≤ 16 → ShowAlike h g → AreGreenAlike plan h g →
    conflict_of plan h p ≡ conflict_of plan g p
unfolding conflict_of
conflict_of-same plan h g p count from to same arrows =
    first-agree plan.phase_count (are_in_conflict plan h p) (are_in_conflict plan g p) count (λ q low high.
    ap₂ (λ (one other : Bool). nat_lt p q && (one && (other && not (is_concurrent plan p q))))
    (way-same plan h g same arrows p from to) (way-same plan h g same arrows q low high))

conflict-same : (plan : Plan) (h g : Heads) → plan.phase_count ≤ 16 → ShowAlike h g → AreGreenAlike plan h g → conflict plan h ≡ conflict plan g
unfolding conflict
conflict-same plan h g count same arrows =
    by-same (first (λ p. is_some (conflict_of plan h p)) (phases plan)) refl
    ∙ ap (conflict_by plan g) (first-agree plan.phase_count (λ p. is_some (conflict_of plan h p)) (λ p. is_some (conflict_of plan g p)) count
    (λ p from to. ap (λ (o : Option ℕ). is_some o) (conflict_of-same plan h g p count from to same arrows)))
  where
    by-same : (o : Option ℕ) → first (λ p. is_some (conflict_of plan h p)) (phases plan) ≡ o → conflict_by plan h o ≡ conflict_by plan g o
    by-same None e = refl
    by-same (Some p) e =
        let there : (1 ≤ p) × (p < 1 + plan.phase_count) = first-within (λ q. is_some (conflict_of plan h q)) 1 plan.phase_count p e in
        ap (λ (o : Option ℕ). option_map (λ (q : ℕ). Conflict p q) o) (conflict_of-same plan h g p count there.0 (omega (arith, there.1, count)) same arrows)

red-same : (plan : Plan) (h g i j : Heads) → plan.phase_count ≤ 16 → ShowAlike h g → ShowAlike i j → green_to_red plan h i ≡ green_to_red plan g j
unfolding green_to_red
red-same plan h g i j count before after =
    ap (λ (o : Option ℕ). option_map (λ (p : ℕ). GreenToRed p) o)
    (first-agree plan.phase_count (goes_red h i) (goes_red g j) count (λ p from to.
    (let a : h.vehicle p ≡ g.vehicle p = before.vehicle p from to in
    let b : i.vehicle p ≡ j.vehicle p = after.vehicle p from to in
    rw (a, b) refl)))

pub judge-same : MonitorsLookOnlyAtTheirOwn
judge-same plan h g i j count before after arrows =
    ap₂ (λ (a b : Option Trip). option_or a b) (conflict-same plan i j count after arrows) (red-same plan h g i j count before after)

pub judge-alone : MonitorsLookAtArrowsAlone
judge-alone plan h g i j none count before after =
    judge-same plan h g i j count before after (λ o from to arrow. absurd (both_ways (is_arrow plan o) (none o from to) arrow))

-- ## Quiet ticks

none-first : (a b : Option Trip) → option_or a b ≡ None → a ≡ None
none-first None b h = refl
none-first (Some x) b h = absurd (cc)

stays-red : (x : Aspect) → (monitor.is_green x && is_red x) ≡ false
stays-red Dark = refl
stays-red Red = refl
stays-red Yellow = refl
stays-red Green = refl
stays-red FlashingRed = refl
stays-red FlashingYellow = refl

none-goes : (plan : Plan) (heads : Heads) → green_to_red plan heads heads ≡ None
unfolding green_to_red
none-goes plan heads =
    ap (λ (o : Option ℕ). option_map (λ (p : ℕ). GreenToRed p) o) (first-none (goes_red heads heads) (run_from 1 plan.phase_count) (λ p. stays-red (heads.vehicle p)))

pub staying-pass : StayingHeadsPass
staying-pass plan heads none = ap₂ (λ (a b : Option Trip). option_or a b) none (none-goes plan heads)

pub passed-again : PassedHeadsPassAgain
passed-again plan before heads passed = staying-pass plan heads (none-first (conflict plan heads) (green_to_red plan before heads) passed)
