-- Heads show the same on the wide plan, and the monitor judges the same.
use Rattle.std.proofs.Common.{◌≡◌, ℕ, ◌≤◌, ◌==◌, nat_lt, Bool, true, false, not, ◌&&◌, ◌||◌, if◌then◌else◌, Option, Some, None, is_some, refl, arith, sym, ◌∙◌, ap, ap₂}
use Rattle.std.specs.Option.{option_map}
use Rattle.std.proofs.Math.Path.{fun_ext}
use Rattle.std.proofs.lemmas.Bool.Decides.{nat_tests}
use Rattle.tsb_step.specs.tsb_types.declared.lamp.Aspect.TheVariants.{Dark}
use Rattle.tsb_step.specs.tsb_types.declared.lamp.PedestrianAspect.TheVariants as pedestrian_aspects
use Rattle.tsb_step.specs.tsb_types.declared.lamp.Lamp.{Lamp}
use Rattle.tsb_step.specs.tsb_types.declared.lamp.Lamp.TheVariants as lamps
use Rattle.tsb_step.specs.tsb_types.Intervals.{is_green, is_yellow, is_red_clear}
use Rattle.tsb_step.specs.tsb_types.Lists.{among, first, run_from}
use Rattle.tsb_step.specs.tsb_plan.declared.object.Object.TheVariants.{OverlapIncludedPhases, OverlapModifierPhases, OverlapAcrossRings, OverlapTrailGreen, OverlapType}
use Rattle.tsb_step.specs.tsb_plan.Plan.{Plan, phases, ring_of, is_concurrent}
use Rattle.tsb_step.specs.tsb_plan.Parts.{is_included, is_modifier, overlaps_across_rings, includes_none, is_timed}
use Rattle.tsb_step.specs.tsb_rules.PatternRules.{some_and}
use Rattle.tsb_step.specs.tsb_heads.declared.monitor.Trip.TheVariants.{GreenToRed}
use Rattle.tsb_step.specs.tsb_heads.Heads.{Shown, Heads}
use Rattle.tsb_step.specs.tsb_heads.Overlaps.{some_of, is_followed_in_ring, is_followed_across, is_followed, keeps_green, is_kept_green, is_on_yellow, has_green_modifier, has_yellow_modifier, is_on_last_yellow, overlap_head}
use Rattle.tsb_step.specs.tsb_heads.Displays.{ordered, flashing, display, laid_over, field}
use Rattle.tsb_step.specs.tsb_heads.Monitoring.{has_right_of_way, is_green_arrow_of, has_green_arrow, has_way, are_in_conflict, conflict_of, conflict_by, conflict, goes_red, green_to_red, judge}
use Rattle.tsb_step.specs.tsb_heads.Monitoring as monitor
use Rattle.tsb_review.proofs.LoopLemmas.{any-none}
use Rattle.tsb_laws.specs.Widened.{IsNarrow, widened, IsLampWithin}
use Rattle.tsb_laws.proofs.versions.ListLemmas.{is_beyond, IsBeyondNarrow}
use Rattle.tsb_laws.proofs.versions.PlanLemmas.{first-same, any-same, beyond-bound, beyond-narrow, not-enabled, names-none}
use Rattle.tsb_step.proofs.tsb_types.FirstLemmas.{first-none}
use Rattle.tsb_laws.proofs.versions.CrossingLemmas.{and-false}

-- ## Overlaps

some_of-same : (plan : Plan) (list test : ℕ → Bool) → IsNarrow plan → IsBeyondNarrow list false →
    some_of (widened plan) list test ≡ some_of plan list test
some_of-same plan list test narrow none =
    any-same plan (λ p. list p && test p) (λ p. list p && test p) narrow (λ p in_it. refl) (λ p out. rw (none p out) refl)

not-included : (plan : Plan) (o : ℕ) → IsNarrow plan → IsBeyondNarrow (is_included plan o) false
not-included plan o narrow p out = names-none (plan.value OverlapIncludedPhases o) p (narrow.bounded OverlapIncludedPhases o) out

-- version 1 has no modifier phases
not-modifier : (plan : Plan) (o : ℕ) → IsNarrow plan → IsBeyondNarrow (is_modifier plan o) false
not-modifier plan o narrow p out =
    let none : plan.value OverlapModifierPhases o ≡ 0 = narrow.placed OverlapModifierPhases o refl in
    names-none (plan.value OverlapModifierPhases o) p (rw none (omega arith)) out

in_ring-same : (plan : Plan) (o : ℕ) (c : Option ℕ) → some_and (is_included (widened plan) o) c ≡ some_and (is_included plan o) c
in_ring-same plan o None = refl
in_ring-same plan o (Some p) = refl

option-off : (option own too other too_other : Bool) → option ≡ false → own ≡ too → (own || (option && other)) ≡ (too || (option && too_other))
option-off option own too other too_other off e = rw (off, e) refl

-- version 1 has no overlaps across rings
followed-same : (plan : Plan) (s : Shown) (o p : ℕ) → IsNarrow plan → is_followed (widened plan) s o p ≡ is_followed plan s o p
followed-same plan s o p narrow =
    option-off (overlaps_across_rings plan o) (is_followed_in_ring (widened plan) s o p) (is_followed_in_ring plan s o p)
    (is_followed_across (widened plan) s o p) (is_followed_across plan s o p)
    (ap (λ (n : ℕ). n == 1) (narrow.placed OverlapAcrossRings o refl)) (in_ring-same plan o (s.commitment (ring_of plan p)))

kept_green-same : (plan : Plan) (s : Shown) (o : ℕ) → IsNarrow plan → is_kept_green (widened plan) s o ≡ is_kept_green plan s o
unfolding is_kept_green
kept_green-same plan s o narrow =
    ap (some_of (widened plan) (is_included plan o))
    (fun_ext (λ p. ap (λ (b : Bool). is_green (s.interval p) || ((is_yellow (s.interval p) || is_red_clear (s.interval p)) && b)) (followed-same plan s o p narrow)))
    ∙ some_of-same plan (is_included plan o) (keeps_green plan s o) narrow (not-included plan o narrow)

on_yellow-same : (plan : Plan) (s : Shown) (o : ℕ) → IsNarrow plan → is_on_yellow (widened plan) s o ≡ is_on_yellow plan s o
unfolding is_on_yellow
on_yellow-same plan s o narrow = some_of-same plan (is_included plan o) (λ p. is_yellow (s.interval p)) narrow (not-included plan o narrow)

green_modifier-same : (plan : Plan) (s : Shown) (o : ℕ) → IsNarrow plan → has_green_modifier (widened plan) s o ≡ has_green_modifier plan s o
unfolding has_green_modifier
green_modifier-same plan s o narrow = some_of-same plan (is_modifier plan o) (λ p. is_green (s.interval p)) narrow (not-modifier plan o narrow)

yellow_modifier-same : (plan : Plan) (s : Shown) (o : ℕ) → IsNarrow plan → has_yellow_modifier (widened plan) s o ≡ has_yellow_modifier plan s o
unfolding has_yellow_modifier
yellow_modifier-same plan s o narrow = some_of-same plan (is_modifier plan o) (λ p. is_yellow (s.interval p)) narrow (not-modifier plan o narrow)

last_yellow-same : (plan : Plan) (s : Shown) (o : ℕ) → IsNarrow plan → is_on_last_yellow (widened plan) s o ≡ is_on_last_yellow plan s o
unfolding is_on_last_yellow
last_yellow-same plan s o narrow =
    ap (some_of (widened plan) (is_included plan o)) (fun_ext (λ p. ap (λ (b : Bool). is_yellow (s.interval p) && not b) (followed-same plan s o p narrow)))
    ∙ some_of-same plan (is_included plan o) (λ p. is_yellow (s.interval p) && not (is_followed plan s o p)) narrow (not-included plan o narrow)

overlap_head-same : (plan : Plan) (s : Shown) → IsNarrow plan → overlap_head (widened plan) s ≡ overlap_head plan s
overlap_head-same plan s narrow =
    fun_ext (λ o. rw (
      kept_green-same plan s o narrow,
      on_yellow-same plan s o narrow,
      green_modifier-same plan s o narrow,
      yellow_modifier-same plan s o narrow,
      last_yellow-same plan s o narrow,
    ) refl)

-- ## Overlaps with intervals of their own

-- version 1 has no arrows, and no overlaps that trail
pub untimed : (plan : Plan) → IsNarrow plan → (o : ℕ) → is_timed plan o ≡ false
untimed plan narrow o =
    ap₂ (λ (t g : ℕ). (t == 2 && not (includes_none plan o)) || (not (g == 0) && not (includes_none plan o)))
    (narrow.placed OverlapType o refl) (narrow.placed OverlapTrailGreen o refl)

-- ## Displays

pub ordered-same : (plan : Plan) (s : Shown) → IsNarrow plan → ordered (widened plan) s ≡ ordered plan s
ordered-same plan s narrow = rw (overlap_head-same plan s narrow) refl

pub display-same : (plan : Plan) (s : Shown) → IsNarrow plan → display (widened plan) s ≡ display plan s
display-same plan s narrow = ap (λ heads. if s.tripped then flashing heads else heads) (ordered-same plan s narrow)

pub field-same : (plan : Plan) (s : Shown) (lamp : Option Lamp) → IsNarrow plan → field (widened plan) s lamp ≡ field plan s lamp
field-same plan s lamp narrow = ap (laid_over lamp) (ordered-same plan s narrow)

-- ## The monitor

-- the heads of phases 9 to 16 are dark
pub record AreDarkBeyond (heads : Heads) : Type 0 where
  pub vehicle : IsBeyondNarrow heads.vehicle Dark
  pub pedestrian : IsBeyondNarrow heads.pedestrian pedestrian_aspects.Dark

ordered-dark : (plan : Plan) (s : Shown) → IsNarrow plan → AreDarkBeyond (ordered plan s)
ordered-dark plan s narrow = record {
  vehicle = λ p out. rw (not-enabled plan p narrow (beyond-narrow p out)) refl;
  pedestrian = λ p out. rw (not-enabled plan p narrow (beyond-narrow p out)) refl;
}

other-head : (p q : ℕ) → q ≤ 8 → is_beyond p ≡ true → (p == q) ≡ false
other-head p q low out = let b : 9 ≤ p = (beyond-bound p out).0 in grind (arith, nat_tests)

laid_over-dark : (lamp : Option Lamp) (heads : Heads) → IsLampWithin lamp → AreDarkBeyond heads → AreDarkBeyond (laid_over lamp heads)
laid_over-dark None heads low dark = dark
laid_over-dark (Some (lamps.Phase q color)) heads low dark = record {
  vehicle = λ p out. rw (other-head p q low out) (dark.vehicle p out);
  pedestrian = dark.pedestrian;
}
laid_over-dark (Some (lamps.Pedestrian q color)) heads low dark = record {
  vehicle = dark.vehicle;
  pedestrian = λ p out. rw (other-head p q low out) (dark.pedestrian p out);
}
laid_over-dark (Some (lamps.Overlap o color)) heads low dark = record { vehicle = dark.vehicle; pedestrian = dark.pedestrian }
laid_over-dark (Some (lamps.Arrow o)) heads low dark = record { vehicle = dark.vehicle; pedestrian = dark.pedestrian }

pub field-dark : (plan : Plan) (s : Shown) (lamp : Option Lamp) → IsNarrow plan → IsLampWithin lamp → AreDarkBeyond (field plan s lamp)
field-dark plan s lamp narrow low = laid_over-dark lamp (ordered plan s) low (ordered-dark plan s narrow)

-- where no overlap is of type 2 no arrow is green
no_green_arrow : (plan : Plan) (heads : Heads) (p : ℕ) → ((o : ℕ) → plan.value OverlapType o ≡ 0) → has_green_arrow plan heads p ≡ false
unfolding has_green_arrow
no_green_arrow plan heads p none =
    and-false (among p (phases plan)) _
    (any-none (is_green_arrow_of plan heads p) at (run_from 1 plan.counts.overlaps))
  where
    at : (o : ℕ) → is_green_arrow_of plan heads p o ≡ false
    at o =
        ap (λ (t : ℕ). (t == 2 && not (includes_none plan o)) && (is_modifier plan o p && monitor.is_green (heads.overlap o))) (none o)

way-same : (plan : Plan) (heads : Heads) (p : ℕ) → IsNarrow plan → has_way (widened plan) heads p ≡ has_way plan heads p
way-same plan heads p narrow =
    ap (λ (b : Bool). has_right_of_way heads p || b)
    (no_green_arrow (widened plan) heads p (λ o. narrow.placed OverlapType o refl)
    ∙ sym (no_green_arrow plan heads p (λ o. narrow.placed OverlapType o refl)))

no_way : (plan : Plan) (heads : Heads) (p : ℕ) → IsNarrow plan → AreDarkBeyond heads → is_beyond p ≡ true → has_way plan heads p ≡ false
no_way plan heads p narrow dark out =
    rw (dark.vehicle p out, dark.pedestrian p out, no_green_arrow plan heads p (λ o. narrow.placed OverlapType o refl)) refl

in_conflict-same : (plan : Plan) (heads : Heads) (p q : ℕ) → IsNarrow plan → are_in_conflict (widened plan) heads p q ≡ are_in_conflict plan heads p q
in_conflict-same plan heads p q narrow =
    ap₂ (λ (a b : Bool). nat_lt p q && (a && (b && not (is_concurrent plan p q)))) (way-same plan heads p narrow) (way-same plan heads q narrow)

conflict_of-same : (plan : Plan) (heads : Heads) (p : ℕ) → IsNarrow plan → AreDarkBeyond heads →
    conflict_of (widened plan) heads p ≡ conflict_of plan heads p
unfolding conflict_of
conflict_of-same plan heads p narrow dark =
    first-same plan (are_in_conflict (widened plan) heads p) (are_in_conflict plan heads p) narrow (λ q in_it. in_conflict-same plan heads p q narrow)
    (λ q out. in_conflict-same plan heads p q narrow
    ∙ and-false (nat_lt p q) _ (and-false (has_way plan heads p) _ (rw (no_way plan heads q narrow dark out) refl)))

all_dark : (plan : Plan) (heads : Heads) (p : ℕ) → IsNarrow plan → AreDarkBeyond heads → is_beyond p ≡ true → (q : ℕ) → are_in_conflict plan heads p q ≡ false
all_dark plan heads p narrow dark out q = and-false (nat_lt p q) _ (rw (no_way plan heads p narrow dark out) refl)

no-conflict : (plan : Plan) (heads : Heads) (p : ℕ) → IsNarrow plan → AreDarkBeyond heads → is_beyond p ≡ true → conflict_of plan heads p ≡ None
unfolding conflict_of
no-conflict plan heads p narrow dark out = first-none (are_in_conflict plan heads p) (phases plan) (all_dark plan heads p narrow dark out)

conflict_by-same : (plan : Plan) (heads : Heads) (o : Option ℕ) → IsNarrow plan → AreDarkBeyond heads →
    conflict_by (widened plan) heads o ≡ conflict_by plan heads o
conflict_by-same plan heads None narrow dark = refl
conflict_by-same plan heads (Some p) narrow dark = rw (conflict_of-same plan heads p narrow dark) refl

conflict-same : (plan : Plan) (heads : Heads) → IsNarrow plan → AreDarkBeyond heads → conflict (widened plan) heads ≡ conflict plan heads
unfolding conflict
conflict-same plan heads narrow dark =
    ap (conflict_by (widened plan) heads)
    (first-same plan (λ p. is_some (conflict_of (widened plan) heads p)) (λ p. is_some (conflict_of plan heads p)) narrow
    (λ p in_it. rw (conflict_of-same plan heads p narrow dark) refl)
    (λ p out. rw (conflict_of-same plan heads p narrow dark, no-conflict plan heads p narrow dark out) refl))
    ∙ conflict_by-same plan heads (first (λ p. is_some (conflict_of plan heads p)) (phases plan)) narrow dark

green_to_red-same : (plan : Plan) (before after : Heads) → IsNarrow plan → AreDarkBeyond before →
    green_to_red (widened plan) before after ≡ green_to_red plan before after
unfolding green_to_red
green_to_red-same plan before after narrow dark =
    ap (option_map (λ p. GreenToRed p))
    (first-same plan (goes_red before after) (goes_red before after) narrow (λ p in_it. refl) (λ p out. rw (dark.vehicle p out) refl))

pub judge-same : (plan : Plan) (before after : Heads) → IsNarrow plan → AreDarkBeyond before → AreDarkBeyond after →
    judge (widened plan) before after ≡ judge plan before after
judge-same plan before after narrow dark later =
    rw (conflict-same plan after narrow later, green_to_red-same plan before after narrow dark) refl
