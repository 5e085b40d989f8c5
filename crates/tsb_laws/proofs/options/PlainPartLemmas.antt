-- Where the options are 0, rules, phase timing, calls and overlaps are those without options.
use Rattle.std.proofs.Common.{◌≡◌, ℕ, ◌*◌, ◌==◌, nat_le, nat_lt, Bool, true, false, not, ◌&&◌, ◌||◌, if◌then◌else◌, List, [], ◌∷◌, Option, Some, None, is_none, is_some, refl, sym, ap, ap₂, ◌∙◌}
use Rattle.std.proofs.Math.Bool.{or-false}
use Rattle.std.proofs.Math.Path.{fun_ext}
use Rattle.std.proofs.lemmas.Bool.{and_right, or_right}
use Rattle.std.specs.List.{list_all, list_any}
use Rattle.std.specs.Option.{option_map, option_or}
use Rattle.tsb_step.specs.tsb_types.declared.interval.PedestrianInterval.{PedestrianInterval}
use Rattle.tsb_step.specs.tsb_types.declared.interval.PedestrianInterval.TheVariants.{DontWalk, Walk, PedestrianClear}
use Rattle.tsb_step.specs.tsb_types.declared.lamp.Aspect.{Aspect}
use Rattle.tsb_step.specs.tsb_types.declared.lamp.Aspect.TheVariants.{Dark, Red, Yellow, Green}
use Rattle.tsb_step.specs.tsb_types.Flow.{gives_walk}
use Rattle.tsb_step.specs.tsb_types.Intervals.{is_green, is_yellow, is_red_clear, is_dont_walk}
use Rattle.tsb_step.specs.tsb_types.Lists.{among, first, run_from}
use Rattle.tsb_step.specs.tsb_cells.declared.timer.Timer.TheVariants.{Off}
use Rattle.tsb_step.specs.tsb_cells.Timer.{has_reached}
use Rattle.tsb_step.specs.tsb_plan.declared.object.Object.TheVariants.{OverlapIncludedPhases, OverlapType}
use Rattle.tsb_step.specs.tsb_plan.Parts.{is_included, is_modifier, is_timed, includes_none}
use Rattle.tsb_step.specs.tsb_plan.Plan.{Plan, phases, is_enabled, is_concurrent, minimum_green, maximum, dynamic_maximum_limit, dynamic_maximum_step}
use Rattle.tsb_step.specs.tsb_rules.declared.rules.Rule.{Rule}
use Rattle.tsb_step.specs.tsb_rules.declared.rules.Rule.TheVariants.{K14, K15, K16, K17, K18, K19, K20, K21, K22, K23, K28, K29}
use Rattle.tsb_step.specs.tsb_rules.PatternRules.{patterns_are_whole, splits_hold_phases, splits_fill_cycles, permissive_times_end}
use Rattle.tsb_step.specs.tsb_rules.Rules.{unless, or_rule, broken_by_rings, broken_by_phases, broken_by_parts, broken_by_extensions, broken_by_schedule, broken_by_overlaps, first_broken, included_phases_are_enabled, preempts_are_concurrent, preempts_dwell, names_enabled, modifies_rightly, modifiers_are_right, turns_alone, points_rightly, arrows_are_right, trails_rightly, trails_are_right, limits_reach_minimums}
use Rattle.tsb_step.specs.tsb_heads.declared.monitor.Trip.{Trip}
use Rattle.tsb_step.specs.tsb_heads.declared.monitor.Trip.TheVariants.{Conflict}
use Rattle.tsb_step.specs.tsb_heads.Heads.{Heads, Shown}
use Rattle.tsb_step.specs.tsb_heads.Monitoring.{has_right_of_way, has_green_arrow, has_way, is_green_arrow_of, conflict_of, conflict_by, conflict, green_to_red, judge}
use Rattle.tsb_step.specs.tsb_heads.Monitoring as monitor
use Rattle.tsb_step.specs.tsb_heads.Overlaps.{some_of, is_kept_green, is_on_yellow, normal_aspect, minus_green_yellow_aspect, head_by_phases, overlap_head}
use Rattle.tsb_step.specs.tsb_heads.Displays.{ordered}
use Rattle.tsb_step.specs.tsb_phase.declared.ending.Ending.{Ending}
use Rattle.tsb_step.specs.tsb_phase.Phase.{Phase, Given, Moved, GreenHeld, held_of, as_read}
use Rattle.tsb_step.specs.tsb_phase.DynamicMaximum.{is_dynamic, effective_maximum, maximum_in_use, counts_endings, stepped_or_kept}
use Rattle.tsb_step.specs.tsb_phase.Green.{conflict_timer, initial_has_passed, is_gapped, is_by_gap, has_maxed_out}
use Rattle.tsb_step.specs.tsb_phase.Pedestrian.{ended_by, pedestrian_after, pedestrian_now, pedestrian_timer_in}
use Rattle.tsb_step.specs.tsb_phase.Ready.{needs_forced, green_is_done, is_ready}
use Rattle.tsb_step.specs.tsb_phase.Next.{is_green_after, pedestrian_at_start, pedestrian_timer_at_start, ending_now, new_running_maximum, new_last_ending, next}
use Rattle.tsb_step.proofs.tsb_rules.RuleLemmas.{named_none}
use Rattle.tsb_review.proofs.LoopLemmas.{any-none}
use Rattle.tsb_laws.specs.Options.{OptionsOff}
use Rattle.tsb_laws.specs.PlainParts as plain
use Rattle.tsb_laws.specs.WithoutOptions.{HasEachAtZero}
use Rattle.tsb_laws.proofs.operation.pattern.OptionsOffLemmas.{options-off}

-- ## Rules

each_passes : (test : ℕ → Bool) → ((k : ℕ) → test k ≡ true) → (ks : List ℕ) → list_all test ks ≡ true
each_passes test passes [] = refl
each_passes test passes (k ∷ ks) = ap₂ (λ (a b : Bool). a && b) (passes k) (each_passes test passes ks)

-- without modifier phases K21 asks for nothing
modifiers_pass : (plan : Plan) → HasEachAtZero plan → modifiers_are_right plan ≡ true
modifiers_pass plan none = each_passes (modifies_rightly plan) at (run_from 1 plan.counts.overlaps)
  where
    at : (o : ℕ) → modifies_rightly plan o ≡ true
    at o =
        ap (λ (list : ℕ). names_enabled plan list && (not (plan.value OverlapType o == 0) || list == 0)) (none.overlap_modifier_phases o)
        ∙ ap (λ (b : Bool). b && (not (plan.value OverlapType o == 0) || true)) (named_none (is_enabled plan) plan.phase_count)
        ∙ or_right (not (plan.value OverlapType o == 0)) true refl

-- nor does K22 where no maximum is dynamic
limits_pass : (plan : Plan) → HasEachAtZero plan → limits_reach_minimums plan ≡ true
limits_pass plan none =
    each_passes (λ p. not (is_enabled plan p) || (dynamic_maximum_limit plan p == 0 || nat_le (minimum_green plan p) (dynamic_maximum_limit plan p))) at (phases plan)
  where
    at : (p : ℕ) → (not (is_enabled plan p) || (dynamic_maximum_limit plan p == 0 || nat_le (minimum_green plan p) (dynamic_maximum_limit plan p))) ≡ true
    at p =
        ap (λ (n : ℕ). not (is_enabled plan p) || (10 * n == 0 || nat_le (minimum_green plan p) (10 * n))) (none.phase_dynamic_max_limit p)
        ∙ or_right (not (is_enabled plan p)) true refl

parts_agree : (plan : Plan) → OptionsOff plan → broken_by_parts plan ≡ plain.broken_by_parts plan
unfolding broken_by_parts plain.broken_by_parts
parts_agree plan off =
    ap (λ (b : Bool).
    unless (included_phases_are_enabled plan) K14
    (unless (preempts_are_concurrent plan) K15
    (unless (preempts_dwell plan) K16
    (unless (patterns_are_whole plan) K17
    (unless (splits_hold_phases plan) K18
    (unless (splits_fill_cycles plan) K19
    (unless b K20
    None))))))) off.coordinated

no_extensions : (plan : Plan) → HasEachAtZero plan → broken_by_extensions plan ≡ None
unfolding broken_by_extensions
no_extensions plan none =
    ap (λ (b : Bool). unless b K21 (unless (limits_reach_minimums plan) K22 (unless (permissive_times_end plan) K23 None))) (modifiers_pass plan none)
    ∙ ap (λ (b : Bool). unless b K22 (unless (permissive_times_end plan) K23 None)) (limits_pass plan none)
    ∙ ap (λ (b : Bool). unless b K23 None) (options-off plan none.options).permissive

-- no overlap is an arrow, or trails
pub untimed : (plan : Plan) → HasEachAtZero plan → (o : ℕ) → is_timed plan o ≡ false
untimed plan none o =
    ap₂ (λ (t g : ℕ). (t == 2 && not (includes_none plan o)) || (not (g == 0) && not (includes_none plan o)))
    (none.overlap_type o) (none.overlap_trail_green o)

-- so K28 asks for nothing
arrows_pass : (plan : Plan) → HasEachAtZero plan → arrows_are_right plan ≡ true
arrows_pass plan none = each_passes (points_rightly plan) at (run_from 1 plan.counts.overlaps)
  where
    at : (o : ℕ) → points_rightly plan o ≡ true
    at o =
        ap (λ (t : ℕ). not (t == 2) || (not (includes_none plan o) && turns_alone plan o (first (is_modifier plan o) (phases plan))))
        (none.overlap_type o)

-- nor does K29, of yellows that are 0
trails_pass : (plan : Plan) → HasEachAtZero plan → trails_are_right plan ≡ true
trails_pass plan none = each_passes (trails_rightly plan) at (run_from 1 plan.counts.overlaps)
  where
    at : (o : ℕ) → trails_rightly plan o ≡ true
    at o =
        ap₂ (λ (y g : ℕ). (y == 0 || nat_le 30 y) && (g == 0 || (not (y == 0) && plan.value OverlapType o == 0)))
        (none.overlap_trail_yellow o) (none.overlap_trail_green o)

no_overlaps : (plan : Plan) → HasEachAtZero plan → broken_by_overlaps plan ≡ None
unfolding broken_by_overlaps
no_overlaps plan none =
    ap₂ (λ (a b : Bool). unless a K28 (unless b K29 None)) (arrows_pass plan none) (trails_pass plan none)

or_none : (r : Option Rule) → or_rule r None ≡ r
or_none None = refl
or_none (Some r) = refl

pub rules_agree : (plan : Plan) → HasEachAtZero plan → first_broken plan ≡ plain.first_broken plan
unfolding first_broken plain.first_broken
rules_agree plan none =
    ap₂ (λ (parts extensions : Option Rule). or_rule (broken_by_rings plan) (or_rule (broken_by_phases plan) (or_rule parts (or_rule extensions
    (or_rule (broken_by_schedule plan) (broken_by_overlaps plan))))))
    (parts_agree plan (options-off plan none.options)) (no_extensions plan none)
    ∙ ap (λ (last : Option Rule). or_rule (broken_by_rings plan) (or_rule (broken_by_phases plan) (or_rule (plain.broken_by_parts plan)
    (or_rule (broken_by_schedule plan) last)))) (no_overlaps plan none)
    ∙ ap (λ (last : Option Rule). or_rule (broken_by_rings plan) (or_rule (broken_by_phases plan) (or_rule (plain.broken_by_parts plan) last)))
    (or_none (broken_by_schedule plan))

-- ## When a green may end

never_dynamic : (plan : Plan) (p : ℕ) → HasEachAtZero plan → is_dynamic plan p ≡ false
never_dynamic plan p none = ap (λ (n : ℕ). nat_lt 0 (10 * n) && nat_lt 0 (dynamic_maximum_step plan p)) (none.phase_dynamic_max_limit p)

-- the maximum in use is the plan's
maximum_agrees : (plan : Plan) (p : ℕ) (running : Option ℕ) → HasEachAtZero plan → maximum_in_use plan p running ≡ maximum plan p
unfolding maximum_in_use
maximum_agrees plan p running none =
    ap (λ (b : Bool). if b then effective_maximum plan p running else maximum plan p) (never_dynamic plan p none)

out_agrees : (plan : Plan) → HasEachAtZero plan → (given : Given) (p : ℕ) (held : GreenHeld) (running : Option ℕ) →
    has_maxed_out plan given p held running ≡ plain.has_maxed_out plan given p held
unfolding plain.has_maxed_out
out_agrees plan none given p held running =
    (options-off plan none.options).freely given p held running
    ∙ ap (λ (n : ℕ). is_none given.runs && has_reached (conflict_timer given p held) n) (maximum_agrees plan p running none)

done_agrees : (plan : Plan) → HasEachAtZero plan → (given : Given) (p : ℕ) (w : Phase) (ended : Option ℕ) →
    green_is_done plan given p w ended ≡ plain.green_is_done plan given p w ended
done_agrees plan none given p w None =
    ap₂ (λ (latch out : Bool). initial_has_passed plan given p (held_of w) &&
    (if needs_forced given p then latch else (is_by_gap plan given p (is_gapped plan given p (held_of w)) || (out || latch))))
    ((options-off plan none.options).latched given p (held_of w)) (out_agrees plan none given p (held_of w) w.running_maximum)
done_agrees plan none given p w (Some n) = refl

-- where the phase may not walk again, its pedestrian part is what its times make of it
pub parts_same : (plan : Plan) (given : Given) (p : ℕ) (w : Phase) → given.recycle p ≡ false →
    pedestrian_now plan given p w ≡ plain.pedestrian_now plan given p w
unfolding pedestrian_now plain.pedestrian_now
parts_same plan given p w off = go w.pedestrian
  where
    either : (b : Bool) → (if b && false then Walk else DontWalk) ≡ DontWalk
    either true = refl
    either false = refl

    go : (part : PedestrianInterval) → pedestrian_after plan given p w part ≡ plain.pedestrian_after plan given p w part
    go DontWalk =
        ap (λ (b : Bool). if is_green w.interval && (b && (gives_walk (given.pedestrian_call p) given.service && not (w.forced && given.conflict p))) then Walk else DontWalk) off
        ∙ either (is_green w.interval)
    go Walk = refl
    go PedestrianClear = refl

pub ready_agrees : (plan : Plan) → HasEachAtZero plan → (given : Given) (p : ℕ) (w : Phase) → given.recycle p ≡ false →
    is_ready plan given p w ≡ plain.is_ready plan given p w
unfolding is_ready plain.is_ready
ready_agrees plan none given p w off =
    ap₂ (λ (part : PedestrianInterval) (b : Bool). is_green w.interval && (is_dont_walk part && b))
    (parts_same plan given p w off) (done_agrees plan none given p w (ended_by given p))

-- ## A phase after a tick

-- it has no dynamic maximum, nor what one keeps
pub record IsStill (x : Phase) : Type 0 where
  pub running_maximum : x.running_maximum ≡ None
  pub last_ending : x.last_ending ≡ None

-- with this pedestrian part, latch, and what a dynamic maximum keeps
next_by : Plan → Given → Moved → ℕ → Phase → PedestrianInterval → Bool → Option ℕ → Option Ending → Phase
next_by plan given moved p w part latch running last = record (plain.next_from_read plan given moved p w) {
  pedestrian = if moved.starts p then pedestrian_at_start given p else (if is_green_after moved p w then part else DontWalk);
  pedestrian_timer =
      if moved.starts p then pedestrian_timer_at_start given p
      else (if is_green_after moved p w then pedestrian_timer_in w.pedestrian part w.pedestrian_timer else Off);
  forced = is_green_after moved p w && (not (moved.starts p) && latch);
  running_maximum = running;
  last_ending = last;
}

still : {A : Type 0} (moves dynamic : Bool) (stepped kept : Option A) → dynamic ≡ false → kept ≡ None →
    (if moves then (if dynamic then stepped else None) else kept) ≡ kept
still true dynamic stepped kept off none = ap (λ (b : Bool). if b then stepped else None) off ∙ sym none
still false dynamic stepped kept off none = refl

pub next_agrees : (plan : Plan) → HasEachAtZero plan → (given : Given) (moved : Moved) (p : ℕ) (was : Phase) →
    given.recycle p ≡ false → IsStill was → next plan given moved p was ≡ plain.next plan given moved p was
unfolding next_by
next_agrees plan none given moved p was off is =
    let w : Phase = as_read was in
    ap₂ (λ (part : PedestrianInterval) (latch : Bool). next_by plan given moved p w part latch
    (new_running_maximum plan given moved p w) (new_last_ending plan given moved p w))
    (parts_same plan given p w off) ((options-off plan none.options).latched given p (held_of w))
    ∙ ap₂ (λ (running : Option ℕ) (last : Option Ending). next_by plan given moved p w
    (plain.pedestrian_now plan given p w) (plain.forced_latch given p (held_of w)) running last)
    (still (moved.ends p && counts_endings given) (is_dynamic plan p)
    (stepped_or_kept plan p (ending_now plan given p w) w) w.running_maximum (never_dynamic plan p none) is.running_maximum)
    (still (moved.ends p && counts_endings given) (is_dynamic plan p)
    (Some (ending_now plan given p w)) w.last_ending (never_dynamic plan p none) is.last_ending)

-- ## Overlaps

kept_green_agrees : (plan : Plan) → OptionsOff plan → (s : Shown) (o : ℕ) → is_kept_green plan s o ≡ plain.is_kept_green plan s o
unfolding is_kept_green plain.is_kept_green
kept_green_agrees plan off s o =
    ap (some_of plan (is_included plan o)) (fun_ext (λ p. ap (λ (b : Bool).
    is_green (s.interval p) || ((is_yellow (s.interval p) || is_red_clear (s.interval p)) && b)) (off.followed s o p)))

head_agrees : (plan : Plan) → HasEachAtZero plan → (s : Shown) (o : ℕ) → overlap_head plan s o ≡ plain.overlap_head plan s o
head_agrees plan none s o =
    ap (λ (b : Bool). if b then s.light o else head_by_phases plan s o) (untimed plan none o)
    ∙ ap (λ (n : ℕ). if plan.value OverlapIncludedPhases o == 0 then Dark else
    (if n == 1 then minus_green_yellow_aspect plan s o else normal_aspect plan s o)) (none.overlap_type o)
    ∙ ap (λ (kept : Bool). if plan.value OverlapIncludedPhases o == 0 then Dark
    else (if kept then Green else (if is_on_yellow plan s o then Yellow else Red)))
    (kept_green_agrees plan (options-off plan none.options) s o)

pub ordered_agrees : (plan : Plan) → HasEachAtZero plan → (s : Shown) → ordered plan s ≡ plain.ordered plan s
ordered_agrees plan none s =
    ap (λ (f : ℕ → Aspect). record (ordered plan s) { overlap = f }) (fun_ext (λ o. head_agrees plan none s o))

-- ## The monitor

-- no arrow is green
no_green_arrow : (plan : Plan) → HasEachAtZero plan → (heads : Heads) (p : ℕ) → has_green_arrow plan heads p ≡ false
unfolding has_green_arrow
no_green_arrow plan none heads p =
    and_right (among p (phases plan)) (list_any (is_green_arrow_of plan heads p) (run_from 1 plan.counts.overlaps))
    (any-none (is_green_arrow_of plan heads p) at (run_from 1 plan.counts.overlaps))
  where
    at : (o : ℕ) → is_green_arrow_of plan heads p o ≡ false
    at o =
        ap (λ (t : ℕ). (t == 2 && not (includes_none plan o)) && (is_modifier plan o p && monitor.is_green (heads.overlap o)))
        (none.overlap_type o)

way_agrees : (plan : Plan) → HasEachAtZero plan → (heads : Heads) (p : ℕ) → has_way plan heads p ≡ has_right_of_way heads p
way_agrees plan none heads p =
    ap (λ (b : Bool). has_right_of_way heads p || b) (no_green_arrow plan none heads p) ∙ or-false (has_right_of_way heads p)

conflict_of_agrees : (plan : Plan) → HasEachAtZero plan → (heads : Heads) (p : ℕ) → conflict_of plan heads p ≡ plain.conflict_of plan heads p
unfolding conflict_of plain.conflict_of
conflict_of_agrees plan none heads p =
    ap (λ (f : ℕ → Bool). first f (phases plan)) (fun_ext (λ q.
    ap₂ (λ (a b : Bool). nat_lt p q && (a && (b && not (is_concurrent plan p q)))) (way_agrees plan none heads p) (way_agrees plan none heads q)))

conflicts_agree : (plan : Plan) → HasEachAtZero plan → (heads : Heads) → conflict plan heads ≡ plain.conflict plan heads
unfolding conflict plain.conflict
conflicts_agree plan none heads =
    ap (λ (f : ℕ → Bool). conflict_by plan heads (first f (phases plan))) (fun_ext (λ p. ap is_some (conflict_of_agrees plan none heads p)))
    ∙ by (first (λ p. is_some (plain.conflict_of plan heads p)) (phases plan))
  where
    by : (found : Option ℕ) → conflict_by plan heads found ≡ plain.conflict_by plan heads found
    by None = refl
    by (Some p) = ap (λ (o : Option ℕ). option_map (λ q. Conflict p q) o) (conflict_of_agrees plan none heads p)

pub judges_agree : (plan : Plan) → HasEachAtZero plan → (before after : Heads) → judge plan before after ≡ plain.judge plan before after
judges_agree plan none before after =
    ap (λ (c : Option Trip). option_or c (green_to_red plan before after)) (conflicts_agree plan none after)
