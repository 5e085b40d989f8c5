-- A green that may end has a cause.
use Rattle.std.proofs.Common.{◌≡◌, ◌∙◌, ℕ, Bool, true, false, ◌||◌, if◌then◌else◌, Option, Some, None, is_some, refl, sym, ap}
use Rattle.std.proofs.lemmas.Bool.{and_parts}
use Rattle.tsb_objects.specs.tsb_plan.Plan.{Plan}
use Rattle.tsb_phase.specs.declared.cause.Cause.{Cause}
use Rattle.tsb_phase.specs.declared.cause.Cause.TheVariants.{Gap, Maximum}
use Rattle.tsb_phase.specs.Phase.{Phase, Given, held_of}
use Rattle.tsb_phase.specs.Causes.{by_force_off, cause, first_cause}
use Rattle.tsb_phase.specs.Green.{initial_has_passed, is_gapped, is_by_gap, has_maxed_out, forced_latch}
use Rattle.tsb_phase.specs.Pedestrian.{ended_by}
use Rattle.tsb_phase.specs.Ready.{needs_forced, has_timed_out, may_end, green_is_done, is_ready}
use Rattle.tsb_phase.proofs.ReadyLemmas.{parts_of_ready}

some-forced : (forced : Bool) → is_some (by_force_off forced) ≡ forced
some-forced true = refl
some-forced false = refl

some-first : (gap maximum forced : Bool) →
    is_some (if gap then Some Gap else (if maximum then Some Maximum else by_force_off forced)) ≡ (gap || (maximum || forced))
some-first true maximum forced = refl
some-first false true forced = refl
some-first false false forced = some-forced forced

some-either : (b forced : Bool) (c : Option Cause) (may : Bool) → is_some c ≡ may →
    is_some (if b then by_force_off forced else c) ≡ (if b then forced else may)
some-either true forced c may same = some-forced forced
some-either false forced c may same = same

pub cause-may-end : (plan : Plan) (given : Given) (p : ℕ) (w : Phase) → is_some (cause plan given p w) ≡ may_end plan given p w
cause-may-end plan given p w =
    some-either (needs_forced given p) (forced_latch plan given p (held_of w)) (first_cause plan given p w) (has_timed_out plan given p w)
    (some-first (is_by_gap plan given p (is_gapped plan given p (held_of w))) (has_maxed_out plan given p (held_of w) w.running_maximum)
    (forced_latch plan given p (held_of w)))

pub ready-has-cause : (plan : Plan) (given : Given) (p : ℕ) (w : Phase) → is_ready plan given p w ≡ true →
    ended_by given p ≡ None → is_some (cause plan given p w) ≡ true
ready-has-cause plan given p w ready free =
    let done : green_is_done plan given p w None ≡ true =
    sym (ap (λ (by : Option ℕ). green_is_done plan given p w by) free) ∙ (parts_of_ready plan given p w ready).1 in
    cause-may-end plan given p w ∙ (and_parts (initial_has_passed plan given p (held_of w)) (may_end plan given p w) done).1
