-- What the rings want is the same on the wide plan.
use Rattle.std.proofs.Common.{◌≡◌, ℕ, Bool, false, not, ◌&&◌, List, ◌++◌, Option, Some, None, is_some, refl, ◌∙◌, ap, ap₂}
use Rattle.std.proofs.Math.Path.{fun_ext}
use Rattle.tsb_step.specs.tsb_types.Intervals.{in_service}
use Rattle.tsb_step.specs.tsb_plan.Plan.{Plan}
use Rattle.tsb_step.specs.tsb_ring.declared.want.Want.{Want}
use Rattle.tsb_step.specs.tsb_ring.declared.want.Want.TheVariants.{Go, Cross, Rest, Stop}
use Rattle.tsb_step.specs.tsb_ring.Rings.{Ring, Ring1, Ring2, other, State, Given, in_ring, serving}
use Rattle.tsb_step.specs.tsb_ring.Wants.{concurrent_with, fits, is_on_side, is_candidate, is_called_elsewhere, want_within, want_by_calls, is_targeted, serves_target, targeted_here, is_targeted_elsewhere, want_by_target, want_found, is_idle_or_green, want, may_take, taken, pick_of_ring_1, picked_before, want_of, pick}
use Rattle.tsb_laws.specs.Widened.{IsNarrow, widened}
use Rattle.tsb_laws.proofs.versions.ListLemmas.{IsBeyondNarrow, first-later, first-not_later}
use Rattle.tsb_laws.proofs.versions.PlanLemmas.{first-same, beyond-narrow, not-enabled, not-in_ring, zeros}

-- what the rings of the wide plan are given: sequences have zeros after them, and other phases may be omitted, beyond the
-- eighth
abbrev pub wide_given : (ℕ → Bool) → Given → Given
wide_given omitted given = record given { sequence = λ r. given.sequence r ++ zeros; omitted = omitted }

pub serving-same : (plan : Plan) (omitted : ℕ → Bool) (given : Given) (r : Ring) → IsNarrow plan →
    serving (widened plan) (wide_given omitted given) r ≡ serving plan given r
unfolding serving
serving-same plan omitted given r narrow =
    first-same plan (λ p. in_ring plan r p && in_service (given.interval p)) (λ p. in_ring plan r p && in_service (given.interval p)) narrow
    (λ p in_it. refl) (λ p out. rw (not-in_ring plan r p narrow (beyond-narrow p out)) refl)

pub concurrent_with-same : (plan : Plan) (p : ℕ) (o : Option ℕ) → concurrent_with (widened plan) p o ≡ concurrent_with plan p o
concurrent_with-same plan p None = refl
concurrent_with-same plan p (Some q) = refl

fits-same : (plan : Plan) (s : State) (omitted : ℕ → Bool) (given : Given) (r : Ring) (picked : Option ℕ) (p : ℕ) → IsNarrow plan →
    fits (widened plan) s (wide_given omitted given) r picked p ≡ fits plan s given r picked p
unfolding fits
fits-same plan s omitted given r picked p narrow =
    rw (
      serving-same plan omitted given (other r) narrow,
      concurrent_with-same plan p (serving plan given (other r)),
      concurrent_with-same plan p (s.commitment (other r)),
      concurrent_with-same plan p picked,
    ) refl

-- ## By calls

candidate-same : (plan : Plan) (s : State) (omitted : ℕ → Bool) (given : Given) (r : Ring) (picked : Option ℕ) → IsNarrow plan →
    is_candidate (widened plan) s (wide_given omitted given) r picked ≡ is_candidate plan s given r picked
candidate-same plan s omitted given r picked narrow =
    fun_ext (λ p. rw (fits-same plan s omitted given r picked p narrow) refl)

elsewhere-same : (plan : Plan) (s : State) (omitted : ℕ → Bool) (given : Given) → IsNarrow plan → IsBeyondNarrow given.callable false →
    is_called_elsewhere (widened plan) s (wide_given omitted given) ≡ is_called_elsewhere plan s given
elsewhere-same plan s omitted given narrow none =
    ap (λ (o : Option ℕ). is_some o)
    (first-same plan (λ p. given.callable p && not (is_on_side plan s.side p)) (λ p. given.callable p && not (is_on_side plan s.side p)) narrow
    (λ p in_it. refl) (λ p out. rw (none p out) refl))

want_within-same : (places : List ℕ) (last : Option ℕ) (candidate : ℕ → Bool) (elsewhere : Bool) → candidate 0 ≡ false →
    want_within (places ++ zeros) last candidate elsewhere ≡ want_within places last candidate elsewhere
want_within-same places last candidate elsewhere none =
    rw (first-later candidate last places zeros none refl, first-not_later candidate last places zeros none refl) refl

want_by_calls-same : (plan : Plan) (s : State) (omitted : ℕ → Bool) (given : Given) (r : Ring) (picked : Option ℕ) → IsNarrow plan →
    IsBeyondNarrow given.callable false →
    want_by_calls (widened plan) s (wide_given omitted given) r picked ≡ want_by_calls plan s given r picked
want_by_calls-same plan s omitted given r picked narrow none =
    ap₂ (λ candidate elsewhere. want_within (given.sequence r ++ zeros) (s.last r) candidate elsewhere)
    (candidate-same plan s omitted given r picked narrow) (elsewhere-same plan s omitted given narrow none)
    ∙ want_within-same (given.sequence r) (s.last r) (is_candidate plan s given r picked) (is_called_elsewhere plan s given)
    (rw (not-in_ring plan r 0 narrow refl) refl)

-- ## By a preempt's target

serves_target-same : (plan : Plan) (target : ℕ → Bool) (o : Option ℕ) → serves_target (widened plan) target o ≡ serves_target plan target o
serves_target-same plan target None = refl
serves_target-same plan target (Some p) = refl

targeted_here-same : (plan : Plan) (s : State) (omitted : ℕ → Bool) (given : Given) (r : Ring) (picked : Option ℕ) (target : ℕ → Bool) →
    IsNarrow plan →
    targeted_here (widened plan) s (wide_given omitted given) r picked target ≡ targeted_here plan s given r picked target
targeted_here-same plan s omitted given r picked target narrow =
    first-same plan
    (λ p. in_ring plan r p && is_on_side plan s.side p && is_targeted plan target p && fits (widened plan) s (wide_given omitted given) r picked p)
    (λ p. in_ring plan r p && is_on_side plan s.side p && is_targeted plan target p && fits plan s given r picked p) narrow
    (λ p in_it. rw (fits-same plan s omitted given r picked p narrow) refl)
    (λ p out. rw (not-in_ring plan r p narrow (beyond-narrow p out)) refl)

targeted_elsewhere-same : (plan : Plan) (s : State) (target : ℕ → Bool) → IsNarrow plan →
    is_targeted_elsewhere (widened plan) s target ≡ is_targeted_elsewhere plan s target
targeted_elsewhere-same plan s target narrow =
    ap (λ (o : Option ℕ). is_some o)
    (first-same plan (λ p. is_targeted plan target p && not (is_on_side plan s.side p))
    (λ p. is_targeted plan target p && not (is_on_side plan s.side p)) narrow
    (λ p in_it. refl) (λ p out. rw (not-enabled plan p narrow (beyond-narrow p out)) refl))

want_by_target-same : (plan : Plan) (s : State) (omitted : ℕ → Bool) (given : Given) (r : Ring) (picked : Option ℕ) (target : ℕ → Bool) →
    IsNarrow plan →
    want_by_target (widened plan) s (wide_given omitted given) r picked target ≡ want_by_target plan s given r picked target
want_by_target-same plan s omitted given r picked target narrow =
    rw (
      targeted_here-same plan s omitted given r picked target narrow,
      targeted_elsewhere-same plan s target narrow,
      serving-same plan omitted given r narrow,
      serves_target-same plan target (serving plan given r),
    ) refl

-- ## The want

want_found-same : (plan : Plan) (s : State) (omitted : ℕ → Bool) (given : Given) (r : Ring) (picked : Option ℕ) (o : Option (ℕ → Bool)) →
    IsNarrow plan → IsBeyondNarrow given.callable false →
    want_found (widened plan) s (wide_given omitted given) r picked o ≡ want_found plan s given r picked o
want_found-same plan s omitted given r picked None narrow none = want_by_calls-same plan s omitted given r picked narrow none
want_found-same plan s omitted given r picked (Some target) narrow none = want_by_target-same plan s omitted given r picked target narrow

idle_or_green-same : (omitted : ℕ → Bool) (given : Given) (o : Option ℕ) →
    is_idle_or_green (wide_given omitted given) o ≡ is_idle_or_green given o
idle_or_green-same omitted given None = refl
idle_or_green-same omitted given (Some q) = refl

want-same : (plan : Plan) (s : State) (omitted : ℕ → Bool) (given : Given) (r : Ring) (picked : Option ℕ) → IsNarrow plan →
    IsBeyondNarrow given.callable false →
    want (widened plan) s (wide_given omitted given) r picked ≡ want plan s given r picked
unfolding want
want-same plan s omitted given r picked narrow none =
    rw (
      want_found-same plan s omitted given r picked given.target narrow none,
      serving-same plan omitted given r narrow,
      idle_or_green-same omitted given (serving plan given r),
    ) refl

-- ## What it picks

may_take-same : (omitted : ℕ → Bool) (given : Given) (was : Option ℕ) (p : ℕ) → may_take (wide_given omitted given) was p ≡ may_take given was p
may_take-same omitted given None p = refl
may_take-same omitted given (Some q) p = refl

taken-same : (omitted : ℕ → Bool) (given : Given) (was : Option ℕ) (o : Option Want) → taken (wide_given omitted given) was o ≡ taken given was o
taken-same omitted given was None = refl
taken-same omitted given was (Some (Go p)) = rw (may_take-same omitted given was p) refl
taken-same omitted given was (Some Cross) = refl
taken-same omitted given was (Some Rest) = refl
taken-same omitted given was (Some Stop) = refl

pick_of_ring_1-same : (plan : Plan) (s : State) (omitted : ℕ → Bool) (given : Given) → IsNarrow plan → IsBeyondNarrow given.callable false →
    pick_of_ring_1 (widened plan) s (wide_given omitted given) ≡ pick_of_ring_1 plan s given
unfolding pick_of_ring_1
pick_of_ring_1-same plan s omitted given narrow none =
    rw (want-same plan s omitted given Ring1 None narrow none, serving-same plan omitted given Ring1 narrow)
    (taken-same omitted given (serving plan given Ring1) (want plan s given Ring1 None))

picked_before-same : (plan : Plan) (s : State) (omitted : ℕ → Bool) (given : Given) (r : Ring) → IsNarrow plan →
    IsBeyondNarrow given.callable false →
    picked_before (widened plan) s (wide_given omitted given) r ≡ picked_before plan s given r
picked_before-same plan s omitted given Ring1 narrow none = refl
picked_before-same plan s omitted given Ring2 narrow none = pick_of_ring_1-same plan s omitted given narrow none

pub want_of-same : (plan : Plan) (s : State) (omitted : ℕ → Bool) (given : Given) (r : Ring) → IsNarrow plan →
    IsBeyondNarrow given.callable false →
    want_of (widened plan) s (wide_given omitted given) r ≡ want_of plan s given r
unfolding want_of
want_of-same plan s omitted given r narrow none =
    rw (picked_before-same plan s omitted given r narrow none) (want-same plan s omitted given r (picked_before plan s given r) narrow none)

pub pick-same : (plan : Plan) (s : State) (omitted : ℕ → Bool) (given : Given) (r : Ring) → IsNarrow plan →
    IsBeyondNarrow given.callable false →
    pick (widened plan) s (wide_given omitted given) r ≡ pick plan s given r
unfolding pick
pick-same plan s omitted given r narrow none =
    rw (want_of-same plan s omitted given r narrow none, serving-same plan omitted given r narrow)
    (taken-same omitted given (serving plan given r) (want_of plan s given r))
