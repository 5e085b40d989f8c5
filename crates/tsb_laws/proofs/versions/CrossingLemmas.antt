-- Crossings begin at the same ticks, and go to the same side, on the wide plan.
use Rattle.std.proofs.Common.{zero, suc, ◌≡◌, ℕ, ◌+◌, ◌-◌, ◌≤◌, ◌==◌, Bool, true, false, ◌&&◌, ◌++◌, Option, Some, None, is_some, refl, arith, sym, ◌∙◌, ap, ap₂, inl, inr}
use Rattle.std.proofs.Math.Path.{fun_ext}
use Rattle.std.proofs.lemmas.Bool.{cases_Bool}
use Rattle.std.proofs.lemmas.Bool.Decides.{nat_tests}
use Rattle.tsb_step.specs.tsb_types.Lists.{first, run_from, or_else, or_number}
use Rattle.tsb_step.specs.tsb_plan.declared.object.Object.TheVariants.{PhaseSide}
use Rattle.tsb_step.specs.tsb_plan.Plan.{Plan, phases, sides_after}
use Rattle.tsb_step.specs.tsb_ring.declared.want.Want.{Want}
use Rattle.tsb_step.specs.tsb_ring.Rings.{Ring, Ring1, Ring2, State, Given, in_ring, serving}
use Rattle.tsb_step.specs.tsb_ring.Wants.{concurrent_with, is_on_side, is_targeted, want_of}
use Rattle.tsb_step.specs.tsb_ring.Crossings.{joins, ring_joins, begins, is_called_on, side_of_or, side_sought, target_side, may_enter, dual, is_called_in, called_in_ring_1, called_in_ring_2, entry_by_calls, entry_for, entry, committed}
use Rattle.tsb_laws.specs.Widened.{IsNarrow, widened}
use Rattle.tsb_laws.proofs.versions.ListLemmas.{IsSameOnNarrow, IsBeyondNarrow, first-behind}
use Rattle.tsb_laws.proofs.versions.PlanLemmas.{first-same, beyond-narrow, not-enabled, not-in_ring, in_ring-narrow, zeros}
use Rattle.tsb_laws.proofs.versions.WantLemmas.{wide_given, serving-same, concurrent_with-same, want_of-same, pick-same}
use Rattle.tsb_step.proofs.tsb_types.FirstLemmas.{first-none}

-- ## When a crossing begins

joins-same : (omitted : ℕ → Bool) (given : Given) (was commitment : Option ℕ) (w : Option Want) →
    joins (wide_given omitted given) was commitment w ≡ joins given was commitment w
joins-same omitted given None commitment w = refl
joins-same omitted given (Some q) commitment w = refl

ring_joins-same : (plan : Plan) (s : State) (omitted : ℕ → Bool) (given : Given) (r : Ring) → IsNarrow plan →
    IsBeyondNarrow given.callable false →
    ring_joins (widened plan) s (wide_given omitted given) r ≡ ring_joins plan s given r
ring_joins-same plan s omitted given r narrow none =
    rw (serving-same plan omitted given r narrow, want_of-same plan s omitted given r narrow none)
    (joins-same omitted given (serving plan given r) (s.commitment r) (want_of plan s given r))

pub begins-same : (plan : Plan) (s : State) (omitted : ℕ → Bool) (given : Given) → IsNarrow plan → IsBeyondNarrow given.callable false →
    begins (widened plan) s (wide_given omitted given) ≡ begins plan s given
unfolding begins
begins-same plan s omitted given narrow none =
    rw (
      ring_joins-same plan s omitted given Ring1 narrow none,
      ring_joins-same plan s omitted given Ring2 narrow none,
      want_of-same plan s omitted given Ring1 narrow none,
      want_of-same plan s omitted given Ring2 narrow none,
    ) refl

-- ## Where it goes

called_on-same : (plan : Plan) (omitted : ℕ → Bool) (given : Given) → IsNarrow plan → IsBeyondNarrow given.callable false →
    is_called_on (widened plan) (wide_given omitted given) ≡ is_called_on plan given
called_on-same plan omitted given narrow none =
    fun_ext (λ d. ap (λ (o : Option ℕ). is_some o)
    (first-same plan (λ p. given.callable p && is_on_side plan d p) (λ p. given.callable p && is_on_side plan d p) narrow
    (λ p in_it. refl) (λ p out. rw (none p out) refl)))

pub and-false : (a b : Bool) → b ≡ false → (a && b) ≡ false
and-false true b e = e
and-false false b e = refl

-- no phase is on side 3 or 4
never-called : (plan : Plan) (given : Given) (d : ℕ) → IsNarrow plan → 3 ≤ d → is_called_on plan given d ≡ false
never-called plan given d narrow high =
    ap (λ (o : Option ℕ). is_some o)
    (first-none (λ p. given.callable p && is_on_side plan d p) (phases plan)
    (λ p. and-false (given.callable p) (is_on_side plan d p) (other p (narrow.bounded PhaseSide p))))
  where
    other : (p : ℕ) → plan.value PhaseSide p ≤ 2 → (plan.value PhaseSide p == d) ≡ false
    other p low = grind (arith, nat_tests)

-- sides 3 and 4 are passed over
pub sides-same : (test : ℕ → Bool) (side : ℕ) → side ≤ 2 → test 3 ≡ false → test 4 ≡ false →
    first test (run_from (side + 1) (4 - side) ++ run_from 1 (side - 1)) ≡ first test (run_from (side + 1) (2 - side) ++ run_from 1 (side - 1))
unfolding run_from
sides-same test zero low three four = rw (three, four) refl
sides-same test (suc zero) low three four = rw (three, four) refl
sides-same test (suc (suc zero)) low three four = rw (three, four) refl
sides-same test (suc (suc (suc n))) low three four = absurd (omega arith)

side_of_or-same : (plan : Plan) (o : Option ℕ) (d : ℕ) → side_of_or (widened plan) o d ≡ side_of_or plan o d
side_of_or-same plan None d = refl
side_of_or-same plan (Some p) d = refl

targeted-same : (plan : Plan) (target : ℕ → Bool) → IsNarrow plan →
    first (is_targeted (widened plan) target) (phases (widened plan)) ≡ first (is_targeted plan target) (phases plan)
targeted-same plan target narrow =
    first-same plan (is_targeted plan target) (is_targeted plan target) narrow
    (λ p in_it. refl) (λ p out. rw (not-enabled plan p narrow (beyond-narrow p out)) refl)

side_sought-same : (plan : Plan) (s : State) (omitted : ℕ → Bool) (given : Given) (o : Option (ℕ → Bool)) → IsNarrow plan →
    IsBeyondNarrow given.callable false → s.side ≤ 2 →
    side_sought (widened plan) s (wide_given omitted given) o ≡ side_sought plan s given o
side_sought-same plan s omitted given None narrow none low =
    ap (λ (o : Option ℕ). or_number o s.side)
    (ap (λ test. first test (sides_after (widened plan) s.side)) (called_on-same plan omitted given narrow none)
    ∙ sides-same (is_called_on plan given) s.side low (never-called plan given 3 narrow (omega arith)) (never-called plan given 4 narrow (omega arith))
    ∙ ap (λ n. first (is_called_on plan given) (run_from (s.side + 1) (n - s.side) ++ run_from 1 (s.side - 1))) (sym narrow.side_count))
side_sought-same plan s omitted given (Some target) narrow none low =
    rw (targeted-same plan target narrow) (side_of_or-same plan (first (is_targeted plan target) (phases plan)) s.side)

pub target_side-same : (plan : Plan) (s : State) (omitted : ℕ → Bool) (given : Given) → IsNarrow plan →
    IsBeyondNarrow given.callable false → s.side ≤ 2 →
    target_side (widened plan) s (wide_given omitted given) ≡ target_side plan s given
unfolding target_side
target_side-same plan s omitted given narrow none low = side_sought-same plan s omitted given given.target narrow none low

-- ## What the rings commit to for it

may_enter-same : (plan : Plan) (omitted : ℕ → Bool) (given : Given) (d : ℕ) (r : Ring) (q : ℕ) → IsNarrow plan →
    IsSameOnNarrow omitted given.omitted →
    may_enter (widened plan) (wide_given omitted given) d r q ≡ may_enter plan given d r q
may_enter-same plan omitted given d r q narrow agree = fun_ext (λ p. at p)
  where
    at : (p : ℕ) → may_enter (widened plan) (wide_given omitted given) d r q p ≡ may_enter plan given d r q p
    at p = elim (cases_Bool (in_ring plan r p)) [
      | inl on ↦ rw (agree p (in_ring-narrow plan r p narrow on)) refl
      | inr off ↦ rw off refl
    ]

dual-same : (plan : Plan) (omitted : ℕ → Bool) (given : Given) (d : ℕ) (r : Ring) (o : Option ℕ) → IsNarrow plan →
    IsSameOnNarrow omitted given.omitted →
    dual (widened plan) (wide_given omitted given) d r o ≡ dual plan given d r o
dual-same plan omitted given d r None narrow agree = refl
dual-same plan omitted given d r (Some q) narrow agree =
    ap (λ test. first test (given.sequence r ++ zeros)) (may_enter-same plan omitted given d r q narrow agree)
    ∙ first-behind (may_enter plan given d r q) (given.sequence r) zeros (rw (not-in_ring plan r 0 narrow refl) refl) refl

called_in_ring_1-same : (plan : Plan) (omitted : ℕ → Bool) (given : Given) (d : ℕ) → IsNarrow plan →
    called_in_ring_1 (widened plan) (wide_given omitted given) d ≡ called_in_ring_1 plan given d
called_in_ring_1-same plan omitted given d narrow =
    first-behind (is_called_in plan given d Ring1) (given.sequence Ring1) zeros (rw (not-in_ring plan Ring1 0 narrow refl) refl) refl

called_in_ring_2-same : (plan : Plan) (omitted : ℕ → Bool) (given : Given) (d : ℕ) → IsNarrow plan →
    called_in_ring_2 (widened plan) (wide_given omitted given) d ≡ called_in_ring_2 plan given d
called_in_ring_2-same plan omitted given d narrow =
    ap (λ test. first test (given.sequence Ring2 ++ zeros)) (fun_ext (λ p. at p))
    ∙ first-behind (λ p. is_called_in plan given d Ring2 p && concurrent_with plan p (called_in_ring_1 plan given d)) (given.sequence Ring2) zeros
    (rw (not-in_ring plan Ring2 0 narrow refl) refl) refl
  where
    at : (p : ℕ) → (is_called_in (widened plan) (wide_given omitted given) d Ring2 p
        && concurrent_with (widened plan) p (called_in_ring_1 (widened plan) (wide_given omitted given) d))
        ≡ (is_called_in plan given d Ring2 p && concurrent_with plan p (called_in_ring_1 plan given d))
    at p = rw (called_in_ring_1-same plan omitted given d narrow, concurrent_with-same plan p (called_in_ring_1 plan given d)) refl

entry_by_calls-same : (plan : Plan) (omitted : ℕ → Bool) (given : Given) (d : ℕ) (r : Ring) → IsNarrow plan →
    IsSameOnNarrow omitted given.omitted →
    entry_by_calls (widened plan) (wide_given omitted given) d r ≡ entry_by_calls plan given d r
entry_by_calls-same plan omitted given d Ring1 narrow agree =
    ap₂ or_else (called_in_ring_1-same plan omitted given d narrow)
    (rw (called_in_ring_2-same plan omitted given d narrow) (dual-same plan omitted given d Ring1 (called_in_ring_2 plan given d) narrow agree))
entry_by_calls-same plan omitted given d Ring2 narrow agree =
    ap₂ or_else (called_in_ring_2-same plan omitted given d narrow)
    (rw (called_in_ring_1-same plan omitted given d narrow) (dual-same plan omitted given d Ring2 (called_in_ring_1 plan given d) narrow agree))

entry_for-same : (plan : Plan) (s : State) (omitted : ℕ → Bool) (given : Given) (r : Ring) (o : Option (ℕ → Bool)) → IsNarrow plan →
    IsBeyondNarrow given.callable false → IsSameOnNarrow omitted given.omitted → s.side ≤ 2 →
    entry_for (widened plan) s (wide_given omitted given) r o ≡ entry_for plan s given r o
entry_for-same plan s omitted given r None narrow none agree low =
    rw (target_side-same plan s omitted given narrow none low) (entry_by_calls-same plan omitted given (target_side plan s given) r narrow agree)
entry_for-same plan s omitted given r (Some target) narrow none agree low =
    first-same plan (λ p. in_ring plan r p && is_targeted plan target p) (λ p. in_ring plan r p && is_targeted plan target p) narrow
    (λ p in_it. refl) (λ p out. rw (not-in_ring plan r p narrow (beyond-narrow p out)) refl)

entry-same : (plan : Plan) (s : State) (omitted : ℕ → Bool) (given : Given) (r : Ring) → IsNarrow plan →
    IsBeyondNarrow given.callable false → IsSameOnNarrow omitted given.omitted → s.side ≤ 2 →
    entry (widened plan) s (wide_given omitted given) r ≡ entry plan s given r
unfolding entry
entry-same plan s omitted given r narrow none agree low = entry_for-same plan s omitted given r given.target narrow none agree low

pub committed-same : (plan : Plan) (s : State) (omitted : ℕ → Bool) (given : Given) (r : Ring) → IsNarrow plan →
    IsBeyondNarrow given.callable false → IsSameOnNarrow omitted given.omitted → s.side ≤ 2 →
    committed (widened plan) s (wide_given omitted given) r ≡ committed plan s given r
unfolding committed
committed-same plan s omitted given r narrow none agree low =
    rw (
      begins-same plan s omitted given narrow none,
      entry-same plan s omitted given r narrow none agree low,
      serving-same plan omitted given r narrow,
      pick-same plan s omitted given r narrow none,
    ) refl
