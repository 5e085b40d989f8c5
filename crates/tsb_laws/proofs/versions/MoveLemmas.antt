-- The rings make the same moves on the wide plan.
use Rattle.std.proofs.Common.{◌≡◌, ℕ, ◌≤◌, Bool, false, ◌&&◌, Option, Some, None, refl, ap₂}
use Rattle.std.proofs.Math.Path.{fun_ext}
use Rattle.tsb_step.specs.tsb_types.Intervals.{is_green}
use Rattle.tsb_step.specs.tsb_plan.Plan.{Plan}
use Rattle.tsb_step.specs.tsb_ring.Rings.{Ring, Ring1, Ring2, other, State, Given, own_ring, serving}
use Rattle.tsb_step.specs.tsb_ring.Next.{is_none_or_over, makes_way, may_start, completes, start_now, starting, ends, clears, new_last, new_commitment, new_side, new_crossing, next}
use Rattle.tsb_step.specs.tsb_ring.Moves.{if_passes, ring_moves, moves}
use Rattle.tsb_laws.specs.Widened.{IsNarrow, widened}
use Rattle.tsb_laws.proofs.versions.ListLemmas.{IsSameOnNarrow, IsBeyondNarrow}
use Rattle.tsb_laws.proofs.versions.WantLemmas.{wide_given, serving-same, want_of-same, pick-same}
use Rattle.tsb_laws.proofs.versions.CrossingLemmas.{begins-same, target_side-same, committed-same}

-- ## Starts

none_or_over-same : (omitted : ℕ → Bool) (given : Given) (o : Option ℕ) → is_none_or_over (wide_given omitted given) o ≡ is_none_or_over given o
none_or_over-same omitted given None = refl
none_or_over-same omitted given (Some q) = refl

makes_way-same : (plan : Plan) (omitted : ℕ → Bool) (given : Given) (c : ℕ) (o : Option ℕ) →
    makes_way (widened plan) (wide_given omitted given) c o ≡ makes_way plan given c o
makes_way-same plan omitted given c None = refl
makes_way-same plan omitted given c (Some q) = refl

may_start-same : (plan : Plan) (omitted : ℕ → Bool) (given : Given) (r : Ring) (o : Option ℕ) → IsNarrow plan →
    may_start (widened plan) (wide_given omitted given) r o ≡ may_start plan given r o
may_start-same plan omitted given r None narrow =
    rw (serving-same plan omitted given r narrow) (none_or_over-same omitted given (serving plan given r))
may_start-same plan omitted given r (Some c) narrow =
    rw (
      serving-same plan omitted given r narrow,
      serving-same plan omitted given (other r) narrow,
      none_or_over-same omitted given (serving plan given r),
      makes_way-same plan omitted given c (serving plan given (other r)),
    ) refl

completes-same : (plan : Plan) (s : State) (omitted : ℕ → Bool) (given : Given) → IsNarrow plan →
    completes (widened plan) s (wide_given omitted given) ≡ completes plan s given
unfolding completes
completes-same plan s omitted given narrow =
    rw (may_start-same plan omitted given Ring1 (s.commitment Ring1) narrow, may_start-same plan omitted given Ring2 (s.commitment Ring2) narrow) refl

start_now-same : (plan : Plan) (s : State) (omitted : ℕ → Bool) (given : Given) (r : Ring) (o : Option ℕ) → IsNarrow plan →
    IsBeyondNarrow given.callable false →
    start_now (widened plan) s (wide_given omitted given) r o ≡ start_now plan s given r o
start_now-same plan s omitted given r None narrow none =
    rw (serving-same plan omitted given r narrow, pick-same plan s omitted given r narrow none) refl
start_now-same plan s omitted given r (Some c) narrow none =
    rw (completes-same plan s omitted given narrow, may_start-same plan omitted given r (Some c) narrow) refl

starting-same : (plan : Plan) (s : State) (omitted : ℕ → Bool) (given : Given) (r : Ring) → IsNarrow plan →
    IsBeyondNarrow given.callable false →
    starting (widened plan) s (wide_given omitted given) r ≡ starting plan s given r
unfolding starting
starting-same plan s omitted given r narrow none = start_now-same plan s omitted given r (s.commitment r) narrow none

-- ## Ends

ends-same : (plan : Plan) (s : State) (omitted : ℕ → Bool) (given : Given) (p : ℕ) → IsNarrow plan → IsBeyondNarrow given.callable false →
    ends (widened plan) s (wide_given omitted given) p ≡ ends plan s given p
unfolding ends
ends-same plan s omitted given p narrow none =
    rw (begins-same plan s omitted given narrow none, want_of-same plan s omitted given (own_ring plan p) narrow none) refl

clears-same : (plan : Plan) (s : State) (omitted : ℕ → Bool) (given : Given) (p : ℕ) → IsNarrow plan → IsBeyondNarrow given.callable false →
    IsSameOnNarrow omitted given.omitted → s.side ≤ 2 →
    clears (widened plan) s (wide_given omitted given) p ≡ clears plan s given p
unfolding clears
clears-same plan s omitted given p narrow none agree low =
    rw (
      committed-same plan s omitted given (own_ring plan p) narrow none agree low,
      starting-same plan s omitted given (own_ring plan p) narrow none,
    ) refl

-- ## The rings after a tick

pub rings-same : (plan : Plan) (s : State) (omitted : ℕ → Bool) (given : Given) → IsNarrow plan → IsBeyondNarrow given.callable false →
    IsSameOnNarrow omitted given.omitted → s.side ≤ 2 →
    next (widened plan) s (wide_given omitted given) ≡ next plan s given
unfolding next new_last new_commitment new_side new_crossing
rings-same plan s omitted given narrow none agree low =
    rw (
      fun_ext (λ r. last r),
      fun_ext (λ r. commitment r),
      begins-same plan s omitted given narrow none,
      target_side-same plan s omitted given narrow none low,
      completes-same plan s omitted given narrow,
    ) refl
  where
    last : (r : Ring) → new_last (widened plan) s (wide_given omitted given) r ≡ new_last plan s given r
    last r = rw (starting-same plan s omitted given r narrow none, completes-same plan s omitted given narrow) refl

    commitment : (r : Ring) → new_commitment (widened plan) s (wide_given omitted given) r ≡ new_commitment plan s given r
    commitment r = rw (starting-same plan s omitted given r narrow none, committed-same plan s omitted given r narrow none agree low) refl

-- ## The moves

ring_moves-same : (plan : Plan) (s : State) (omitted : ℕ → Bool) (given : Given) (r : Ring) → IsNarrow plan →
    IsBeyondNarrow given.callable false → IsSameOnNarrow omitted given.omitted → s.side ≤ 2 →
    ring_moves (widened plan) s (wide_given omitted given) r ≡ ring_moves plan s given r
ring_moves-same plan s omitted given r narrow none agree low =
    rw (endings, clearings, starting-same plan s omitted given r narrow none, committed-same plan s omitted given r narrow none agree low) refl
  where
    endings : if_passes (λ p. is_green (given.interval p) && ends (widened plan) s (wide_given omitted given) p)
        (serving (widened plan) (wide_given omitted given) r)
        ≡ if_passes (λ p. is_green (given.interval p) && ends plan s given p) (serving plan given r)
    endings = ap₂ if_passes (fun_ext (λ p. rw (ends-same plan s omitted given p narrow none) refl)) (serving-same plan omitted given r narrow)

    clearings : if_passes (clears (widened plan) s (wide_given omitted given)) (serving (widened plan) (wide_given omitted given) r)
        ≡ if_passes (clears plan s given) (serving plan given r)
    clearings = ap₂ if_passes (fun_ext (λ p. clears-same plan s omitted given p narrow none agree low)) (serving-same plan omitted given r narrow)

pub moves-same : (plan : Plan) (s : State) (omitted : ℕ → Bool) (given : Given) → IsNarrow plan → IsBeyondNarrow given.callable false →
    IsSameOnNarrow omitted given.omitted → s.side ≤ 2 →
    moves (widened plan) s (wide_given omitted given) ≡ moves plan s given
unfolding moves
moves-same plan s omitted given narrow none agree low =
    rw (
      ring_moves-same plan s omitted given Ring1 narrow none agree low,
      ring_moves-same plan s omitted given Ring2 narrow none agree low,
      begins-same plan s omitted given narrow none,
      target_side-same plan s omitted given narrow none low,
      completes-same plan s omitted given narrow,
    ) refl
