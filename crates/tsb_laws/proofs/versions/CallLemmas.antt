-- Calls are the same on the wide plan, where orders are the same of phases 1 to 8.
use Rattle.std.proofs.Common.{◌≡◌, ℕ, ◌==◌, Bool, true, false, not, ◌&&◌, Option, is_some, refl, ap, inl, inr}
use Rattle.std.proofs.Math.Path.{fun_ext}
use Rattle.std.proofs.lemmas.Bool.{cases_Bool}
use Rattle.tsb_step.specs.tsb_plan.Plan.{Plan, is_enabled, is_concurrent}
use Rattle.tsb_step.specs.tsb_calls.Memories.{Memories, Given, has_output, actuations, has_button, vehicle_memory, pedestrian_memory, counted, as_set}
use Rattle.tsb_step.specs.tsb_calls.Callable.{has_pedestrian_call, is_called, is_callable_otherwise, some_is_callable_otherwise, is_callable, has_conflict}
use Rattle.tsb_step.specs.tsb_calls.Settled.{Done, next}
use Rattle.tsb_laws.specs.Widened.{IsNarrow, widened}
use Rattle.tsb_laws.proofs.versions.ListLemmas.{is_narrow, IsSameOnNarrow}
use Rattle.tsb_laws.proofs.versions.PlanLemmas.{first-same, beyond-narrow, not-enabled, enabled-narrow}
use Rattle.tsb_laws.proofs.versions.CoordLemmas.{minimum_recall-same, maximum_recall-same, pedestrian_recall-same}

-- what the calls of the wide plan are given: other phases may be omitted, beyond the eighth
abbrev pub wide_given : (ℕ → Bool) → Given → Given
wide_given omitted given = record given { omitted = omitted }

-- ## Memories

pub as_set-same : (plan : Plan) (omitted : ℕ → Bool) (given : Given) (w : Memories) →
    as_set (widened plan) (wide_given omitted given) w ≡ as_set plan given w
unfolding has_output actuations has_button vehicle_memory pedestrian_memory counted
as_set-same plan omitted given w = refl

pub has_output-same : (plan : Plan) (omitted : ℕ → Bool) (given : Given) (p : ℕ) →
    has_output (widened plan) (wide_given omitted given) p ≡ has_output plan given p
unfolding has_output
has_output-same plan omitted given p = refl

-- ## Calls

pub has_pedestrian_call-same : (plan : Plan) (omitted : ℕ → Bool) (given : Given) (m : Memories) (p : ℕ) → IsNarrow plan →
    has_pedestrian_call (widened plan) (wide_given omitted given) m p ≡ has_pedestrian_call plan given m p
has_pedestrian_call-same plan omitted given m p narrow =
    elim (cases_Bool (is_enabled plan p)) [
      | inl on ↦ rw (pedestrian_recall-same plan given.runs p narrow (enabled-narrow plan p narrow on)) refl
      | inr off ↦ rw off refl
    ]

is_called-same : (plan : Plan) (omitted : ℕ → Bool) (given : Given) (m : Memories) (p : ℕ) → IsNarrow plan → is_narrow p ≡ true →
    is_called (widened plan) (wide_given omitted given) m p ≡ is_called plan given m p
is_called-same plan omitted given m p narrow in_it =
    rw (
      has_pedestrian_call-same plan omitted given m p narrow,
      has_output-same plan omitted given p,
      minimum_recall-same plan given.runs p narrow in_it,
      maximum_recall-same plan given.runs p narrow in_it,
    ) refl

otherwise-same : (plan : Plan) (omitted : ℕ → Bool) (given : Given) (m : Memories) (p : ℕ) → IsNarrow plan →
    IsSameOnNarrow omitted given.omitted →
    is_callable_otherwise (widened plan) (wide_given omitted given) m p ≡ is_callable_otherwise plan given m p
otherwise-same plan omitted given m p narrow agree =
    elim (cases_Bool (is_enabled plan p)) [
      | inl on ↦ (let in_it : is_narrow p ≡ true = enabled-narrow plan p narrow on in
          rw (is_called-same plan omitted given m p narrow in_it, agree p in_it) refl)
      | inr off ↦ rw off refl
    ]

some_otherwise-same : (plan : Plan) (omitted : ℕ → Bool) (given : Given) (m : Memories) → IsNarrow plan →
    IsSameOnNarrow omitted given.omitted →
    some_is_callable_otherwise (widened plan) (wide_given omitted given) m ≡ some_is_callable_otherwise plan given m
some_otherwise-same plan omitted given m narrow agree =
    ap (λ (o : Option ℕ). is_some o)
    (first-same plan (is_callable_otherwise (widened plan) (wide_given omitted given) m) (is_callable_otherwise plan given m) narrow
    (λ p in_it. otherwise-same plan omitted given m p narrow agree)
    (λ p out. rw (not-enabled plan p narrow (beyond-narrow p out)) refl))

pub is_callable-same : (plan : Plan) (omitted : ℕ → Bool) (given : Given) (m : Memories) (p : ℕ) → IsNarrow plan →
    IsSameOnNarrow omitted given.omitted →
    is_callable (widened plan) (wide_given omitted given) m p ≡ is_callable plan given m p
unfolding is_callable
is_callable-same plan omitted given m p narrow agree =
    elim (cases_Bool (is_enabled plan p)) [
      | inl on ↦ rw (
        otherwise-same plan omitted given m p narrow agree,
        some_otherwise-same plan omitted given m narrow agree,
        agree p (enabled-narrow plan p narrow on),
      ) refl
      | inr off ↦ rw off refl
    ]

pub not-callable : (plan : Plan) (given : Given) (m : Memories) (p : ℕ) → IsNarrow plan → is_narrow p ≡ false →
    is_callable plan given m p ≡ false
unfolding is_callable
not-callable plan given m p narrow out = rw (not-enabled plan p narrow out) refl

pub has_conflict-same : (plan : Plan) (omitted : ℕ → Bool) (given : Given) (m : Memories) (p : ℕ) → IsNarrow plan →
    IsSameOnNarrow omitted given.omitted →
    has_conflict (widened plan) (wide_given omitted given) m p ≡ has_conflict plan given m p
unfolding has_conflict
has_conflict-same plan omitted given m p narrow agree =
    ap (λ (o : Option ℕ). is_some o)
    (first-same plan
    (λ q. is_callable (widened plan) (wide_given omitted given) m q && (not (q == p) && not (is_concurrent plan p q)))
    (λ q. is_callable plan given m q && (not (q == p) && not (is_concurrent plan p q))) narrow
    (λ q in_it. rw (is_callable-same plan omitted given m q narrow agree) refl)
    (λ q out. rw (is_callable-same plan omitted given m q narrow agree, not-callable plan given m q narrow (beyond-narrow q out)) refl))

-- ## The memories after a tick

pub memories-same : (plan : Plan) (omitted : ℕ → Bool) (given : Given) (done : Done) (w : Memories) → IsNarrow plan →
    next (widened plan) (wide_given omitted given) done w ≡ next plan given done w
unfolding has_output actuations has_button vehicle_memory pedestrian_memory counted
memories-same plan omitted given done w narrow =
    let walks : has_pedestrian_call (widened plan) (wide_given omitted given) (as_set plan given w)
    ≡ has_pedestrian_call plan given (as_set plan given w) =
    fun_ext (λ p. has_pedestrian_call-same plan omitted given (as_set plan given w) p narrow) in
    rw walks refl
