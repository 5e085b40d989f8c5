-- Preempts do the same on the wide plan.
use Rattle.std.proofs.Common.{◌≡◌, ℕ, Bool, true, false, not, ◌||◌, Option, Some, None, refl, ap}
use Rattle.std.proofs.Math.Path.{fun_ext}
use Rattle.tsb_step.specs.tsb_types.declared.interval.Interval.{Interval}
use Rattle.tsb_step.specs.tsb_types.declared.stage.Stage.{Stage}
use Rattle.tsb_step.specs.tsb_types.declared.stage.Stage.TheVariants.{Track, Dwell, Exit}
use Rattle.tsb_step.specs.tsb_types.Intervals.{is_green}
use Rattle.tsb_step.specs.tsb_plan.declared.object.Object.TheVariants.{PreemptTrackPhase, PreemptExitPhase}
use Rattle.tsb_step.specs.tsb_plan.Plan.{Plan}
use Rattle.tsb_step.specs.tsb_plan.Parts.{is_track_phase, is_exit_phase}
use Rattle.tsb_step.specs.tsb_preempt.Service.{Service, stage_phases, all_green, track_timer, stage_after, with_stage, moved}
use Rattle.tsb_step.specs.tsb_preempt.Preempts.{Preempts, Given, as_read, has_input, requesting, beginning, going_on, service_by, new_service, dwell_ends_of, dwell_ends, new_spent, service_ended, wanted_by, target, must_end, next}
use Rattle.tsb_laws.specs.Widened.{IsNarrow, widened}
use Rattle.tsb_laws.proofs.versions.ListLemmas.{is_beyond}
use Rattle.tsb_laws.proofs.versions.PlanLemmas.{all-same, names-none}

-- ## The service of one preempt

all_green-same : (plan : Plan) (interval : ℕ → Interval) (list : ℕ → Bool) → IsNarrow plan →
    ((p : ℕ) → is_beyond p ≡ true → list p ≡ false) → all_green (widened plan) interval list ≡ all_green plan interval list
unfolding all_green
all_green-same plan interval list narrow none =
    all-same plan (λ p. not (list p) || is_green (interval p)) (λ p. not (list p) || is_green (interval p)) narrow
    (λ p in_it. refl) (λ p out. rw (none p out) refl)

track-same : (plan : Plan) (interval : ℕ → Interval) (n : ℕ) → IsNarrow plan →
    all_green (widened plan) interval (is_track_phase plan n) ≡ all_green plan interval (is_track_phase plan n)
track-same plan interval n narrow =
    all_green-same plan interval (is_track_phase plan n) narrow
    (λ p out. names-none (plan.value PreemptTrackPhase n) p (narrow.bounded PreemptTrackPhase n) out)

exit-same : (plan : Plan) (interval : ℕ → Interval) (n : ℕ) → IsNarrow plan →
    all_green (widened plan) interval (is_exit_phase plan n) ≡ all_green plan interval (is_exit_phase plan n)
exit-same plan interval n narrow =
    all_green-same plan interval (is_exit_phase plan n) narrow
    (λ p out. names-none (plan.value PreemptExitPhase n) p (narrow.bounded PreemptExitPhase n) out)

track_timer-same : (plan : Plan) (interval : ℕ → Interval) (s : Service) → IsNarrow plan →
    track_timer (widened plan) interval s ≡ track_timer plan interval s
track_timer-same plan interval s narrow = rw (track-same plan interval s.preempt narrow) refl

stage_after-same : (plan : Plan) (interval : ℕ → Interval) (input : Bool) (s : Service) (stage : Stage) → IsNarrow plan →
    stage_after (widened plan) interval input s stage ≡ stage_after plan interval input s stage
stage_after-same plan interval input s Track narrow = rw (track-same plan interval s.preempt narrow) refl
stage_after-same plan interval input s Dwell narrow = refl
stage_after-same plan interval input s Exit narrow = rw (exit-same plan interval s.preempt narrow) refl

with_stage-same : (plan : Plan) (interval : ℕ → Interval) (s : Service) (o : Option Stage) → IsNarrow plan →
    with_stage (widened plan) interval s o ≡ with_stage plan interval s o
with_stage-same plan interval s None narrow = refl
with_stage-same plan interval s (Some stage) narrow = rw (track_timer-same plan interval s narrow) refl

moved-same : (plan : Plan) (interval : ℕ → Interval) (input : Bool) (s : Service) → IsNarrow plan →
    moved (widened plan) interval input s ≡ moved plan interval input s
moved-same plan interval input s narrow =
    rw (stage_after-same plan interval input s s.stage narrow)
    (with_stage-same plan interval s (stage_after plan interval input s s.stage) narrow)

-- ## Which preempt is served

pub beginning-same : (plan : Plan) (given : Given) (w : Preempts) → beginning (widened plan) given w ≡ beginning plan given w
unfolding beginning requesting
beginning-same plan given w = refl

going_on-same : (plan : Plan) (given : Given) (w : Preempts) (was : Option Service) → IsNarrow plan →
    going_on (widened plan) given w was ≡ going_on plan given w was
going_on-same plan given w None narrow = refl
going_on-same plan given w (Some s) narrow = moved-same plan given.interval (has_input given w s.preempt) s narrow

service_by-same : (plan : Plan) (given : Given) (w : Preempts) (o : Option ℕ) → IsNarrow plan →
    service_by (widened plan) given w o ≡ service_by plan given w o
service_by-same plan given w None narrow = going_on-same plan given w w.service narrow
service_by-same plan given w (Some m) narrow = refl

pub new_service-same : (plan : Plan) (given : Given) (w : Preempts) → IsNarrow plan →
    new_service (widened plan) given w ≡ new_service plan given w
unfolding new_service
new_service-same plan given w narrow =
    rw (beginning-same plan given w) (service_by-same plan given w (beginning plan given w) narrow)

dwell_ends_of-same : (plan : Plan) (given : Given) (w : Preempts) (o : Option Service) (n : ℕ) →
    dwell_ends_of (widened plan) given w o n ≡ dwell_ends_of plan given w o n
dwell_ends_of-same plan given w None n = refl
dwell_ends_of-same plan given w (Some s) n = refl

dwell_ends-same : (plan : Plan) (given : Given) (w : Preempts) (n : ℕ) → dwell_ends (widened plan) given w n ≡ dwell_ends plan given w n
unfolding dwell_ends
dwell_ends-same plan given w n = rw (beginning-same plan given w, dwell_ends_of-same plan given w w.service n) refl

-- ## What it asks of the phases

stage_phases-same : (plan : Plan) (n : ℕ) (stage : Stage) → stage_phases (widened plan) n stage ≡ stage_phases plan n stage
stage_phases-same plan n Track = refl
stage_phases-same plan n Dwell = refl
stage_phases-same plan n Exit = refl

wanted_by-same : (plan : Plan) (o : Option Service) → wanted_by (widened plan) o ≡ wanted_by plan o
wanted_by-same plan None = refl
wanted_by-same plan (Some s) = ap Some (stage_phases-same plan s.preempt s.stage)

pub target-same : (plan : Plan) (given : Given) (w : Preempts) → IsNarrow plan → target (widened plan) given w ≡ target plan given w
target-same plan given w narrow = rw (new_service-same plan given w narrow) (wanted_by-same plan (new_service plan given w))

pub must_end-same : (plan : Plan) (given : Given) (w : Preempts) → IsNarrow plan → must_end (widened plan) given w ≡ must_end plan given w
must_end-same plan given w narrow = fun_ext (λ p. rw (target-same plan given w narrow) refl)

pub service_ended-same : (plan : Plan) (given : Given) (w : Preempts) → IsNarrow plan →
    service_ended (widened plan) given w ≡ service_ended plan given w
service_ended-same plan given w narrow = rw (new_service-same plan given w narrow) refl

-- ## The preempts after a tick

new_spent-same : (plan : Plan) (given : Given) (w : Preempts) → new_spent (widened plan) given w ≡ new_spent plan given w
new_spent-same plan given w = fun_ext (λ n. rw (dwell_ends-same plan given w n) refl)

pub preempts-same : (plan : Plan) (given : Given) (was : Preempts) → IsNarrow plan → next (widened plan) given was ≡ next plan given was
preempts-same plan given was narrow =
    rw (new_spent-same plan given (as_read was), new_service-same plan given (as_read was) narrow) refl
