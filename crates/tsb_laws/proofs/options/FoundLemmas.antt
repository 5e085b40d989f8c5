-- What a tick finds of detectors, calls and preempts does not see the options.
use Rattle.std.proofs.Common.{◌≡◌, ℕ, Bool, ◌||◌, ◌&&◌, Option, option_map, refl, ap, ap₂, ◌∙◌}
use Rattle.tsb_step.specs.tsb_types.declared.row.Row.{Row}
use Rattle.tsb_step.specs.tsb_plan.declared.object.Object.{Object}
use Rattle.tsb_step.specs.tsb_plan.Plan.{Plan}
use Rattle.tsb_step.specs.tsb_calls.Callable as called
use Rattle.tsb_step.specs.tsb_calls.Memories as calls
use Rattle.tsb_step.specs.tsb_calls.Settled as settled
use Rattle.tsb_step.specs.tsb_phase.Phase as phase
use Rattle.tsb_step.specs.tsb_phase.Ready as timing
use Rattle.tsb_step.specs.tsb_preempt.Preempts as preempts
use Rattle.tsb_step.specs.tsb_preempt.Service.{Service}
use Rattle.tsb_step.specs.State.{State}
use Rattle.tsb_step.specs.Tick as tick
use Rattle.tsb_laws.proofs.options.DifferLemmas.{with_options}
use Rattle.tsb_laws.proofs.options.CallLemmas.{has_conflict-same, is_callable-same, counted-same, has_output-same, pedestrian_memory-same, vehicle_memory-same}
use Rattle.tsb_laws.proofs.options.PhaseLemmas.{gap-same, initial-same, reduction_timer-same, is_over-same, red_revert_passed-same}
use Rattle.tsb_laws.proofs.options.PreemptLemmas.{dwell_ends-same}
use Rattle.tsb_laws.proofs.options.PreemptLemmas as preempt

-- ## Of a plan

module _ (plan : Plan) (v : Object → ℕ → ℕ) where
  as_set-same : (given : calls.Given) (w : calls.Memories) → calls.as_set (with_options plan v) given w ≡ calls.as_set plan given w
  as_set-same given w = rw (vehicle_memory-same plan v, pedestrian_memory-same plan v, counted-same plan v) refl

  pedestrian_call-same : (given : calls.Given) (w : calls.Memories) (p : ℕ) →
      settled.pedestrian_call (with_options plan v) given w p ≡ settled.pedestrian_call plan given w p
  pedestrian_call-same given w p =
      ap (λ (m : calls.Memories). called.has_pedestrian_call plan given m p) (as_set-same given w)

  pub is_gapped-same : (given : phase.Given) (p : ℕ) (w : phase.Phase) →
      timing.is_gapped_now (with_options plan v) given p w ≡ timing.is_gapped_now plan given p w
  is_gapped-same given p w = rw (gap-same plan v, initial-same plan v, reduction_timer-same plan v) refl

  pub next_preempts-same : (given : preempts.Given) (was : preempts.Preempts) →
      preempts.next (with_options plan v) given was ≡ preempts.next plan given was
  next_preempts-same given was =
      ap₂ (λ (f : ℕ → Bool) (o : Option Service). record (preempts.next plan given was) {
        spent = λ n. preempts.still_spent given (preempts.as_read was) n || (f n && preempts.has_input given (preempts.as_read was) n);
        service = o;
      })
      (ap (λ (f : preempts.Given → preempts.Preempts → ℕ → Bool). f given (preempts.as_read was)) (dwell_ends-same plan v))
      (ap (λ (f : preempts.Given → preempts.Preempts → Option Service). f given (preempts.as_read was)) (preempt.new_service-same plan v))

-- ## Of a tick

-- the state with other options in its plan
abbrev pub swapped : State → (Object → ℕ → ℕ) → State
swapped s v = record s { plan = with_options s.plan v }

module _ (s : State) (row : Row) (v : Object → ℕ → ℕ) where
  pub new_detectors-same : tick.new_detectors (swapped s v) row ≡ tick.new_detectors s row
  unfolding tick.new_detectors
  new_detectors-same = refl

  pub new_service-same : tick.new_service (swapped s v) row ≡ tick.new_service s row
  unfolding tick.new_service
  new_service-same =
      ap (λ (f : preempts.Given → preempts.Preempts → Option Service). f (tick.preempts_given s row) (tick.preempts_read s))
      (preempt.new_service-same s.plan v)

  -- as the layer of preempts finds it
  found_service-same : preempts.new_service (with_options s.plan v) (tick.preempts_given s row) (tick.preempts_read s)
      ≡ preempts.new_service s.plan (tick.preempts_given s row) (tick.preempts_read s)
  found_service-same =
      ap (λ (f : preempts.Given → preempts.Preempts → Option Service). f (tick.preempts_given s row) (tick.preempts_read s))
      (preempt.new_service-same s.plan v)

  pub service-same : tick.service (swapped s v) row ≡ tick.service s row
  service-same = ap (λ (o : Option Service). option_map (λ (x : Service). x.preempt) o) new_service-same

  pub target-same : tick.target (swapped s v) row ≡ tick.target s row
  target-same = ap (λ (o : Option Service). preempts.wanted_by s.plan o) found_service-same

  pub must_end-same : (p : ℕ) → tick.must_end (swapped s v) row p ≡ tick.must_end s row p
  must_end-same p = ap (λ (t : Option (ℕ → Bool)). preempts.is_outside t p) target-same

  pub calls_given-same : tick.calls_given (swapped s v) row ≡ tick.calls_given s row
  calls_given-same = rw (new_detectors-same, preempt.new_service-same s.plan v) refl

  set-same : tick.set (swapped s v) row ≡ tick.set s row
  set-same =
      as_set-same s.plan v (tick.calls_given (swapped s v) row) s.memories
      ∙ ap (λ (g : calls.Given). calls.as_set s.plan g s.memories) calls_given-same

  pub output-same : (p : ℕ) → calls.has_output (with_options s.plan v) (tick.calls_given (swapped s v) row) p ≡ calls.has_output s.plan (tick.calls_given s row) p
  output-same p =
      ap (λ (f : calls.Given → ℕ → Bool). f (tick.calls_given (swapped s v) row) p) (has_output-same s.plan v)
      ∙ ap (λ (g : calls.Given). calls.has_output s.plan g p) calls_given-same

  pub callable-same : (p : ℕ) → tick.callable (swapped s v) row p ≡ tick.callable s row p
  callable-same p =
      ap (λ (f : calls.Given → calls.Memories → ℕ → Bool). f (tick.calls_given (swapped s v) row) (tick.set (swapped s v) row) p) (is_callable-same s.plan v)
      ∙ ap₂ (λ (g : calls.Given) (m : calls.Memories). called.is_callable s.plan g m p) calls_given-same set-same

  pub conflict-same : (p : ℕ) → tick.conflict (swapped s v) row p ≡ tick.conflict s row p
  conflict-same p =
      ap (λ (f : calls.Given → calls.Memories → ℕ → Bool). f (tick.calls_given (swapped s v) row) (tick.set (swapped s v) row) p) (has_conflict-same s.plan v)
      ∙ ap₂ (λ (g : calls.Given) (m : calls.Memories). called.has_conflict s.plan g m p) calls_given-same set-same

  pub walk_call-same : (p : ℕ) → tick.pedestrian_call (swapped s v) row p ≡ tick.pedestrian_call s row p
  walk_call-same p =
      pedestrian_call-same s.plan v (tick.calls_given (swapped s v) row) s.memories p
      ∙ ap (λ (g : calls.Given). settled.pedestrian_call s.plan g s.memories p) calls_given-same

  pub count-same : (p : ℕ) → (tick.set (swapped s v) row).count p ≡ (tick.set s row).count p
  count-same p = ap (λ (m : calls.Memories). m.count p) set-same

  pub over-same : (p : ℕ) → tick.over (swapped s v) p ≡ tick.over s p
  over-same p = ap (λ (f : ℕ → phase.Phase → Bool). f p (tick.phase_read s p)) (is_over-same s.plan v)

  pub reverted-same : (p : ℕ) → tick.reverted (swapped s v) p ≡ tick.reverted s p
  reverted-same p = ap (λ (f : ℕ → phase.Phase → Bool). f p (tick.phase_read s p)) (red_revert_passed-same s.plan v)
