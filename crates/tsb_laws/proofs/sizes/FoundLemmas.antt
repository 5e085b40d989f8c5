-- What a tick finds of detectors, calls and preempts, where those that a plan has not do nothing.
use Rattle.std.proofs.Common.{◌≡◌, ℕ, Bool, ◌||◌, ◌&&◌, Option, option_map, refl, ap, ap₂, ◌∙◌}
use Rattle.tsb_step.specs.tsb_types.declared.row.Row.{Row}
use Rattle.tsb_step.specs.tsb_plan.Plan.{Plan}
use Rattle.tsb_step.specs.tsb_calls.Callable as called
use Rattle.tsb_step.specs.tsb_calls.Memories as calls
use Rattle.tsb_step.specs.tsb_calls.Settled as settled
use Rattle.tsb_step.specs.tsb_phase.Phase as phase
use Rattle.tsb_step.specs.tsb_preempt.Preempts as preempts
use Rattle.tsb_step.specs.tsb_preempt.Service.{Service}
use Rattle.tsb_step.specs.State.{State}
use Rattle.tsb_step.specs.Tick as tick
use Rattle.tsb_laws.specs.Sizes.{IsOfFewer, full, full_state}
use Rattle.tsb_laws.proofs.sizes.CallLemmas.{has_conflict-same, is_callable-same, counted-same, has_output-same, pedestrian_memory-same, vehicle_memory-same}
use Rattle.tsb_laws.proofs.sizes.PhaseLemmas.{is_over-same, red_revert_passed-same}
use Rattle.tsb_laws.proofs.sizes.PreemptLemmas.{dwell_ends-same}
use Rattle.tsb_laws.proofs.sizes.PreemptLemmas as preempt

-- ## Of a plan

module _ (plan : Plan) (few : IsOfFewer plan) where
  as_set-same : (given : calls.Given) (w : calls.Memories) → calls.as_set (full plan) given w ≡ calls.as_set plan given w
  as_set-same given w = rw (vehicle_memory-same plan few, pedestrian_memory-same plan few, counted-same plan few) refl

  pedestrian_call-same : (given : calls.Given) (w : calls.Memories) (p : ℕ) →
      settled.pedestrian_call (full plan) given w p ≡ settled.pedestrian_call plan given w p
  pedestrian_call-same given w p =
      ap (λ (m : calls.Memories). called.has_pedestrian_call plan given m p) (as_set-same given w)

  pub next_preempts-same : (given : preempts.Given) (was : preempts.Preempts) →
      preempts.next (full plan) given was ≡ preempts.next plan given was
  next_preempts-same given was =
      ap₂ (λ (f : ℕ → Bool) (o : Option Service). record (preempts.next plan given was) {
        spent = λ n. preempts.still_spent given (preempts.as_read was) n || (f n && preempts.has_input given (preempts.as_read was) n);
        service = o;
      })
      (ap (λ (f : preempts.Given → preempts.Preempts → ℕ → Bool). f given (preempts.as_read was)) (dwell_ends-same plan few))
      (ap (λ (f : preempts.Given → preempts.Preempts → Option Service). f given (preempts.as_read was)) (preempt.new_service-same plan few))

-- ## Of a tick

module _ (s : State) (row : Row) (few : IsOfFewer s.plan) where
  pub new_detectors-same : tick.new_detectors (full_state s) row ≡ tick.new_detectors s row
  unfolding tick.new_detectors
  new_detectors-same = refl

  pub new_service-same : tick.new_service (full_state s) row ≡ tick.new_service s row
  unfolding tick.new_service
  new_service-same =
      ap (λ (f : preempts.Given → preempts.Preempts → Option Service). f (tick.preempts_given s row) (tick.preempts_read s))
      (preempt.new_service-same s.plan few)

  -- as the layer of preempts finds it
  found_service-same : preempts.new_service (full s.plan) (tick.preempts_given s row) (tick.preempts_read s)
      ≡ preempts.new_service s.plan (tick.preempts_given s row) (tick.preempts_read s)
  found_service-same =
      ap (λ (f : preempts.Given → preempts.Preempts → Option Service). f (tick.preempts_given s row) (tick.preempts_read s))
      (preempt.new_service-same s.plan few)

  pub service-same : tick.service (full_state s) row ≡ tick.service s row
  service-same = ap (λ (o : Option Service). option_map (λ (x : Service). x.preempt) o) new_service-same

  pub target-same : tick.target (full_state s) row ≡ tick.target s row
  target-same = ap (λ (o : Option Service). preempts.wanted_by s.plan o) found_service-same

  pub must_end-same : (p : ℕ) → tick.must_end (full_state s) row p ≡ tick.must_end s row p
  must_end-same p = ap (λ (t : Option (ℕ → Bool)). preempts.is_outside t p) target-same

  pub calls_given-same : tick.calls_given (full_state s) row ≡ tick.calls_given s row
  calls_given-same = rw (new_detectors-same, preempt.new_service-same s.plan few) refl

  set-same : tick.set (full_state s) row ≡ tick.set s row
  set-same =
      as_set-same s.plan few (tick.calls_given (full_state s) row) s.memories
      ∙ ap (λ (g : calls.Given). calls.as_set s.plan g s.memories) calls_given-same

  pub output-same : (p : ℕ) → calls.has_output (full s.plan) (tick.calls_given (full_state s) row) p ≡ calls.has_output s.plan (tick.calls_given s row) p
  output-same p =
      ap (λ (f : calls.Given → ℕ → Bool). f (tick.calls_given (full_state s) row) p) (has_output-same s.plan few)
      ∙ ap (λ (g : calls.Given). calls.has_output s.plan g p) calls_given-same

  pub callable-same : (p : ℕ) → tick.callable (full_state s) row p ≡ tick.callable s row p
  callable-same p =
      ap (λ (f : calls.Given → calls.Memories → ℕ → Bool). f (tick.calls_given (full_state s) row) (tick.set (full_state s) row) p) (is_callable-same s.plan few)
      ∙ ap₂ (λ (g : calls.Given) (m : calls.Memories). called.is_callable s.plan g m p) calls_given-same set-same

  pub conflict-same : (p : ℕ) → tick.conflict (full_state s) row p ≡ tick.conflict s row p
  conflict-same p =
      ap (λ (f : calls.Given → calls.Memories → ℕ → Bool). f (tick.calls_given (full_state s) row) (tick.set (full_state s) row) p) (has_conflict-same s.plan few)
      ∙ ap₂ (λ (g : calls.Given) (m : calls.Memories). called.has_conflict s.plan g m p) calls_given-same set-same

  pub walk_call-same : (p : ℕ) → tick.pedestrian_call (full_state s) row p ≡ tick.pedestrian_call s row p
  walk_call-same p =
      pedestrian_call-same s.plan few (tick.calls_given (full_state s) row) s.memories p
      ∙ ap (λ (g : calls.Given). settled.pedestrian_call s.plan g s.memories p) calls_given-same

  pub count-same : (p : ℕ) → (tick.set (full_state s) row).count p ≡ (tick.set s row).count p
  count-same p = ap (λ (m : calls.Memories). m.count p) set-same

  pub over-same : (p : ℕ) → tick.over (full_state s) p ≡ tick.over s p
  over-same p = ap (λ (f : ℕ → phase.Phase → Bool). f p (tick.phase_read s p)) (is_over-same s.plan)

  pub reverted-same : (p : ℕ) → tick.reverted (full_state s) p ≡ tick.reverted s p
  reverted-same p = ap (λ (f : ℕ → phase.Phase → Bool). f p (tick.phase_read s p)) (red_revert_passed-same s.plan)
