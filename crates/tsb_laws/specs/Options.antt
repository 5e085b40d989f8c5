-- What the options of a plan change: nothing, where they are 0. The law here is the contract of a function in
-- src/operation.rt, and proved there. An option is an object whose value 0 is what the controller did before there was
-- that object.
use Rattle.std.specs.Prelude.{◌≡◌, ℕ, ◌+◌, ◌-◌, ◌%◌, ◌==◌, true, false, ◌&&◌, ◌||◌, if◌then◌else◌, Option, Some, None, is_some, is_none}
use Rattle.tsb_step.specs.tsb_cells.Timer.{has_reached}
use Rattle.tsb_step.specs.tsb_plan.declared.object.Object.TheVariants.{CoordForceMode, CoordMaximumMode, PatternPermissiveTime, PatternLeadLag, PhasePedestrianRecycle, CoordCorrectionMode, OverlapAcrossRings, PreemptChoosesAnew, CoordReference}
use Rattle.tsb_step.specs.tsb_plan.Parts.{cycle, offset, leads_and_lags, split_of, sequence_of, is_anew}
use Rattle.tsb_step.specs.tsb_plan.Plan.{Plan, is_enabled, side_of, is_concurrent}
use Rattle.tsb_step.specs.tsb_plan.Running.{running}
use Rattle.tsb_step.specs.tsb_rules.PatternRules.{some_and, each_pattern, split_end, ends_with, coordinated_agree, coordinated_phases_agree, permissive_times_end}
use Rattle.tsb_step.specs.tsb_rules.Rules.{first_broken}
use Rattle.tsb_step.specs.tsb_objects.Instants.{first_coordinated}
use Rattle.tsb_step.specs.tsb_heads.Heads.{Shown}
use Rattle.tsb_step.specs.tsb_heads.Overlaps.{is_followed_in_ring, is_followed}
use Rattle.tsb_step.specs.tsb_coord.declared.correction.Correction.{Correction}
use Rattle.tsb_step.specs.tsb_coord.Coordinated.{counter, local, instant_by, force_off, agree, asks_force_off, asks_recycle, is_pattern}
use Rattle.tsb_step.specs.tsb_coord.Correction.{in_step, local_now, forces, is_in_step, selected_correction, in_step_from, clocked}
use Rattle.tsb_step.specs.tsb_phase.Phase.{Given, GreenHeld}
use Rattle.tsb_step.specs.tsb_phase.DynamicMaximum.{maximum_in_use}
use Rattle.tsb_step.specs.tsb_phase.Green.{conflict_timer, acting_maximum, has_maxed_out, forced_latch}

-- each option of the plan is 0; of a pattern, a phase, an overlap or a preempt there may be one for each
pub record HasNoOptions (plan : Plan) : Type 0 where
  pub coord_force_mode : plan.value CoordForceMode 1 ≡ 0
  pub coord_maximum_mode : plan.value CoordMaximumMode 1 ≡ 0
  pub pattern_permissive_time : (n : ℕ) → plan.value PatternPermissiveTime n ≡ 0
  pub pattern_lead_lag : (n : ℕ) → plan.value PatternLeadLag n ≡ 0
  pub phase_pedestrian_recycle : (p : ℕ) → plan.value PhasePedestrianRecycle p ≡ 0
  pub coord_correction_mode : plan.value CoordCorrectionMode 1 ≡ 0
  pub overlap_across_rings : (o : ℕ) → plan.value OverlapAcrossRings o ≡ 0
  pub preempt_chooses_anew : (n : ℕ) → plan.value PreemptChoosesAnew n ≡ 0
  pub coord_reference : plan.value CoordReference 1 ≡ 0

-- in step from the start, with this midnight where a pattern is selected
abbrev pub in_step_with : Option ℕ → ℕ → Correction
in_step_with None midnight = in_step
in_step_with (Some n) midnight = in_step_from midnight

-- each definition that reads an option is the one without it
pub record OptionsOff (plan : Plan) : Type 0 where
  -- a phase is forced off where the local counter is at its force-off instant, in whatever tick and pattern
  pub forced : (t : ℕ) (selected : Option ℕ) (p : ℕ) →
      asks_force_off plan t selected p ≡ agree (local plan t selected) (force_off plan (running plan selected) p)
  -- instants are counted from the first coordinated phase, in each pattern of a plan that breaks no rule
  pub counted : first_broken plan ≡ None → (n p : ℕ) → is_pattern plan n ≡ true →
      force_off plan (Some n) p ≡ (if is_enabled plan p then instant_by plan n (first_coordinated plan n) p else None)
  -- a green is forced off only by that: no length of it does
  pub latched : (given : Given) (p : ℕ) (held : GreenHeld) →
      forced_latch plan given p held ≡ (is_some given.runs && (is_none given.service && (given.conflict p && (given.forced p || held.forced))))
  -- its maximum ends a green in free operation alone
  pub freely : (given : Given) (p : ℕ) (held : GreenHeld) (running_maximum : Option ℕ) →
      has_maxed_out plan given p held running_maximum
      ≡ (is_none given.runs && has_reached (conflict_timer given p held) (maximum_in_use plan p running_maximum))
  -- so no maximum acts in a pattern, and none is told in a status
  pub acting : (n p : ℕ) (running_maximum : Option ℕ) → acting_maximum plan (Some n) p running_maximum ≡ None
  -- K20 asks that the splits of coordinated phases end at one time
  pub ends : (n s t p q : ℕ) →
      ends_with plan (leads_and_lags plan n) s t p q
      ≡ (side_of plan p == side_of plan q && ((p == q || is_concurrent plan p q) && split_end plan s t p == split_end plan s t q))
  pub coordinated : coordinated_phases_agree plan
      ≡ each_pattern plan (λ n. some_and (λ s. some_and (coordinated_agree plan false s) (split_of plan n)) (sequence_of plan n))
  -- no phase may walk again, so a walk begins with a green alone
  pub recycled : (t : ℕ) (selected : Option ℕ) (p : ℕ) → asks_recycle plan t selected p ≡ false
  -- offsets are counted to local 0
  pub offsets : (n t : ℕ) → counter plan n t ≡ (t + cycle plan n - offset plan n) % cycle plan n
  -- the local counter is in step at once, whatever is selected
  pub stepped : (selected : Option ℕ) (c : Correction) (t : ℕ) → is_in_step plan selected c t ≡ true
  -- so it begins in step behind each selection, wherever that of the old pattern stood
  pub begun : (selected : Option ℕ) (now midnight : ℕ) (l : Option ℕ) →
      selected_correction plan selected now midnight l ≡ in_step_with selected midnight
  -- it is that of the cycle and the offset, and what is forced off in a tick is what this asks for
  pub counting : (selected : Option ℕ) (c : Correction) (t : ℕ) →
      local_now plan selected c t ≡ local plan (clocked plan selected c t) selected
  pub forcing : (selected : Option ℕ) (c : Correction) (t p : ℕ) →
      forces plan selected c t p ≡ asks_force_off plan (clocked plan selected c t) selected p
  -- K23 asks for nothing
  pub permissive : permissive_times_end plan ≡ true
  -- an overlap lasts through a clearance by the commitment of the phase's own ring alone
  pub followed : (s : Shown) (o p : ℕ) → is_followed plan s o p ≡ is_followed_in_ring plan s o p
  -- no ring gives up what it is committed to, whichever preempt is in service
  pub kept : (service : Option ℕ) → is_anew plan service ≡ false

-- So it is in every plan whose options are 0.
abbrev pub OptionsOffChangeNothing : Type 0
OptionsOffChangeNothing = (plan : Plan) → HasNoOptions plan → OptionsOff plan
