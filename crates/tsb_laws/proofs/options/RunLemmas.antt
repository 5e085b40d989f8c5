-- Two plans that differ in the correction limit alone give the same run while the mode is 0.
use Rattle.std.proofs.Common.{◌≡◌, ℕ, Bool, true, false, if◌then◌else◌, List, [], ◌∷◌, map, Option, Some, is_some, refl, sym, ap, subst, ◌∙◌}
use Rattle.tsb_step.specs.tsb_types.declared.lamp.Lamp.{Lamp}
use Rattle.tsb_step.specs.tsb_plan.declared.object.Object.{Object}
use Rattle.tsb_step.specs.tsb_plan.declared.object.Object.TheVariants.{CoordCorrectionLimit, CoordCorrectionMode}
use Rattle.tsb_step.specs.tsb_plan.declared.plan.patterns.CorrectionMode.TheVariants.{AtOnce}
use Rattle.tsb_step.specs.tsb_plan.Objects.{is_structural}
use Rattle.tsb_step.specs.tsb_plan.Parts.{correction_mode}
use Rattle.tsb_step.specs.tsb_plan.Plan.{Plan}
use Rattle.tsb_step.specs.tsb_rules.Rules.{first_broken}
use Rattle.tsb_step.specs.tsb_coord.declared.correction.Correction.{Correction}
use Rattle.tsb_step.specs.tsb_coord.Clock.{midnight_at, start_of}
use Rattle.tsb_step.specs.tsb_coord.Coordinated.{selects}
use Rattle.tsb_step.specs.tsb_coord.Correction.{clocked}
use Rattle.tsb_step.specs.tsb_ring.Rings as rings
use Rattle.tsb_step.specs.tsb_transact.Calls as desk
use Rattle.tsb_step.specs.tsb_transact.Commit.{changes_some, is_preempt_list}
use Rattle.tsb_step.specs.tsb_transact.Desk.{value_put, with_edits}
use Rattle.tsb_step.specs.declared.inputs.Input.{Input}
use Rattle.tsb_step.specs.declared.inputs.Input.TheVariants as inputs
use Rattle.tsb_step.specs.State.{State, restarted}
use Rattle.tsb_step.specs.Signs.{display, field, local, watched}
use Rattle.tsb_step.specs.Step.{step, verdict, with_lamp, with_pattern, with_clock, reset, committed, found}
use Rattle.tsb_step.specs.Runs.{replay}
use Rattle.tsb_step.proofs.tsb_coord.CorrectionLemmas.{in_step_at_once, local_in_step}
use Rattle.tsb_laws.specs.Differing.{DifferIn, IsSameBut}
use Rattle.tsb_laws.specs.CorrectionLimits.{is_limit, CorrectsAtOnce, ShowAndRefuseTheSame}
use Rattle.tsb_laws.proofs.operation.pattern.OptionLemmas.{begins_at_once}
use Rattle.tsb_laws.proofs.options.DifferLemmas.{with_limit, as_others, from_others, limit_alone, corrects_at_once, values_differ, limit_is, changes_same}
use Rattle.tsb_laws.proofs.options.LimitLemmas.{first_broken-same}
use Rattle.tsb_laws.proofs.options.TickLemmas as ticks
use Rattle.tsb_laws.proofs.options.TickLemmas.{swapped, display-same, field-same, watched-same, ticked-same}

-- ## As equations

of_swap : (s t : State) (v : Object → ℕ → ℕ) → t ≡ swapped s v → IsSameBut is_limit s t
of_swap s t v e = record {
  plan = subst (λ (q : Plan). DifferIn is_limit s.plan q) (limit_alone s.plan v ∙ sym (ap (λ (x : State). x.plan) e)) (from_others is_limit s.plan v);
  rest = e ∙ ap (λ (q : Plan). record s { plan = q }) (sym (ap (λ (x : State). x.plan) e));
}

as_limit : (x y : Plan) → DifferIn is_limit x y → y ≡ with_limit x y.value
as_limit x y d = as_others is_limit x y d ∙ limit_alone x y.value

as_swap : (s t : State) → IsSameBut is_limit s t → t ≡ swapped s t.plan.value
as_swap s t x = x.rest ∙ ap (λ (q : Plan). record s { plan = q }) (as_limit s.plan t.plan x.plan)

-- ## One input

module _ (s : State) (v : Object → ℕ → ℕ) where
  lamp-same : (lamp : Option Lamp) → with_lamp lamp (swapped s v) ≡ swapped (with_lamp lamp s) v
  lamp-same lamp = go (is_some s.trip)
    where
      go : (b : Bool) → (if b then record (swapped s v) { lamp = lamp } else watched (swapped s v) (record (swapped s v) { lamp = lamp }))
          ≡ swapped (if b then record s { lamp = lamp } else watched s (record s { lamp = lamp })) v
      go true = refl
      go false = watched-same s (record s { lamp = lamp }) v

  reset-same : reset (swapped s v) ≡ swapped (reset s) v
  reset-same = go (is_some s.trip)
    where
      go : (b : Bool) → (if b then restarted (swapped s v) else swapped s v) ≡ swapped (if b then restarted s else s) v
      go true = refl
      go false = refl

  differ : DifferIn is_limit s.plan (with_limit s.plan v)
  differ = subst (λ (q : Plan). DifferIn is_limit s.plan q) (limit_alone s.plan v) (from_others is_limit s.plan v)

  edited : DifferIn is_limit (with_edits s.plan s.desk.edits) (with_edits (with_limit s.plan v) s.desk.edits)
  edited = values_differ is_limit (map value_put s.desk.edits) s.plan (with_limit s.plan v) differ

  found-same : found (with_limit s.plan v) s.desk ≡ found s.plan s.desk
  found-same =
      ap first_broken (as_limit (with_edits s.plan s.desk.edits) (with_edits (with_limit s.plan v) s.desk.edits) edited)
      ∙ first_broken-same (with_edits s.plan s.desk.edits) (with_edits (with_limit s.plan v) s.desk.edits).value

  sees-same : (test : Object → Bool) → test CoordCorrectionLimit ≡ false →
      changes_some test (with_limit s.plan v) s.desk.edits ≡ changes_some test s.plan s.desk.edits
  sees-same test out =
      ap (λ (q : Plan). changes_some test q s.desk.edits) (sym (limit_alone s.plan v)) ∙ changes_same is_limit s.plan v test (λ o k. ap test (limit_is o k) ∙ out) s.desk.edits

  commits-same : IsSameBut is_limit (committed s) (committed (swapped s v))
  commits-same = record {
    plan = edited;
    rest = ap (λ (b : Bool). record (committed s) {
      plan = desk.committed_plan (with_limit s.plan v) s.desk;
      rings = if b then rings.forgotten s.rings else s.rings;
    }) (sees-same is_structural refl);
  }

step-same : (s : State) (v : Object → ℕ → ℕ) (i : Input) → s.plan.value CoordCorrectionMode 1 ≡ 0 → IsSameBut is_limit (step s i) (step (swapped s v) i)
unfolding step
step-same s v (inputs.Tick row) off =
    of_swap (step s (inputs.Tick row)) (step (swapped s v) (inputs.Tick row)) v
    (ticked-same s row v (corrects_at_once s.plan off) (corrects_at_once (with_limit s.plan v) off))
step-same s v (inputs.Pattern n) off =
    of_swap (with_pattern n s) (with_pattern n (swapped s v)) v
    (ap (λ (c : Correction). record (with_pattern n (swapped s v)) { correction = c })
    (begins_at_once (with_limit s.plan v) (selects n) s.now (midnight_at s.start_moment s.now) (local (swapped s v)) (corrects_at_once (with_limit s.plan v) off)
    ∙ sym (begins_at_once s.plan (selects n) s.now (midnight_at s.start_moment s.now) (local s) (corrects_at_once s.plan off))))
step-same s v (inputs.Clock m) off =
    let midnight : ℕ = midnight_at (Some (start_of m s.now)) s.now in
    of_swap (with_clock m s) (with_clock m (swapped s v)) v
    (ap (λ (c : Correction). record (with_clock m (swapped s v)) { correction = c })
    (begins_at_once (with_limit s.plan v) s.pattern s.now midnight (local (swapped s v)) (corrects_at_once (with_limit s.plan v) off)
    ∙ sym (begins_at_once s.plan s.pattern s.now midnight (local s) (corrects_at_once s.plan off))))
step-same s v (inputs.Fault lamp) off = of_swap (with_lamp lamp s) (with_lamp lamp (swapped s v)) v (lamp-same s v lamp)
step-same s v inputs.Reset off = of_swap (reset s) (reset (swapped s v)) v (reset-same s v)
step-same s v (inputs.Verify station) off =
    of_swap (step s (inputs.Verify station)) (step (swapped s v) (inputs.Verify station)) v (rw (found-same s v) refl)
step-same s v (inputs.Commit station) off = commits-same s v
step-same s v i off = of_swap (step s i) (step (swapped s v) i) v refl

-- ## Runs

pub runs_same : (x y : Plan) (is : List Input) → DifferIn is_limit x y → CorrectsAtOnce x is → IsSameBut is_limit (replay x is) (replay y is)
runs_same x y [] d off = record { plan = d; rest = refl }
runs_same x y (i ∷ is) d off =
    let before : IsSameBut is_limit (replay x is) (replay y is) = runs_same x y is d off.0 in
    subst (λ (t : State). IsSameBut is_limit (step (replay x is) i) (step t i)) (sym (as_swap (replay x is) (replay y is) before))
    (step-same (replay x is) (replay y is).plan.value i off.1)

-- ## What is shown and refused

local-same : (s : State) (v : Object → ℕ → ℕ) → correction_mode s.plan ≡ AtOnce → correction_mode (with_limit s.plan v) ≡ AtOnce → local (swapped s v) ≡ local s
local-same s v mode other =
    local_in_step (with_limit s.plan v) s.pattern s.correction s.now (in_step_at_once (with_limit s.plan v) s.pattern s.correction s.now other)
    ∙ ticks.local-same s.plan v (clocked s.plan s.pattern s.correction s.now) s.pattern
    ∙ sym (local_in_step s.plan s.pattern s.correction s.now (in_step_at_once s.plan s.pattern s.correction s.now mode))

refuses-same : (s : State) (v : Object → ℕ → ℕ) (i : Input) → verdict (swapped s v) i ≡ verdict s i
unfolding verdict
refuses-same s v (inputs.Commit station) =
    rw (sees-same s v is_structural refl, sees-same s v is_preempt_list refl) refl
refuses-same s v i = refl

pub shows_same : (x y : Plan) (is : List Input) → DifferIn is_limit x y → CorrectsAtOnce x is → (replay x is).plan.value CoordCorrectionMode 1 ≡ 0 →
    ShowAndRefuseTheSame (replay x is) (replay y is)
shows_same x y is d off last =
    let same : replay y is ≡ swapped (replay x is) (replay y is).plan.value = as_swap (replay x is) (replay y is) (runs_same x y is d off) in
    record {
      heads = ap display same ∙ display-same (replay x is) (replay y is).plan.value;
      lamps = ap field same ∙ field-same (replay x is) (replay y is).plan.value;
      counter = ap (λ (s : State). local s) same
          ∙ local-same (replay x is) (replay y is).plan.value (corrects_at_once (replay x is).plan last)
          (corrects_at_once (with_limit (replay x is).plan (replay y is).plan.value) last);
      refused = λ i. ap (λ (s : State). verdict s i) same ∙ refuses-same (replay x is) (replay y is).plan.value i;
    }
