-- Options that are 0 stay so where no input sets one: in the plan in effect, and in the plan with the edits of the desk.
use Rattle.std.proofs.Common.{◌≡◌, ℕ, ◌==◌, nat_le, Bool, true, false, not, ◌&&◌, ◌||◌, if◌then◌else◌, List, [], ◌∷◌, Option, is_some, refl, sym, ap, subst, ◌∙◌, eqb-true}
use Rattle.std.proofs.lemmas.Bool.{and_parts}
use Rattle.tsb_step.specs.tsb_types.declared.lamp.Lamp.{Lamp}
use Rattle.tsb_step.specs.tsb_plan.declared.object.Object.{Object}
use Rattle.tsb_step.specs.tsb_plan.declared.object.Object.TheVariants.{PhaseDynamicMaxLimit, OverlapType, OverlapModifierPhases, CoordForceMode, CoordMaximumMode, PatternPermissiveTime, PatternLeadLag, PhasePedestrianRecycle, CoordCorrectionMode, OverlapAcrossRings, PreemptChoosesAnew, CoordReference, OverlapTrailGreen, OverlapTrailYellow}
use Rattle.tsb_step.specs.tsb_plan.Objects.{order}
use Rattle.tsb_step.specs.tsb_plan.Plan.{Plan, is_same, with_value}
use Rattle.tsb_step.specs.tsb_transact.declared.edit.Edit.{Edit}
use Rattle.tsb_step.specs.tsb_transact.Desk.{Desk, with_edits}
use Rattle.tsb_step.specs.declared.inputs.Input.{Input}
use Rattle.tsb_step.specs.declared.inputs.Input.TheVariants as inputs
use Rattle.tsb_step.specs.State.{State, restarted}
use Rattle.tsb_step.specs.Signs.{watched}
use Rattle.tsb_step.specs.Step.{step}
use Rattle.tsb_step.specs.Runs.{replay}
use Rattle.tsb_step.proofs.ClearLemmas.{plan_stays}
use Rattle.tsb_step.proofs.DeskLemmas.{leave_the_desk}
use Rattle.tsb_laws.specs.WithoutOptions.{HasEachAtZero, is_option, SetsNoOption, SetNoOption}
use Rattle.tsb_laws.proofs.options.EachEditLemmas.{AreEach, each_with}

-- ## Objects by their places

is_place_of_option : ℕ → Bool
is_place_of_option n = (nat_le 57 n && (nat_le n 70 && (not (n == 58) && not (n == 67)))) || (n == 81 || n == 82)

by_place : (o : Object) → is_option o ≡ is_place_of_option (order o)
unfolding is_place_of_option
by_place PhaseDynamicMaxLimit = refl
by_place o = refl

option_alike : (o q : Object) → (order o == order q) ≡ true → is_option q ≡ true → is_option o ≡ true
option_alike o q same is =
    by_place o ∙ ap is_place_of_option (eqb-true (order o) (order q) same) ∙ sym (by_place q) ∙ is

-- ## Values and edits

value_stays : (plan : Plan) (o : Object) (i v : ℕ) → (is_option o ≡ true → v ≡ 0) → (q : Object) (k : ℕ) → is_option q ≡ true →
    plan.value q k ≡ 0 → (with_value plan o i v).value q k ≡ 0
value_stays plan o i v sets q k is none = go (is_same o i q k) refl
  where
    go : (b : Bool) → is_same o i q k ≡ b → (if b then v else plan.value q k) ≡ 0
    go true same = sets (option_alike o q (and_parts (order o == order q) (i == k) same).0 is)
    go false other = none

value_silent : (plan : Plan) (o : Object) (i v : ℕ) → HasEachAtZero plan → (is_option o ≡ true → v ≡ 0) → HasEachAtZero (with_value plan o i v)
value_silent plan o i v none sets = record {
  options = record {
    coord_force_mode = value_stays plan o i v sets CoordForceMode 1 refl none.options.coord_force_mode;
    coord_maximum_mode = value_stays plan o i v sets CoordMaximumMode 1 refl none.options.coord_maximum_mode;
    pattern_permissive_time = λ n. value_stays plan o i v sets PatternPermissiveTime n refl (none.options.pattern_permissive_time n);
    pattern_lead_lag = λ n. value_stays plan o i v sets PatternLeadLag n refl (none.options.pattern_lead_lag n);
    phase_pedestrian_recycle = λ p. value_stays plan o i v sets PhasePedestrianRecycle p refl (none.options.phase_pedestrian_recycle p);
    coord_correction_mode = value_stays plan o i v sets CoordCorrectionMode 1 refl none.options.coord_correction_mode;
    overlap_across_rings = λ n. value_stays plan o i v sets OverlapAcrossRings n refl (none.options.overlap_across_rings n);
    preempt_chooses_anew = λ n. value_stays plan o i v sets PreemptChoosesAnew n refl (none.options.preempt_chooses_anew n);
    coord_reference = value_stays plan o i v sets CoordReference 1 refl none.options.coord_reference;
  };
  phase_dynamic_max_limit = λ p. value_stays plan o i v sets PhaseDynamicMaxLimit p refl (none.phase_dynamic_max_limit p);
  overlap_type = λ n. value_stays plan o i v sets OverlapType n refl (none.overlap_type n);
  overlap_modifier_phases = λ n. value_stays plan o i v sets OverlapModifierPhases n refl (none.overlap_modifier_phases n);
  overlap_trail_green = λ n. value_stays plan o i v sets OverlapTrailGreen n refl (none.overlap_trail_green n);
  overlap_trail_yellow = λ n. value_stays plan o i v sets OverlapTrailYellow n refl (none.overlap_trail_yellow n);
}

-- the edit sets no option
abbrev pub IsSilentEdit : Edit → Type 0
IsSilentEdit e = is_option e.id.object ≡ true → e.value ≡ 0

-- none of the edits does
abbrev pub AreSilent : List Edit → Type 0
AreSilent es = AreEach IsSilentEdit es

pub edits_silent : (es : List Edit) (plan : Plan) → HasEachAtZero plan → AreSilent es → HasEachAtZero (with_edits plan es)
edits_silent [] plan none silent = none
edits_silent (e ∷ es) plan none silent =
    edits_silent es (with_value plan e.id.object e.id.index e.value)
    (value_silent plan e.id.object e.id.index e.value none silent.0) silent.1

-- ## Runs

-- the options are 0 in the plan in effect, and no edit of the desk sets one
pub record IsSilent (s : State) : Type 0 where
  pub plan : HasEachAtZero s.plan
  pub edits : AreSilent s.desk.edits

lamp_leaves_plan : (s : State) (lamp : Option Lamp) → (step s (inputs.Fault lamp)).plan ≡ s.plan
unfolding step watched
lamp_leaves_plan s lamp = go (is_some s.trip)
  where
    go : (b : Bool) → (if b then record s { lamp = lamp } else watched s (record s { lamp = lamp })).plan ≡ s.plan
    go true = refl
    go false = refl

reset_leaves_plan : (s : State) → (step s inputs.Reset).plan ≡ s.plan
unfolding step
reset_leaves_plan s = go (is_some s.trip)
  where
    go : (b : Bool) → (if b then restarted s else s).plan ≡ s.plan
    go true = refl
    go false = refl

-- an input that leaves plan and desk
left_silent : (s t : State) → t.plan ≡ s.plan → t.desk ≡ s.desk → IsSilent s → IsSilent t
left_silent s t plan desk silent = record {
  plan = subst (λ (q : Plan). HasEachAtZero q) (sym plan) silent.plan;
  edits = subst (λ (d : Desk). AreSilent d.edits) (sym desk) silent.edits;
}

step_silent : (s : State) (i : Input) → IsSilent s → SetsNoOption i → IsSilent (step s i)
unfolding step
step_silent s (inputs.Tick row) silent sets =
    left_silent s (step s (inputs.Tick row)) (plan_stays s row) (leave_the_desk s (inputs.Tick row) refl refl) silent
step_silent s (inputs.Fault lamp) silent sets =
    left_silent s (step s (inputs.Fault lamp)) (lamp_leaves_plan s lamp) (leave_the_desk s (inputs.Fault lamp) refl refl) silent
step_silent s inputs.Reset silent sets =
    left_silent s (step s inputs.Reset) (reset_leaves_plan s) (leave_the_desk s inputs.Reset refl refl) silent
step_silent s (inputs.Pattern n) silent sets = record { plan = silent.plan; edits = silent.edits }
step_silent s (inputs.Switch n on) silent sets = record { plan = silent.plan; edits = silent.edits }
step_silent s (inputs.Begin station) silent sets = record { plan = silent.plan; edits = tt }
step_silent s (inputs.Set station id v) silent sets = record {
  plan = silent.plan;
  edits = each_with IsSilentEdit (record { id = id; value = v }) s.desk.edits sets silent.edits;
}
step_silent s (inputs.Verify station) silent sets = record { plan = silent.plan; edits = silent.edits }
step_silent s (inputs.Commit station) silent sets = record {
  plan = edits_silent s.desk.edits s.plan silent.plan silent.edits;
  edits = tt;
}
step_silent s (inputs.Abort station) silent sets = record { plan = silent.plan; edits = tt }
step_silent s (inputs.Clock m) silent sets = record { plan = silent.plan; edits = silent.edits }
step_silent s (inputs.Omit list) silent sets = record { plan = silent.plan; edits = silent.edits }

pub run_silent : (plan : Plan) (is : List Input) → HasEachAtZero plan → SetNoOption is → IsSilent (replay plan is)
run_silent plan [] none sets = record { plan = none; edits = tt }
run_silent plan (i ∷ is) none sets = step_silent (replay plan is) i (run_silent plan is none sets.1) sets.0
