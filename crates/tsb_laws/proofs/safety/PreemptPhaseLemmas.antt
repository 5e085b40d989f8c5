-- The list of the stage of a preempt in service has an enabled phase: it is not empty, names no phase over those of the plan, and
-- what it names is enabled.
use Rattle.std.proofs.Common.{◌≡◌, ◌≢◌, ℕ, ◌+◌, ◌-◌, ◌^◌, ◌<◌, ◌≤◌, ◌==◌, nat_le, Bool, true, false, not, ◌&&◌, if◌then◌else◌, w16, List, [], ◌∷◌, Some, None, refl, sym, subst, arith, ◌∙◌}
use Rattle.std.specs.Int.{trailing_zeros}
use Rattle.std.proofs.Math.Pow.{pow_mono}
use Rattle.std.proofs.lemmas.Bool.{leb-true, true≢false, false≢true}
use Rattle.std.proofs.lemmas.Bool.Decides.{nat_tests}
use Rattle.std.proofs.lemmas.Nat.{pow_pos}
use Rattle.tsb_step.specs.tsb_types.Sets.{names}
use Rattle.tsb_step.specs.tsb_types.declared.refusal.Refusal.TheVariants.{NoSuchObject, OutOfRange}
use Rattle.tsb_step.specs.tsb_types.declared.row.Row.{Row}
use Rattle.tsb_step.specs.tsb_types.declared.stage.Stage.{Stage}
use Rattle.tsb_step.specs.tsb_types.declared.stage.Stage.TheVariants.{Track, Dwell, Exit}
use Rattle.tsb_step.proofs.tsb_types.BitLemmas.{names-first}
use Rattle.tsb_step.proofs.tsb_types.SetLemmas.{names-above}
use Rattle.tsb_step.specs.tsb_plan.declared.object.Object.{Object}
use Rattle.tsb_step.specs.tsb_plan.declared.object.Object.TheVariants.{PreemptTrackPhase, PreemptDwellPhase, PreemptExitPhase}
use Rattle.tsb_step.specs.tsb_plan.Plan.{Plan, is_enabled, is_same, with_value}
use Rattle.tsb_step.specs.tsb_plan.Versions.{has_object}
use Rattle.tsb_step.proofs.tsb_plan.PlanLemmas.{same-parts}
use Rattle.tsb_step.proofs.tsb_plan.TableLemmas.{order-injective}
use Rattle.tsb_step.specs.tsb_rules.Consistent.{IsPhase, AreCompatible}
use Rattle.tsb_step.specs.tsb_rules.Rules.{first_broken}
use Rattle.tsb_step.specs.tsb_transact.declared.edit.Edit.{Edit}
use Rattle.tsb_step.specs.tsb_transact.Desk.{with_edits}
use Rattle.tsb_step.specs.tsb_preempt.Service.{Service, stage_phases}
use Rattle.tsb_step.specs.tsb_ring.Laws.{IsListed}
use Rattle.tsb_step.specs.tsb_ring.Wants.{is_targeted}
use Rattle.tsb_step.specs.declared.inputs.Input.{Input}
use Rattle.tsb_step.specs.declared.inputs.Input.TheVariants as inputs
use Rattle.tsb_step.specs.State.{State}
use Rattle.tsb_step.specs.Step.{step}
use Rattle.tsb_step.specs.Tables.{version_of, has_place, greatest_of, place_refusal}
use Rattle.tsb_step.specs.Runs.{replay, AreTaken}
use Rattle.tsb_step.specs.Laws.{IsConsistent, has_stage}
use Rattle.tsb_step.specs.Good.{AreFit, IsInStage, IsGood}
use Rattle.tsb_step.proofs.ClearLemmas.{plan_stays}
use Rattle.tsb_step.proofs.GivenLemmas.{phase_is_listed}
use Rattle.tsb_step.proofs.GoodLemmas.{good_run}
use Rattle.tsb_step.proofs.ServiceLemmas.{compatible}
use Rattle.tsb_step.proofs.YellowLemmas.{enabled_lit, plan_of_reset}
use Rattle.tsb_laws.specs.AllRed.{IsInRange}

-- ## No value is over its greatest, whatever is committed

taken_in_range : (plan : Plan) (e : Edit) → place_refusal plan e.id e.value ≡ None → e.value ≤ greatest_of plan e.id.object
taken_in_range plan e h = go (has_object (version_of plan) e.id.object && has_place plan e.id.object e.id.index) (nat_le e.value (greatest_of plan e.id.object)) refl h
  where
    go : (a b : Bool) → nat_le e.value (greatest_of plan e.id.object) ≡ b → (if a then (if b then None else Some OutOfRange) else Some NoSuchObject) ≡ None →
        e.value ≤ greatest_of plan e.id.object
    go true true k x = leb-true e.value (greatest_of plan e.id.object) k
    go true false k x = absurd cc
    go false b k x = absurd cc

put_in_range : (plan : Plan) (e : Edit) → e.value ≤ greatest_of plan e.id.object → IsInRange plan → IsInRange (with_value plan e.id.object e.id.index e.value)
put_in_range plan e few was o i = go (is_same e.id.object e.id.index o i) refl
  where
    go : (b : Bool) → is_same e.id.object e.id.index o i ≡ b → (if b then e.value else plan.value o i) ≤ greatest_of plan o
    go true same =
        subst (λ (x : Object). e.value ≤ greatest_of plan x) (order-injective e.id.object o (same-parts e.id.object o e.id.index i same).0) few
    go false same = was o i

edits_in_range : (plan : Plan) (es : List Edit) → AreFit plan es → IsInRange plan → IsInRange (with_edits plan es)
edits_in_range plan [] fit was = was
edits_in_range plan (e ∷ es) fit was =
    edits_in_range (with_value plan e.id.object e.id.index e.value) es fit.1 (put_in_range plan e (taken_in_range plan e fit.0) was)

ticked_in_range : (s : State) (row : Row) → IsInRange s.plan → IsInRange (step s (inputs.Tick row)).plan
ticked_in_range s row was = subst (λ (x : Plan). IsInRange x) (sym (plan_stays s row)) was

step_in_range : (s : State) (i : Input) → IsGood s → IsInRange s.plan → IsInRange (step s i).plan
unfolding step
step_in_range s (inputs.Tick row) good was = ticked_in_range s row was
step_in_range s (inputs.Fault lamp) good was = subst (λ (x : Plan). IsInRange x) (sym (enabled_lit s lamp)) was
step_in_range s inputs.Reset good was = subst (λ (x : Plan). IsInRange x) (sym (plan_of_reset s)) was
step_in_range s (inputs.Commit station) good was = edits_in_range s.plan s.desk.edits good.fit was
step_in_range s i good was = was

pub in_range_run : (plan : Plan) (is : List Input) → IsConsistent plan → AreTaken plan is → IsInRange plan → IsInRange (replay plan is).plan
in_range_run plan [] ok taken first = first
in_range_run plan (i ∷ is) ok taken first =
    step_in_range (replay plan is) i (good_run plan is ok taken.0) (in_range_run plan is ok taken.0 first)

-- ## A list that is not empty names a phase

record Named (list n : ℕ) : Type 0 where
  one : ℕ
  from : 1 ≤ one
  within : one ≤ n
  named : names list one ≡ true

named_one : (list n : ℕ) → n ≤ 16 → list < 2 ^ n → list ≢ 0 → Named list n
named_one list n few fits some = record { one = trailing_zeros w16 list + 1; from = omega arith; within = within (nat_le (trailing_zeros w16 list + 1) n) refl; named = first }
  where
    short : list < 65536
    short = let most : 2 ^ n ≤ 2 ^ 16 = pow_mono few in let all : 2 ^ 16 ≡ 65536 = refl in omega (arith, fits, most, all)

    first : names list (trailing_zeros w16 list + 1) ≡ true
    first = names-first w16 list short some

    within : (b : Bool) → nat_le (trailing_zeros w16 list + 1) n ≡ b → trailing_zeros w16 list + 1 ≤ n
    within true h = leb-true (trailing_zeros w16 list + 1) n h
    within false h =
        let above : n < trailing_zeros w16 list + 1 = grind (arith, nat_tests, h) in
        absurd (true≢false (sym first ∙ names-above n (trailing_zeros w16 list + 1) list fits above))

not_zero : (m : ℕ) → not (m == 0) ≡ true → m ≢ 0
not_zero m h e = false≢true (rw e at h)

-- ## The phases of its stage

pub record Wants (plan : Plan) (x : Service) : Type 0 where
  pub one : ℕ
  pub listed : IsListed plan one
  pub targeted : is_targeted plan (stage_phases plan x.preempt x.stage) one ≡ true

pub wants_one : (plan : Plan) (x : Service) → first_broken plan ≡ None → plan.phase_count ≤ 16 → IsInRange plan → IsInStage plan x → Wants plan x
wants_one plan x rules few range it = go x.stage refl it.some
  where
    fits : AreCompatible plan (stage_phases plan x.preempt x.stage)
    fits = compatible plan x rules it

    below : (m : ℕ) → m ≤ 2 ^ plan.phase_count - 1 → m < 2 ^ plan.phase_count
    below m h = let some = pow_pos plan.phase_count in omega (arith, h, some)

    wants : (list : ℕ) → Named list plan.phase_count → ((p : ℕ) → names list p ≡ true → stage_phases plan x.preempt x.stage p ≡ true) → Wants plan x
    wants list found told =
        let phase : IsPhase plan found.one = record { from_one = found.from; within = found.within } in
        let on : is_enabled plan found.one ≡ true = fits.enabled found.one phase (told found.one found.named) in
        record { one = found.one; listed = phase_is_listed plan found.one phase; targeted = rw (on, told found.one found.named) refl }

    of : (o : Object) → plan.value o x.preempt ≤ 2 ^ plan.phase_count - 1 → not (plan.value o x.preempt == 0) ≡ true → Named (plan.value o x.preempt) plan.phase_count
    of o most some = named_one (plan.value o x.preempt) plan.phase_count few (below (plan.value o x.preempt) most) (not_zero (plan.value o x.preempt) some)

    go : (stage : Stage) → x.stage ≡ stage → has_stage plan x.preempt stage ≡ true → Wants plan x
    go Track e h = wants (plan.value PreemptTrackPhase x.preempt) (of PreemptTrackPhase (range PreemptTrackPhase x.preempt) h) (λ p k. rw e k)
    go Dwell e h = wants (plan.value PreemptDwellPhase x.preempt) (of PreemptDwellPhase (range PreemptDwellPhase x.preempt) h) (λ p k. rw e k)
    go Exit e h = wants (plan.value PreemptExitPhase x.preempt) (of PreemptExitPhase (range PreemptExitPhase x.preempt) h) (λ p k. rw e k)
