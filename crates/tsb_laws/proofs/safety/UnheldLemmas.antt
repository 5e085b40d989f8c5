-- Where no overlap of the plan trails none holds a phase, and the rings take a phase that is over with its own clearance.
use Rattle.std.proofs.Common.{◌≡◌, ◌∙◌, ℕ, ◌≤◌, Bool, true, false, not, ◌&&◌, ◌||◌, List, [], ◌∷◌, ◌++◌, is_some, refl, ap, ap₂}
use Rattle.std.proofs.lemmas.Bool.{and_parts, not-true}
use Rattle.std.specs.List.{list_any}
use Rattle.tsb_step.specs.tsb_types.declared.row.Row.{Row}
use Rattle.tsb_step.specs.tsb_types.Lists.{run_from}
use Rattle.tsb_step.specs.tsb_plan.Plan.{Plan}
use Rattle.tsb_step.specs.tsb_plan.Parts.{is_included, trails}
use Rattle.tsb_step.specs.tsb_overlap.Overlap.{Overlap, as_read, holds, is_held, is_trailing, run_on}
use Rattle.tsb_step.specs.tsb_ring.Laws.{IsListed}
use Rattle.tsb_step.specs.declared.inputs.Input.{Input}
use Rattle.tsb_step.specs.State.{State}
use Rattle.tsb_step.specs.Tick.{service, over, held, lets_go, rings_given}
use Rattle.tsb_step.specs.Runs.{replay}
use Rattle.tsb_step.proofs.EditLemmas.{or_false}
use Rattle.tsb_laws.proofs.safety.DueLemmas.{clipped_at}
use Rattle.tsb_laws.specs.Stretches.{has_no_trails, NoneTrails}

none_holds : (plan : Plan) (b : Bool) (f : ℕ → Overlap) (p : ℕ) (os : List ℕ) → list_any (trails plan) os ≡ false → list_any (holds plan b f p) os ≡ false
none_holds plan b f p [] h = refl
none_holds plan b f p (o ∷ os) h =
    let both = or_false (trails plan o) (list_any (trails plan) os) h in
    let rest : list_any (holds plan b f p) os ≡ false = none_holds plan b f p os both.1 in
    ap₂ (λ (x y : Bool). (x && (is_included plan o p && is_trailing (run_on plan b o (as_read (f o))).interval)) || y) both.0 rest

pub unheld : (s : State) (row : Row) (p : ℕ) → has_no_trails s.plan ≡ true → held s row p ≡ false
unfolding held is_held
unheld s row p none =
    none_holds s.plan (is_some (service s row)) s.overlaps p (run_from 1 s.plan.counts.overlaps) (not-true (list_any (trails s.plan) (run_from 1 s.plan.counts.overlaps)) none)

pub lets_go_over : (s : State) (row : Row) (p : ℕ) → has_no_trails s.plan ≡ true → lets_go s row p ≡ over s p
lets_go_over s row p none = ap (λ (b : Bool). over s p && not b) (unheld s row p none) ∙ and_true (over s p)
  where
    and_true : (b : Bool) → (b && true) ≡ b
    and_true true = refl
    and_true false = refl

-- a phase of the plan that is over for the rings
pub told_over : (s : State) (row : Row) (p : ℕ) → has_no_trails s.plan ≡ true → s.plan.phase_count ≤ 16 → IsListed s.plan p →
    (rings_given s row).over p ≡ over s p
unfolding rings_given
told_over s row p none few listed = clipped_at (lets_go s row) s.plan p few listed ∙ lets_go_over s row p none

-- none trails now
pub untrailed_now : (plan : Plan) (base later : List Input) → NoneTrails plan base later → has_no_trails (replay plan (later ++ base)).plan ≡ true
untrailed_now plan base [] h = h
untrailed_now plan base (i ∷ later) h = (and_parts _ _ h).0

pub untrailed_before : (plan : Plan) (base : List Input) (i : Input) (later : List Input) → NoneTrails plan base (i ∷ later) → NoneTrails plan base later
untrailed_before plan base i later h = (and_parts (has_no_trails (replay plan (i ∷ (later ++ base))).plan) _ h).1
