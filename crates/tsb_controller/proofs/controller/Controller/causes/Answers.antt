use Rattle.std.proofs.Common.{◌≡◌, ◌∙◌, ℕ, ◌-◌, ◌≤◌, Bool, true, false, ◌&&◌, List, refl, ap, subst, is_none}
use Rattle.std.proofs.lemmas.Bool.{and_parts}
use Rattle.tsb_step.specs.tsb_types.Intervals.{is_green}
use Rattle.tsb_step.specs.tsb_types.Sets.{has}
use Rattle.tsb_step.specs.tsb_plan.Plan.{Plan}
use Rattle.tsb_objects.specs.Checked.{checked_plan}
use Rattle.tsb_calls.specs.declared.observed.Observed.{Observed}
use Rattle.tsb_calls.specs.Layer as calls_layer
use Rattle.tsb_calls.specs.Promises as calls
use Rattle.tsb_phase.specs.declared.conditions.Conditions.{Conditions}
use Rattle.tsb_phase.specs.Causes.{cause}
use Rattle.tsb_phase.specs.Laws.{AgreeOnPhases, IsToldTheSame}
use Rattle.tsb_phase.specs.Layer.{cells_of}
use Rattle.tsb_phase.specs.Pedestrian.{ended_by}
use Rattle.tsb_phase.specs.Promises.{given_of, read_in}
use Rattle.tsb_step.specs.State.{State, interval}
use Rattle.tsb_step.specs.Tick.{phases_given, phase_read}
use Rattle.tsb_controller.specs.Causes.{ends_by_itself}
use Rattle.tsb_controller.specs.Found.{IsSensed, observed}
use Rattle.tsb_controller.specs.Layer.{rows_of}
use Rattle.tsb_controller.specs.Rows.{Rows, state_of, untripped}
use Rattle.tsb_controller.proofs.EndingLemmas.{by-alike, cause-alike, causes-alike}
use Rattle.tsb_controller.proofs.PlacedLemmas.{placed}
use Rattle.tsb_controller.proofs.TickLemmas.{phases_alike, told}
use Rattle.tsb_controller.proofs.controller.Controller.causes.Goals as goal

-- three tests; the first two were found together
all-three : (e g y n g_too n_too : Bool) → e ≡ (g && y) → g ≡ g_too → n ≡ n_too → (e && n) ≡ (g_too && (y && n_too))
all-three e true y n g_too n_too found green none = rw (found, ← green, ← none) refl
all-three e false y n g_too n_too found green none = rw (found, ← green) refl

pub returns : goal.returns
returns c desk lamp =
    causes-alike (has c.free_of-free.result) (ends_by_itself s c.args.row.now c.args.yellow)
    (λ p. cause plan (given_of conditions) p (read_in c.args.now (cells_of c.args.self.now.phases) p)) (λ p. cause plan (phases_given s c.args.row.now) p (phase_read s p)) c.causes_of.result
    (λ p from to. c.free_of-free.ensures p
    ∙ all-three (has c.ended-ended.result p) (is_green (interval s p)) (has c.args.yellow p) (is_none (ended_by (given_of conditions) p)) (is_green (interval s p)) (is_none (ended_by (phases_given s c.args.row.now) p))
    (c.ended-ended.ensures (c.args.now - 1) p from to) refl (by-alike (given_of conditions) (phases_given s c.args.row.now) p from to alike))
    (λ p from to on. cause-alike plan (given_of conditions) (phases_given s c.args.row.now) p (phase_read s p) from to alike (same p from to)
    (and_parts (is_green (interval s p)) (has c.args.yellow p && is_none (ended_by (phases_given s c.args.row.now) p)) on).0)
    c.causes_of.ensures
  where
    plan : Plan
    plan = checked_plan c.args.plan.now

    old : Rows
    old = rows_of c.args.self.now

    s : State
    s = state_of (c.args.now - 1) (untripped plan desk lamp) old

    conditions : Conditions
    conditions = c.conditions-conditions.result

    sensed : IsSensed c.args.now c.args.row.now plan old (rows_of c.sense-sensed.new.self) c.sense-sensed.result
    sensed = subst (λ (r : Rows). IsSensed c.args.now c.args.row.now plan r (rows_of c.sense-sensed.new.self) c.sense-sensed.result) c.open.ensures.rows c.sense-sensed.ensures.sensed

    calls_same : (rows_of c.sense-sensed.new.self).calls ≡ old.calls
    calls_same = ap (λ (r : Rows). r.calls) sensed.rest

    sets : calls.IsSet (observed c.args.row.now c.sense-sensed.result) plan old.calls (calls_layer.cells_of c.tick-called.new.self)
    sets = subst (λ (row : List ℕ). calls.IsSet (observed c.args.row.now c.sense-sensed.result) plan row (calls_layer.cells_of c.tick-called.new.self)) calls_same
        (subst (λ (o : Observed). calls.IsSet o plan (rows_of c.sense-sensed.new.self).calls (calls_layer.cells_of c.tick-called.new.self)) c.observed.ensures c.tick-called.ensures.each)

    called : calls.TellsCalled (observed c.args.row.now c.sense-sensed.result) plan old.calls c.tick-called.result
    called = subst (λ (row : List ℕ). calls.TellsCalled (observed c.args.row.now c.sense-sensed.result) plan row c.tick-called.result) calls_same
        (subst (λ (o : Observed). calls.TellsCalled o plan (rows_of c.sense-sensed.new.self).calls c.tick-called.result) c.observed.ensures c.tick-called.ensures.called)

    alike : AgreeOnPhases (given_of conditions) (phases_given s c.args.row.now)
    alike = phases_alike c.args.now plan desk lamp c.args.row.now old (rows_of c.sense-sensed.new.self) (calls_layer.cells_of c.tick-called.new.self) c.sense-sensed.result c.tick-called.result
        c.requires.begun (placed c.args.plan.now) c.requires.by sensed sets called conditions c.vehicles.result.now c.vehicles.ensures.each c.conditions-conditions.ensures

    same : (p : ℕ) → 1 ≤ p → p ≤ 16 → IsToldTheSame plan (given_of conditions) (phases_given s c.args.row.now) p
    same = told c.args.now plan desk lamp c.args.row.now old (rows_of c.sense-sensed.new.self) (calls_layer.cells_of c.tick-called.new.self) c.sense-sensed.result c.tick-called.result
        c.requires.begun (placed c.args.plan.now) c.requires.by sensed sets called conditions c.vehicles.result.now c.vehicles.ensures.each c.conditions-conditions.ensures
