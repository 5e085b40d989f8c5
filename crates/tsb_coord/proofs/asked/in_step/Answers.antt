use Rattle.std.proofs.Common.{◌≡◌, ◌+◌, ◌-◌, ◌==◌, ◌&&◌, not, Bool, ℕ, true, Some, sym, ap, ◌∙◌}
use Rattle.std.proofs.lemmas.Bool.{eq-eqb}
use Rattle.tsb_objects.specs.Checked.{checked_plan}
use Rattle.tsb_objects.specs.tsb_plan.Parts.{cycle}
use Rattle.tsb_objects.specs.tsb_plan.Plan.{Plan}
use Rattle.tsb_coord.specs.Coordinated.{counter, force_off, forces_off, may_recycle, is_left, walk_and_clearance}
use Rattle.tsb_coord.specs.Correction.{ahead_in}
use Rattle.tsb_coord.proofs.CorrectionLemmas.{forces_then, walks_then}
use Rattle.tsb_coord.proofs.asked.in_step.Goals as goal

pub returns-clause-forced : goal.returns-clause-forced
returns-clause-forced c = λ p from to.
    let plan : Plan = checked_plan c.args.plan.now in
    let before : (ahead_in plan (Some c.args.n) c.args.correction (c.args.now - 1) == 0) ≡ true = eq-eqb (ahead_in plan (Some c.args.n) c.args.correction (c.args.now - 1)) 0 c.requires.before in
    c.forced_at-forced.ensures p from to
    ∙ ap (λ (x : ℕ). forces_off plan (Some c.args.n) (Some x) p) (c.counter-local.ensures.value ∙ ap (λ (k : ℕ). counter plan c.args.n (c.args.now + k)) c.shift.ensures.value)
    ∙ sym (forces_then plan c.args.n c.args.correction c.args.now p c.requires.used before)

pub returns-clause-recycle : goal.returns-clause-recycle
returns-clause-recycle c = λ p from to.
    let plan : Plan = checked_plan c.args.plan.now in
    let before : (ahead_in plan (Some c.args.n) c.args.correction (c.args.now - 1) == 0) ≡ true = eq-eqb (ahead_in plan (Some c.args.n) c.args.correction (c.args.now - 1)) 0 c.requires.before in
    let fits : ℕ → Bool = λ x. is_left (cycle plan c.args.n) (walk_and_clearance plan p) (Some x) (force_off plan (Some c.args.n) p) in
    c.recycled_at.ensures p from to
    ∙ ap (λ (b : Bool). may_recycle plan (Some c.args.n) p && (not b && fits c.counter-local.result)) (c.forced_at-forced.ensures p from to)
    ∙ ap (λ (x : ℕ). may_recycle plan (Some c.args.n) p && (not (forces_off plan (Some c.args.n) (Some x) p) && fits x)) (c.counter-local.ensures.value ∙ ap (λ (k : ℕ). counter plan c.args.n (c.args.now + k)) c.shift.ensures.value)
    ∙ sym (walks_then plan c.args.n c.args.correction c.args.now p c.requires.used before)
