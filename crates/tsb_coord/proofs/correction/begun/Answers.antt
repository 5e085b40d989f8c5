use Rattle.std.proofs.Common.{◌≡◌, ◌+◌, ℕ, sym, ap, ◌∙◌}
use Rattle.tsb_objects.specs.Checked.{checked_plan}
use Rattle.tsb_objects.specs.tsb_plan.Parts.{cycle, correction_mode}
use Rattle.tsb_objects.specs.tsb_plan.Plan.{Plan}
use Rattle.tsb_coord.specs.Clock.{shift}
use Rattle.tsb_coord.specs.Coordinated.{counter}
use Rattle.tsb_coord.specs.Correction.{begun, ahead_from}
use Rattle.tsb_coord.proofs.CorrectionLemmas.{ahead_found, begun_none, begun_some}
use Rattle.tsb_coord.proofs.correction.begun.Goals as goal

pub returns-then-ahead-eq0-clause-value : goal.returns-then-ahead-eq0-clause-value
returns-then-ahead-eq0-clause-value c =
    let plan : Plan = checked_plan c.args.plan.now in
    let t : ℕ = c.args.now + shift (cycle plan c.args.n) c.args.midnight in
    let at : c.counter.result ≡ counter plan c.args.n t = c.counter.ensures.value ∙ ap (λ (k : ℕ). counter plan c.args.n (c.args.now + k)) c.shift.ensures.value in
    let found : c.ahead_with-ahead.result ≡ ahead_from plan c.args.n t c.args.local.now =
    ahead_found plan c.args.n t c.in-Some.local c.cycle_of-cycle.result c.counter.result c.ahead_with-ahead.result c.correction_mode-mode.result
    c.cycle_of-cycle.ensures.value at c.counter.ensures.below (c.correction_mode-mode.ensures ∙ ap correction_mode c.plan.ensures.plan) c.ahead_with-ahead.ensures.value
    ∙ ap (ahead_from plan c.args.n t) (sym c.in-Some.is) in
    sym (begun_none c.args.now c.args.midnight c.ahead_with-ahead.result c.if-ahead-eq0.true) ∙ ap (begun c.args.now c.args.midnight) found

pub returns-else-ahead-eq0-clause-value : goal.returns-else-ahead-eq0-clause-value
returns-else-ahead-eq0-clause-value c =
    let plan : Plan = checked_plan c.args.plan.now in
    let t : ℕ = c.args.now + shift (cycle plan c.args.n) c.args.midnight in
    let at : c.counter.result ≡ counter plan c.args.n t = c.counter.ensures.value ∙ ap (λ (k : ℕ). counter plan c.args.n (c.args.now + k)) c.shift.ensures.value in
    let found : c.ahead_with-ahead.result ≡ ahead_from plan c.args.n t c.args.local.now =
    ahead_found plan c.args.n t c.in-Some.local c.cycle_of-cycle.result c.counter.result c.ahead_with-ahead.result c.correction_mode-mode.result
    c.cycle_of-cycle.ensures.value at c.counter.ensures.below (c.correction_mode-mode.ensures ∙ ap correction_mode c.plan.ensures.plan) c.ahead_with-ahead.ensures.value
    ∙ ap (ahead_from plan c.args.n t) (sym c.in-Some.is) in
    sym (begun_some c.args.now c.args.midnight c.ahead_with-ahead.result c.if-ahead-eq0.false) ∙ ap (begun c.args.now c.args.midnight) found
