use Rattle.std.proofs.Common.{◌≡◌, ℕ, ◌+◌, ◌-◌, ◌≤◌, true, false, Some, refl, sym, ap, ◌∙◌, ◌==◌, arith, rules}
use Rattle.std.proofs.lemmas.Bool.{eq-eqb, ne_eqb}
use Rattle.tsb_objects.specs.Checked.{checked_plan}
use Rattle.tsb_objects.specs.tsb_plan.Running.{running}
use Rattle.tsb_coord.specs.Cells.{pattern_in, correction_in}
use Rattle.tsb_objects.specs.tsb_plan.Parts.{cycle}
use Rattle.tsb_coord.specs.Clock.{shift}
use Rattle.tsb_coord.specs.Coordinated.{counter}
use Rattle.tsb_coord.specs.Correction.{ahead_in, is_in_step, shift_of}
use Rattle.tsb_coord.specs.Layer.{cells_of}
use Rattle.tsb_coord.proofs.WaitLemmas.{quiet_from, same_orders, is_exact, next_is_due}
use Rattle.tsb_objects.proofs.CheckedLemmas.{checked-phase_count}
use Rattle.tsb_coord.proofs.coord.Coord.due.Goals as goal

pub returns-then-ahead_before-eq0-clause-quiet : goal.returns-then-ahead_before-eq0-clause-quiet
returns-then-ahead_before-eq0-clause-quiet c =
    λ t later before orders said.
    let runs : running (checked_plan c.args.plan.now) (pattern_in (cells_of c.args.self.now)) ≡ Some c.in-Some.n = sym c.running.ensures.runs ∙ c.in-Some.is in
    let in_step : is_in_step (checked_plan c.args.plan.now) (pattern_in (cells_of c.args.self.now)) (correction_in (cells_of c.args.self.now)) (c.args.now - 1) ≡ true =
    ap (λ o. ahead_in (checked_plan c.args.plan.now) o (correction_in (cells_of c.args.self.now)) (c.args.now - 1) == 0) runs
    ∙ ap (λ d. ahead_in (checked_plan c.args.plan.now) (Some c.in-Some.n) d (c.args.now - 1) == 0) (sym c.correction-correction.ensures.value)
    ∙ eq-eqb (ahead_in (checked_plan c.args.plan.now) (Some c.in-Some.n) c.correction-correction.result (c.args.now - 1)) 0 (sym c.ahead_before.ensures.value ∙ c.if-ahead_before-eq0.true) in
    let shifted : c.args.now + c.shift.result ≡ c.args.now + shift_of (checked_plan c.args.plan.now) c.in-Some.n (correction_in (cells_of c.args.self.now)) =
    ap (λ (k : ℕ). c.args.now + k) (c.shift.ensures.value ∙ ap (λ d. shift (cycle (checked_plan c.args.plan.now) c.in-Some.n) d.midnight) c.correction-correction.ensures.value) in
    same_orders (checked_plan c.args.plan.now) (omega (arith, checked-phase_count c.args.plan.now)) c.plan-consistent.ensures.consistent c.in-Some.n (c.args.now + c.shift.result) c.ticks_to_next.result c.known.ensures.from
    c.known.ensures.within c.in-Some.ensures.used
    (quiet_from (checked_plan c.args.plan.now) c.in-Some.n (c.args.now + c.shift.result) c.ticks_to_next.result c.counter.result c.counter.ensures.value c.ticks_to_next.ensures.quiet c.ticks_to_next.ensures.permitted
    c.ticks_to_next.ensures.recycled)
    (pattern_in (cells_of c.args.self.now)) runs (cells_of c.args.self.now) c.args.now t orders refl shifted in_step later before said

pub returns-then-ahead_before-eq0-clause-exact : goal.returns-then-ahead_before-eq0-clause-exact
returns-then-ahead_before-eq0-clause-exact c =
    let few : (checked_plan c.args.plan.now).phase_count ≤ 16 = omega (arith, checked-phase_count c.args.plan.now) in
    let runs : running (checked_plan c.args.plan.now) (pattern_in (cells_of c.args.self.now)) ≡ Some c.in-Some.n = sym c.running.ensures.runs ∙ c.in-Some.is in
    let in_step : is_in_step (checked_plan c.args.plan.now) (pattern_in (cells_of c.args.self.now)) (correction_in (cells_of c.args.self.now)) (c.args.now - 1) ≡ true =
    ap (λ o. ahead_in (checked_plan c.args.plan.now) o (correction_in (cells_of c.args.self.now)) (c.args.now - 1) == 0) runs
    ∙ ap (λ d. ahead_in (checked_plan c.args.plan.now) (Some c.in-Some.n) d (c.args.now - 1) == 0) (sym c.correction-correction.ensures.value)
    ∙ eq-eqb (ahead_in (checked_plan c.args.plan.now) (Some c.in-Some.n) c.correction-correction.result (c.args.now - 1)) 0 (sym c.ahead_before.ensures.value ∙ c.if-ahead_before-eq0.true) in
    let x : ℕ = c.args.now + shift_of (checked_plan c.args.plan.now) c.in-Some.n (correction_in (cells_of c.args.self.now)) in
    let shifted : c.args.now + c.shift.result ≡ x =
    ap (λ (k : ℕ). c.args.now + k) (c.shift.ensures.value ∙ ap (λ d. shift (cycle (checked_plan c.args.plan.now) c.in-Some.n) d.midnight) c.correction-correction.ensures.value) in
    let told : c.counter.result ≡ counter (checked_plan c.args.plan.now) c.in-Some.n x = c.counter.ensures.value ∙ ap (counter (checked_plan c.args.plan.now) c.in-Some.n) shifted in
    is_exact (checked_plan c.args.plan.now) few c.plan-consistent.ensures.consistent c.in-Some.n c.args.now c.ticks_to_next.result c.counter.result
    c.known.ensures.from c.known.ensures.within c.in-Some.ensures.used (cells_of c.args.self.now) runs in_step
    told c.counter.ensures.below
    (quiet_from (checked_plan c.args.plan.now) c.in-Some.n x c.ticks_to_next.result c.counter.result told c.ticks_to_next.ensures.quiet c.ticks_to_next.ensures.permitted
    c.ticks_to_next.ensures.recycled)
    c.ticks_to_next.ensures.met

pub returns-else-ahead_before-eq0-clause-exact : goal.returns-else-ahead_before-eq0-clause-exact
returns-else-ahead_before-eq0-clause-exact c =
    let runs : running (checked_plan c.args.plan.now) (pattern_in (cells_of c.args.self.now)) ≡ Some c.in-Some.n = sym c.running.ensures.runs ∙ c.in-Some.is in
    let coming : is_in_step (checked_plan c.args.plan.now) (pattern_in (cells_of c.args.self.now)) (correction_in (cells_of c.args.self.now)) (c.args.now - 1) ≡ false =
    ap (λ o. ahead_in (checked_plan c.args.plan.now) o (correction_in (cells_of c.args.self.now)) (c.args.now - 1) == 0) runs
    ∙ ap (λ d. ahead_in (checked_plan c.args.plan.now) (Some c.in-Some.n) d (c.args.now - 1) == 0) (sym c.correction-correction.ensures.value)
    ∙ ne_eqb (ahead_in (checked_plan c.args.plan.now) (Some c.in-Some.n) c.correction-correction.result (c.args.now - 1)) 0 (λ e. c.if-ahead_before-eq0.false (c.ahead_before.ensures.value ∙ e)) in
    next_is_due (checked_plan c.args.plan.now) c.in-Some.n c.args.now (cells_of c.args.self.now) runs coming

pub returns-else-ahead_before-eq0-clause-quiet : goal.returns-else-ahead_before-eq0-clause-quiet
returns-else-ahead_before-eq0-clause-quiet c = search rules fits 100
