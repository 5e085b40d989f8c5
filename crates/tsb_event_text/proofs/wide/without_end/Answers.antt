use Rattle.std.proofs.Common.{◌≡◌, ◌∙◌, ◌<◌, ◌-◌, get_or, sym, arith}
use Rattle.tsb_event_text.proofs.TrimLemmas.{end-space, end-solid}
use Rattle.tsb_event_text.proofs.wide.without_end.Goals as goal
use Rattle.tsb_event_text.proofs.wide.without_end.Goals.{then-loop-end-test+else-text-end-eq32, else-loop-end-test}

pub loop-end-preserved : goal.loop-end-preserved
loop-end-preserved c = (
  omega (arith, c.loop-end.invariant.0),
  end-space c.args.text.now c.loop-end.end c.loop-end-test.true c.loop-end.invariant.0 c.if-text-end-eq32.true ∙ c.loop-end.invariant.1,
)

pub returns : goal.returns
returns c =
    let solid : 0 < c.loop-end.end → get_or c.args.text.now (c.loop-end.end - 1) 0 ≡ 32 → ⊥ =
    elim c.loop-end-test.branch [
      | then-loop-end-test+else-text-end-eq32 w ↦ λ p e. w.if-text-end-eq32.false e
      | else-loop-end-test w ↦ λ p e. absurd (omega (arith, p, w.loop-end-test.false))
    ] in
    sym (end-solid c.args.text.now c.loop-end.end c.loop-end.invariant.0 solid) ∙ c.loop-end.invariant.1
