use Rattle.std.proofs.Common.{◌≤◌, arith, length}
use Rattle.std.proofs.lemmas.Result.{err_from_is_err_and}
use Rattle.tsb_live_text.proofs.saved.SavedLemmas.{commands-end, commands-turn}
use Rattle.tsb_live_text.proofs.saved.SaysLemmas.{cut, last, left, more}
use Rattle.tsb_live_text.proofs.saved.say_commands.Goals as goal

pub returns-in_err-say_step-clause-told : goal.returns-in_err-say_step-clause-told
returns-in_err-say_step-clause-told g c = let p = err_from_is_err_and c.from_residual.result c.from_residual.ensures.1 in
    rw p.1 (cut p.0 _ _ _ _ _ _ _ _ _
    (left _ _ _ _ _ _ _ (commands-turn c.args.now c.args.others.now c.loop-other.other-index c.loop-other.tick c.saturating_sub.result c.other-item.result c.loop-other-test.true c.other-item.is c.saturating_sub.ensures) c.loop-other.invariant.saying)
    c.in_err-say_step.ensures.told)

pub returns-in_err-say_input-clause-told : goal.returns-in_err-say_input-clause-told
returns-in_err-say_input-clause-told g c = let p = err_from_is_err_and c.from_residual-in_err-say_input.result c.from_residual-in_err-say_input.ensures.1 in
    rw p.1 (cut p.0 _ _ _ _ _ _ _ _ _
    (more _ _ _ _ _ _ _ _ _
    (left _ _ _ _ _ _ _ (commands-turn c.args.now c.args.others.now c.loop-other.other-index c.loop-other.tick c.saturating_sub.result c.other-item.result c.loop-other-test.true c.other-item.is c.saturating_sub.ensures) c.loop-other.invariant.saying)
    c.in_ok-say_step.ensures.told)
    c.in_err-say_input.ensures.told)

pub loop-other-preserved : goal.loop-other-preserved
loop-other-preserved g c = record {
  saying = more _ _ _ _ _ _ _ _ _
      (more _ _ _ _ _ _ _ _ _
      (left _ _ _ _ _ _ _ (commands-turn c.args.now c.args.others.now c.loop-other.other-index c.loop-other.tick c.saturating_sub.result c.other-item.result c.loop-other-test.true c.other-item.is c.saturating_sub.ensures) c.loop-other.invariant.saying)
      c.in_ok-say_step.ensures.told)
      c.in_ok-say_input.ensures.told;
  well = λ w. c.in_ok-say_input.ensures.blame (c.in_ok-say_step.ensures.blame (c.loop-other.invariant.well w));
}

pub returns-clause-told : goal.returns-clause-told
returns-clause-told g c =
    let past : length c.args.others.now ≤ c.loop-other.other-index = omega (arith, c.loop-other-test.false) in
    last c.say_step-2.result _ _ _ _ _ _ _ _
    (left _ _ _ _ _ _ _ (commands-end c.args.now c.args.others.now c.loop-other.other-index c.loop-other.tick c.saturating_sub-2.result past c.saturating_sub-2.ensures) c.loop-other.invariant.saying)
    c.say_step-2.ensures.told
