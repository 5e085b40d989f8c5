use Rattle.std.proofs.Common.{◌≡◌, ◌∙◌, ◌+◌, ◌-◌, ℕ, Some, arith, ap, get_or, sym}
use Rattle.std.proofs.lemmas.List.{get_or_default}
use Rattle.tsb_step.specs.declared.status.PreemptState.{PreemptState}
use Rattle.tsb_step.specs.declared.status.PreemptState.TheVariants.{NotActive}
use Rattle.tsb_status_text.specs.Json.{string}
use Rattle.tsb_status_text.specs.Names.{preempt_name}
use Rattle.tsb_status_text.specs.StatusText.{preempts_text, shown_preempts, state_text}
use Rattle.tsb_status_text.proofs.ListLemmas.{states-short, step-begin, step-end, step-on}
use Rattle.tsb_status_text.proofs.groups.push_preempts.Goals as goal

pub loop-k-init : goal.loop-k-init
unfolding preempts_text
loop-k-init c =
    let preempt : ℕ → PreemptState = λ n. get_or c.args.states.now (n - 1) NotActive in
    step-begin (state_text preempt) 1 1 (shown_preempts preempt) (c.shown_preempts-k-end.result - 0) 91 93 c.args.line.now c.push.new.self (omega arith)
    (omega (arith, c.shown_preempts-k-end.ensures.value)) c.push.ensures.line.line

pub loop-k-preserved : goal.loop-k-preserved
loop-k-preserved c =
    let k : ℕ = c.loop-k.k in
    let preempt : ℕ → PreemptState = λ n. get_or c.args.states.now (n - 1) NotActive in
    let same : k + 1 - 1 ≡ k = omega arith in
    let state = ap (λ (n : ℕ). get_or c.args.states.now n NotActive) same ∙ sym (get_or_default c.args.states.now k _ NotActive (omega (arith, c.loop-k-test.true))) in
    step-on (state_text preempt) c.loop-k.first (k + 1) (k + 1 + 1) (c.shown_preempts-k-end.result - k) (c.shown_preempts-k-end.result - (k + 1)) 93 _ c.loop-k.line _ _ _
    (omega arith) (omega (arith, c.loop-k-test.true)) (ap (λ (s : PreemptState). Some (string (preempt_name s))) state) c.separate.ensures c.push_preempt.ensures c.loop-k.invariant

pub returns : goal.returns
returns c =
    let preempt : ℕ → PreemptState = λ n. get_or c.args.states.now (n - 1) NotActive in
    record {
      line = record {
        line =
            step-end (state_text preempt) c.loop-k.first (c.loop-k.k + 1) (c.shown_preempts-k-end.result - c.loop-k.k) 93 c.loop-k.line c.push-2.new.self _
            (omega (arith, c.loop-k-test.false)) c.push-2.ensures.line.line c.loop-k.invariant;
      };
      short = states-short preempt;
    }
