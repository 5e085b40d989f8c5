use Rattle.std.proofs.Common.{◌≡◌, ◌∙◌, ◌+◌, ◌-◌, ℕ, Bool, inl, inr, arith, ap, get_or, if◌then◌else◌, sym}
use Rattle.std.proofs.lemmas.Bool.{cases_lt}
use Rattle.std.proofs.lemmas.List.{get_or_default}
use Rattle.tsb_objects.proofs.tsb_types.RunLemmas.{all-run_from, not_all-run_from}
use Rattle.tsb_step.specs.declared.status.PreemptState.TheVariants.{NotActive}
use Rattle.tsb_types.specs.declared.limits.TheConstants.{PREEMPTS}
use Rattle.tsb_status_text.specs.StatusText.{is_not_active}
use Rattle.tsb_status_text.proofs.groups.shown_preempts.Goals as goal

pub loop-k-preserved : goal.loop-k-preserved
loop-k-preserved c = λ n from to.
    let k : ℕ = c.loop-k.k in
    let same : k + 1 - 1 ≡ k = omega arith in
    elim (cases_lt n (k + 1)) [
      | inl earlier ↦ c.loop-k.invariant n from (omega (arith, earlier))
      | inr last ↦
          let here : n ≡ k + 1 = omega (arith, last, to) in
          rw here
          (ap is_not_active (ap (λ (i : ℕ). get_or c.args.states.now i NotActive) same ∙ sym (get_or_default c.args.states.now k _ NotActive (omega (arith, c.loop-k-test.true))))
          ∙ sym c.is_not_active.ensures ∙ c.if-not-is_not_active.false)
    ]

pub returns-then-not-is_not_active-clause-value : goal.returns-then-not-is_not_active-clause-value
returns-then-not-is_not_active-clause-value c =
    let k : ℕ = c.loop-k.k in
    let same : k + 1 - 1 ≡ k = omega arith in
    let state = ap (λ (i : ℕ). get_or c.args.states.now i NotActive) same ∙ sym (get_or_default c.args.states.now k _ NotActive (omega (arith, c.loop-k-test.true))) in
    sym (ap (λ (b : Bool). if b then 4 else PREEMPTS)
    (not_all-run_from (λ n. is_not_active (get_or c.args.states.now (n - 1) NotActive)) 5 (PREEMPTS - 4) (k + 1) (omega arith) (omega (arith, c.loop-k-test.true))
    (ap is_not_active state ∙ sym c.is_not_active.ensures ∙ c.if-not-is_not_active.true)))

pub returns-clause-value : goal.returns-clause-value
returns-clause-value c =
    sym (ap (λ (b : Bool). if b then 4 else PREEMPTS)
    (all-run_from (λ n. is_not_active (get_or c.args.states.now (n - 1) NotActive)) 5 (PREEMPTS - 4) (λ n from below. c.loop-k.invariant n from (omega (arith, below, c.loop-k-test.false)))))
