use Rattle.std.proofs.Common.{◌≡◌, ℕ, ◌+◌, ◌-◌, ◌<◌, length, get_or, arith, sym, subst, ◌∙◌, inl, inr}
use Rattle.std.proofs.lemmas.Bool.Decides.{eqb_tells}
use Rattle.std.proofs.lemmas.List.{get_or-set_same, get_or-set_other, length-set}
use Rattle.tsb_step.specs.tsb_types.declared.limits.TheConstants.{PREEMPTS}
use Rattle.tsb_preempt.specs.Promises.{entered_of}
use Rattle.tsb_step.specs.declared.status.PreemptState.{PreemptState}
use Rattle.tsb_step.specs.declared.status.PreemptState.TheVariants.{NotActive}
use Rattle.tsb_step.specs.State.{State, interval}
use Rattle.tsb_step.specs.Status.{preempt_state}
use Rattle.tsb_controller.specs.Layer.{rows_of}
use Rattle.tsb_controller.specs.Rows.{state_of}
use Rattle.tsb_controller.specs.StatusPromises.{TellsPreempt}
use Rattle.tsb_controller.proofs.StatusSetLemmas.{entered-told}
use Rattle.tsb_controller.proofs.controller.Controller.preempt_states.Goals as goal

pub loop-k-preserved : goal.loop-k-preserved
loop-k-preserved c =
    let k : ℕ = c.loop-k.k in
    let within : k < PREEMPTS = c.loop-k-test.true in
    let full : length c.loop-k.states ≡ PREEMPTS = c.loop-k.invariant.full in
    let Told : ℕ → PreemptState → Type 0 = TellsPreempt c.has_entered-entered.result (rows_of c.args.self.now) in
    record {
      full = length-set c.loop-k.states k c.preempt_state.result ∙ full;
      told = λ j below.
          elim (eqb_tells j k) [
            | inl same ↦
                rw same.1 (subst (λ o. Told (k + 1) o) (sym (get_or-set_same c.loop-k.states k c.preempt_state.result NotActive (omega (arith, within, full))))
                (subst (λ n. Told n c.preempt_state.result) c.of.ensures c.preempt_state.ensures))
            | inr other ↦
                subst (λ o. Told (j + 1) o) (sym (get_or-set_other c.loop-k.states k j c.preempt_state.result NotActive other.1))
                (c.loop-k.invariant.told j (omega (arith, below, other.1)))
          ];
    }

pub returns : goal.returns
returns c n from to now b same =
    let s : State = state_of now b (rows_of c.args.self.now) in
    let entered : c.has_entered-entered.result ≡ entered_of b.plan (interval s) s.preempts.service =
    entered-told (rows_of c.args.self.now) c.intervals.result c.args.plan.now c.has_entered-entered.result c.intervals.ensures c.has_entered-entered.ensures now b same in
    let j : ℕ = n - 1 in
    let row : j + 1 ≡ n = omega (arith, from) in
    subst (λ (m : ℕ). get_or c.loop-k.states j NotActive ≡ preempt_state s s.preempts.service m) row
    (c.loop-k.invariant.told j (omega (arith, from, to)) now b entered)
