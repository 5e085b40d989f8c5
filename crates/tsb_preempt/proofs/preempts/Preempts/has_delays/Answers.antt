use Rattle.std.proofs.Common.{◌≡◌, ℕ, ◌+◌, Bool, slice_index, refl, sym, subst, arith, inl, inr}
use Rattle.std.proofs.lemmas.Bool.{cases_eq}
use Rattle.tsb_types.specs.Sets.{has_number}
use Rattle.tsb_preempt.specs.Rows.{delay_cell}
use Rattle.tsb_preempt.specs.Layer.{cells_of}
use Rattle.tsb_preempt.proofs.preempts.Preempts.has_delays.Goals as goal

pub loop-n-preserved : goal.loop-n-preserved
loop-n-preserved c =
    let cells = cells_of c.args.self.now in
    let n : ℕ = c.loop-n.n in
    record {
      from = omega arith;
      follows = λ k from below t.
          elim (cases_eq k n) [
            | inl same ↦
                subst (λ (m : ℕ). slice_index cells (1 + m) ≡ delay_cell t (has_number c.args.inputs m) (slice_index cells (1 + m))) (sym same)
                (subst (λ (on : Bool). slice_index cells (1 + n) ≡ delay_cell t on (slice_index cells (1 + n))) c.contains.ensures
                (subst (λ (cell : ℕ). cell ≡ delay_cell t c.contains.result cell) c.delay.ensures (c.follows.ensures c.if-not-follows.false t)))
            | inr other ↦ c.loop-n.invariant.follows k from (omega (arith, below, other)) t
          ];
    }

pub returns : goal.returns
returns c = λ h t. record {
  each = λ n from to. c.loop-n.invariant.follows n from (omega (arith, to)) t;
  before = λ j below. refl;
  behind = λ j from. refl;
}
