use Rattle.std.proofs.Common.{◌≡◌, ℕ, ◌+◌, slice_index, sym, ◌∙◌, ap, arith, inl, inr, rules}
use Rattle.std.proofs.lemmas.Bool.{cases_eq}
use Rattle.tsb_preempt.specs.Layer.{cells_of}
use Rattle.tsb_preempt.proofs.preempts.Preempts.is_idle.Goals as goal

pub loop-n-preserved : goal.loop-n-preserved
loop-n-preserved c = record {
  from = omega arith;
  serving = λ none. c.loop-n.invariant.serving (c.either-cells.ensures.one none);
  delays = λ none k from below.
      elim (cases_eq k c.loop-n.n) [
        | inl same ↦
            ap (λ (m : ℕ). slice_index (cells_of c.args.self.now) (1 + m)) same ∙ sym c.delay.ensures ∙ c.either-cells.ensures.other none
        | inr other ↦ c.loop-n.invariant.delays (c.either-cells.ensures.one none) k from (omega (arith, below, other))
      ];
}

pub returns-then-cells-eq0 : goal.returns-then-cells-eq0
returns-then-cells-eq0 c = λ h.
    let none : c.loop-n.cells ≡ 0 = omega (arith, c.if-cells-eq0.true) in
    record {
      off = λ n from to. c.names_preempt.ensures (search rules) n from to;
      delays = λ n from to. c.loop-n.invariant.delays none n from (omega (arith, to));
      serving = c.loop-n.invariant.serving none;
    }
