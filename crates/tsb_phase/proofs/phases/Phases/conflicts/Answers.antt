use Rattle.std.proofs.Common.{◌≡◌, ◌∙◌, ℕ, ◌==◌, not, sym, ap, arith, refl, inl, inr, rules}
use Rattle.std.proofs.lemmas.Bool.{cases_Bool}
use Rattle.tsb_cells.specs.Timer.{timer_at, is_on}
use Rattle.tsb_phase.specs.Phase.{Phase}
use Rattle.tsb_phase.specs.Layer.{cells_of}
use Rattle.tsb_phase.proofs.ReadLemmas.{phase_in-row}
use Rattle.tsb_phase.specs.Cells.{row_in}
use Rattle.tsb_phase.proofs.phases.Phases.conflicts.Goals as goal

-- a cell that is not 0 keeps a timer that is On
on-cell : (now cell : ℕ) → not (cell == 0) ≡ is_on (timer_at now cell)
on-cell now cell = elim (cases_Bool (cell == 0)) [ inl none ↦ rw none refl | inr some ↦ rw some refl ]

pub returns : goal.returns
returns c = λ now p from within.
    c.loop-number.invariant.told p from (omega (arith, within)) ∙ on-cell now _
    ∙ ap (λ (y : Phase). is_on y.conflict) (sym (phase_in-row now (cells_of c.args.self.now) p from within))

pub loop-number-preserved : goal.loop-number-preserved
unfolding row_in
loop-number-preserved c = search rules fits 100
