-- What is told of a phase is what its row says.
use Rattle.std.proofs.Common.{◌≡◌, ℕ, ◌≤◌, List, subst, sym}
use Rattle.tsb_phase.specs.declared.phase_row.PhaseRow.{PhaseRow}
use Rattle.tsb_phase.specs.declared.told.PhaseTimes.{PhaseTimes}
use Rattle.tsb_phase.specs.Cells.{phase_of, row_in}
use Rattle.tsb_phase.specs.Promises.{IsTold, TellsPhase}
use Rattle.tsb_phase.proofs.ReadLemmas.{phase_in-row}

pub phase-told : (now : ℕ) (cells : List ℕ) (p : ℕ) (r : PhaseRow) (told : PhaseTimes) → 1 ≤ p → p ≤ 16 → r ≡ row_in cells p →
    IsTold (phase_of now r) told → TellsPhase now cells p told
phase-told now cells p r told from within load h =
    subst (λ x. IsTold x told) (sym (phase_in-row now cells p from within))
    (subst (λ q. IsTold (phase_of now q) told) load h)
