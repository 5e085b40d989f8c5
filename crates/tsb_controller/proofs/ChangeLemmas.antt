-- The cells that differ: put back, within the bench, few, and of the rows that changed alone.
use Rattle.std.proofs.Common.{◌≡◌, ℕ, ◌≤◌, List, [], ◌++◌, length, sym, ap, ap₂, ◌∙◌, arith, subst, refl, append-nil}
use Rattle.tsb_cells.specs.Diff.{diff, apply_diff, part, shifted, AreWithin}
use Rattle.tsb_cells.proofs.DiffLemmas.{AreWithin-diff, apply_diff-diff, diff-same}
use Rattle.tsb_detect.proofs.ToldLemmas.{detectors-later}
use Rattle.tsb_phase.proofs.ReadLemmas as phases
use Rattle.tsb_preempt.proofs.ReadLemmas as preempts
use Rattle.tsb_overlap.proofs.CellLemmas as overlaps
use Rattle.tsb_step.specs.declared.first_cell.TheConstants.{DESK, DETECTORS, CALLS, PHASES, RINGS, COORD, PREEMPTS, OVERLAPS, MONITOR, ALL_CELLS}
use Rattle.tsb_controller.specs.Records.{changes}
use Rattle.tsb_controller.specs.Rows.{Rows}
use Rattle.tsb_controller.specs.Whole.{All, AreAllBy, whole, all_changes, all_put_back, RowsGoBack, EntriesAreWithin, ChangesAreFew, RowsStay, NothingDiffers, ChangesOfTheLayers, ChangesOfTheDesk, ChangesOfACommit}
use Rattle.tsb_controller.proofs.FewLemmas.{few}
use Rattle.tsb_controller.proofs.WholeLemmas.{full, back-full, whole-back, whole-differs, whole-full, whole-same}

-- ## The way back

differs : (m n : ℕ) (old new : All) → AreAllBy m old → AreAllBy n new → diff (whole old) (whole new) ≡ all_changes old new
differs m n old new by by_new = whole-differs old new (full m old by) (full n new by_new)

pub entries-within : EntriesAreWithin
entries-within m n old new by by_new =
    let long : length (whole old) ≡ ALL_CELLS = whole-full old (full m old by) in
    subst (λ (es : List (ℕ × ℕ)). AreWithin ALL_CELLS es) (differs m n old new by by_new) (AreWithin-diff ALL_CELLS (whole old) (whole new) (omega (arith, long)))

pub changes-few : ChangesAreFew
changes-few m n old new by by_new offset k =
    subst (λ (es : List (ℕ × ℕ)). length (part offset k es) ≤ k) (differs m n old new by by_new) (few offset k (whole old) (whole new))

pub rows-back : RowsGoBack
rows-back m n old new by by_new =
    whole-same (all_put_back new (all_changes old new)) old (back-full new (all_changes old new) (full n new by_new)) (full m old by)
    (sym (whole-back new (all_changes old new) (full n new by_new) (entries-within m n old new by by_new))
    ∙ ap (apply_diff (whole new)) (sym (differs m n old new by by_new))
    ∙ apply_diff-diff (whole old) (whole new) (whole-full old (full m old by) ∙ sym (whole-full new (full n new by_new))))

pub rows-stay : RowsStay
rows-stay m n r later by = record {
  detectors = detectors-later m n r.detectors later by.detectors;
  calls = by.calls;
  phases = phases.stays-by m n r.phases later by.phases;
  rings = by.rings;
  pattern = by.pattern;
  preempts = preempts.stays-by m n r.preempts later by.preempts;
  overlaps = overlaps.rows-later m n r.overlaps later by.overlaps;
}

-- ## Rows that stayed

same-none : (xs ys : List ℕ) → xs ≡ ys → diff xs ys ≡ []
same-none xs ys same = ap (diff xs) (sym same) ∙ diff-same xs

shifted-none : (offset : ℕ) (xs ys : List ℕ) → xs ≡ ys → shifted offset (diff xs ys) ≡ []
shifted-none offset xs ys same = ap (shifted offset) (same-none xs ys same)

joined : List (ℕ × ℕ) → List (ℕ × ℕ) → List (ℕ × ℕ)
joined es fs = es ++ fs

layers-none : (r s : Rows) → r ≡ s → changes r s ≡ []
unfolding joined
layers-none r s same =
    ap₂ joined (shifted-none DETECTORS _ _ (ap (λ (x : Rows). x.detectors) same))
    (ap₂ joined (shifted-none CALLS _ _ (ap (λ (x : Rows). x.calls) same))
    (ap₂ joined (shifted-none PHASES _ _ (ap (λ (x : Rows). x.phases) same))
    (ap₂ joined (shifted-none RINGS _ _ (ap (λ (x : Rows). x.rings) same))
    (ap₂ joined (shifted-none COORD _ _ (ap (λ (x : Rows). x.pattern) same))
    (ap₂ joined (shifted-none PREEMPTS _ _ (ap (λ (x : Rows). x.preempts) same))
    (shifted-none OVERLAPS _ _ (ap (λ (x : Rows). x.overlaps) same)))))))

pub changes-layers : ChangesOfTheLayers
changes-layers a b plan desk =
    let rest : List (ℕ × ℕ) = changes a.layers b.layers ++ shifted MONITOR (diff a.monitor b.monitor) in
    ap₂ (λ (es fs : List (ℕ × ℕ)). es ++ (fs ++ rest)) (same-none a.plan b.plan plan) (shifted-none DESK a.desk b.desk desk)

pub changes-desk : ChangesOfTheDesk
unfolding joined
changes-desk a b plan layers monitor =
    let edits : List (ℕ × ℕ) = shifted DESK (diff a.desk b.desk) in
    ap₂ (λ (es fs : List (ℕ × ℕ)). es ++ (edits ++ fs)) (same-none a.plan b.plan plan)
    (ap₂ joined (layers-none a.layers b.layers layers) (shifted-none MONITOR a.monitor b.monitor monitor))
    ∙ append-nil edits

pub changes-commit : ChangesOfACommit
changes-commit a b monitor =
    ap (λ (es : List (ℕ × ℕ)). diff a.plan b.plan ++ (shifted DESK (diff a.desk b.desk) ++ (changes a.layers b.layers ++ es))) (shifted-none MONITOR a.monitor b.monitor monitor)
    ∙ ap (λ (es : List (ℕ × ℕ)). diff a.plan b.plan ++ (shifted DESK (diff a.desk b.desk) ++ es)) (append-nil (changes a.layers b.layers))

pub nothing-differs : NothingDiffers
nothing-differs a = changes-desk a a refl refl refl ∙ shifted-none DESK a.desk a.desk refl
