-- Records that end before the cells of phases: of these, and of all that come behind them, none changed.
use Rattle.std.proofs.Common.{suc, ◌≡◌, ℕ, ◌-◌, ◌<◌, ◌≤◌, List, [], ◌∷◌, ◌++◌, length, slice_get, true, refl, sym, ap, subst, ◌∙◌, arith, append-nil}
use Rattle.std.proofs.lemmas.Bool.Decides.{nat_tests}
use Rattle.std.specs.Bool.{⊤}
use Rattle.tsb_cells.specs.Diff.{diff, apply_diff, shifted}
use Rattle.tsb_cells.proofs.DiffLemmas.{apply_diff-diff}
use Rattle.tsb_step.specs.declared.first_cell.TheConstants.{DETECTORS, CALLS, PHASES, RINGS, COORD, PREEMPTS, OVERLAPS}
use Rattle.tsb_controller.specs.Passing.{ends_before_phases, is_before_phases, EarlyRecordsLeavePhases}

-- ## Entries from a cell on

-- all entries are of the cells from this one on
abbrev pub AreFrom : ℕ → List (ℕ × ℕ) → Type 0
AreFrom n [] = ⊤
AreFrom n (e ∷ es) = (n ≤ e.0) × AreFrom n es

pub shifted-from : (n offset : ℕ) (es : List (ℕ × ℕ)) → n ≤ offset → AreFrom n (shifted offset es)
shifted-from n offset [] later = tt
shifted-from n offset (e ∷ es) later = (omega (arith, later), shifted-from n offset es later)

append-from : (n : ℕ) (es fs : List (ℕ × ℕ)) → AreFrom n es → AreFrom n fs → AreFrom n (es ++ fs)
append-from n [] fs first second = second
append-from n (e ∷ es) fs first second = (first.0, append-from n es fs first.1 second)

-- ## Records that end before the phases

abbrev pub EndsBeforePhases : List (ℕ × ℕ) → Type 0
EndsBeforePhases es = ends_before_phases es ≡ true

tail-before : (e : ℕ × ℕ) (es : List (ℕ × ℕ)) → EndsBeforePhases (e ∷ es) → EndsBeforePhases es
tail-before e [] before = refl
tail-before e (f ∷ es) before =
    let here : length (f ∷ es) - 1 ≡ length es = omega arith in
    let there : length (e ∷ f ∷ es) - 1 ≡ suc (length es) = omega arith in
    ap (λ (k : ℕ). is_before_phases (slice_get (f ∷ es) k)) here ∙ sym (ap (λ (k : ℕ). is_before_phases (slice_get (e ∷ f ∷ es) k)) there) ∙ before

pub rest-before : (es fs : List (ℕ × ℕ)) → EndsBeforePhases (es ++ fs) → EndsBeforePhases fs
rest-before [] fs before = before
rest-before (e ∷ es) fs before = rest-before es fs (tail-before e (es ++ fs) before)

never : (e : ℕ × ℕ) (es : List (ℕ × ℕ)) → e ∷ es ≡ [] → ⊥
never e es same = cc

none-from : (es : List (ℕ × ℕ)) → AreFrom PHASES es → EndsBeforePhases es → es ≡ []
none-from [] from before = refl
none-from (e ∷ []) from before = (let later : PHASES ≤ e.0 = from.0 in let sooner : e.0 < PHASES = grind (arith, nat_tests, before) in absurd (omega (arith, later, sooner)))
none-from (e ∷ (f ∷ es)) from before = (let none : f ∷ es ≡ [] = none-from (f ∷ es) from.1 (tail-before e (f ∷ es) before) in absurd (never f es none))

-- what comes from the phases on is none, and the record ends before it
pub first-before : (es fs : List (ℕ × ℕ)) → AreFrom PHASES fs → EndsBeforePhases (es ++ fs) → EndsBeforePhases es
first-before es fs from before =
    subst EndsBeforePhases (ap (λ (gs : List (ℕ × ℕ)). es ++ gs) (none-from fs from (rest-before es fs before)) ∙ append-nil es) before

-- ## The rows

first-none : (xs ys : List (ℕ × ℕ)) → xs ++ ys ≡ [] → xs ≡ []
first-none [] ys e = refl
first-none (x ∷ xs) ys e = absurd cc

rest-none : (xs ys : List (ℕ × ℕ)) → xs ++ ys ≡ [] → ys ≡ []
rest-none [] ys e = e
rest-none (x ∷ xs) ys e = absurd cc

unshifted : (offset : ℕ) (es : List (ℕ × ℕ)) → shifted offset es ≡ [] → es ≡ []
unshifted offset [] e = refl
unshifted offset (x ∷ es) e = absurd cc

same-cells : (offset : ℕ) (old new : List ℕ) → length old ≡ length new → shifted offset (diff old new) ≡ [] → old ≡ new
same-cells offset old new full e = sym (apply_diff-diff old new full) ∙ ap (apply_diff new) (unshifted offset (diff old new) e)

pub early-leave : EarlyRecordsLeavePhases
early-leave m n old new was is before =
    let phases_changed : List (ℕ × ℕ) = shifted PHASES (diff old.phases new.phases) in
    let rings_changed : List (ℕ × ℕ) = shifted RINGS (diff old.rings new.rings) in
    let pattern_changed : List (ℕ × ℕ) = shifted COORD (diff old.pattern new.pattern) in
    let preempts_changed : List (ℕ × ℕ) = shifted PREEMPTS (diff old.preempts new.preempts) in
    let overlaps_changed : List (ℕ × ℕ) = shifted OVERLAPS (diff old.overlaps new.overlaps) in
    let from : AreFrom PHASES (phases_changed ++ (rings_changed ++ (pattern_changed ++ (preempts_changed ++ overlaps_changed)))) =
    append-from PHASES phases_changed _ (shifted-from PHASES PHASES (diff old.phases new.phases) (omega arith))
    (append-from PHASES rings_changed _ (shifted-from PHASES RINGS (diff old.rings new.rings) (omega arith))
    (append-from PHASES pattern_changed _ (shifted-from PHASES COORD (diff old.pattern new.pattern) (omega arith))
    (append-from PHASES preempts_changed _ (shifted-from PHASES PREEMPTS (diff old.preempts new.preempts) (omega arith))
    (shifted-from PHASES OVERLAPS (diff old.overlaps new.overlaps) (omega arith))))) in
    let after_calls : phases_changed ++ (rings_changed ++ (pattern_changed ++ (preempts_changed ++ overlaps_changed))) ≡ [] =
    none-from _ from (rest-before (shifted CALLS (diff old.calls new.calls)) _ (rest-before (shifted DETECTORS (diff old.detectors new.detectors)) _ before)) in
    let after_phases : rings_changed ++ (pattern_changed ++ (preempts_changed ++ overlaps_changed)) ≡ [] = rest-none phases_changed _ after_calls in
    let after_rings : pattern_changed ++ (preempts_changed ++ overlaps_changed) ≡ [] = rest-none rings_changed _ after_phases in
    let after_pattern : preempts_changed ++ overlaps_changed ≡ [] = rest-none pattern_changed _ after_rings in
    let phases : old.phases ≡ new.phases =
    same-cells PHASES old.phases new.phases (was.phases.full ∙ sym is.phases.full) (first-none phases_changed _ after_calls) in
    let rings : old.rings ≡ new.rings =
    same-cells RINGS old.rings new.rings (was.rings.full ∙ sym is.rings.full) (first-none rings_changed _ after_phases) in
    let pattern : old.pattern ≡ new.pattern =
    same-cells COORD old.pattern new.pattern (was.pattern.full ∙ sym is.pattern.full) (first-none pattern_changed _ after_rings) in
    let preempts : old.preempts ≡ new.preempts =
    same-cells PREEMPTS old.preempts new.preempts (was.preempts.full ∙ sym is.preempts.full) (first-none preempts_changed _ after_pattern) in
    let overlaps : old.overlaps ≡ new.overlaps =
    same-cells OVERLAPS old.overlaps new.overlaps (was.overlaps.full ∙ sym is.overlaps.full) (rest-none preempts_changed _ after_pattern) in
    λ i. record {
      detectors = old.detectors;
      calls = old.calls;
      phases = phases i;
      rings = rings i;
      pattern = pattern i;
      preempts = preempts i;
      overlaps = overlaps i;
    }
