-- All rows side by side: their table, their differences, and what is read in them.
use Rattle.std.proofs.Common.{◌≡◌, ℕ, ◌+◌, ◌-◌, List, [], ◌++◌, length, refl, sym, ap, ap₂, ◌∙◌, arith, subst, append_assoc, length-append}
use Rattle.std.proofs.lemmas.List.{places, same_lists}
use Rattle.tsb_cells.specs.Diff.{diff_from, diff, apply_diff, part, shifted, AreWithin}
use Rattle.tsb_cells.specs.Row.{row_at}
use Rattle.tsb_cells.proofs.DiffLemmas.{length-apply_diff, apply_diff-diff}
use Rattle.tsb_cells.proofs.PartLemmas.{diff_from-append, diff_from-shifted, diff-append, apply_diff-append, part-part, AreWithin-part, part-own}
use Rattle.tsb_history.specs.History.{Change}
use Rattle.tsb_step.specs.tsb_plan.PlanOf.{plan_in}
use Rattle.tsb_detect.specs.Cells.{detector_in}
use Rattle.tsb_detect.proofs.ToldLemmas as detect
use Rattle.tsb_calls.specs.Cells.{memories_in}
use Rattle.tsb_calls.proofs.ToldLemmas as calls
use Rattle.tsb_phase.specs.Cells.{phase_in}
use Rattle.tsb_phase.proofs.ToldLemmas as phases
use Rattle.tsb_ring.specs.Cells.{rings_in}
use Rattle.tsb_ring.proofs.ToldLemmas as rings
use Rattle.tsb_coord.specs.Cells.{pattern_in, correction_in, start_in}
use Rattle.tsb_coord.proofs.CellLemmas as coord
use Rattle.tsb_preempt.specs.Cells.{preempts_in}
use Rattle.tsb_preempt.proofs.ReadLemmas as preempts
use Rattle.tsb_overlap.specs.Cells.{overlap_in, omitted_in}
use Rattle.tsb_overlap.proofs.ToldLemmas as overlaps
use Rattle.tsb_transact.specs.Cells.{desk_in}
use Rattle.tsb_transact.specs.Laws as desk
use Rattle.tsb_step.specs.Cells.{cells_of, state_in, clock_at}
use Rattle.tsb_step.specs.MonitorCells.{lamp_in, trip_in}
use Rattle.tsb_step.specs.Past.{ticks_of}
use Rattle.tsb_step.specs.Step.{kind_of}
use Rattle.tsb_step.proofs.MonitorLemmas as monitor
use Rattle.tsb_step.specs.tsb_plan.declared.object.TheConstants.{PLAN_CELLS}
use Rattle.tsb_transact.specs.declared.TheConstants.{CELLS as DESK_CELLS}
use Rattle.tsb_detect.specs.declared.TheConstants.{CELLS as DETECTOR_CELLS}
use Rattle.tsb_calls.specs.declared.TheConstants.{CELLS as CALL_CELLS}
use Rattle.tsb_phase.specs.declared.TheConstants.{CELLS as PHASE_CELLS}
use Rattle.tsb_ring.specs.declared.TheConstants.{CELLS as RING_CELLS}
use Rattle.tsb_coord.specs.declared.TheConstants.{CELLS as PATTERN_CELLS}
use Rattle.tsb_preempt.specs.declared.TheConstants.{CELLS as PREEMPT_CELLS}
use Rattle.tsb_overlap.specs.declared.TheConstants.{CELLS as OVERLAP_CELLS}
use Rattle.tsb_step.specs.declared.TheConstants.{MONITOR_CELLS}
use Rattle.tsb_step.specs.declared.first_cell.TheConstants.{DESK, DETECTORS, CALLS, PHASES, RINGS, COORD, PREEMPTS, OVERLAPS, MONITOR, ALL_CELLS}
use Rattle.tsb_controller.specs.Whole.{All, AreFull, AreAllBy, whole, all_in, all_changes, all_put_back, RowsAreTold, RecordsAreJoined, RecordsGoBack, RecordsGiveBack, RecordsAreFew}
use Rattle.tsb_controller.proofs.FewLemmas.{few}
use Rattle.tsb_step.proofs.tsb_plan.ToldLemmas.{plan_cells-plan_in}

pub full : (now : ℕ) (a : All) → AreAllBy now a → AreFull a
full now a by = record {
  plan = by.plan;
  desk = by.desk.full;
  detectors = by.layers.detectors.full;
  calls = by.layers.calls.full;
  phases = by.layers.phases.full;
  rings = by.layers.rings.full;
  pattern = by.layers.pattern.full;
  preempts = by.layers.preempts.full;
  overlaps = by.layers.overlaps.full;
  monitor = by.monitor.full;
}

-- ## The table

pub regrouped : (a b c d e f g h i j : List ℕ) →
    (((((((((a ++ b) ++ c) ++ d) ++ e) ++ f) ++ g) ++ h) ++ i) ++ j) ≡ a ++ (b ++ (c ++ (d ++ (e ++ (f ++ (g ++ (h ++ (i ++ j))))))))
regrouped a b c d e f g h i j = simp (append_assoc)

together : List ℕ → List ℕ → List ℕ
together xs ys = xs ++ ys

pub rows-told : desk.RowsAreTold → RowsAreTold
unfolding cells_of together
rows-told desk_told now a by =
    let clock : ℕ = clock_at now (trip_in a.monitor) in
    ap₂ together (ap₂ together (ap₂ together (ap₂ together (ap₂ together (ap₂ together (ap₂ together (ap₂ together (ap₂ together
    (plan_cells-plan_in a.plan by.plan)
    (desk_told a.desk by.desk))
    (detect.detectors-told clock a.layers.detectors by.layers.detectors))
    (calls.calls-told a.layers.calls by.layers.calls))
    (phases.rows-told clock a.layers.phases by.layers.phases))
    (rings.rows-told a.layers.rings by.layers.rings))
    (coord.row_told a.layers.pattern by.layers.pattern))
    (preempts.preempts-told clock a.layers.preempts by.layers.preempts))
    (overlaps.overlaps-told clock a.layers.overlaps by.layers.overlaps))
    (monitor.rows-told now a.monitor by.monitor)
    ∙ regrouped a.plan a.desk a.layers.detectors a.layers.calls a.layers.phases a.layers.rings a.layers.pattern a.layers.preempts a.layers.overlaps a.monitor

-- ## Differences

-- of two rows side by side, the cells numbered from k on
beside : (k n : ℕ) (xs vs ys ws : List ℕ) → length xs ≡ n → length vs ≡ n → diff_from k (xs ++ ys) (vs ++ ws) ≡ shifted k (diff xs vs) ++ diff_from (k + n) ys ws
beside k n xs vs ys ws long also =
    diff_from-append k xs ys vs ws (long ∙ sym also)
    ∙ ap₂ (λ (es : List (ℕ × ℕ)) (m : ℕ). es ++ diff_from (k + m) ys ws) (diff_from-shifted k xs vs) long

-- the first are numbered from 0
first : (n : ℕ) (xs vs ys ws : List ℕ) → length xs ≡ n → length vs ≡ n → diff (xs ++ ys) (vs ++ ws) ≡ diff xs vs ++ diff_from n ys ws
first n xs vs ys ws long also =
    diff-append xs ys vs ws (long ∙ sym also)
    ∙ ap (λ (m : ℕ). diff xs vs ++ shifted m (diff ys ws)) long
    ∙ ap (λ (es : List (ℕ × ℕ)). diff xs vs ++ es) (sym (diff_from-shifted n ys ws))

layers-behind : (a b c d e f g h : List (ℕ × ℕ)) → a ++ (b ++ (c ++ (d ++ (e ++ (f ++ (g ++ h)))))) ≡ (a ++ (b ++ (c ++ (d ++ (e ++ (f ++ g)))))) ++ h
layers-behind a b c d e f g h = simp (append_assoc)

pub whole-differs : (a b : All) → AreFull a → AreFull b → diff (whole a) (whole b) ≡ all_changes a b
whole-differs a b long also =
    first PLAN_CELLS a.plan b.plan _ _ long.plan also.plan
    ∙ ap (λ (es : List (ℕ × ℕ)). diff a.plan b.plan ++ es)
    (beside DESK DESK_CELLS a.desk b.desk _ _ long.desk also.desk
    ∙ ap (λ (es : List (ℕ × ℕ)). shifted DESK (diff a.desk b.desk) ++ es)
    (beside DETECTORS DETECTOR_CELLS a.layers.detectors b.layers.detectors _ _ long.detectors also.detectors
    ∙ ap (λ (es : List (ℕ × ℕ)). shifted DETECTORS (diff a.layers.detectors b.layers.detectors) ++ es)
    (beside CALLS CALL_CELLS a.layers.calls b.layers.calls _ _ long.calls also.calls
    ∙ ap (λ (es : List (ℕ × ℕ)). shifted CALLS (diff a.layers.calls b.layers.calls) ++ es)
    (beside PHASES PHASE_CELLS a.layers.phases b.layers.phases _ _ long.phases also.phases
    ∙ ap (λ (es : List (ℕ × ℕ)). shifted PHASES (diff a.layers.phases b.layers.phases) ++ es)
    (beside RINGS RING_CELLS a.layers.rings b.layers.rings _ _ long.rings also.rings
    ∙ ap (λ (es : List (ℕ × ℕ)). shifted RINGS (diff a.layers.rings b.layers.rings) ++ es)
    (beside COORD PATTERN_CELLS a.layers.pattern b.layers.pattern _ _ long.pattern also.pattern
    ∙ ap (λ (es : List (ℕ × ℕ)). shifted COORD (diff a.layers.pattern b.layers.pattern) ++ es)
    (beside PREEMPTS PREEMPT_CELLS a.layers.preempts b.layers.preempts _ _ long.preempts also.preempts
    ∙ ap (λ (es : List (ℕ × ℕ)). shifted PREEMPTS (diff a.layers.preempts b.layers.preempts) ++ es)
    (beside OVERLAPS OVERLAP_CELLS a.layers.overlaps b.layers.overlaps a.monitor b.monitor long.overlaps also.overlaps
    ∙ ap (λ (es : List (ℕ × ℕ)). shifted OVERLAPS (diff a.layers.overlaps b.layers.overlaps) ++ es) (diff_from-shifted MONITOR a.monitor b.monitor)))))))
    ∙ layers-behind (shifted DETECTORS (diff a.layers.detectors b.layers.detectors)) (shifted CALLS (diff a.layers.calls b.layers.calls)) (shifted PHASES (diff a.layers.phases b.layers.phases)) (shifted RINGS (diff a.layers.rings b.layers.rings)) (shifted COORD (diff a.layers.pattern b.layers.pattern)) (shifted PREEMPTS (diff a.layers.preempts b.layers.preempts))
    (shifted OVERLAPS (diff a.layers.overlaps b.layers.overlaps)) (shifted MONITOR (diff a.monitor b.monitor))))

pub records-joined : desk.RowsAreTold → RecordsAreJoined
records-joined desk_told i m n old new by by_new =
    ap (λ (es : List (ℕ × ℕ)). let made : Change = record { kind = kind_of i; entries = es } in made)
    (ap₂ diff (rows-told desk_told m old by) (rows-told desk_told n new by_new) ∙ whole-differs old new (full m old by) (full n new by_new))

-- ## Entries put back

-- entries put into two rows side by side are put into each by its own part, the cells numbered from k on
parts : (k m n : ℕ) (xs ys : List ℕ) (es : List (ℕ × ℕ)) → length xs ≡ m → length ys ≡ n →
    apply_diff (xs ++ ys) (part k (m + n) es) ≡ apply_diff xs (part k m es) ++ apply_diff ys (part (k + m) n es)
parts k m n xs ys es long also =
    apply_diff-append xs ys (part k (m + n) es) (subst (λ (w : ℕ). AreWithin w (part k (m + n) es)) (ap₂ (λ (x y : ℕ). x + y) (sym long) (sym also)) (AreWithin-part k (m + n) es))
    ∙ ap₂ (λ (x y : ℕ). apply_diff xs (part 0 x (part k (m + n) es)) ++ apply_diff ys (part x y (part k (m + n) es))) long also
    ∙ ap₂ (λ (one two : List (ℕ × ℕ)). apply_diff xs one ++ apply_diff ys two)
    (part-part k (m + n) 0 m es (omega arith) ∙ ap (λ (x : ℕ). part x m es) none)
    (part-part k (m + n) m n es (omega arith))
  where
    none : k + 0 ≡ k
    none = omega arith

behind : (m n : ℕ) (xs ys : List ℕ) → length xs ≡ m → length ys ≡ n → length (xs ++ ys) ≡ m + n
behind m n xs ys long also = length-append xs ys ∙ ap₂ (λ (x y : ℕ). x + y) long also

pub whole-back : (a : All) (es : List (ℕ × ℕ)) → AreFull a → AreWithin ALL_CELLS es → apply_diff (whole a) es ≡ whole (all_put_back a es)
whole-back a es long within =
    ap (apply_diff (whole a)) (sym (part-own ALL_CELLS es within))
    ∙ parts 0 PLAN_CELLS (ALL_CELLS - DESK) a.plan _ es long.plan l1
    ∙ ap (λ (xs : List ℕ). apply_diff a.plan (part 0 PLAN_CELLS es) ++ xs)
    (parts DESK DESK_CELLS (ALL_CELLS - DETECTORS) a.desk _ es long.desk l2
    ∙ ap (λ (xs : List ℕ). apply_diff a.desk (part DESK DESK_CELLS es) ++ xs)
    (parts DETECTORS DETECTOR_CELLS (ALL_CELLS - CALLS) a.layers.detectors _ es long.detectors l3
    ∙ ap (λ (xs : List ℕ). apply_diff a.layers.detectors (part DETECTORS DETECTOR_CELLS es) ++ xs)
    (parts CALLS CALL_CELLS (ALL_CELLS - PHASES) a.layers.calls _ es long.calls l4
    ∙ ap (λ (xs : List ℕ). apply_diff a.layers.calls (part CALLS CALL_CELLS es) ++ xs)
    (parts PHASES PHASE_CELLS (ALL_CELLS - RINGS) a.layers.phases _ es long.phases l5
    ∙ ap (λ (xs : List ℕ). apply_diff a.layers.phases (part PHASES PHASE_CELLS es) ++ xs)
    (parts RINGS RING_CELLS (ALL_CELLS - COORD) a.layers.rings _ es long.rings l6
    ∙ ap (λ (xs : List ℕ). apply_diff a.layers.rings (part RINGS RING_CELLS es) ++ xs)
    (parts COORD PATTERN_CELLS (ALL_CELLS - PREEMPTS) a.layers.pattern _ es long.pattern l7
    ∙ ap (λ (xs : List ℕ). apply_diff a.layers.pattern (part COORD PATTERN_CELLS es) ++ xs)
    (parts PREEMPTS PREEMPT_CELLS (ALL_CELLS - OVERLAPS) a.layers.preempts _ es long.preempts l8
    ∙ ap (λ (xs : List ℕ). apply_diff a.layers.preempts (part PREEMPTS PREEMPT_CELLS es) ++ xs)
    (parts OVERLAPS OVERLAP_CELLS MONITOR_CELLS a.layers.overlaps a.monitor es long.overlaps long.monitor))))))))
  where
    l8 : length (a.layers.overlaps ++ a.monitor) ≡ ALL_CELLS - OVERLAPS
    l8 = behind OVERLAP_CELLS MONITOR_CELLS a.layers.overlaps a.monitor long.overlaps long.monitor

    l7 : length (a.layers.preempts ++ (a.layers.overlaps ++ a.monitor)) ≡ ALL_CELLS - PREEMPTS
    l7 = behind PREEMPT_CELLS (ALL_CELLS - OVERLAPS) a.layers.preempts _ long.preempts l8

    l6 : length (a.layers.pattern ++ (a.layers.preempts ++ (a.layers.overlaps ++ a.monitor))) ≡ ALL_CELLS - COORD
    l6 = behind PATTERN_CELLS (ALL_CELLS - PREEMPTS) a.layers.pattern _ long.pattern l7

    l5 : length (a.layers.rings ++ (a.layers.pattern ++ (a.layers.preempts ++ (a.layers.overlaps ++ a.monitor)))) ≡ ALL_CELLS - RINGS
    l5 = behind RING_CELLS (ALL_CELLS - COORD) a.layers.rings _ long.rings l6

    l4 : length (a.layers.phases ++ (a.layers.rings ++ (a.layers.pattern ++ (a.layers.preempts ++ (a.layers.overlaps ++ a.monitor))))) ≡ ALL_CELLS - PHASES
    l4 = behind PHASE_CELLS (ALL_CELLS - RINGS) a.layers.phases _ long.phases l5

    l3 : length (a.layers.calls ++ (a.layers.phases ++ (a.layers.rings ++ (a.layers.pattern ++ (a.layers.preempts ++ (a.layers.overlaps ++ a.monitor)))))) ≡ ALL_CELLS - CALLS
    l3 = behind CALL_CELLS (ALL_CELLS - PHASES) a.layers.calls _ long.calls l4

    l2 : length (a.layers.detectors ++ (a.layers.calls ++ (a.layers.phases ++ (a.layers.rings ++ (a.layers.pattern ++ (a.layers.preempts ++ (a.layers.overlaps ++ a.monitor))))))) ≡ ALL_CELLS - DETECTORS
    l2 = behind DETECTOR_CELLS (ALL_CELLS - CALLS) a.layers.detectors _ long.detectors l3

    l1 : length (a.desk ++ (a.layers.detectors ++ (a.layers.calls ++ (a.layers.phases ++ (a.layers.rings ++ (a.layers.pattern ++ (a.layers.preempts ++ (a.layers.overlaps ++ a.monitor)))))))) ≡ ALL_CELLS - DESK
    l1 = behind DESK_CELLS (ALL_CELLS - DETECTORS) a.desk _ long.desk l2

-- ## Reading

-- a row among others
row-in : (before xs behind_it : List ℕ) (at w : ℕ) → length before ≡ at → length xs ≡ w → row_at w (before ++ (xs ++ behind_it)) at ≡ xs
row-in before xs behind_it at w start long = same_lists _ _ (search (arith, places)) (λ i d b. grind (arith, places))

last : (before xs : List ℕ) (at w : ℕ) → length before ≡ at → length xs ≡ w → row_at w (before ++ xs) at ≡ xs
last before xs at w start long = same_lists _ _ (search (arith, places)) (λ i d b. grind (arith, places))

module _ (a : All) (long : AreFull a) where
  -- the rows before each, and after it
  abbrev b2 : List ℕ
  b2 = a.plan ++ a.desk

  abbrev b3 : List ℕ
  b3 = (a.plan ++ a.desk) ++ a.layers.detectors

  abbrev b4 : List ℕ
  b4 = ((a.plan ++ a.desk) ++ a.layers.detectors) ++ a.layers.calls

  abbrev b5 : List ℕ
  b5 = (((a.plan ++ a.desk) ++ a.layers.detectors) ++ a.layers.calls) ++ a.layers.phases

  abbrev b6 : List ℕ
  b6 = ((((a.plan ++ a.desk) ++ a.layers.detectors) ++ a.layers.calls) ++ a.layers.phases) ++ a.layers.rings

  abbrev b7 : List ℕ
  b7 = (((((a.plan ++ a.desk) ++ a.layers.detectors) ++ a.layers.calls) ++ a.layers.phases) ++ a.layers.rings) ++ a.layers.pattern

  abbrev b8 : List ℕ
  b8 = ((((((a.plan ++ a.desk) ++ a.layers.detectors) ++ a.layers.calls) ++ a.layers.phases) ++ a.layers.rings) ++ a.layers.pattern) ++ a.layers.preempts

  abbrev t7 : List ℕ
  t7 = a.layers.preempts ++ (a.layers.overlaps ++ a.monitor)

  abbrev t6 : List ℕ
  t6 = a.layers.pattern ++ (a.layers.preempts ++ (a.layers.overlaps ++ a.monitor))

  abbrev t5 : List ℕ
  t5 = a.layers.rings ++ (a.layers.pattern ++ (a.layers.preempts ++ (a.layers.overlaps ++ a.monitor)))

  abbrev t4 : List ℕ
  t4 = a.layers.phases ++ (a.layers.rings ++ (a.layers.pattern ++ (a.layers.preempts ++ (a.layers.overlaps ++ a.monitor))))

  abbrev t3 : List ℕ
  t3 = a.layers.calls ++ (a.layers.phases ++ (a.layers.rings ++ (a.layers.pattern ++ (a.layers.preempts ++ (a.layers.overlaps ++ a.monitor)))))

  abbrev t2 : List ℕ
  t2 = a.layers.detectors ++ (a.layers.calls ++ (a.layers.phases ++ (a.layers.rings ++ (a.layers.pattern ++ (a.layers.preempts ++ (a.layers.overlaps ++ a.monitor))))))

  n2 : length b2 ≡ DETECTORS
  n2 = behind PLAN_CELLS DESK_CELLS a.plan a.desk long.plan long.desk

  n3 : length b3 ≡ CALLS
  n3 = behind DETECTORS DETECTOR_CELLS b2 a.layers.detectors n2 long.detectors

  n4 : length b4 ≡ PHASES
  n4 = behind CALLS CALL_CELLS b3 a.layers.calls n3 long.calls

  n5 : length b5 ≡ RINGS
  n5 = behind PHASES PHASE_CELLS b4 a.layers.phases n4 long.phases

  n6 : length b6 ≡ COORD
  n6 = behind RINGS RING_CELLS b5 a.layers.rings n5 long.rings

  n7 : length b7 ≡ PREEMPTS
  n7 = behind COORD PATTERN_CELLS b6 a.layers.pattern n6 long.pattern

  n8 : length b8 ≡ OVERLAPS
  n8 = behind PREEMPTS PREEMPT_CELLS b7 a.layers.preempts n7 long.preempts

  n9 : length (b8 ++ a.layers.overlaps) ≡ MONITOR
  n9 = behind OVERLAPS OVERLAP_CELLS b8 a.layers.overlaps n8 long.overlaps

  e2 : whole a ≡ b2 ++ t2
  e2 = sym (append_assoc a.plan a.desk t2)

  e3 : whole a ≡ b3 ++ t3
  e3 = e2 ∙ sym (append_assoc b2 a.layers.detectors t3)

  e4 : whole a ≡ b4 ++ t4
  e4 = e3 ∙ sym (append_assoc b3 a.layers.calls t4)

  e5 : whole a ≡ b5 ++ t5
  e5 = e4 ∙ sym (append_assoc b4 a.layers.phases t5)

  e6 : whole a ≡ b6 ++ t6
  e6 = e5 ∙ sym (append_assoc b5 a.layers.rings t6)

  e7 : whole a ≡ b7 ++ t7
  e7 = e6 ∙ sym (append_assoc b6 a.layers.pattern t7)

  e8 : whole a ≡ b8 ++ (a.layers.overlaps ++ a.monitor)
  e8 = e7 ∙ sym (append_assoc b7 a.layers.preempts (a.layers.overlaps ++ a.monitor))

  e9 : whole a ≡ (b8 ++ a.layers.overlaps) ++ a.monitor
  e9 = e8 ∙ sym (append_assoc b8 a.layers.overlaps a.monitor)

  pub whole-full : length (whole a) ≡ ALL_CELLS
  whole-full = ap length e9 ∙ behind MONITOR MONITOR_CELLS (b8 ++ a.layers.overlaps) a.monitor n9 long.monitor

  plan-read : row_at PLAN_CELLS (whole a) 0 ≡ a.plan
  plan-read = row-in [] a.plan (a.desk ++ t2) 0 PLAN_CELLS refl long.plan

  desk-read : row_at DESK_CELLS (whole a) DESK ≡ a.desk
  desk-read = row-in a.plan a.desk t2 DESK DESK_CELLS long.plan long.desk

  detectors-read : row_at DETECTOR_CELLS (whole a) DETECTORS ≡ a.layers.detectors
  detectors-read = ap (λ (xs : List ℕ). row_at DETECTOR_CELLS xs DETECTORS) e2 ∙ row-in b2 a.layers.detectors t3 DETECTORS DETECTOR_CELLS n2 long.detectors

  calls-read : row_at CALL_CELLS (whole a) CALLS ≡ a.layers.calls
  calls-read = ap (λ (xs : List ℕ). row_at CALL_CELLS xs CALLS) e3 ∙ row-in b3 a.layers.calls t4 CALLS CALL_CELLS n3 long.calls

  phases-read : row_at PHASE_CELLS (whole a) PHASES ≡ a.layers.phases
  phases-read = ap (λ (xs : List ℕ). row_at PHASE_CELLS xs PHASES) e4 ∙ row-in b4 a.layers.phases t5 PHASES PHASE_CELLS n4 long.phases

  rings-read : row_at RING_CELLS (whole a) RINGS ≡ a.layers.rings
  rings-read = ap (λ (xs : List ℕ). row_at RING_CELLS xs RINGS) e5 ∙ row-in b5 a.layers.rings t6 RINGS RING_CELLS n5 long.rings

  pattern-read : row_at PATTERN_CELLS (whole a) COORD ≡ a.layers.pattern
  pattern-read = ap (λ (xs : List ℕ). row_at PATTERN_CELLS xs COORD) e6 ∙ row-in b6 a.layers.pattern t7 COORD PATTERN_CELLS n6 long.pattern

  preempts-read : row_at PREEMPT_CELLS (whole a) PREEMPTS ≡ a.layers.preempts
  preempts-read = ap (λ (xs : List ℕ). row_at PREEMPT_CELLS xs PREEMPTS) e7 ∙ row-in b7 a.layers.preempts (a.layers.overlaps ++ a.monitor) PREEMPTS PREEMPT_CELLS n7 long.preempts

  overlaps-read : row_at OVERLAP_CELLS (whole a) OVERLAPS ≡ a.layers.overlaps
  overlaps-read = ap (λ (xs : List ℕ). row_at OVERLAP_CELLS xs OVERLAPS) e8 ∙ row-in b8 a.layers.overlaps a.monitor OVERLAPS OVERLAP_CELLS n8 long.overlaps

  monitor-read : row_at MONITOR_CELLS (whole a) MONITOR ≡ a.monitor
  monitor-read = ap (λ (xs : List ℕ). row_at MONITOR_CELLS xs MONITOR) e9 ∙ last (b8 ++ a.layers.overlaps) a.monitor MONITOR MONITOR_CELLS n9 long.monitor

  pub whole-read : (now : ℕ) → state_in now (whole a) ≡ all_in now a
  unfolding state_in
  whole-read now = λ i. record {
    now = now;
    plan = plan_in (plan-read i);
    desk = desk_in (desk-read i);
    pattern = pattern_in (pattern-read i);
    correction = correction_in (pattern-read i);
    start_moment = start_in (pattern-read i);
    detectors = detector_in (clock_at now (trip_in (monitor-read i))) (detectors-read i);
    memories = memories_in (calls-read i);
    phases = phase_in (clock_at now (trip_in (monitor-read i))) (phases-read i);
    rings = rings_in (rings-read i);
    preempts = preempts_in (clock_at now (trip_in (monitor-read i))) (preempts-read i);
    overlaps = overlap_in (clock_at now (trip_in (monitor-read i))) (overlaps-read i);
    omitted = omitted_in (overlaps-read i);
    lamp = lamp_in (monitor-read i);
    trip = trip_in (monitor-read i);
  }

-- the same row of two that are the same
same-row : (w at : ℕ) (xs ys vs ws : List ℕ) → row_at w vs at ≡ xs → row_at w ws at ≡ ys → vs ≡ ws → xs ≡ ys
same-row w at xs ys vs ws one two same = sym one ∙ ap (λ (row : List ℕ). row_at w row at) same ∙ two

-- rows that are the same in one row are the same
pub whole-same : (a b : All) → AreFull a → AreFull b → whole a ≡ whole b → a ≡ b
whole-same a b long also same = λ i. record {
  plan = same-row PLAN_CELLS 0 a.plan b.plan (whole a) (whole b) (plan-read a long) (plan-read b also) same i;
  desk = same-row DESK_CELLS DESK a.desk b.desk (whole a) (whole b) (desk-read a long) (desk-read b also) same i;
  layers = record {
    detectors = same-row DETECTOR_CELLS DETECTORS a.layers.detectors b.layers.detectors (whole a) (whole b) (detectors-read a long) (detectors-read b also) same i;
    calls = same-row CALL_CELLS CALLS a.layers.calls b.layers.calls (whole a) (whole b) (calls-read a long) (calls-read b also) same i;
    phases = same-row PHASE_CELLS PHASES a.layers.phases b.layers.phases (whole a) (whole b) (phases-read a long) (phases-read b also) same i;
    rings = same-row RING_CELLS RINGS a.layers.rings b.layers.rings (whole a) (whole b) (rings-read a long) (rings-read b also) same i;
    pattern = same-row PATTERN_CELLS COORD a.layers.pattern b.layers.pattern (whole a) (whole b) (pattern-read a long) (pattern-read b also) same i;
    preempts = same-row PREEMPT_CELLS PREEMPTS a.layers.preempts b.layers.preempts (whole a) (whole b) (preempts-read a long) (preempts-read b also) same i;
    overlaps = same-row OVERLAP_CELLS OVERLAPS a.layers.overlaps b.layers.overlaps (whole a) (whole b) (overlaps-read a long) (overlaps-read b also) same i;
  };
  monitor = same-row MONITOR_CELLS MONITOR a.monitor b.monitor (whole a) (whole b) (monitor-read a long) (monitor-read b also) same i;
}

pub back-full : (a : All) (es : List (ℕ × ℕ)) → AreFull a → AreFull (all_put_back a es)
back-full a es long = record {
  plan = length-apply_diff a.plan (part 0 PLAN_CELLS es) ∙ long.plan;
  desk = length-apply_diff a.desk (part DESK DESK_CELLS es) ∙ long.desk;
  detectors = length-apply_diff a.layers.detectors (part DETECTORS DETECTOR_CELLS es) ∙ long.detectors;
  calls = length-apply_diff a.layers.calls (part CALLS CALL_CELLS es) ∙ long.calls;
  phases = length-apply_diff a.layers.phases (part PHASES PHASE_CELLS es) ∙ long.phases;
  rings = length-apply_diff a.layers.rings (part RINGS RING_CELLS es) ∙ long.rings;
  pattern = length-apply_diff a.layers.pattern (part COORD PATTERN_CELLS es) ∙ long.pattern;
  preempts = length-apply_diff a.layers.preempts (part PREEMPTS PREEMPT_CELLS es) ∙ long.preempts;
  overlaps = length-apply_diff a.layers.overlaps (part OVERLAPS OVERLAP_CELLS es) ∙ long.overlaps;
  monitor = length-apply_diff a.monitor (part MONITOR MONITOR_CELLS es) ∙ long.monitor;
}

pub records-back : desk.RowsAreTold → RecordsGoBack
records-back desk_told r now a by within =
    ap (λ (row : List ℕ). state_in (now - ticks_of r.kind) (apply_diff row r.entries)) (rows-told desk_told now a by)
    ∙ ap (state_in (now - ticks_of r.kind)) (whole-back a r.entries (full now a by) within)
    ∙ whole-read (all_put_back a r.entries) (back-full a r.entries (full now a by)) (now - ticks_of r.kind)

pub records-give_back : desk.RowsAreTold → RecordsGiveBack
records-give_back desk_told i m n old new by by_new back =
    ap (state_in (n - ticks_of (kind_of i)))
    (apply_diff-diff (cells_of (all_in m old)) (cells_of (all_in n new))
    (ap length (rows-told desk_told m old by) ∙ whole-full old (full m old by)
    ∙ sym (whole-full new (full n new by_new)) ∙ sym (ap length (rows-told desk_told n new by_new)))
    ∙ rows-told desk_told m old by)
    ∙ ap (λ (t : ℕ). state_in t (whole old)) back ∙ whole-read old (full m old by) m

pub records-few : RecordsAreFew
records-few i before after offset n = few offset n (cells_of before) (cells_of after)
