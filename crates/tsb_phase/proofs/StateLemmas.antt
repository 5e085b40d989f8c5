-- The table of phases in range is read as them, and is a row that the phases can hold.
use Rattle.std.proofs.Common.{zero, suc, ◌≡◌, ℕ, ◌+◌, ◌-◌, ◌/◌, ◌%◌, ◌<◌, ◌≤◌, ◌==◌, Bool, true, false, if◌then◌else◌, Option, Some, None, List, [], ◌∷◌, ◌++◌, length, get_or, slice_index, map, refl, sym, ap, subst, ◌∙◌, inl, inr, arith, length-append}
use Rattle.std.proofs.Math.Path.{fun_ext}
use Rattle.std.proofs.lemmas.List.{get_or_append_left, get_or-append_right}
use Rattle.std.proofs.lemmas.Bool.{cases_Bool}
use Rattle.std.proofs.lemmas.Bool.Decides.{nat_tests}
use Rattle.tsb_cells.specs.Timer.{timer_cell}
use Rattle.tsb_cells.proofs.TimerLemmas.{timer_at-timer_cell, timer_cell-le, timer_cell-on, timer_cell-off}
use Rattle.tsb_objects.specs.tsb_types.declared.interval.Interval.{Interval}
use Rattle.tsb_objects.specs.tsb_types.declared.interval.Interval.TheVariants.{Red, Green, Yellow, RedClear}
use Rattle.tsb_objects.specs.tsb_types.declared.interval.PedestrianInterval.{PedestrianInterval}
use Rattle.tsb_objects.specs.tsb_types.declared.interval.PedestrianInterval.TheVariants.{DontWalk, Walk, PedestrianClear}
use Rattle.tsb_objects.specs.tsb_types.Intervals.{is_green, in_service, is_walk, is_clearance, is_dont_walk}
use Rattle.tsb_objects.specs.tsb_types.Lists.{run_from}
use Rattle.tsb_objects.specs.tsb_types.Sets.{names, list_of, is_phase}
use Rattle.tsb_objects.proofs.tsb_types.RunLemmas.{at-run}
use Rattle.tsb_objects.proofs.tsb_types.SetLemmas.{names-list_of, list_of-below}
use Rattle.tsb_objects.proofs.tsb_types.ClipLemmas.{IsAmong, among_16}
use Rattle.tsb_phase.specs.declared.TheConstants.{CELLS}
use Rattle.tsb_phase.specs.declared.ending.Ending.{Ending}
use Rattle.tsb_phase.specs.declared.ending.Ending.TheVariants.{MaxOut, GapOut}
use Rattle.tsb_phase.specs.declared.phase_row.PhaseRow.{PhaseRow}
use Rattle.tsb_phase.specs.DynamicMaximum.{is_same}
use Rattle.tsb_phase.specs.Phase.{Phase, at_power_up}
use Rattle.tsb_phase.specs.Cells.{has_way, is_clearing, pair, number_in, number_cell, phase_in, phases_cells, IsBy, row_in, phase_of, IsRowBy}
use Rattle.tsb_phase.specs.Laws.{IsInRange, AreInRange, StatesAreRead}
use Rattle.tsb_phase.proofs.GreenLemmas.{part-told, same_phase}
use Rattle.tsb_phase.proofs.RowLemmas.{same_values}
use Rattle.tsb_phase.proofs.ReadLemmas.{phase_in-row}

-- ## One phase, and the row that keeps it

row_of : ℕ → Phase → PhaseRow
row_of now x = record {
  right_of_way = has_way x.interval;
  clearing = is_clearing x.interval;
  walk = is_walk x.pedestrian;
  clearance = is_clearance x.pedestrian;
  gapped = x.gapped;
  forced = x.forced;
  max_out = is_same MaxOut x.last_ending;
  gap_out = is_same GapOut x.last_ending;
  timer = timer_cell now x.timer;
  pedestrian_timer = timer_cell now x.pedestrian_timer;
  passage = timer_cell now x.passage;
  conflict = timer_cell now x.conflict;
  reduction = timer_cell now x.reduction;
  red_revert = timer_cell now x.red_revert;
  running_maximum = number_cell x.running_maximum;
}

interval-told : (i : Interval) →
    (if has_way i then (if is_clearing i then Yellow else Green) else (if is_clearing i then RedClear else Red)) ≡ i
interval-told Red = refl
interval-told Green = refl
interval-told Yellow = refl
interval-told RedClear = refl

ending-told : (e : Option Ending) → (if is_same MaxOut e then Some MaxOut else (if is_same GapOut e then Some GapOut else None)) ≡ e
ending-told None = refl
ending-told (Some MaxOut) = refl
ending-told (Some GapOut) = refl

some-number : (n : ℕ) → number_in (n + 1) ≡ Some n
some-number n = let none : (n + 1 == 0) ≡ false = grind (arith, nat_tests) in let e : n + 1 - 1 ≡ n = omega arith in rw (none, e) refl

number-read : (n : Option ℕ) → number_in (number_cell n) ≡ n
number-read None = refl
number-read (Some n) = some-number n

is-read : (now : ℕ) (x : Phase) → IsInRange now x → phase_of now (row_of now x) ≡ x
unfolding row_of
is-read now x is =
    same_phase _ _ (interval-told x.interval) (timer_at-timer_cell now x.timer is.timer) (part-told x.pedestrian)
    (timer_at-timer_cell now x.pedestrian_timer is.pedestrian_timer) (timer_at-timer_cell now x.passage is.passage)
    (timer_at-timer_cell now x.conflict is.conflict) (timer_at-timer_cell now x.reduction is.reduction) refl refl
    (timer_at-timer_cell now x.red_revert is.red_revert) (number-read x.running_maximum) (ending-told x.last_ending)

-- ## What it holds

walk-alone : (i : PedestrianInterval) → is_walk i ≡ true → is_clearance i ≡ false
walk-alone DontWalk h = refl
walk-alone Walk h = refl
walk-alone PedestrianClear h = absurd (cc)

ending-alone : (e : Option Ending) → is_same MaxOut e ≡ true → is_same GapOut e ≡ false
ending-alone None h = refl
ending-alone (Some MaxOut) h = refl
ending-alone (Some GapOut) h = absurd (cc)

walks-on : (i : PedestrianInterval) → is_walk i ≡ true → is_dont_walk i ≡ false
walks-on DontWalk h = absurd (cc)
walks-on Walk h = refl
walks-on PedestrianClear h = refl

clears-on : (i : PedestrianInterval) → is_clearance i ≡ true → is_dont_walk i ≡ false
clears-on DontWalk h = absurd (cc)
clears-on Walk h = refl
clears-on PedestrianClear h = refl

not-walking : (x : PedestrianInterval) → x ≡ DontWalk → (is_walk x ≡ false) × (is_clearance x ≡ false)
not-walking x e = rw e (refl, refl)

-- what the two lists have is not Green, so the interval is not
not-green : (i : Interval) →
    is_green (if has_way i then (if is_clearing i then Yellow else Green) else (if is_clearing i then RedClear else Red)) ≡ false →
    is_green i ≡ false
not-green i h = ap is_green (sym (interval-told i)) ∙ h

is-held : (now : ℕ) (x : Phase) → IsInRange now x → IsRowBy now (row_of now x)
unfolding row_of
is-held now x is = record {
  walk_clearance = walk-alone x.pedestrian;
  endings = ending-alone x.last_ending;
  timer = timer_cell-le now x.timer;
  pedestrian_timer = timer_cell-le now x.pedestrian_timer;
  passage = timer_cell-le now x.passage;
  conflict = timer_cell-le now x.conflict;
  reduction = timer_cell-le now x.reduction;
  red_revert = timer_cell-le now x.red_revert;
  running_maximum = is.running_maximum;
  red = λ h. timer_cell-off now x.timer (is.red (sym (interval-told x.interval) ∙ h));
  served = λ h. timer_cell-on now x.timer (is.served (ap in_service (sym (interval-told x.interval)) ∙ h));
  dont_walk = λ h. timer_cell-off now x.pedestrian_timer (is.dont_walk (sym (part-told x.pedestrian) ∙ h));
  walk = λ h. timer_cell-on now x.pedestrian_timer (is.walks (walks-on x.pedestrian h));
  clearance = λ h. timer_cell-on now x.pedestrian_timer (is.walks (clears-on x.pedestrian h));
  no_walk = λ h. (not-walking x.pedestrian (is.no_walk (not-green x.interval h))).0;
  no_clearance = λ h. (not-walking x.pedestrian (is.no_walk (not-green x.interval h))).1;
  not_gapped = λ h. is.not_gapped (not-green x.interval h);
  not_forced = λ h. is.not_forced (not-green x.interval h);
  no_passage = λ h. timer_cell-off now x.passage (is.no_passage (not-green x.interval h));
  no_conflict = λ h. timer_cell-off now x.conflict (is.no_conflict (not-green x.interval h));
  no_reduction = λ h. timer_cell-off now x.reduction (is.no_reduction (not-green x.interval h));
}

-- ## Where the table has it

-- a column of the table: a number of each phase
column : (ℕ → ℕ) → List ℕ
column f = map f (run_from 1 16)

long-column : (f : ℕ → ℕ) → length (column f) ≡ 16
unfolding column run_from
long-column f = refl

-- the column after the first n cells has in cell k what it has of phase p
at-column : (xs : List ℕ) (f : ℕ → ℕ) (n k p : ℕ) → length xs ≡ n → k + 1 ≡ n + p → 1 ≤ p → p ≤ 16 → get_or (xs ++ column f) k 0 ≡ f p
unfolding column
at-column xs f n k p long place from to =
    let behind : k - n ≡ p - 1 = omega (arith, from, place) in
    let number : 1 + (p - 1) ≡ p = omega (arith, from) in
    get_or-append_right xs (column f) n k 0 long (omega (arith, from, place))
    ∙ ap (λ (j : ℕ). get_or (column f) j 0) behind ∙ at-run f 1 16 (p - 1) (omega (arith, from, to)) ∙ ap f number

-- what is before a column stays
before : (xs : List ℕ) (f : ℕ → ℕ) (n k v : ℕ) → length xs ≡ n → k < n → get_or xs k 0 ≡ v → get_or (xs ++ column f) k 0 ≡ v
before xs f n k v long below e = get_or_append_left xs (column f) 0 k (omega (arith, long, below)) ∙ e

longer : (xs : List ℕ) (f : ℕ → ℕ) (n m : ℕ) → length xs ≡ n → n + 16 ≡ m → length (xs ++ column f) ≡ m
longer xs f n m long e = omega (arith, length-append xs (column f), long-column f, long, e)

-- four cells and seven columns
module _ (four : List ℕ) (a b c d e f g : ℕ → ℕ) (long : length four ≡ 4) where
  long-1 : length (four ++ column a) ≡ 20
  long-1 = longer (four) a 4 20 long refl

  long-2 : length (four ++ column a ++ column b) ≡ 36
  long-2 = longer (four ++ column a) b 20 36 long-1 refl

  long-3 : length (four ++ column a ++ column b ++ column c) ≡ 52
  long-3 = longer (four ++ column a ++ column b) c 36 52 long-2 refl

  long-4 : length (four ++ column a ++ column b ++ column c ++ column d) ≡ 68
  long-4 = longer (four ++ column a ++ column b ++ column c) d 52 68 long-3 refl

  long-5 : length (four ++ column a ++ column b ++ column c ++ column d ++ column e) ≡ 84
  long-5 = longer (four ++ column a ++ column b ++ column c ++ column d) e 68 84 long-4 refl

  long-6 : length (four ++ column a ++ column b ++ column c ++ column d ++ column e ++ column f) ≡ 100
  long-6 = longer (four ++ column a ++ column b ++ column c ++ column d ++ column e) f 84 100 long-5 refl

  long-all : length (four ++ column a ++ column b ++ column c ++ column d ++ column e ++ column f ++ column g) ≡ CELLS
  long-all = longer (four ++ column a ++ column b ++ column c ++ column d ++ column e ++ column f) g 100 CELLS long-6 refl

  module _ (p : ℕ) (from : 1 ≤ p) (to : p ≤ 16) where
    at-a : get_or (four ++ column a ++ column b ++ column c ++ column d ++ column e ++ column f ++ column g) (3 + p) 0 ≡ a p
    at-a =
        before (four ++ column a ++ column b ++ column c ++ column d ++ column e ++ column f) g 100 (3 + p) _ long-6 (omega (arith, to))
        (before (four ++ column a ++ column b ++ column c ++ column d ++ column e) f 84 (3 + p) _ long-5 (omega (arith, to))
        (before (four ++ column a ++ column b ++ column c ++ column d) e 68 (3 + p) _ long-4 (omega (arith, to))
        (before (four ++ column a ++ column b ++ column c) d 52 (3 + p) _ long-3 (omega (arith, to))
        (before (four ++ column a ++ column b) c 36 (3 + p) _ long-2 (omega (arith, to))
        (before (four ++ column a) b 20 (3 + p) _ long-1 (omega (arith, to))
        (at-column (four) a 4 (3 + p) p long (omega arith) from to))))))

    at-b : get_or (four ++ column a ++ column b ++ column c ++ column d ++ column e ++ column f ++ column g) (19 + p) 0 ≡ b p
    at-b =
        before (four ++ column a ++ column b ++ column c ++ column d ++ column e ++ column f) g 100 (19 + p) _ long-6 (omega (arith, to))
        (before (four ++ column a ++ column b ++ column c ++ column d ++ column e) f 84 (19 + p) _ long-5 (omega (arith, to))
        (before (four ++ column a ++ column b ++ column c ++ column d) e 68 (19 + p) _ long-4 (omega (arith, to))
        (before (four ++ column a ++ column b ++ column c) d 52 (19 + p) _ long-3 (omega (arith, to))
        (before (four ++ column a ++ column b) c 36 (19 + p) _ long-2 (omega (arith, to))
        (at-column (four ++ column a) b 20 (19 + p) p long-1 (omega arith) from to)))))

    at-c : get_or (four ++ column a ++ column b ++ column c ++ column d ++ column e ++ column f ++ column g) (35 + p) 0 ≡ c p
    at-c =
        before (four ++ column a ++ column b ++ column c ++ column d ++ column e ++ column f) g 100 (35 + p) _ long-6 (omega (arith, to))
        (before (four ++ column a ++ column b ++ column c ++ column d ++ column e) f 84 (35 + p) _ long-5 (omega (arith, to))
        (before (four ++ column a ++ column b ++ column c ++ column d) e 68 (35 + p) _ long-4 (omega (arith, to))
        (before (four ++ column a ++ column b ++ column c) d 52 (35 + p) _ long-3 (omega (arith, to))
        (at-column (four ++ column a ++ column b) c 36 (35 + p) p long-2 (omega arith) from to))))

    at-d : get_or (four ++ column a ++ column b ++ column c ++ column d ++ column e ++ column f ++ column g) (51 + p) 0 ≡ d p
    at-d =
        before (four ++ column a ++ column b ++ column c ++ column d ++ column e ++ column f) g 100 (51 + p) _ long-6 (omega (arith, to))
        (before (four ++ column a ++ column b ++ column c ++ column d ++ column e) f 84 (51 + p) _ long-5 (omega (arith, to))
        (before (four ++ column a ++ column b ++ column c ++ column d) e 68 (51 + p) _ long-4 (omega (arith, to))
        (at-column (four ++ column a ++ column b ++ column c) d 52 (51 + p) p long-3 (omega arith) from to)))

    at-e : get_or (four ++ column a ++ column b ++ column c ++ column d ++ column e ++ column f ++ column g) (67 + p) 0 ≡ e p
    at-e =
        before (four ++ column a ++ column b ++ column c ++ column d ++ column e ++ column f) g 100 (67 + p) _ long-6 (omega (arith, to))
        (before (four ++ column a ++ column b ++ column c ++ column d ++ column e) f 84 (67 + p) _ long-5 (omega (arith, to))
        (at-column (four ++ column a ++ column b ++ column c ++ column d) e 68 (67 + p) p long-4 (omega arith) from to))

    at-f : get_or (four ++ column a ++ column b ++ column c ++ column d ++ column e ++ column f ++ column g) (83 + p) 0 ≡ f p
    at-f =
        before (four ++ column a ++ column b ++ column c ++ column d ++ column e ++ column f) g 100 (83 + p) _ long-6 (omega (arith, to))
        (at-column (four ++ column a ++ column b ++ column c ++ column d ++ column e) f 84 (83 + p) p long-5 (omega arith) from to)

    at-g : get_or (four ++ column a ++ column b ++ column c ++ column d ++ column e ++ column f ++ column g) (99 + p) 0 ≡ g p
    at-g =
        at-column (four ++ column a ++ column b ++ column c ++ column d ++ column e ++ column f) g 100 (99 + p) p long-6 (omega arith) from to

-- a list that is made of a test, beside another one in its cell
module _ (cells : List ℕ) (c : ℕ) (low high : ℕ → Bool) (e : slice_index cells c ≡ pair (list_of 16 low) (list_of 16 high)) (p : ℕ) (from : 1 ≤ p) (to : p ≤ 16) where
  low-read : names (slice_index cells c % 65536) p ≡ low p
  low-read =
      let small : list_of 16 low < 65536 = list_of-below 16 low in
      let list : slice_index cells c % 65536 ≡ list_of 16 low = omega (arith, small, e) in
      ap (λ (n : ℕ). names n p) list ∙ names-list_of 16 p low from to

  high-read : names (slice_index cells c / 65536) p ≡ high p
  high-read =
      let small : list_of 16 low < 65536 = list_of-below 16 low in
      let list : slice_index cells c / 65536 ≡ list_of 16 high = omega (arith, small, e) in
      ap (λ (n : ℕ). names n p) list ∙ names-list_of 16 p high from to

-- ## The table

abbrev listed : (ℕ → Phase) → List ℕ
listed f =
    pair (list_of 16 (λ p. has_way (f p).interval)) (list_of 16 (λ p. is_clearing (f p).interval)) ∷
    pair (list_of 16 (λ p. is_walk (f p).pedestrian)) (list_of 16 (λ p. is_clearance (f p).pedestrian)) ∷
    pair (list_of 16 (λ p. (f p).gapped)) (list_of 16 (λ p. (f p).forced)) ∷
    pair (list_of 16 (λ p. is_same MaxOut (f p).last_ending)) (list_of 16 (λ p. is_same GapOut (f p).last_ending)) ∷ []

module _ (now : ℕ) (f : ℕ → Phase) where
  abbrev timers : ℕ → ℕ
  timers p = timer_cell now (f p).timer

  abbrev pedestrian_timers : ℕ → ℕ
  pedestrian_timers p = timer_cell now (f p).pedestrian_timer

  abbrev passages : ℕ → ℕ
  passages p = timer_cell now (f p).passage

  abbrev conflicts : ℕ → ℕ
  conflicts p = timer_cell now (f p).conflict

  abbrev reductions : ℕ → ℕ
  reductions p = timer_cell now (f p).reduction

  abbrev red_reverts : ℕ → ℕ
  red_reverts p = timer_cell now (f p).red_revert

  abbrev maximums : ℕ → ℕ
  maximums p = number_cell (f p).running_maximum

  full : length (phases_cells now f) ≡ CELLS
  unfolding column
  full = long-all (listed f) timers pedestrian_timers passages conflicts reductions red_reverts maximums refl

  row-read : (p : ℕ) → 1 ≤ p → p ≤ 16 → row_in (phases_cells now f) p ≡ row_of now (f p)
  unfolding row_in row_of column
  row-read p from to =
      same_values _ _ _ _ _ _ _ _ _ _ _ _ _ _ _ _ _ _ _ _ _ _ _ _ _ _ _ _ _ _
      (low-read (phases_cells now f) 0 (λ q. has_way (f q).interval) (λ q. is_clearing (f q).interval) refl p from to)
      (high-read (phases_cells now f) 0 (λ q. has_way (f q).interval) (λ q. is_clearing (f q).interval) refl p from to)
      (low-read (phases_cells now f) 1 (λ q. is_walk (f q).pedestrian) (λ q. is_clearance (f q).pedestrian) refl p from to)
      (high-read (phases_cells now f) 1 (λ q. is_walk (f q).pedestrian) (λ q. is_clearance (f q).pedestrian) refl p from to)
      (low-read (phases_cells now f) 2 (λ q. (f q).gapped) (λ q. (f q).forced) refl p from to)
      (high-read (phases_cells now f) 2 (λ q. (f q).gapped) (λ q. (f q).forced) refl p from to)
      (low-read (phases_cells now f) 3 (λ q. is_same MaxOut (f q).last_ending) (λ q. is_same GapOut (f q).last_ending) refl p from to)
      (high-read (phases_cells now f) 3 (λ q. is_same MaxOut (f q).last_ending) (λ q. is_same GapOut (f q).last_ending) refl p from to)
      (at-a (listed f) timers pedestrian_timers passages conflicts reductions red_reverts maximums refl p from to)
      (at-b (listed f) timers pedestrian_timers passages conflicts reductions red_reverts maximums refl p from to)
      (at-c (listed f) timers pedestrian_timers passages conflicts reductions red_reverts maximums refl p from to)
      (at-d (listed f) timers pedestrian_timers passages conflicts reductions red_reverts maximums refl p from to)
      (at-e (listed f) timers pedestrian_timers passages conflicts reductions red_reverts maximums refl p from to)
      (at-f (listed f) timers pedestrian_timers passages conflicts reductions red_reverts maximums refl p from to)
      (at-g (listed f) timers pedestrian_timers passages conflicts reductions red_reverts maximums refl p from to)

pair-small : (low high : ℕ → Bool) → pair (list_of 16 low) (list_of 16 high) < 4294967296
pair-small low high =
    let one : list_of 16 low < 65536 = list_of-below 16 low in
    let other : list_of 16 high < 65536 = list_of-below 16 high in
    omega (arith, one, other)

lists-small : (now : ℕ) (f : ℕ → Phase) (k : ℕ) → k < 4 → slice_index (phases_cells now f) k < 4294967296
lists-small now f zero below = pair-small (λ p. has_way (f p).interval) (λ p. is_clearing (f p).interval)
lists-small now f (suc zero) below = pair-small (λ p. is_walk (f p).pedestrian) (λ p. is_clearance (f p).pedestrian)
lists-small now f (suc (suc zero)) below = pair-small (λ p. (f p).gapped) (λ p. (f p).forced)
lists-small now f (suc (suc (suc zero))) below = pair-small (λ p. is_same MaxOut (f p).last_ending) (λ p. is_same GapOut (f p).last_ending)
lists-small now f (suc (suc (suc (suc k)))) below = absurd (omega (arith, below))

state-by : (now : ℕ) (f : ℕ → Phase) → AreInRange now f → IsBy now (phases_cells now f)
state-by now f are = record {
  full = full now f;
  lists = lists-small now f;
  each = λ p from to. subst (λ (r : PhaseRow). IsRowBy now r) (sym (row-read now f p from to)) (is-held now (f p) (are.each p from to));
}

pub outside : (now : ℕ) (row : List ℕ) (p : ℕ) → is_phase p ≡ false → phase_in now row p ≡ at_power_up
unfolding phase_in
outside now row p out = rw out refl

read-at : (now : ℕ) (f : ℕ → Phase) → AreInRange now f → (p : ℕ) → phase_in now (phases_cells now f) p ≡ f p
read-at now f are p =
    elim (cases_Bool (is_phase p)) [
      | inl is ↦
          (let among : IsAmong p = among_16 p is in
          phase_in-row now (phases_cells now f) p among.from among.to ∙ ap (phase_of now) (row-read now f p among.from among.to)
          ∙ is-read now (f p) (are.each p among.from among.to))
      | inr out ↦ outside now (phases_cells now f) p out ∙ sym (are.others p out)
    ]

pub states-read : StatesAreRead
states-read now f are = record { same = fun_ext (λ p. read-at now f are p); by = state-by now f are }
