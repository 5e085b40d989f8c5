-- Laws of states: the table of detectors is read as they were, and a tick looks only at what is its own.
use Rattle.std.proofs.Common.{zero, suc, ◌≡◌, ℕ, ◌+◌, ◌-◌, ◌*◌, ◌/◌, ◌%◌, ◌<◌, ◌≤◌, ◌==◌, Bool, true, false, List, ◌++◌, length, slice_index, map, refl, sym, ap, ap₂, ◌∙◌, arith, inl, inr, Option, Some, None, is_some}
use Rattle.std.proofs.Math.Path.{fun_ext}
use Rattle.std.proofs.lemmas.Bool.{cases_Bool}
use Rattle.std.proofs.lemmas.Bool.Decides.{nat_tests}
use Rattle.tsb_cells.specs.declared.timer.Timer.{Timer}
use Rattle.tsb_cells.specs.Timer.{timer_at, timer_cell}
use Rattle.tsb_cells.proofs.TimerLemmas.{timer_at-timer_cell, timer_cell-le, timer_cell-on, timer_cell-off}
use Rattle.tsb_objects.specs.tsb_types.declared.row.Row.{Row}
use Rattle.tsb_objects.specs.tsb_types.Clip.{Agree}
use Rattle.tsb_objects.specs.tsb_types.Lists.{run_from}
use Rattle.tsb_objects.specs.tsb_types.Sets.{names, list_of, wide_list_in, has_detector}
use Rattle.tsb_objects.proofs.tsb_types.SetLemmas.{list_of-below}
use Rattle.tsb_cells.proofs.TableLemmas.{front-read, column-read, length-column}
use Rattle.tsb_objects.specs.tsb_types.declared.limits.TheConstants.{VEHICLE_DETECTORS}
use Rattle.tsb_objects.specs.tsb_plan.Plan.{Plan}
use Rattle.tsb_objects.specs.tsb_plan.Parts.{call_phase, unless_zero}
use Rattle.tsb_objects.specs.tsb_plan.declared.object.Object.TheVariants.{VehicleDetectorCallPhase}
use Rattle.tsb_detect.specs.declared.TheConstants.{CELLS}
use Rattle.tsb_detect.specs.declared.alarm.Alarm.{Alarm}
use Rattle.tsb_detect.specs.declared.alarm.Alarm.TheVariants.{NoActivity, MaxPresence, Erratic}
use Rattle.tsb_detect.specs.declared.greens.Greens.{Greens}
use Rattle.tsb_detect.specs.Detector.{Detector, at_power_up, is_detector, is_erratic, of_called, all_after, next}
use Rattle.tsb_detect.specs.Cells.{alarm_of, alarm_of_row, row_in, detector_in, two_cells, detectors_cells, is_inactive, is_present, IsRowBy, IsBy}
use Rattle.tsb_detect.specs.Laws.{AreStatesBy, AgreeOnDetectors, CallsPhases}
use Rattle.tsb_detect.specs.Promises.{IsTicked, green_timer}
use Rattle.tsb_detect.proofs.ReadLemmas.{same_detector}
use Rattle.tsb_detect.proofs.NextLemmas.{on-time-of}
use Rattle.tsb_detect.proofs.TableLemmas.{list-read, low-small, high-small}
use Rattle.tsb_detect.proofs.ToldLemmas.{detector-from}

-- ## The table is read

alarm-read : (a : Option Alarm) → alarm_of (is_inactive a) (is_present a) (is_erratic a) ≡ a
alarm-read None = refl
alarm-read (Some NoActivity) = refl
alarm-read (Some MaxPresence) = refl
alarm-read (Some Erratic) = refl

inactive-not_present : (a : Option Alarm) → is_inactive a ≡ true → is_present a ≡ false
inactive-not_present None h = refl
inactive-not_present (Some NoActivity) h = refl
inactive-not_present (Some MaxPresence) h = absurd cc
inactive-not_present (Some Erratic) h = refl

inactive-not_erratic : (a : Option Alarm) → is_inactive a ≡ true → is_erratic a ≡ false
inactive-not_erratic None h = refl
inactive-not_erratic (Some NoActivity) h = refl
inactive-not_erratic (Some MaxPresence) h = refl
inactive-not_erratic (Some Erratic) h = absurd cc

present-not_erratic : (a : Option Alarm) → is_present a ≡ true → is_erratic a ≡ false
present-not_erratic None h = refl
present-not_erratic (Some NoActivity) h = refl
present-not_erratic (Some MaxPresence) h = refl
present-not_erratic (Some Erratic) h = absurd cc

alarm-of : (a b c x y z : Bool) → a ≡ x → b ≡ y → c ≡ z → alarm_of a b c ≡ alarm_of x y z
alarm-of a b c x y z p q r = rw (p, q, r) refl

at-rest : (now : ℕ) (row : List ℕ) (d : ℕ) → is_detector d ≡ false → detector_in now row d ≡ at_power_up
unfolding detector_in
at-rest now row d out = rw out refl

pub record IsAmong (d : ℕ) : Type 0 where
  pub from : 1 ≤ d
  pub to : d ≤ VEHICLE_DETECTORS

pub among-detectors : (d : ℕ) → is_detector d ≡ true → IsAmong d
among-detectors d e = record { from = grind (arith, nat_tests, e); to = grind (arith, nat_tests, e) }

module _ (now : ℕ) (f : ℕ → Detector) where
  abbrev lists : List ℕ
  lists =
      two_cells (λ d. (f d).input) ++ two_cells (λ d. (f d).output) ++ two_cells (λ d. (f d).actuated)
      ++ two_cells (λ d. is_inactive (f d).alarm) ++ two_cells (λ d. is_present (f d).alarm) ++ two_cells (λ d. is_erratic (f d).alarm)

  abbrev rises : List ℕ
  rises = lists ++ map (λ d. (f d).rises) (run_from 1 VEHICLE_DETECTORS)

  abbrev changes : List ℕ
  changes = rises ++ map (λ d. timer_cell now (f d).change) (run_from 1 VEHICLE_DETECTORS)

  length-rises : length rises ≡ 12 + VEHICLE_DETECTORS
  length-rises = length-column VEHICLE_DETECTORS lists (λ d. (f d).rises)

  length-changes : length changes ≡ 12 + 2 * VEHICLE_DETECTORS
  length-changes =
      length-column VEHICLE_DETECTORS rises (λ d. timer_cell now (f d).change) ∙ ap (λ (n : ℕ). n + VEHICLE_DETECTORS) length-rises

  length-cells : length (detectors_cells now f) ≡ CELLS
  length-cells =
      length-column VEHICLE_DETECTORS changes (λ d. timer_cell now (f d).extend) ∙ ap (λ (n : ℕ). n + VEHICLE_DETECTORS) length-changes

  cell-at : (k : ℕ) → k < 12 → slice_index (detectors_cells now f) k ≡ slice_index lists k
  cell-at k below =
      front-read changes _ k (omega (arith, below, length-changes)) ∙ front-read rises _ k (omega (arith, below, length-rises))
      ∙ front-read lists _ k below

  list-at : (k : ℕ) (test : ℕ → Bool) (d : ℕ) → k < 11 → slice_index lists k ≡ list_of VEHICLE_DETECTORS test % 4294967296 →
      slice_index lists (k + 1) ≡ list_of VEHICLE_DETECTORS test / 4294967296 → 1 ≤ d → d ≤ VEHICLE_DETECTORS →
      names (wide_list_in (detectors_cells now f) k) d ≡ test d
  list-at k test d below low high from to =
      list-read (detectors_cells now f) k test d (cell-at k (omega (arith, below)) ∙ low) (cell-at (k + 1) (omega (arith, below)) ∙ high) from to

  low : (test : ℕ → Bool) → list_of VEHICLE_DETECTORS test % 4294967296 < 4294967296
  low test = low-small (list_of VEHICLE_DETECTORS test)

  high : (test : ℕ → Bool) → list_of VEHICLE_DETECTORS test / 4294967296 < 4294967296
  high test = high-small (list_of VEHICLE_DETECTORS test) (list_of-below VEHICLE_DETECTORS test)

  small : (k : ℕ) → k < 12 → slice_index lists k < 4294967296
  small zero below = low (λ d. (f d).input)
  small (suc zero) below = high (λ d. (f d).input)
  small (suc (suc zero)) below = low (λ d. (f d).output)
  small (suc (suc (suc zero))) below = high (λ d. (f d).output)
  small (suc (suc (suc (suc zero)))) below = low (λ d. (f d).actuated)
  small (suc (suc (suc (suc (suc zero))))) below = high (λ d. (f d).actuated)
  small (suc (suc (suc (suc (suc (suc zero)))))) below = low (λ d. is_inactive (f d).alarm)
  small (suc (suc (suc (suc (suc (suc (suc zero))))))) below = high (λ d. is_inactive (f d).alarm)
  small (suc (suc (suc (suc (suc (suc (suc (suc zero)))))))) below = low (λ d. is_present (f d).alarm)
  small (suc (suc (suc (suc (suc (suc (suc (suc (suc zero))))))))) below = high (λ d. is_present (f d).alarm)
  small (suc (suc (suc (suc (suc (suc (suc (suc (suc (suc zero)))))))))) below = low (λ d. is_erratic (f d).alarm)
  small (suc (suc (suc (suc (suc (suc (suc (suc (suc (suc (suc zero))))))))))) below = high (λ d. is_erratic (f d).alarm)
  small (suc (suc (suc (suc (suc (suc (suc (suc (suc (suc (suc (suc k)))))))))))) below = absurd (omega arith)

  module _ (s : AreStatesBy now f) (d : ℕ) (from : 1 ≤ d) (to : d ≤ VEHICLE_DETECTORS) where
    rises-at : slice_index (detectors_cells now f) (11 + d) ≡ (f d).rises
    rises-at =
        front-read changes _ (11 + d) (omega (arith, to, length-changes)) ∙ front-read rises _ (11 + d) (omega (arith, to, length-rises))
        ∙ column-read VEHICLE_DETECTORS 12 lists (λ e. (f e).rises) d refl (omega arith) from to

    change-at : slice_index (detectors_cells now f) (11 + VEHICLE_DETECTORS + d) ≡ timer_cell now (f d).change
    change-at =
        front-read changes _ (11 + VEHICLE_DETECTORS + d) (omega (arith, to, length-changes))
        ∙ column-read VEHICLE_DETECTORS (12 + VEHICLE_DETECTORS) rises (λ e. timer_cell now (f e).change) d length-rises (omega arith) from to

    extend-at : slice_index (detectors_cells now f) (11 + 2 * VEHICLE_DETECTORS + d) ≡ timer_cell now (f d).extend
    extend-at = column-read VEHICLE_DETECTORS (12 + 2 * VEHICLE_DETECTORS) changes (λ e. timer_cell now (f e).extend) d length-changes (omega arith) from to

    input-at : names (wide_list_in (detectors_cells now f) 0) d ≡ (f d).input
    input-at = list-at 0 (λ e. (f e).input) d (omega arith) refl refl from to

    output-at : names (wide_list_in (detectors_cells now f) 2) d ≡ (f d).output
    output-at = list-at 2 (λ e. (f e).output) d (omega arith) refl refl from to

    actuated-at : names (wide_list_in (detectors_cells now f) 4) d ≡ (f d).actuated
    actuated-at = list-at 4 (λ e. (f e).actuated) d (omega arith) refl refl from to

    inactive-at : names (wide_list_in (detectors_cells now f) 6) d ≡ is_inactive (f d).alarm
    inactive-at = list-at 6 (λ e. is_inactive (f e).alarm) d (omega arith) refl refl from to

    present-at : names (wide_list_in (detectors_cells now f) 8) d ≡ is_present (f d).alarm
    present-at = list-at 8 (λ e. is_present (f e).alarm) d (omega arith) refl refl from to

    erratic-at : names (wide_list_in (detectors_cells now f) 10) d ≡ is_erratic (f d).alarm
    erratic-at = list-at 10 (λ e. is_erratic (f e).alarm) d (omega arith) refl refl from to

    alarm-at : alarm_of_row (row_in (detectors_cells now f) d) ≡ (f d).alarm
    unfolding row_in
    alarm-at = alarm-of _ _ _ _ _ _ inactive-at present-at erratic-at ∙ alarm-read (f d).alarm

    change-read : timer_at now (slice_index (detectors_cells now f) (11 + VEHICLE_DETECTORS + d)) ≡ (f d).change
    change-read = ap (λ (cell : ℕ). timer_at now cell) change-at ∙ timer_at-timer_cell now (f d).change (s.each d from to).change

    extend-read : timer_at now (slice_index (detectors_cells now f) (11 + 2 * VEHICLE_DETECTORS + d)) ≡ (f d).extend
    extend-read = ap (λ (cell : ℕ). timer_at now cell) extend-at ∙ timer_at-timer_cell now (f d).extend (s.each d from to).extend

    detector-read : detector_in now (detectors_cells now f) d ≡ f d
    unfolding detector_in row_in
    detector-read =
        rw (detector-from d from to) (same_detector _ _ input-at output-at actuated-at alarm-at rises-at change-read
        (on-time-of _ _ _ _ input-at change-read ∙ sym (s.each d from to).on_time) extend-read)

    row-by : IsRowBy now (row_in (detectors_cells now f) d)
    unfolding row_in
    row-by = record {
      inactive_present = λ h. present-at ∙ inactive-not_present (f d).alarm (sym inactive-at ∙ h);
      inactive_erratic = λ h. erratic-at ∙ inactive-not_erratic (f d).alarm (sym inactive-at ∙ h);
      present_erratic = λ h. erratic-at ∙ present-not_erratic (f d).alarm (sym present-at ∙ h);
      rises = omega (arith, rises-at, (s.each d from to).rises);
      changed = omega (arith, change-at, timer_cell-on now (f d).change (s.each d from to).changed);
      change = omega (arith, change-at, timer_cell-le now (f d).change);
      extend = omega (arith, extend-at, timer_cell-le now (f d).extend);
      present = λ h. extend-at ∙ timer_cell-off now (f d).extend ((s.each d from to).present (sym input-at ∙ h));
      idle = λ h. extend-at ∙ timer_cell-off now (f d).extend ((s.each d from to).idle (sym output-at ∙ h));
      failed = λ h. extend-at ∙ timer_cell-off now (f d).extend ((s.each d from to).failed (sym (ap is_some alarm-at) ∙ h));
    }

  pub states-read : AreStatesBy now f → detector_in now (detectors_cells now f) ≡ f
  states-read s = fun_ext (λ d. at d)
    where
      at : (d : ℕ) → detector_in now (detectors_cells now f) d ≡ f d
      at d = elim (cases_Bool (is_detector d)) [
        | inl on ↦ (let i : IsAmong d = among-detectors d on in detector-read s d i.from i.to)
        | inr out ↦ at-rest now (detectors_cells now f) d out ∙ sym (s.others d out)
      ]

  pub states-by : AreStatesBy now f → IsBy now (detectors_cells now f)
  states-by s = record {
    full = length-cells;
    lists = λ k below. omega (arith, cell-at k below, small k below);
    each = λ d from to. row-by s d from to;
  }

-- ## What a tick looks at

called-same : (g h : ℕ → Timer) (n : ℕ) → n ≤ 16 → Agree g h → of_called g (unless_zero n) ≡ of_called h (unless_zero n)
called-same g h n most same = elim (cases_Bool (n == 0)) [
  | inl none ↦ rw none refl
  | inr some ↦ rw some (same n (grind (arith, nat_tests, some)) most)
]

pub same-after : (plan : Plan) (t : ℕ) (x y : ℕ → Bool) (g h : ℕ → Timer) (v w : ℕ → Detector) → CallsPhases plan → AgreeOnDetectors x y → Agree g h → AgreeOnDetectors v w →
    all_after plan t x (λ d. of_called g (call_phase plan d)) v ≡ all_after plan t y (λ d. of_called h (call_phase plan d)) w
same-after plan t x y g h v w calls xs gs vs = fun_ext (λ d. at d)
  where
    at : (d : ℕ) → all_after plan t x (λ e. of_called g (call_phase plan e)) v d ≡ all_after plan t y (λ e. of_called h (call_phase plan e)) w d
    at d = elim (cases_Bool (is_detector d)) [
      | inl on ↦
          (let i : IsAmong d = among-detectors d on in
          let green : of_called g (call_phase plan d) ≡ of_called h (call_phase plan d) =
          called-same g h (plan.value VehicleDetectorCallPhase d) (calls d i.from i.to) gs in
          rw on (ap (λ (b : Bool). next plan d t b (of_called g (call_phase plan d)) (v d)) (xs d i.from i.to)
          ∙ ap₂ (λ (timer : Timer) (was : Detector). next plan d t (y d) timer was) green (vs d i.from i.to)))
      | inr out ↦ rw out refl
    ]

pub ticks-all : (now : ℕ) (row : Row) (greens : Greens) (plan : Plan) (old new : List ℕ) → IsTicked now row greens plan old new →
    detector_in now new
    ≡ all_after plan now (has_detector row.vehicles) (λ d. of_called (green_timer now greens) (call_phase plan d)) (detector_in (now - 1) old)
ticks-all now row greens plan old new done = fun_ext (λ d. at d)
  where
    at : (d : ℕ) → detector_in now new d
        ≡ all_after plan now (has_detector row.vehicles) (λ e. of_called (green_timer now greens) (call_phase plan e)) (detector_in (now - 1) old) d
    at d = elim (cases_Bool (is_detector d)) [
      | inl on ↦ (let i : IsAmong d = among-detectors d on in done d i.from i.to ∙ rw on refl)
      | inr out ↦ at-rest now new d out ∙ rw out refl
    ]
