-- Ticks that are passed over: what is asked of the layers once, and what it says of each of them.
use Rattle.std.proofs.Common.{◌≡◌, ℕ, ◌+◌, ◌-◌, ◌<◌, ◌≤◌, List, [], ◌++◌, Option, None, sym, ap, ap₂, subst, ◌∙◌, refl, arith, true, false, ◌∷◌, is_some}
use Rattle.std.proofs.lemmas.Bool.Decides.{nat_tests}
use Rattle.tsb_cells.specs.Diff.{diff, shifted}
use Rattle.tsb_cells.proofs.DiffLemmas.{diff-same}
use Rattle.tsb_history.specs.History.{Change}
use Rattle.tsb_history.specs.declared.kinds.Kind.{Kind}
use Rattle.tsb_history.specs.declared.kinds.Kind.TheVariants as kinds
use Rattle.tsb_types.specs.declared.row.Row.{Row}
use Rattle.tsb_types.proofs.OptionLemmas.{is-none}
use Rattle.tsb_plan.specs.PlanOf.{plan_in}
use Rattle.tsb_step.specs.Cells.{clock_at}
use Rattle.tsb_step.specs.MonitorCells.{lamp_in, trip_in}
use Rattle.tsb_step.specs.Past.{record_of, taken_back}
use Rattle.tsb_step.specs.State.{Tripped}
use Rattle.tsb_step.specs.Step.{verdict, kind_of, last_tick}
use Rattle.tsb_step.specs.declared.first_cell.TheConstants.{DESK, MONITOR, PHASES}
use Rattle.tsb_step.specs.declared.inputs.Input.{Input}
use Rattle.tsb_step.specs.declared.inputs.Input.TheVariants as inputs
use Rattle.tsb_step.proofs.MonitorLemmas as monitor
use Rattle.tsb_controller.specs.Passing.{AreQuietUntil, EarlyRecordsLeavePhases, IsSettled, LeavesPhases, WatchedTicksAreTicked, WatchedTicksPass, ends_before_phases}
use Rattle.tsb_controller.specs.Promises.{IsWatchedTick}
use Rattle.tsb_controller.specs.Records.{changes}
use Rattle.tsb_controller.specs.Rows.{Rows, AreBy}
use Rattle.tsb_controller.specs.Whole.{All, AreAllBy, all_in, all_changes}
use Rattle.tsb_controller.proofs.ChangeLemmas.{rows-stay}
use Rattle.tsb_controller.proofs.EarlyLemmas.{first-before, rest-before, shifted-from}
use Rattle.tsb_bench.specs.Cabinet.{rows_of, IsDone, Passes, MayPass, next_tick}
use Rattle.tsb_bench.specs.Held.{HasSoundPast}
use Rattle.tsb_bench.specs.declared.cabinet.Cabinet.{Cabinet}
use Rattle.tsb_bench.proofs.HeldLemmas.{Applied, sound-applied, records-applied, back-applied}
use Rattle.tsb_bench.proofs.InputLemmas.{by-now, no-changes, tick-done}

-- ## Which ticks may be passed over

-- a tick before the last is not refused
allowed : (now : ℕ) (a : All) (row : Row) → now < last_tick → verdict (all_in now a) (inputs.Tick row) ≡ None
unfolding verdict
allowed now a row below = grind (arith, nat_tests)

pub passes-here : (now : ℕ) (c : Cabinet) (row : Row) → MayPass now c → now < c.passing.last → row ≡ c.passing.row → Passes (inputs.Tick row) now (rows_of c)
passes-here now c row may ahead same =
    let below : c.passing.last ≤ last_tick = may.within in
    record {
      kind = refl;
      next = refl;
      allowed = allowed now (rows_of c) row (omega (arith, below));
      done = subst (λ (r : Row). IsDone (inputs.Tick r) now (rows_of c) (rows_of c) []) (sym same) (may.quiet now (omega arith) ahead);
    }

pub may-later : (now n : ℕ) (c : Cabinet) → now ≤ n → MayPass now c → MayPass n c
may-later now n c later may = record { within = may.within; quiet = λ t from to. may.quiet t (omega arith) to }

pub may_none : (now : ℕ) (c : Cabinet) → c.passing.last ≡ 0 → MayPass now c
may_none now c none = record { within = omega (arith, none); quiet = λ t from to. absurd (omega (arith, none)) }

-- ## After a tick that left the phases as they were

-- a record that ends before the phases has entries of the layers alone, and these end so
layers-early : (old new : All) → ends_before_phases (all_changes old new) ≡ true → ends_before_phases (changes old.layers new.layers) ≡ true
layers-early old new early =
    first-before (changes old.layers new.layers) (shifted MONITOR (diff old.monitor new.monitor)) (shifted-from PHASES MONITOR (diff old.monitor new.monitor) (omega arith))
    (rest-before (shifted DESK (diff old.desk new.desk)) _ (rest-before (diff old.plan new.plan) _ early))

-- what the monitor watched, where it found nothing
pub watched-here : (tick : ℕ) (row : Row) (old new : All) → is_some (trip_in new.monitor) ≡ false →
    (trip_in new.monitor ≡ None → IsWatchedTick (tick + 1) row (lamp_in new.monitor) (plan_in new.plan) old.layers new.layers None) →
    IsWatchedTick (tick + 1) row (lamp_in new.monitor) (plan_in new.plan) old.layers new.layers None
watched-here tick row old new off watched = watched (is-none (trip_in new.monitor) off)

module _ (tick : ℕ) (row : Row) (old new : All) (entries : List (ℕ × ℕ)) (leave : EarlyRecordsLeavePhases) (by : AreAllBy tick old) (done : IsDone (inputs.Tick row) tick old new entries)
    (early : ends_before_phases entries ≡ true) where
  pub rest : LeavesPhases old.layers new.layers
  rest = leave tick (tick + 1) old.layers new.layers (by-now tick old by) (by-now (tick + 1) new done.by) (layers-early old new (ap ends_before_phases (sym done.entries_are) ∙ early))

  pub settled-here : WatchedTicksAreTicked → IsWatchedTick (tick + 1) row (lamp_in new.monitor) (plan_in new.plan) old.layers new.layers None →
      IsSettled (tick + 1) row (plan_in new.plan) new.layers
  settled-here are watched = record {
    old = old.layers;
    by = (let back : tick ≡ tick + 1 - 1 = omega arith in subst (λ (n : ℕ). AreBy n old.layers) back (by-now tick old by));
    ticked = are (tick + 1) row (lamp_in new.monitor) (plan_in new.plan) old.layers new.layers None watched;
    rest = rest;
  }

module _ (now : ℕ) (was : Rows) (a : All) (row : Row) (by : AreAllBy now a) (off : is_some (trip_in a.monitor) ≡ false) where
  none : trip_in a.monitor ≡ None
  none = is-none (trip_in a.monitor) off

  -- rows of a controller that has not tripped can be held at each later tick number
  stays : (t : ℕ) → now ≤ t → AreAllBy t a
  stays t later = record {
    plan = by.plan;
    desk = by.desk;
    layers = subst (λ (u : Option Tripped). AreBy (clock_at t u) a.layers) (sym none) (rows-stay now t a.layers later (by-now now a by));
    monitor = monitor.rows-stay now t a.monitor later by.monitor;
  }

  -- each tick before the one that is due changes nothing
  pub quiet-done : (due : ℕ) → WatchedTicksPass → LeavesPhases was a.layers → IsWatchedTick now row (lamp_in a.monitor) (plan_in a.plan) was a.layers None →
      AreQuietUntil now row (plan_in a.plan) a.layers due → (t : ℕ) → now ≤ t → t < due - 1 → IsDone (inputs.Tick row) t a a []
  quiet-done due pass rest watched quiet t from to =
      tick-done t a a row None [] (stays t from) none
      (pass now (t + 1) row (lamp_in a.monitor) (plan_in a.plan) was a.layers rest watched (quiet (t + 1) (omega arith) (omega arith)))
      (rows-stay now (t + 1) a.layers (omega arith) (by-now now a by)) refl refl refl none (monitor.rows-stay now (t + 1) a.monitor (omega arith) by.monitor)
      (sym (ap₂ (λ (es fs : List (ℕ × ℕ)). es ++ shifted MONITOR fs) (no-changes a.layers) (diff-same a.monitor)))

-- ## Once an input was taken

module _ (i : Input) (now after : ℕ) (c new : Cabinet) (entries : List (ℕ × ℕ)) (rs left : List Change) (sound : HasSoundPast now (rows_of c) rs)
    (is_allowed : verdict (all_in now (rows_of c)) i ≡ None) (done : IsDone i now (rows_of c) (rows_of new) entries) (next : after ≡ next_tick now i)
    (told : left ≡ record { kind = kind_of i; entries = entries } ∷ rs) where
  applied : Applied i now (rows_of c) (rows_of new) entries
  applied = record { allowed = is_allowed; done = done; ranged = new.plan.plan.ranged; desk = new.desk.row.sound }

  pub sound-taken : HasSoundPast after (rows_of new) left
  sound-taken = subst (λ (n : ℕ). HasSoundPast n (rows_of new) left) (sym next) (sound-applied i now (rows_of c) (rows_of new) entries rs left sound applied told)

  pub records-taken : left ≡ record_of i (all_in now (rows_of c)) (all_in after (rows_of new)) ∷ rs
  records-taken =
      records-applied i now (rows_of c) (rows_of new) entries rs left sound applied told
      ∙ ap (λ (n : ℕ). record_of i (all_in now (rows_of c)) (all_in n (rows_of new)) ∷ rs) (sym next)

  pub back-taken : taken_back (all_in after (rows_of new)) left ≡ record { state = all_in now (rows_of c); records = rs }
  back-taken =
      ap (λ (n : ℕ). taken_back (all_in n (rows_of new)) left) next ∙ back-applied i now (rows_of c) (rows_of new) entries rs left sound applied told

-- a tick that was passed over
module _ (i : Input) (now : ℕ) (c : Cabinet) (rs left : List Change) (sound : HasSoundPast now (rows_of c) rs) (passes : Passes i now (rows_of c))
    (told : left ≡ record { kind = kinds.Tick; entries = [] } ∷ rs) where
  told-kind : left ≡ record { kind = kind_of i; entries = [] } ∷ rs
  told-kind = told ∙ ap (λ (k : Kind). record { kind = k; entries = [] } ∷ rs) (sym passes.kind)

  pub sound-passed : HasSoundPast (now + 1) (rows_of c) left
  sound-passed = sound-taken i now (now + 1) c c [] rs left sound passes.allowed passes.done (sym passes.next) told-kind

  pub records-passed : left ≡ record_of i (all_in now (rows_of c)) (all_in (now + 1) (rows_of c)) ∷ rs
  records-passed = records-taken i now (now + 1) c c [] rs left sound passes.allowed passes.done (sym passes.next) told-kind

  pub back-passed : taken_back (all_in (now + 1) (rows_of c)) left ≡ record { state = all_in now (rows_of c); records = rs }
  back-passed = back-taken i now (now + 1) c c [] rs left sound passes.allowed passes.done (sym passes.next) told-kind
