-- What the inputs do to the rows is what the one step does to the state in them.
use Rattle.std.proofs.Common.{◌≡◌, ℕ, ◌+◌, ◌<◌, ◌≤◌, nat_lt, List, [], ◌++◌, length, Option, Some, None, sym, ap, ap₂, subst, ◌∙◌, refl, arith, Bool, true, false, append-nil, append_assoc, ◌-◌, ◌==◌}
use Rattle.std.proofs.lemmas.Bool.Decides.{nat_tests}
use Rattle.std.specs.Prelude.{is_some, if◌then◌else◌, option_map, slice_index}
use Rattle.tsb_cells.specs.Diff.{diff, shifted}
use Rattle.tsb_cells.proofs.DiffLemmas.{diff-same}
use Rattle.tsb_types.specs.declared.lamp.Lamp.{Lamp}
use Rattle.tsb_types.specs.declared.refusal.Refusal.TheVariants.{OutOfRange}
use Rattle.tsb_types.specs.declared.row.Row.{Row}
use Rattle.tsb_types.proofs.OptionLemmas.{is-none}
use Rattle.tsb_plan.specs.declared.object.TheConstants.{PLAN_CELLS}
use Rattle.tsb_plan.specs.Plan.{Plan}
use Rattle.tsb_plan.specs.PlanOf.{plan_in}
use Rattle.tsb_heads.specs.declared.monitor.Trip.{Trip}
use Rattle.tsb_transact.specs.Cells as desk_cells
use Rattle.tsb_transact.specs.Cells.{desk_in}
use Rattle.tsb_transact.specs.Desk.{Desk}
use Rattle.tsb_step.specs.Cells.{clock_at}
use Rattle.tsb_step.specs.Backed.{IsGoodInAll}
use Rattle.tsb_step.specs.MonitorCells.{lamp_in, trip_in}
use Rattle.tsb_step.specs.MonitorLaws.{IsMonitorBy}
use Rattle.tsb_step.specs.State.{State, Tripped}
use Rattle.tsb_step.specs.Step.{omit_refusal, step, verdict, last_tick, ticked, with_lamp}
use Rattle.tsb_step.specs.declared.inputs.Input.{Input}
use Rattle.tsb_step.specs.declared.inputs.Input.TheVariants as inputs
use Rattle.tsb_step.proofs.MonitorLemmas as monitor
use Rattle.tsb_step.specs.declared.first_cell.TheConstants.{DESK, MONITOR}
use Rattle.tsb_controller.specs.Promises.{IsWatchedTick, IsLit, IsRestarted, tripping}
use Rattle.tsb_controller.specs.Records.{changes}
use Rattle.tsb_controller.specs.Rows.{Rows, Beside, AreBy, untripped, state_of}
use Rattle.tsb_controller.specs.Whole.{All, AreAllBy, all_in, all_changes}
use Rattle.tsb_controller.proofs.ChangeLemmas.{rows-stay, changes-layers, changes-desk, changes-commit, nothing-differs}
use Rattle.tsb_bench.specs.Cabinet.{IsDone, next_tick, tripped_by}

-- what is beside the rows of the layers
abbrev pub beside : All → Beside
beside a = record { plan = plan_in a.plan; desk = desk_in a.desk; lamp = lamp_in a.monitor; trip = trip_in a.monitor }

-- rows that stayed have no changes
pub no-changes : (r : Rows) → changes r r ≡ []
no-changes r = rw (diff-same r.detectors, diff-same r.calls, diff-same r.phases, diff-same r.rings, diff-same r.pattern, diff-same r.preempts, diff-same r.overlaps) refl

-- ## Inputs that leave the tick number

-- an input that changes the layers alone
pub layers-done : (i : Input) (now : ℕ) (old : All) (new : Rows) (entries : List (ℕ × ℕ)) → next_tick now i ≡ now → AreAllBy now old →
    state_of now (beside old) new ≡ step (all_in now old) i → AreBy (clock_at now (trip_in old.monitor)) new → entries ≡ changes old.layers new →
    IsDone i now old (record old { layers = new }) entries
layers-done i now old new entries stays by steps new_by told =
    let rows : All = record old { layers = new } in
    record {
      state = ap (λ (n : ℕ). all_in n rows) stays ∙ steps;
      by = subst (λ (n : ℕ). AreAllBy n rows) (sym stays) (record { plan = by.plan; desk = by.desk; layers = new_by; monitor = by.monitor });
      entries_are = told ∙ sym (append-nil (changes old.layers new)) ∙ ap (λ (es : List (ℕ × ℕ)). changes old.layers new ++ shifted MONITOR es) (sym (diff-same old.monitor))
          ∙ sym (changes-layers old rows refl refl);
    }

-- an input that changes the desk alone
pub desk-done : (i : Input) (now : ℕ) (old : All) (new : List ℕ) (entries : List (ℕ × ℕ)) → next_tick now i ≡ now → AreAllBy now old → desk_cells.IsBy new →
    record (all_in now old) { desk = desk_in new } ≡ step (all_in now old) i → entries ≡ shifted DESK (diff old.desk new) → IsDone i now old (record old { desk = new }) entries
desk-done i now old new entries stays by new_by steps told =
    let rows : All = record old { desk = new } in
    record {
      state = ap (λ (n : ℕ). all_in n rows) stays ∙ steps;
      by = subst (λ (n : ℕ). AreAllBy n rows) (sym stays) (record { plan = by.plan; desk = new_by; layers = by.layers; monitor = by.monitor });
      entries_are = told ∙ sym (changes-desk old rows refl refl refl);
    }

-- an action's list that is not refused names overlaps 1 to 16
pub listed : (list : ℕ) → omit_refusal list ≡ None → list < 65536
listed list allowed = go (nat_lt list 65536) refl allowed
  where
    go : (b : Bool) → nat_lt list 65536 ≡ b → (if b then None else Some OutOfRange) ≡ None → list < 65536
    go true e h = grind (arith, nat_tests, e)
    go false e h = absurd cc

-- ## Ticks

-- a controller that has tripped does not change by a later tick
later : (n : ℕ) (plan : Plan) (desk : Desk) (lamp : Option Lamp) (trip : Option Tripped) (r : Rows) → is_some trip ≡ true →
    state_of (n + 1) (record { plan = plan; desk = desk; lamp = lamp; trip = trip }) r
    ≡ record (state_of n (record { plan = plan; desk = desk; lamp = lamp; trip = trip }) r) { now = n + 1 }
later n plan desk lamp None r tripped = absurd cc
later n plan desk lamp (Some t) r tripped = refl

later-by : (n : ℕ) (trip : Option Tripped) (r : Rows) → is_some trip ≡ true → AreBy (clock_at n trip) r → AreBy (clock_at (n + 1) trip) r
later-by n None r tripped by = absurd cc
later-by n (Some t) r tripped by = by

if-so : {A : Type 0} (b : Bool) (x y : A) → b ≡ true → x ≡ (if b then x else y)
if-so true x y h = refl
if-so false x y h = absurd cc

if-not : {A : Type 0} (b : Bool) (x y : A) → b ≡ false → y ≡ (if b then x else y)
if-not false x y h = refl
if-not true x y h = absurd cc

pub tick-tripped : (now : ℕ) (old : All) (row : Row) → AreAllBy now old → is_some (trip_in old.monitor) ≡ true → IsDone (inputs.Tick row) now old old []
unfolding step
tick-tripped now old row by tripped = record {
  state = later now (plan_in old.plan) (desk_in old.desk) (lamp_in old.monitor) (trip_in old.monitor) old.layers tripped
      ∙ if-so (is_some (trip_in old.monitor)) _ _ tripped;
  by = record {
    plan = by.plan;
    desk = by.desk;
    layers = later-by now (trip_in old.monitor) old.layers tripped by.layers;
    monitor = monitor.rows-stay now (now + 1) old.monitor (omega arith) by.monitor;
  };
  entries_are = sym (nothing-differs old);
}

-- a tick that is taken is none after the last
pub below-limit : (now : ℕ) (a : All) (row : Row) → verdict (all_in now a) (inputs.Tick row) ≡ None → now + 1 ≤ last_tick
unfolding verdict
below-limit now a row allowed = grind (arith, nat_tests)

-- the clock of a controller that has not tripped is the tick
pub untripped-by : (now : ℕ) (trip : Option Tripped) (r : Rows) → is_some trip ≡ false → AreBy (clock_at now trip) r → AreBy (now + 1 - 1) r
untripped-by now None r none by = subst (λ (n : ℕ). AreBy n r) back by
  where
    back : now ≡ now + 1 - 1
    back = omega arith
untripped-by now (Some t) r none by = absurd cc

-- what holds of every run holds of a controller that has not tripped, as its tick asks
pub good-here : (now : ℕ) (a : All) (lamp : Option Lamp) (layers : Rows) → is_some (trip_in a.monitor) ≡ false → lamp ≡ lamp_in a.monitor → layers ≡ a.layers →
    IsGoodInAll (all_in now a) → IsGoodInAll (state_of (now + 1 - 1) (untripped (plan_in a.plan) (desk_in a.desk) lamp) layers)
good-here now a lamp layers calm lit same good =
    let back : now ≡ now + 1 - 1 = omega arith in
    subst (λ (n : ℕ). IsGoodInAll (state_of n (untripped (plan_in a.plan) (desk_in a.desk) lamp) layers)) back
    (subst (λ (l : Option Lamp). IsGoodInAll (state_of now (untripped (plan_in a.plan) (desk_in a.desk) l) layers)) (sym lit)
    (subst (λ (r : Rows). IsGoodInAll (state_of now (untripped (plan_in a.plan) (desk_in a.desk) (lamp_in a.monitor)) r)) (sym same)
    (subst (λ (t : Option Tripped). IsGoodInAll (state_of now (record { plan = plan_in a.plan; desk = desk_in a.desk; lamp = lamp_in a.monitor; trip = t }) a.layers))
    (is-none (trip_in a.monitor) calm) good)))

pub some-none : {A : Type 0} (o : Option A) → is_some o ≡ true → o ≡ None → ⊥
some-none None h e = absurd cc
some-none (Some x) h e = absurd cc

-- a monitor that has found something trips the controller
pub trips-some : (now : ℕ) (found : Option Trip) (was : Option Tripped) → is_some found ≡ true → tripped_by found now was ≡ None → ⊥
trips-some now None was h e = absurd cc
trips-some now (Some cause) was h e = absurd cc

-- the clock of a controller that trips now is the tick
clock-now : (now : ℕ) (found : Option Trip) → clock_at now (option_map (λ cause. record { cause = cause; tick = now }) found) ≡ now
clock-now now None = refl
clock-now now (Some cause) = refl

pub tripped-now : (now : ℕ) (found : Option Trip) (was : Option Tripped) → was ≡ None → tripped_by found now was ≡ option_map (λ cause. record { cause = cause; tick = now }) found
tripped-now now None was none = none
tripped-now now (Some cause) was none = refl

-- a tick of a controller that has not tripped, with what the monitor found
pub tick-done : (now : ℕ) (old new : All) (row : Row) (found : Option Trip) (entries : List (ℕ × ℕ)) → AreAllBy now old → trip_in old.monitor ≡ None →
    IsWatchedTick (now + 1) row (lamp_in old.monitor) (plan_in old.plan) old.layers new.layers found → AreBy (now + 1) new.layers →
    new.plan ≡ old.plan → new.desk ≡ old.desk → lamp_in new.monitor ≡ lamp_in old.monitor →
    trip_in new.monitor ≡ option_map (λ cause. record { cause = cause; tick = now + 1 }) found → IsMonitorBy (now + 1) new.monitor →
    entries ≡ changes old.layers new.layers ++ shifted MONITOR (diff old.monitor new.monitor) → IsDone (inputs.Tick row) now old new entries
unfolding step
tick-done now old new row found entries by none watched new_by plan desk lamp trip monitor_by told =
    let back : now + 1 - 1 ≡ now = omega arith in
    let before : state_of now (untripped (plan_in old.plan) (desk_in old.desk) (lamp_in old.monitor)) old.layers ≡ all_in now old =
    ap (λ (t : Option Tripped). state_of now (record { plan = plan_in old.plan; desk = desk_in old.desk; lamp = lamp_in old.monitor; trip = t }) old.layers) (sym none) in
    let after : all_in (now + 1) new ≡ state_of (now + 1) (tripping (now + 1) found (plan_in old.plan) (desk_in old.desk) (lamp_in old.monitor)) new.layers =
    ap (λ (xs : List ℕ). state_of (now + 1) (record { plan = plan_in xs; desk = desk_in new.desk; lamp = lamp_in new.monitor; trip = trip_in new.monitor }) new.layers) plan
    ∙ ap (λ (xs : List ℕ). state_of (now + 1) (record { plan = plan_in old.plan; desk = desk_in xs; lamp = lamp_in new.monitor; trip = trip_in new.monitor }) new.layers) desk
    ∙ ap₂ (λ (l : Option Lamp) (t : Option Tripped). state_of (now + 1) (record { plan = plan_in old.plan; desk = desk_in old.desk; lamp = l; trip = t }) new.layers) lamp trip in
    record {
      state = after ∙ watched (desk_in old.desk) ∙ ap (λ (n : ℕ). ticked row (state_of n (untripped (plan_in old.plan) (desk_in old.desk) (lamp_in old.monitor)) old.layers)) back ∙ ap (ticked row) before;
      by = record {
        plan = ap length plan ∙ by.plan;
        desk = subst desk_cells.IsBy (sym desk) by.desk;
        layers = subst (λ (n : ℕ). AreBy n new.layers) (sym (ap (clock_at (now + 1)) trip ∙ clock-now (now + 1) found)) new_by;
        monitor = monitor_by;
      };
      entries_are = told ∙ sym (changes-layers old new (sym plan) (sym desk));
    }

-- what a watched tick says between `open` and `close_onto`, of the rows before and after
pub watched-rows : (now : ℕ) (row : Row) (read lamp : Option Lamp) (plan : Plan) (old opened changed closed : Rows) (found : Option Trip) → read ≡ lamp → opened ≡ old → closed ≡ changed →
    IsWatchedTick now row read plan opened changed found → IsWatchedTick now row lamp plan old closed found
watched-rows now row read lamp plan old opened changed closed found lamp_is opened_is closed_is watched =
    subst (λ (l : Option Lamp). IsWatchedTick now row l plan old closed found) lamp_is
    (subst (λ (r : Rows). IsWatchedTick now row read plan old r found) (sym closed_is)
    (subst (λ (r : Rows). IsWatchedTick now row read plan r changed found) opened_is watched))

-- ## Faults

pub fault-done : (now : ℕ) (old : All) (new : List ℕ) (lamp : Option Lamp) (found : Option Trip) (entries : List (ℕ × ℕ)) → AreAllBy now old →
    (is_some (trip_in old.monitor) ≡ true → found ≡ None) →
    (trip_in old.monitor ≡ None → IsLit (lamp_in old.monitor) lamp (plan_in old.plan) old.layers found) →
    lamp_in new ≡ lamp → trip_in new ≡ tripped_by found now (trip_in old.monitor) → IsMonitorBy now new →
    entries ≡ shifted MONITOR (diff old.monitor new) → IsDone (inputs.Fault lamp) now old (record old { monitor = new }) entries
unfolding step
fault-done now old new lamp found entries by tripped untripped_then lamp_is trip_is monitor_by told = at (trip_in old.monitor) refl
  where
    rows : All
    rows = record old { monitor = new }

    with : Option Lamp → Option Tripped → State
    with l t = state_of now (record { plan = plan_in old.plan; desk = desk_in old.desk; lamp = l; trip = t }) old.layers

    read : all_in now rows ≡ with lamp (tripped_by found now (trip_in old.monitor))
    read = ap₂ with lamp_is trip_is

    told_all : entries ≡ all_changes old rows
    told_all = told ∙ ap (λ (es : List (ℕ × ℕ)). es ++ shifted MONITOR (diff old.monitor new)) (sym (no-changes old.layers)) ∙ sym (changes-layers old rows refl refl)

    by_now : AreBy (clock_at now (trip_in new)) old.layers → AreAllBy now rows
    by_now layers = record { plan = by.plan; desk = by.desk; layers = layers; monitor = monitor_by }

    at : (t : Option Tripped) → trip_in old.monitor ≡ t → IsDone (inputs.Fault lamp) now old rows entries
    at None is =
        let trips : trip_in new ≡ option_map (λ cause. record { cause = cause; tick = now }) found = trip_is ∙ tripped-now now found (trip_in old.monitor) is in
        record {
          state = ap₂ with lamp_is trips ∙ untripped_then is now (desk_in old.desk) ∙ ap (λ (u : Option Tripped). with_lamp lamp (with (lamp_in old.monitor) u)) (sym is);
          by = by_now (subst (λ (n : ℕ). AreBy n old.layers) (ap (clock_at now) is ∙ sym (ap (clock_at now) trips ∙ clock-now now found)) by.layers);
          entries_are = told_all;
        }
    at (Some t) is =
        let on : is_some (trip_in old.monitor) ≡ true = ap is_some is in
        let same : trip_in new ≡ trip_in old.monitor = trip_is ∙ ap (λ (f : Option Trip). tripped_by f now (trip_in old.monitor)) (tripped on) in
        record {
          state = ap₂ with lamp_is same ∙ if-so (is_some (trip_in old.monitor)) _ _ on;
          by = by_now (subst (λ (u : Option Tripped). AreBy (clock_at now u) old.layers) (sym same) by.layers);
          entries_are = told_all;
        }

-- ## Resets

pub reset-untripped : (now : ℕ) (old : All) → AreAllBy now old → is_some (trip_in old.monitor) ≡ false → IsDone inputs.Reset now old old []
unfolding step
reset-untripped now old by none = record {
  state = if-not (is_some (trip_in old.monitor)) _ _ none;
  by = by;
  entries_are = sym (nothing-differs old);
}

-- timers are read at a tick that has been
pub clock-most : (now : ℕ) (old : All) → AreAllBy now old → clock_at now (trip_in old.monitor) ≤ now
clock-most now old by = at (trip_in old.monitor) refl
  where
    tick : Option Tripped → ℕ
    tick None = 0
    tick (Some t) = t.tick

    -- a test of a cell, and what is read where it fails
    told : (b : Bool) (x t : Tripped) → (if b then None else Some x) ≡ Some t → x.tick ≡ t.tick
    told true x t h = absurd cc
    told false x t h = ap tick h

    tick-of : (t : Tripped) → trip_in old.monitor ≡ Some t → slice_index old.monitor 3 ≡ t.tick
    tick-of t is = told (slice_index old.monitor 0 == 0) _ t is

    at : (t : Option Tripped) → trip_in old.monitor ≡ t → clock_at now t ≤ now
    at None is = omega arith
    at (Some t) is = subst (λ (n : ℕ). n ≤ now) (tick-of t is) by.monitor.tick

-- the rows can be held at the tick in force, also those of a controller that has tripped
pub by-now : (now : ℕ) (old : All) → AreAllBy now old → AreBy now old.layers
by-now now old by = rows-stay (clock_at now (trip_in old.monitor)) now old.layers (clock-most now old by) by.layers

pub reset-done : (now : ℕ) (old new : All) (entries : List (ℕ × ℕ)) → AreAllBy now old → is_some (trip_in old.monitor) ≡ true →
    IsRestarted now old.layers new.layers → AreBy now new.layers → new.plan ≡ old.plan → new.desk ≡ old.desk → lamp_in new.monitor ≡ None → trip_in new.monitor ≡ None →
    IsMonitorBy now new.monitor → entries ≡ changes old.layers new.layers ++ shifted MONITOR (diff old.monitor new.monitor) → IsDone inputs.Reset now old new entries
unfolding step
reset-done now old new entries by tripped restarts new_by plan desk lamp trip monitor_by told = record {
  state = ap (λ (xs : List ℕ). state_of now (record { plan = plan_in xs; desk = desk_in new.desk; lamp = lamp_in new.monitor; trip = trip_in new.monitor }) new.layers) plan
      ∙ ap (λ (xs : List ℕ). state_of now (record { plan = plan_in old.plan; desk = desk_in xs; lamp = lamp_in new.monitor; trip = trip_in new.monitor }) new.layers) desk
      ∙ ap₂ (λ (l : Option Lamp) (t : Option Tripped). state_of now (record { plan = plan_in old.plan; desk = desk_in old.desk; lamp = l; trip = t }) new.layers) lamp trip
      ∙ restarts (beside old) ∙ if-so (is_some (trip_in old.monitor)) _ _ tripped;
  by = record {
    plan = ap length plan ∙ by.plan;
    desk = subst desk_cells.IsBy (sym desk) by.desk;
    layers = subst (λ (t : Option Tripped). AreBy (clock_at now t) new.layers) (sym trip) new_by;
    monitor = monitor_by;
  };
  entries_are = told ∙ sym (changes-layers old new (sym plan) (sym desk));
}

-- ## Commits

pub commit-done : (i : Input) (now : ℕ) (old new : All) (entries : List (ℕ × ℕ)) → next_tick now i ≡ now → AreAllBy now old → all_in now new ≡ step (all_in now old) i →
    length new.plan ≡ PLAN_CELLS → desk_cells.IsBy new.desk → AreBy (clock_at now (trip_in old.monitor)) new.layers → new.monitor ≡ old.monitor →
    entries ≡ diff old.plan new.plan ++ (shifted DESK (diff old.desk new.desk) ++ changes old.layers new.layers) → IsDone i now old new entries
commit-done i now old new entries stays by steps plan desk layers same told = record {
  state = ap (λ (n : ℕ). all_in n new) stays ∙ steps;
  by = subst (λ (n : ℕ). AreAllBy n new) (sym stays) (record {
    plan = plan;
    desk = desk;
    layers = subst (λ (xs : List ℕ). AreBy (clock_at now (trip_in xs)) new.layers) (sym same) layers;
    monitor = subst (IsMonitorBy now) (sym same) by.monitor;
  });
  entries_are = told ∙ sym (changes-commit old new (sym same));
}

-- ## What the calls of one input say, put together

-- the cells that changed between `open` and `close_onto`
pub changes-told : (old kept changed closed : Rows) (before after : List (ℕ × ℕ)) → before ≡ [] → kept ≡ old → closed ≡ changed → after ≡ before ++ changes kept changed →
    after ≡ changes old closed
changes-told old kept changed closed before after empty kept_is closed_is told =
    told ∙ ap₂ (λ (b : List (ℕ × ℕ)) (k : Rows). b ++ changes k changed) empty kept_is ∙ ap (changes old) (sym closed_is)

-- where only the desk was open
pub desk-input : (i : Input) (now : ℕ) (old : All) (kept changed closed : List ℕ) (before after : List (ℕ × ℕ)) (next : Desk) → next_tick now i ≡ now → AreAllBy now old →
    desk_cells.IsBy closed → desk_in changed ≡ next → closed ≡ changed → kept ≡ old.desk → before ≡ [] → after ≡ before ++ shifted DESK (diff kept changed) →
    record (all_in now old) { desk = next } ≡ step (all_in now old) i → IsDone i now old (record old { desk = closed }) after
desk-input i now old kept changed closed before after next stays by closed_by made closed_is kept_is empty told steps =
    desk-done i now old closed after stays by closed_by
    (ap (λ (d : Desk). record (all_in now old) { desk = d }) (ap desk_in closed_is ∙ made) ∙ steps)
    (told ∙ ap₂ (λ (b : List (ℕ × ℕ)) (k : List ℕ). b ++ shifted DESK (diff k changed)) empty kept_is ∙ ap (λ (xs : List ℕ). shifted DESK (diff old.desk xs)) (sym closed_is))

-- the entries of a commit, put together from those of the plan, the desk and the layers
pub commit-told : (plan desk layers start one two all : List (ℕ × ℕ)) → start ≡ [] → one ≡ start ++ plan → two ≡ one ++ desk → all ≡ two ++ layers → all ≡ plan ++ (desk ++ layers)
commit-told plan desk layers start one two all empty first second third =
    third ∙ ap (λ (es : List (ℕ × ℕ)). es ++ layers) (second ∙ ap (λ (es : List (ℕ × ℕ)). es ++ desk) (first ∙ ap (λ (es : List (ℕ × ℕ)). es ++ plan) empty))
    ∙ append_assoc plan desk layers
