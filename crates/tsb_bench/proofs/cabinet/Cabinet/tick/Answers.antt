use Rattle.std.proofs.Common.{◌≡◌, ◌∙◌, ◌+◌, ◌≤◌, List, ℕ, ap, sym, subst, refl, arith, ◌++◌, None, append-nil, length}
use Rattle.std.specs.Prelude.{option_map}
use Rattle.arrayvec.specs.ArrayVec.{array_vec_len}
use Rattle.tsb_cells.specs.Bank as bank
use Rattle.tsb_cells.specs.Diff.{diff, shifted}
use Rattle.tsb_cells.proofs.DiffLemmas.{diff-same}
use Rattle.tsb_objects.specs.Checked.{checked_plan}
use Rattle.tsb_plan.specs.PlanOf.{plan_of}
use Rattle.tsb_types.proofs.OptionLemmas.{is-none}
use Rattle.tsb_heads.specs.declared.monitor.Trip.{Trip}
use Rattle.tsb_transact.specs.Cells.{desk_in}
use Rattle.tsb_step.specs.Step.{last_tick}
use Rattle.tsb_step.specs.MonitorCells.{lamp_in, trip_in}
use Rattle.tsb_step.specs.declared.inputs.Input.TheVariants as inputs
use Rattle.tsb_step.proofs.MonitorLemmas as monitor
use Rattle.tsb_step.specs.declared.first_cell.TheConstants.{LAYER_CELLS, MONITOR}
use Rattle.tsb_controller.specs.Layer as layers
use Rattle.tsb_controller.specs.Promises.{IsWatchedTick}
use Rattle.tsb_controller.specs.Records.{changes}
use Rattle.tsb_controller.specs.Rows.{AreBy}
use Rattle.tsb_bench.specs.Cabinet.{rows_of, IsDone}
use Rattle.tsb_bench.proofs.InputLemmas.{tick-tripped, tick-done, below-limit, untripped-by, good-here, some-none, trips-some, tripped-now, changes-told, watched-rows}
use Rattle.tsb_bench.proofs.cabinet.Cabinet.tick.Goals as goal

pub returns-then-is_tripped-clause-done : goal.returns-then-is_tripped-clause-done
returns-then-is_tripped-clause-done c =
    subst (λ (es : List (ℕ × ℕ)). IsDone (inputs.Tick c.args.row.now) c.args.tick (rows_of c.args.self.now) (rows_of c.args.self.now) es) (sym c.requires.empty)
    (tick-tripped c.args.tick (rows_of c.args.self.now) c.args.row.now c.requires.by (sym c.is_tripped.ensures ∙ c.if-is_tripped.true))

pub overflow_add-tick : goal.overflow_add-tick
overflow_add-tick c = let below : c.args.tick + 1 ≤ last_tick = below-limit c.args.tick (rows_of c.args.self.now) c.args.row.now c.requires.allowed in omega (arith, below)

pub watched_tick-found-requires-clause-in_time : goal.watched_tick-found-requires-clause-in_time
watched_tick-found-requires-clause-in_time c = below-limit c.args.tick (rows_of c.args.self.now) c.args.row.now c.requires.allowed

pub watched_tick-found-requires-clause-by : goal.watched_tick-found-requires-clause-by
watched_tick-found-requires-clause-by c =
    subst (AreBy _) (sym c.open.ensures.rows)
    (untripped-by c.args.tick (trip_in (rows_of c.args.self.now).monitor) (rows_of c.args.self.now).layers (sym c.is_tripped.ensures ∙ c.if-is_tripped.false) c.requires.by.layers)

pub watched_tick-found-requires-clause-good : goal.watched_tick-found-requires-clause-good
unfolding checked_plan plan_of
watched_tick-found-requires-clause-good c = (
  desk_in (rows_of c.args.self.now).desk,
  good-here c.args.tick (rows_of c.args.self.now) c.lamp-lamp.result (layers.rows_of c.open.new.self) (sym c.is_tripped.ensures ∙ c.if-is_tripped.false) c.lamp-lamp.ensures c.open.ensures.rows c.requires.good,
)

pub overflow_add-tick-then-is_some : goal.overflow_add-tick-then-is_some
overflow_add-tick-then-is_some c = let below : c.args.tick + 1 ≤ last_tick = below-limit c.args.tick (rows_of c.args.self.now) c.args.row.now c.requires.allowed in omega (arith, below)

pub set-requires : goal.set-requires
set-requires c =
    let none : length c.args.out.now.items ≡ 0 = ap length c.requires.empty in
    let few : array_vec_len c.close_onto.new.out ≤ array_vec_len c.args.out.now + LAYER_CELLS = c.close_onto.ensures.len in (
      omega arith,
      (
        c.requires.shut.monitor,
        (
          monitor.rows-stay c.args.tick (c.args.tick + 1) (rows_of c.args.self.now).monitor (omega arith) c.requires.by.monitor,
          (c.watched_tick-found.ensures.cause, omega (arith, few, none)),
        ),
      ),
    )

pub returns-then-is_tripped-clause-watched : goal.returns-then-is_tripped-clause-watched
returns-then-is_tripped-clause-watched c none = absurd (some-none (trip_in (rows_of c.args.self.now).monitor) (sym c.is_tripped.ensures ∙ c.if-is_tripped.true) none)

pub returns-then-is_some-clause-watched : goal.returns-then-is_some-clause-watched
returns-then-is_some-clause-watched c none =
    absurd (trips-some (c.args.tick + 1) c.watched_tick-found.result (trip_in (rows_of c.args.self.now).monitor) (sym c.is_some.ensures ∙ c.if-is_some.true) (sym c.set.ensures.trip ∙ none))

pub returns-else-is_some-clause-watched : goal.returns-else-is_some-clause-watched
unfolding checked_plan plan_of
returns-else-is_some-clause-watched c none =
    watched-rows (c.args.tick + 1) c.args.row.now c.lamp-lamp.result (lamp_in (rows_of c.args.self.now).monitor) (checked_plan c.args.self.now.plan) (rows_of c.args.self.now).layers (layers.rows_of c.open.new.self)
    (layers.rows_of c.watched_tick-found.new.self) (layers.rows_of c.close_onto.new.self) None c.lamp-lamp.ensures c.open.ensures.rows c.close_onto.ensures.rows
    (subst (IsWatchedTick (c.args.tick + 1) c.args.row.now c.lamp-lamp.result (checked_plan c.args.self.now.plan) (layers.rows_of c.open.new.self) (layers.rows_of c.watched_tick-found.new.self))
    (is-none c.watched_tick-found.result (sym c.is_some.ensures ∙ c.if-is_some.false)) c.watched_tick-found.ensures.state)

pub returns-then-is_some-clause-done : goal.returns-then-is_some-clause-done
unfolding checked_plan plan_of
returns-then-is_some-clause-done c =
    tick-done c.args.tick (rows_of c.args.self.now)
    (record { plan = (rows_of c.args.self.now).plan; desk = (rows_of c.args.self.now).desk; layers = layers.rows_of c.close_onto.new.self; monitor = bank.cells_of c.set.new.self.bank })
    c.args.row.now c.watched_tick-found.result c.set.new.out.items c.requires.by (is-none (trip_in (rows_of c.args.self.now).monitor) (sym c.is_tripped.ensures ∙ c.if-is_tripped.false)) (watched-rows (c.args.tick + 1) c.args.row.now c.lamp-lamp.result (lamp_in (rows_of c.args.self.now).monitor) (checked_plan c.args.self.now.plan) (rows_of c.args.self.now).layers (layers.rows_of c.open.new.self)
    (layers.rows_of c.watched_tick-found.new.self) (layers.rows_of c.close_onto.new.self) c.watched_tick-found.result c.lamp-lamp.ensures c.open.ensures.rows c.close_onto.ensures.rows c.watched_tick-found.ensures.state)
    (subst (AreBy (c.args.tick + 1)) (sym c.close_onto.ensures.rows) c.watched_tick-found.ensures.by) refl refl (c.set.ensures.lamp ∙ c.lamp-lamp.ensures)
    (c.set.ensures.trip ∙ tripped-now (c.args.tick + 1) c.watched_tick-found.result (trip_in (rows_of c.args.self.now).monitor) (is-none (trip_in (rows_of c.args.self.now).monitor) (sym c.is_tripped.ensures ∙ c.if-is_tripped.false))) c.set.ensures.by
    (c.set.ensures.changes ∙ ap (λ (es : List (ℕ × ℕ)). es ++ shifted MONITOR (diff (rows_of c.args.self.now).monitor (bank.cells_of c.set.new.self.bank))) (changes-told (rows_of c.args.self.now).layers (layers.kept_of c.watched_tick-found.new.self) (layers.rows_of c.watched_tick-found.new.self) (layers.rows_of c.close_onto.new.self)
    c.args.out.now.items c.close_onto.new.out.items c.requires.empty (c.watched_tick-found.ensures.kept ∙ c.open.ensures.kept) c.close_onto.ensures.rows c.close_onto.ensures.changes))

pub returns-else-is_some-clause-done : goal.returns-else-is_some-clause-done
unfolding checked_plan plan_of
returns-else-is_some-clause-done c =
    let none : c.watched_tick-found.result ≡ None = is-none c.watched_tick-found.result (sym c.is_some.ensures ∙ c.if-is_some.false) in
    tick-done c.args.tick (rows_of c.args.self.now)
    (record { plan = (rows_of c.args.self.now).plan; desk = (rows_of c.args.self.now).desk; layers = layers.rows_of c.close_onto.new.self; monitor = (rows_of c.args.self.now).monitor })
    c.args.row.now c.watched_tick-found.result c.close_onto.new.out.items c.requires.by (is-none (trip_in (rows_of c.args.self.now).monitor) (sym c.is_tripped.ensures ∙ c.if-is_tripped.false)) (watched-rows (c.args.tick + 1) c.args.row.now c.lamp-lamp.result (lamp_in (rows_of c.args.self.now).monitor) (checked_plan c.args.self.now.plan) (rows_of c.args.self.now).layers (layers.rows_of c.open.new.self)
    (layers.rows_of c.watched_tick-found.new.self) (layers.rows_of c.close_onto.new.self) c.watched_tick-found.result c.lamp-lamp.ensures c.open.ensures.rows c.close_onto.ensures.rows c.watched_tick-found.ensures.state)
    (subst (AreBy (c.args.tick + 1)) (sym c.close_onto.ensures.rows) c.watched_tick-found.ensures.by) refl refl refl
    ((is-none (trip_in (rows_of c.args.self.now).monitor) (sym c.is_tripped.ensures ∙ c.if-is_tripped.false)) ∙ ap (option_map (λ (cause : Trip). record { cause = cause; tick = c.args.tick + 1 })) (sym none))
    (monitor.rows-stay c.args.tick (c.args.tick + 1) (rows_of c.args.self.now).monitor (omega arith) c.requires.by.monitor)
    (changes-told (rows_of c.args.self.now).layers (layers.kept_of c.watched_tick-found.new.self) (layers.rows_of c.watched_tick-found.new.self) (layers.rows_of c.close_onto.new.self)
    c.args.out.now.items c.close_onto.new.out.items c.requires.empty (c.watched_tick-found.ensures.kept ∙ c.open.ensures.kept) c.close_onto.ensures.rows c.close_onto.ensures.changes ∙ sym (append-nil _) ∙ ap (λ (es : List (ℕ × ℕ)). changes (rows_of c.args.self.now).layers (layers.rows_of c.close_onto.new.self) ++ shifted MONITOR es) (sym (diff-same (rows_of c.args.self.now).monitor)))
