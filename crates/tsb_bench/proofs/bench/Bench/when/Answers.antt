use Rattle.std.proofs.Common.{◌≡◌, ◌≤◌, ◌<◌, ◌-◌, ◌∷◌, ℕ, suc, List, length, ap, arith, drop, length-drop, sym, subst, ◌∙◌}
use Rattle.tsb_history.specs.History.{Change, quiet_ticks}
use Rattle.tsb_types.specs.declared.watch.Watch.{Watch}
use Rattle.tsb_controller.specs.Whole.{all_put_back}
use Rattle.tsb_step.specs.Past.{ticks_of}
use Rattle.tsb_bench.specs.Cabinet.{rows_of}
use Rattle.tsb_bench.specs.Held.{Held}
use Rattle.tsb_bench.specs.declared.watched.WatchedLayer.{WatchedLayer}
use Rattle.tsb_bench.specs.declared.watched.Value.{Value}
use Rattle.tsb_bench.proofs.HeldLemmas.{are-quiet, sound-held}
use Rattle.tsb_bench.proofs.WatchedLemmas.{IsAt, at-start, back-held, found, goes-on-same, goes-on-still, goes-quiet, none-left}
use Rattle.tsb_bench.proofs.bench.Bench.when.Goals as goal
use Rattle.tsb_bench.proofs.bench.Bench.when.Goals.{else-undo-via-then-undo+else-not-is_same, else-undo-via-else-undo}

-- behind the quiet ticks
behind : (k : ℕ) (h : Held) (w : Watch) (x : WatchedLayer) (tick : ℕ) (value : Value) (was left : List Change) → k ≡ quiet_ticks was → left ≡ drop k was → IsAt h w x tick value was → IsAt h w x (tick - k) value left
behind k h w x tick value was left all rest at = subst (λ (rs : List Change). IsAt h w x (tick - k) value rs) (sym rest) (goes-quiet k h w x tick value was (omega (arith, all)) at)

-- there are no more of them than ticks
within : (k : ℕ) (h : Held) (w : Watch) (x : WatchedLayer) (tick : ℕ) (value : Value) (was : List Change) → k ≡ quiet_ticks was → IsAt h w x tick value was → k ≤ tick
within k h w x tick value was all at = (are-quiet k tick at.rows was at.sound (omega (arith, all))).within

-- each turn leaves fewer records
smaller : (was left rest : List Change) (k : ℕ) (x : Change) → left ≡ drop k was → left ≡ x ∷ rest → length rest < length was
smaller was left rest k x cut steps =
    let e : suc (length rest) ≡ length was - k = sym (ap length steps) ∙ ap length cut ∙ length-drop k was in
    omega (arith, e)

pub loop-change-smaller : goal.loop-change-smaller
loop-change-smaller c = smaller c.loop-change.records c.skip_quiet.new.self c.next.new.self c.skip_quiet.result c.in-Some.change c.skip_quiet.ensures.rest c.in-Some.ensures.steps

pub value-value-requires : goal.value-value-requires
value-value-requires c = record { held = (c.args.watch, c.self.inside.tick, rows_of c.self.inside.cabinet, c.of-watched.ensures, (sound-held _ _ _ c.self.invariant.1).by) }

pub loop-change-init : goal.loop-change-init
loop-change-init c = record {
  at = subst (IsAt c.args.self.now c.args.watch c.of-watched.result c.self.inside.tick c.value-value.result) (sym c.walk_back-records.ensures.records)
      (subst (λ (h : Held). IsAt h c.args.watch c.of-watched.result c.self.inside.tick c.value-value.result c.self.inside.history.records) c.self.view_is
      (at-start (record { tick = c.self.inside.tick; rows = rows_of c.self.inside.cabinet; records = c.self.inside.history.records; room = c.self.inside.history.room }) c.args.watch c.of-watched.result c.value-value.result
      c.self.invariant.1 c.of-watched.ensures (c.value-value.ensures c.args.watch)));
}

pub overflow_cast-tick : goal.overflow_cast-tick
overflow_cast-tick c =
    let few = within c.skip_quiet.result c.args.self.now c.args.watch c.loop-change.watched c.loop-change.tick c.value-value.result c.loop-change.records c.skip_quiet.ensures.count c.loop-change.invariant.at in
    let last = (sound-held _ _ _ c.loop-change.invariant.at.sound).limit in
    omega (arith, few, last)

pub overflow_sub-tick : goal.overflow_sub-tick
overflow_sub-tick c = within c.skip_quiet.result c.args.self.now c.args.watch c.loop-change.watched c.loop-change.tick c.value-value.result c.loop-change.records c.skip_quiet.ensures.count c.loop-change.invariant.at

pub value-requires : goal.value-requires
value-requires c =
    let left : IsAt c.args.self.now c.args.watch c.loop-change.watched (c.loop-change.tick - c.skip_quiet.result) c.value-value.result c.skip_quiet.new.self =
    behind c.skip_quiet.result c.args.self.now c.args.watch c.loop-change.watched c.loop-change.tick c.value-value.result c.loop-change.records c.skip_quiet.new.self c.skip_quiet.ensures.count c.skip_quiet.ensures.rest c.loop-change.invariant.at in
    let at : IsAt c.args.self.now c.args.watch c.loop-change.watched (c.loop-change.tick - c.skip_quiet.result) c.value-value.result (c.in-Some.change ∷ c.next.new.self) =
    subst (IsAt c.args.self.now c.args.watch c.loop-change.watched (c.loop-change.tick - c.skip_quiet.result) c.value-value.result) c.in-Some.ensures.steps left in
    record {
      held = (
        c.args.watch,
        c.loop-change.tick - c.skip_quiet.result - ticks_of c.in-Some.change.kind,
        all_put_back at.rows c.in-Some.change.entries,
        c.undo.ensures.holds c.args.watch at.rows at.holds,
        (back-held c.args.self.now c.args.watch c.loop-change.watched (c.loop-change.tick - c.skip_quiet.result) c.value-value.result c.in-Some.change c.next.new.self at).by,
      );
    }

pub returns-then-not-is_same : goal.returns-then-not-is_same
returns-then-not-is_same c =
    let left : IsAt c.args.self.now c.args.watch c.loop-change.watched (c.loop-change.tick - c.skip_quiet.result) c.value-value.result c.skip_quiet.new.self =
    behind c.skip_quiet.result c.args.self.now c.args.watch c.loop-change.watched c.loop-change.tick c.value-value.result c.loop-change.records c.skip_quiet.new.self c.skip_quiet.ensures.count c.skip_quiet.ensures.rest c.loop-change.invariant.at in
    let at : IsAt c.args.self.now c.args.watch c.loop-change.watched (c.loop-change.tick - c.skip_quiet.result) c.value-value.result (c.in-Some.change ∷ c.next.new.self) =
    subst (IsAt c.args.self.now c.args.watch c.loop-change.watched (c.loop-change.tick - c.skip_quiet.result) c.value-value.result) c.in-Some.ensures.steps left in
    found c.args.self.now c.args.watch c.loop-change.watched (c.loop-change.tick - c.skip_quiet.result) c.value-value.result c.in-Some.change c.next.new.self at c.value.result
    (c.value.ensures c.args.watch (c.loop-change.tick - c.skip_quiet.result - ticks_of c.in-Some.change.kind) (all_put_back at.rows c.in-Some.change.entries) (c.undo.ensures.holds c.args.watch at.rows at.holds)
    (back-held c.args.self.now c.args.watch c.loop-change.watched (c.loop-change.tick - c.skip_quiet.result) c.value-value.result c.in-Some.change c.next.new.self at).by)
    (c.is_same.ensures.apart c.if-not-is_same.true)

pub overflow_sub-tick-in-Some : goal.overflow_sub-tick-in-Some
overflow_sub-tick-in-Some c =
    let left : IsAt c.args.self.now c.args.watch c.loop-change.watched (c.loop-change.tick - c.skip_quiet.result) c.value-value.result c.skip_quiet.new.self =
    behind c.skip_quiet.result c.args.self.now c.args.watch c.loop-change.watched c.loop-change.tick c.value-value.result c.loop-change.records c.skip_quiet.new.self c.skip_quiet.ensures.count c.skip_quiet.ensures.rest c.loop-change.invariant.at in
    let at : IsAt c.args.self.now c.args.watch c.loop-change.watched (c.loop-change.tick - c.skip_quiet.result) c.value-value.result (c.in-Some.change ∷ c.next.new.self) =
    subst (IsAt c.args.self.now c.args.watch c.loop-change.watched (c.loop-change.tick - c.skip_quiet.result) c.value-value.result) c.in-Some.ensures.steps left in
    subst (λ (n : ℕ). n ≤ c.loop-change.tick - c.skip_quiet.result) (sym (c.ticks_of-tick.ensures ∙ ap ticks_of c.kind.ensures)) at.sound.1.tick

pub loop-change-preserved : goal.loop-change-preserved
loop-change-preserved c =
    let left : IsAt c.args.self.now c.args.watch c.loop-change.watched (c.loop-change.tick - c.skip_quiet.result) c.value-value.result c.skip_quiet.new.self =
    behind c.skip_quiet.result c.args.self.now c.args.watch c.loop-change.watched c.loop-change.tick c.value-value.result c.loop-change.records c.skip_quiet.new.self c.skip_quiet.ensures.count c.skip_quiet.ensures.rest c.loop-change.invariant.at in
    let at : IsAt c.args.self.now c.args.watch c.loop-change.watched (c.loop-change.tick - c.skip_quiet.result) c.value-value.result (c.in-Some.change ∷ c.next.new.self) =
    subst (IsAt c.args.self.now c.args.watch c.loop-change.watched (c.loop-change.tick - c.skip_quiet.result) c.value-value.result) c.in-Some.ensures.steps left in
    let ticks : ticks_of c.in-Some.change.kind ≡ c.ticks_of-tick.result = sym (c.ticks_of-tick.ensures ∙ ap ticks_of c.kind.ensures) in
    elim c.else-undo.branch [
      | else-undo-via-then-undo+else-not-is_same w ↦ record {
        at = subst (λ (n : ℕ). IsAt c.args.self.now c.args.watch c.undo.new.self (c.loop-change.tick - c.skip_quiet.result - n) c.value-value.result c.next.new.self) ticks
            (goes-on-same c.args.self.now c.args.watch c.loop-change.watched (c.loop-change.tick - c.skip_quiet.result) c.value-value.result c.in-Some.change c.next.new.self at c.undo.new.self w.value.result (c.undo.ensures.holds c.args.watch at.rows at.holds)
            (w.value.ensures c.args.watch) (w.is_same.ensures.same w.if-not-is_same.false));
      }
      | else-undo-via-else-undo w ↦ record {
        at = subst (λ (n : ℕ). IsAt c.args.self.now c.args.watch c.undo.new.self (c.loop-change.tick - c.skip_quiet.result - n) c.value-value.result c.next.new.self) ticks
            (goes-on-still c.args.self.now c.args.watch c.loop-change.watched (c.loop-change.tick - c.skip_quiet.result) c.value-value.result c.in-Some.change c.next.new.self at c.undo.new.self (c.undo.ensures.holds c.args.watch at.rows at.holds)
            (c.undo.ensures.untouched w.if-undo.false));
      }
    ]

pub returns-in-None : goal.returns-in-None
returns-in-None c =
    let left : IsAt c.args.self.now c.args.watch c.loop-change.watched (c.loop-change.tick - c.skip_quiet.result) c.value-value.result c.skip_quiet.new.self =
    behind c.skip_quiet.result c.args.self.now c.args.watch c.loop-change.watched c.loop-change.tick c.value-value.result c.loop-change.records c.skip_quiet.new.self c.skip_quiet.ensures.count c.skip_quiet.ensures.rest c.loop-change.invariant.at in
    none-left c.args.self.now c.args.watch c.loop-change.watched (c.loop-change.tick - c.skip_quiet.result) c.value-value.result (subst (IsAt c.args.self.now c.args.watch c.loop-change.watched (c.loop-change.tick - c.skip_quiet.result) c.value-value.result) c.in-None.ensures.steps.0 left)
