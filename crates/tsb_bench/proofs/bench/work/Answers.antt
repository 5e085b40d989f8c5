use Rattle.std.proofs.Common.{◌≡◌, ◌≤◌, ◌+◌, ◌∷◌, ◌∙◌, List, ℕ, length, ap, ap₂, subst, sym}
use Rattle.tsb_history.specs.History.{record_size}
use Rattle.tsb_history.specs.declared.kinds.Kind.{Kind}
use Rattle.tsb_step.specs.Step.{kind_of}
use Rattle.tsb_controller.specs.Whole.{all_changes}
use Rattle.tsb_bench.specs.Cabinet.{rows_of, most_cells, IsDone}
use Rattle.tsb_bench.specs.Shown.{IsShown}
use Rattle.tsb_bench.proofs.ShownLemmas.{shown-after}
use Rattle.tsb_bench.proofs.bench.work.Goals as goal

pub returns-clause-done : goal.returns-clause-done
returns-clause-done c = subst (IsDone c.args.input.now c.args.tick (rows_of c.args.cabinet.now) (rows_of c.advance-tick.new.self)) c.advance-tick.ensures.done.entries_are c.advance-tick.ensures.done

pub returns-clause-records : goal.returns-clause-records
returns-clause-records c =
    c.push.ensures.records
    ∙ ap₂ (λ (k : Kind) (es : List (ℕ × ℕ)). record { kind = k; entries = es } ∷ c.args.history.now.records) c.kind_of.ensures (c.deref.ensures.0 ∙ c.advance-tick.ensures.done.entries_are)

pub returns-clause-few : goal.returns-clause-few
returns-clause-few c =
    let same : length c.advance-tick.new.out.items ≡ length (all_changes (rows_of c.args.cabinet.now) (rows_of c.advance-tick.new.self)) = ap length c.advance-tick.ensures.done.entries_are in
    subst (λ (n : ℕ). n ≤ most_cells (kind_of c.args.input.now)) same c.advance-tick.ensures.few

pub returns-clause-room : goal.returns-clause-room
returns-clause-room c =
    let same : length c.deref.result.now ≡ length (all_changes (rows_of c.args.cabinet.now) (rows_of c.advance-tick.new.self)) = ap length (c.deref.ensures.0 ∙ c.advance-tick.ensures.done.entries_are) in
    subst (λ (n : ℕ). c.args.history.now.room ≤ c.push.new.self.room + record_size n) same c.push.ensures.room

pub returns-clause-shown : goal.returns-clause-shown
returns-clause-shown c =
    subst (IsShown (rows_of c.advance-tick.new.self)) (sym c.keep_shown.ensures)
    (shown-after c.args.tick _ (rows_of c.args.cabinet.now) (rows_of c.advance-tick.new.self) c.advance-tick.new.out.items c.args.shown.now
    c.requires.by c.advance-tick.ensures.done.by c.advance-tick.ensures.done.entries_are c.requires.shown)
