use Rattle.std.proofs.Common.{◌≡◌, ◌≤◌, ◌-◌, ◌∙◌, List, ℕ, sym, ap, ap₂, subst}
use Rattle.tsb_history.specs.History.{Change}
use Rattle.tsb_controller.specs.Whole.{All, all_in, all_put_back}
use Rattle.tsb_step.specs.Past.{ticks_of, taken_back}
use Rattle.tsb_bench.specs.Cabinet.{rows_of}
use Rattle.tsb_bench.specs.Held.{Held, state_of, memory, IsHeld, HasSoundPast}
use Rattle.tsb_bench.specs.Shown.{IsShown}
use Rattle.tsb_bench.proofs.HeldLemmas.{IsNewest, newest-is, newest-told, start-told, sound-held}
use Rattle.tsb_bench.proofs.RoomLemmas.{more-left}
use Rattle.tsb_bench.proofs.bench.Bench.undo_newest.Goals as goal

-- the rows before the newest input are such as a bench may have
pub undo-requires-clause-few : goal.undo-requires-clause-few
undo-requires-clause-few c = (newest-is _ _ _ c.newest-change.result.0 c.self.invariant.1 (newest-told _ _ _ c.newest-change.ensures.newest)).can.few

pub undo-requires-clause-ranged : goal.undo-requires-clause-ranged
undo-requires-clause-ranged c = (sound-held _ _ _ (newest-is _ _ _ c.newest-change.result.0 c.self.invariant.1 (newest-told _ _ _ c.newest-change.ensures.newest)).before).ranged

pub undo-requires-clause-passed : goal.undo-requires-clause-passed
undo-requires-clause-passed c = (sound-held _ _ _ (newest-is _ _ _ c.newest-change.result.0 c.self.invariant.1 (newest-told _ _ _ c.newest-change.ensures.newest)).before).good.good.plan.rules

pub undo-requires-clause-desk : goal.undo-requires-clause-desk
undo-requires-clause-desk c =
    let held : IsHeld (c.self.inside.tick - ticks_of c.newest-change.result.0.kind) (all_put_back (rows_of c.self.inside.cabinet) c.newest-change.result.0.entries) =
    sound-held _ _ _ (newest-is _ _ _ c.newest-change.result.0 c.self.invariant.1 (newest-told _ _ _ c.newest-change.ensures.newest)).before in
    record { by = held.by.desk; sound = held.desk }

-- the record begins where the history says
pub pop_from-requires : goal.pop_from-requires
pop_from-requires c = record { start = start-told _ _ _ c.newest-change.ensures.newest }

-- what the record says, of the state that was
newest : (c : goal.After-pop_from) → IsNewest c.self.inside.tick (rows_of c.self.inside.cabinet) c.self.inside.history.records c.newest-change.result.0
newest c = newest-is _ _ _ c.newest-change.result.0 c.self.invariant.1 (newest-told _ _ _ c.newest-change.ensures.newest)

ticks-are : (c : goal.After-pop_from) → c.ticks_of.result ≡ ticks_of c.newest-change.result.0.kind
ticks-are c = c.ticks_of.ensures ∙ ap ticks_of c.kind-kind.ensures

pub invariant_of-self : goal.invariant_of-self
invariant_of-self c = (
  c.undo.ensures.shut,
  subst (λ (t : ℕ). HasSoundPast (c.self.inside.tick - t) (rows_of c.undo.new.self) c.pop_from.new.self.records) (sym (ticks-are c))
      (subst (λ (a : All). HasSoundPast (c.self.inside.tick - ticks_of c.newest-change.result.0.kind) a c.pop_from.new.self.records) (sym c.undo.ensures.rows)
      (subst (λ (rs : List Change). HasSoundPast (c.self.inside.tick - ticks_of c.newest-change.result.0.kind) (all_put_back (rows_of c.self.inside.cabinet) c.newest-change.result.0.entries) rs) (sym c.pop_from.ensures.rest)
      (newest c).before)),
  c.undo.ensures.passing (c.self.inside.tick - c.ticks_of.result),
  subst (IsShown (rows_of c.undo.new.self)) (sym c.forget_shown.ensures) tt,
)

pub returns-clause-back : goal.returns-clause-back
returns-clause-back c =
    (λ i. record {
      state = ap₂ (λ (t : ℕ) (a : All). all_in (c.self.inside.tick - t) a) (ticks-are c) c.undo.ensures.rows i;
      records = c.pop_from.ensures.rest i;
    })
    ∙ sym (newest c).whole_is
    ∙ ap (λ (h : Held). taken_back (state_of h) h.records) c.self.view_is

pub returns-clause-memory : goal.returns-clause-memory
returns-clause-memory c = c.pop_from.ensures.room ∙ ap memory c.self.view_is

pub returns-clause-room : goal.returns-clause-room
returns-clause-room c =
    subst (λ (n : ℕ). n ≤ c.pop_from.new.self.room) (ap (λ (h : Held). h.room) c.self.view_is)
    (more-left c.self.inside.history.records c.pop_from.new.self.records c.self.inside.history.room c.pop_from.new.self.room c.pop_from.ensures.rest c.pop_from.ensures.room)
