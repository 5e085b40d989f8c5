use Rattle.std.proofs.Common.{◌≡◌, ◌≤◌, ◌-◌, ◌+◌, ℕ, List, ap, arith, sym, subst}
use Rattle.tsb_history.specs.History.{Change}
use Rattle.tsb_controller.specs.Whole.{All}
use Rattle.tsb_bench.specs.Cabinet.{rows_of}
use Rattle.tsb_bench.specs.Held.{Held, HasSoundPast}
use Rattle.tsb_bench.specs.Shown.{IsShown}
use Rattle.tsb_bench.proofs.HeldLemmas.{AreQuiet, are-quiet}
use Rattle.tsb_bench.proofs.RoomLemmas.{more-behind}
use Rattle.tsb_bench.proofs.bench.Bench.undo_quiet.Goals as goal

pub overflow_sub-self : goal.overflow_sub-self
overflow_sub-self c = (are-quiet c.pop_quiet-quiet.result c.self.inside.tick (rows_of c.self.inside.cabinet) c.self.inside.history.records c.self.invariant.1 (omega (arith, c.pop_quiet-quiet.ensures.count))).within

pub invariant_of-self-2 : goal.invariant_of-self-2
invariant_of-self-2 c =
    let are : AreQuiet c.pop_quiet-quiet.result c.self.inside.tick (rows_of c.self.inside.cabinet) c.self.inside.history.records =
    are-quiet c.pop_quiet-quiet.result c.self.inside.tick (rows_of c.self.inside.cabinet) c.self.inside.history.records c.self.invariant.1 (omega (arith, c.pop_quiet-quiet.ensures.count)) in (
      c.pass_none.ensures.shut,
      subst (λ (a : All). HasSoundPast (c.self.inside.tick - c.pop_quiet-quiet.result) a c.pop_quiet-quiet.new.self.records) (sym c.pass_none.ensures.rows)
          (subst (λ (rs : List Change). HasSoundPast (c.self.inside.tick - c.pop_quiet-quiet.result) (rows_of c.self.inside.cabinet) rs) (sym c.pop_quiet-quiet.ensures.rest) are.sound),
      c.pass_none.ensures.passing (c.self.inside.tick - c.pop_quiet-quiet.result),
      subst (λ (a : All). IsShown a c.self.inside.shown) (sym c.pass_none.ensures.rows) c.self.invariant.3,
    )

pub returns-clause-tick : goal.returns-clause-tick
returns-clause-tick c =
    let within = (are-quiet c.pop_quiet-quiet.result c.self.inside.tick (rows_of c.self.inside.cabinet) c.self.inside.history.records c.self.invariant.1 (omega (arith, c.pop_quiet-quiet.ensures.count))).within in
    subst (λ (n : ℕ). c.self.inside.tick - c.pop_quiet-quiet.result + c.pop_quiet-quiet.result ≡ n) (ap (λ (h : Held). h.tick) c.self.view_is) (omega (arith, within))

pub returns-clause-room : goal.returns-clause-room
returns-clause-room c =
    subst (λ (n : ℕ). n ≤ c.pop_quiet-quiet.new.self.room) (ap (λ (h : Held). h.room) c.self.view_is)
    (more-behind c.pop_quiet-quiet.result c.self.inside.history.records c.pop_quiet-quiet.new.self.records c.self.inside.history.room c.pop_quiet-quiet.new.self.room c.pop_quiet-quiet.ensures.rest c.pop_quiet-quiet.ensures.room)
