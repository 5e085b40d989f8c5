use Rattle.std.proofs.Common.{◌≡◌, ◌∙◌, ℕ, sym, ap, subst}
use Rattle.tsb_step.specs.Events.{events_of}
use Rattle.tsb_step.specs.Step.{step, verdict}
use Rattle.tsb_controller.specs.Whole.{All, AreAllBy, all_in}
use Rattle.tsb_bench.specs.Cabinet.{rows_of}
use Rattle.tsb_bench.specs.Held.{Held, state_of}
use Rattle.tsb_bench.specs.Telling.{IsAllowed, IsBefore}
use Rattle.tsb_bench.proofs.HeldLemmas.{sound-held}
use Rattle.tsb_bench.proofs.TellingLemmas.{always, passed-tells-none}
use Rattle.tsb_bench.proofs.bench.Bench.apply_telling.Goals as goal

pub ends_no_time-requires-clause-limit : goal.ends_no_time-requires-clause-limit
ends_no_time-requires-clause-limit c = (sound-held _ _ _ c.self.invariant.1).limit

pub ends_no_time-requires-clause-by : goal.ends_no_time-requires-clause-by
ends_no_time-requires-clause-by c = (sound-held _ _ _ c.self.invariant.1).by

pub returns-then-ends_no_time-clause-told : goal.returns-then-ends_no_time-clause-told
returns-then-ends_no_time-clause-told c =
    always c.apply.result
    (c.clear.ensures
    ∙ sym (passed-tells-none c.args.input c.self.inside.tick (rows_of c.self.inside.cabinet) c.args.noted.now (sound-held _ _ _ c.self.invariant.1).by (c.passes.ensures.passes c.if-passes.true) (c.has_row.ensures c.if-has_row.true) (c.ends_no_time.ensures c.if-ends_no_time.true))
    ∙ ap (λ (h : Held). events_of c.args.noted.now (state_of h) c.args.input) c.self.view_is)

pub before-before-requires-clause-limit : goal.before-before-requires-clause-limit
before-before-requires-clause-limit c = (sound-held _ _ _ c.self.invariant.1).limit

pub before-before-requires-clause-by : goal.before-before-requires-clause-by
before-before-requires-clause-by c = (sound-held _ _ _ c.self.invariant.1).by

pub tell-requires-clause-limit : goal.tell-requires-clause-limit
tell-requires-clause-limit c = (sound-held _ _ _ c.self-2.invariant.1).limit

-- (what is kept of the cabinet has the tick number: `c.before-before.ensures.tick`)
pub tell-requires-clause-was : goal.tell-requires-clause-was
tell-requires-clause-was c =
    subst (λ (t : ℕ). (a : All) × IsBefore t a c.before-before.result × AreAllBy t a × IsAllowed t a c.args.input
    × (all_in c.self-2.inside.tick (rows_of c.self-2.inside.cabinet) ≡ step (all_in t a) c.args.input)) (sym c.before-before.ensures.tick) (
      rows_of c.self.inside.cabinet,
      c.before-before.ensures.before,
      (sound-held _ _ _ c.self.invariant.1).by,
      ap (λ (h : Held). verdict (state_of h) c.args.input) c.self.view_is ∙ c.in-Ok.ensures.allowed,
      ap (λ (h : Held). state_of h) c.self-2.view_is ∙ c.in-Ok.ensures.state ∙ ap (λ (h : Held). step (state_of h) c.args.input) (sym c.self.view_is),
    )

pub returns-clause-told : goal.returns-clause-told
returns-clause-told c =
    let tells = subst (λ (t : ℕ). (a : All) → IsBefore t a c.before-before.result → AreAllBy t a
    → all_in c.self-2.inside.tick (rows_of c.self-2.inside.cabinet) ≡ step (all_in t a) c.args.input
    → c.tell.new.events.items ≡ events_of c.args.noted.now (all_in t a) c.args.input) c.before-before.ensures.tick c.tell.ensures in
    tells (rows_of c.self.inside.cabinet) c.before-before.ensures.before (sound-held _ _ _ c.self.invariant.1).by
    (ap (λ (h : Held). state_of h) c.self-2.view_is ∙ c.in-Ok.ensures.state ∙ ap (λ (h : Held). step (state_of h) c.args.input) (sym c.self.view_is))
    ∙ ap (λ (h : Held). events_of c.args.noted.now (state_of h) c.args.input) c.self.view_is
