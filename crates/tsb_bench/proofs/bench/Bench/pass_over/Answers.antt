use Rattle.std.proofs.Common.{◌≡◌, ◌+◌, ◌≤◌, ℕ, [], ◌∷◌, ◌∙◌, List, length, ap, subst, sym, arith}
use Rattle.tsb_history.specs.History.{Change}
use Rattle.tsb_history.specs.declared.kinds.Kind.TheVariants as kinds
use Rattle.tsb_preempt.proofs.ResetLemmas.{le-zero}
use Rattle.tsb_controller.specs.Whole.{all_in}
use Rattle.tsb_step.specs.Past.{record_of}
use Rattle.tsb_step.specs.Step.{kind_of, last_tick, step}
use Rattle.tsb_bench.specs.Cabinet.{rows_of, most_cells, Passes}
use Rattle.tsb_bench.specs.Held.{Held, state_of, whole}
use Rattle.tsb_bench.proofs.HeldLemmas.{sound-held}
use Rattle.tsb_bench.proofs.PassingLemmas.{may-later, sound-passed, records-passed, back-passed}
use Rattle.tsb_bench.proofs.RoomLemmas.{newest-told, none-left}
use Rattle.tsb_bench.proofs.bench.Bench.pass_over.Goals as goal

pub overflow_add-self : goal.overflow_add-self
overflow_add-self c = let below : c.self.inside.tick ≤ last_tick = (sound-held _ _ _ c.self.invariant.1).limit in omega (arith, below)

pub invariant_of-self-2 : goal.invariant_of-self-2
invariant_of-self-2 c = (
  c.self.invariant.0,
  sound-passed c.args.input.now c.self.inside.tick c.self.inside.cabinet c.self.inside.history.records c.push.new.self.records c.self.invariant.1 (subst (λ (h : Held). Passes c.args.input.now h.tick h.rows) (sym c.self.view_is) c.requires)
      (c.push.ensures.records ∙ ap (λ (rs : List Change). record { kind = kinds.Tick; entries = [] } ∷ rs) c.reserve.ensures.same),
  may-later c.self.inside.tick (c.self.inside.tick + 1) c.self.inside.cabinet (omega arith) c.self.invariant.2,
  c.self.invariant.3,
)

passes : (c : goal.After-push) → Passes c.args.input.now c.self.inside.tick (rows_of c.self.inside.cabinet)
passes c = subst (λ (h : Held). Passes c.args.input.now h.tick h.rows) (sym c.self.view_is) c.requires

-- the record is the one of this input
records-told : (c : goal.After-push) → c.push.new.self.records
    ≡ record_of c.args.input.now (state_of c.args.self.now) (all_in (c.self.inside.tick + 1) (rows_of c.self.inside.cabinet)) ∷ c.args.self.now.records
records-told c =
    records-passed c.args.input.now c.self.inside.tick c.self.inside.cabinet c.self.inside.history.records c.push.new.self.records c.self.invariant.1 (passes c)
    (c.push.ensures.records ∙ ap (λ (rs : List Change). record { kind = kinds.Tick; entries = [] } ∷ rs) c.reserve.ensures.same)
    ∙ ap (λ (h : Held). record_of c.args.input.now (state_of h) (all_in (c.self.inside.tick + 1) (rows_of c.self.inside.cabinet)) ∷ h.records) c.self.view_is

-- it has no entry
none-told : (c : goal.After-push) → length (record_of c.args.input.now (state_of c.args.self.now) (all_in (c.self.inside.tick + 1) (rows_of c.self.inside.cabinet))).entries ≡ 0
none-told c = sym (newest-told _ _ _ (records-told c)) ∙ newest-told _ _ _ c.push.ensures.records

pub returns : goal.returns
returns c = record {
  allowed = search;
  state = ap (λ (n : ℕ). all_in n (rows_of c.self.inside.cabinet)) (sym (passes c).next) ∙ (passes c).done.state ∙ ap (λ (h : Held). step (state_of h) c.args.input.now) c.self.view_is;
  records = records-told c;
  back = back-passed c.args.input.now c.self.inside.tick c.self.inside.cabinet c.self.inside.history.records c.push.new.self.records c.self.invariant.1 (passes c)
      (c.push.ensures.records ∙ ap (λ (rs : List Change). record { kind = kinds.Tick; entries = [] } ∷ rs) c.reserve.ensures.same)
      ∙ ap whole c.self.view_is;
  refused = search;
  err = search;
  few = le-zero _ (most_cells (kind_of c.args.input.now)) (none-told c);
  wanting = λ memory. absurd cc;
  room = none-left c.args.self.now.room c.reserve.new.self.room c.push.new.self.room _ (none-told c)
      (subst (λ (n : ℕ). n ≤ c.reserve.new.self.room) (ap (λ (h : Held). h.room) c.self.view_is) c.reserve.ensures.room) c.push.ensures.room;
}
