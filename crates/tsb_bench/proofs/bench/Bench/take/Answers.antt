use Rattle.std.proofs.Common.{◌≡◌, ◌≤◌, ℕ, ◌∷◌, ◌∙◌, List, length, ap, subst, sym, Option, None, Some, refl}
use Rattle.tsb_history.specs.History.{Change}
use Rattle.std.specs.Prelude.{Result, Err}
use Rattle.tsb_types.specs.declared.refusal.Refusal.{Refusal}
use Rattle.tsb_types.specs.declared.refusal.Refusal.TheVariants.{Memory}
use Rattle.tsb_controller.specs.Whole.{all_in, all_changes}
use Rattle.tsb_step.specs.Past.{record_of}
use Rattle.tsb_step.specs.Step.{kind_of, step, verdict}
use Rattle.tsb_bench.specs.Cabinet.{rows_of, most_cells}
use Rattle.tsb_bench.specs.Held.{Held, state_of, whole}
use Rattle.tsb_bench.proofs.HeldLemmas.{sound-held}
use Rattle.tsb_bench.proofs.PassingLemmas.{sound-taken, records-taken, back-taken}
use Rattle.tsb_bench.proofs.RoomLemmas.{newest-told, all-left}
use Rattle.tsb_step.proofs.RefusalLemmas.{never-memory, refuses}
use Rattle.tsb_bench.proofs.bench.Bench.take.Goals as goal

no_refusal : (found : Option Refusal) → ((e : Refusal) → found ≡ Some e → ⊥) → found ≡ None
no_refusal None none = refl
no_refusal (Some e) none = absurd (none e refl)

pub refusal-requires : goal.refusal-requires
refusal-requires c = record { by = (sound-held _ _ _ c.self.invariant.1).by }

pub returns-in-Some : goal.returns-in-Some
returns-in-Some c = record {
  allowed = search;
  state = search;
  records = search;
  back = search;
  refused = refuses (state_of c.args.self.now) c.args.input.now c.in-Some.refusal is;
  err = search;
  few = search;
  wanting = λ memory. absurd (never-memory (state_of c.args.self.now) c.args.input.now (is ∙ same c.in-Some.refusal memory));
  room = search;
}
  where
    is : verdict (state_of c.args.self.now) c.args.input.now ≡ Some c.in-Some.refusal
    is = sym (ap (λ (h : Held). verdict (state_of h) c.args.input.now) c.self.view_is) ∙ sym c.refusal.ensures ∙ c.in-Some.is

    same : (e : Refusal) → ◌≡◌ {A = Result (Unit {0}) Refusal} (Err e) (Err Memory) → Some e ≡ Some Memory
    same e h = cc

pub work-self-inside-requires-clause-by : goal.work-self-inside-requires-clause-by
work-self-inside-requires-clause-by c = (sound-held _ _ _ c.self.invariant.1).by

pub work-self-inside-requires-clause-limit : goal.work-self-inside-requires-clause-limit
work-self-inside-requires-clause-limit c = (sound-held _ _ _ c.self.invariant.1).limit

pub work-self-inside-requires-clause-shown : goal.work-self-inside-requires-clause-shown
work-self-inside-requires-clause-shown c = c.self.invariant.3

pub work-self-inside-requires-clause-good : goal.work-self-inside-requires-clause-good
work-self-inside-requires-clause-good c = (sound-held _ _ _ c.self.invariant.1).good

pub invariant_of-self-2 : goal.invariant_of-self-2
invariant_of-self-2 c = (
  c.work-self-inside.ensures.shut,
  sound-taken c.args.input.now c.self.inside.tick c.work-self-inside.result c.self.inside.cabinet c.work-self-inside.new.cabinet (all_changes (rows_of c.self.inside.cabinet) (rows_of c.work-self-inside.new.cabinet)) c.self.inside.history.records
      c.work-self-inside.new.history.records c.self.invariant.1 (sym c.refusal.ensures ∙ no_refusal c.refusal.result c.in_default.not-Some) c.work-self-inside.ensures.done c.work-self-inside.ensures.next
      (c.work-self-inside.ensures.records ∙ ap (λ (rs : List Change). record { kind = kind_of c.args.input.now; entries = all_changes (rows_of c.self.inside.cabinet) (rows_of c.work-self-inside.new.cabinet) } ∷ rs) c.reserve.ensures.same),
  c.work-self-inside.ensures.passing,
  c.work-self-inside.ensures.shown,
)

-- it was not refused
allowed : (c : goal.After-self-1) → verdict (all_in c.self.inside.tick (rows_of c.self.inside.cabinet)) c.args.input.now ≡ None
allowed c = sym c.refusal.ensures ∙ no_refusal c.refusal.result c.in_default.not-Some

-- the history has one record more
one-more : (c : goal.After-self-1) → c.work-self-inside.new.history.records
    ≡ record { kind = kind_of c.args.input.now; entries = all_changes (rows_of c.self.inside.cabinet) (rows_of c.work-self-inside.new.cabinet) } ∷ c.self.inside.history.records
one-more c =
    c.work-self-inside.ensures.records
    ∙ ap (λ (rs : List Change). record { kind = kind_of c.args.input.now; entries = all_changes (rows_of c.self.inside.cabinet) (rows_of c.work-self-inside.new.cabinet) } ∷ rs) c.reserve.ensures.same

-- it is the one of this input
records-told : (c : goal.After-self-1) → c.work-self-inside.new.history.records
    ≡ record_of c.args.input.now (state_of c.args.self.now) (all_in c.work-self-inside.result (rows_of c.work-self-inside.new.cabinet)) ∷ c.args.self.now.records
records-told c =
    records-taken c.args.input.now c.self.inside.tick c.work-self-inside.result c.self.inside.cabinet c.work-self-inside.new.cabinet (all_changes (rows_of c.self.inside.cabinet) (rows_of c.work-self-inside.new.cabinet)) c.self.inside.history.records
    c.work-self-inside.new.history.records c.self.invariant.1 (allowed c) c.work-self-inside.ensures.done c.work-self-inside.ensures.next (one-more c)
    ∙ ap (λ (h : Held). record_of c.args.input.now (state_of h) (all_in c.work-self-inside.result (rows_of c.work-self-inside.new.cabinet)) ∷ h.records) c.self.view_is

-- the record has the entries of the cells that differ
all-told : (c : goal.After-self-1) → length (all_changes (rows_of c.self.inside.cabinet) (rows_of c.work-self-inside.new.cabinet)) ≡ length (record_of c.args.input.now (state_of c.args.self.now) (all_in c.work-self-inside.result (rows_of c.work-self-inside.new.cabinet))).entries
all-told c = sym (newest-told _ _ _ c.work-self-inside.ensures.records) ∙ newest-told _ _ _ (records-told c)

pub returns : goal.returns
returns c = record {
  allowed = sym (ap (λ (h : Held). verdict (state_of h) c.args.input.now) c.self.view_is) ∙ allowed c;
  state = ap (λ (n : ℕ). all_in n (rows_of c.work-self-inside.new.cabinet)) c.work-self-inside.ensures.next ∙ c.work-self-inside.ensures.done.state ∙ ap (λ (h : Held). step (state_of h) c.args.input.now) c.self.view_is;
  records = records-told c;
  back = back-taken c.args.input.now c.self.inside.tick c.work-self-inside.result c.self.inside.cabinet c.work-self-inside.new.cabinet (all_changes (rows_of c.self.inside.cabinet) (rows_of c.work-self-inside.new.cabinet)) c.self.inside.history.records
      c.work-self-inside.new.history.records c.self.invariant.1 (allowed c) c.work-self-inside.ensures.done c.work-self-inside.ensures.next (one-more c)
      ∙ ap whole c.self.view_is;
  refused = search;
  err = search;
  few = subst (λ (n : ℕ). n ≤ most_cells (kind_of c.args.input.now)) (all-told c) c.work-self-inside.ensures.few;
  wanting = λ memory. absurd cc;
  room = all-left c.args.self.now.room c.reserve.new.self.room c.work-self-inside.new.history.room _ _ (all-told c)
      (subst (λ (n : ℕ). n ≤ c.reserve.new.self.room) (ap (λ (h : Held). h.room) c.self.view_is) c.reserve.ensures.room) c.work-self-inside.ensures.room;
}
