-- What a bench keeps: once an input was taken, and once one was taken back.
use Rattle.std.proofs.Common.{◌≡◌, ℕ, zero, suc, ◌+◌, ◌-◌, ◌<◌, ◌≤◌, Bool, true, false, ◌&&◌, if◌then◌else◌, List, [], ◌∷◌, length, drop, min, inl, inr, Option, Some, None, sym, ap, ap₂, subst, ◌∙◌, refl, arith}
use Rattle.std.proofs.lemmas.Bool.{cases_Bool, false≢true}
use Rattle.std.proofs.lemmas.Bool.Decides.{nat_tests}
use Rattle.tsb_history.specs.declared.kinds.Kind.{Kind}
use Rattle.tsb_history.specs.declared.kinds.Kind.TheVariants as kinds
use Rattle.tsb_history.specs.History.{Change, has_none, is_quiet, is_tick, newest, newest_at, newest_start, older, quiet_ticks}
use Rattle.tsb_plan.specs.Objects.{AreInRange}
use Rattle.tsb_transact.specs.Cells.{desk_in}
use Rattle.tsb_transact.specs.Desk as desk
use Rattle.tsb_transact.proofs.ToldLemmas.{rows_are_told}
use Rattle.tsb_machine.proofs.PastLemmas.{sought-back}
use Rattle.tsb_step.specs.Backed.{IsGoodInAll}
use Rattle.tsb_step.specs.Past.{Whole, controller, ticks_of, undone, taken_back, earlier, sought, record_of}
use Rattle.tsb_objects.specs.Checked.{checked_plan}
use Rattle.tsb_objects.specs.declared.checked.Checked.{Checked}
use Rattle.tsb_step.specs.State.{State, start}
use Rattle.tsb_step.specs.Step.{verdict, kind_of, last_tick}
use Rattle.tsb_step.specs.declared.inputs.Input.{Input}
use Rattle.tsb_step.specs.declared.inputs.Input.TheVariants as inputs
use Rattle.tsb_step.proofs.BackedLemmas.{all_started, all_step}
use Rattle.tsb_step.proofs.PlaceLemmas.{memory_is_consistent}
use Rattle.tsb_controller.specs.Whole.{All, AreAllBy, all_in, all_changes, all_put_back}
use Rattle.tsb_controller.proofs.WholeLemmas.{records-joined, records-back}
use Rattle.tsb_controller.proofs.ChangeLemmas.{entries-within, changes-few, rows-back}
use Rattle.tsb_step.proofs.WayLemmas.{ticks-at_most}
use Rattle.tsb_bench.specs.Cabinet.{IsDone, next_tick}
use Rattle.tsb_bench.specs.Held.{Held, state_of, whole, ticks, IsHeld, CanUndo, HasSoundPast}

-- ## The newest state

pub sound-held : (now : ℕ) (a : All) (rs : List Change) → HasSoundPast now a rs → IsHeld now a
sound-held now a [] h = h.0
sound-held now a (r ∷ rs) h = h.0

-- a record taken back from the state is the same record taken back from the rows
pub back-said : (now : ℕ) (a : All) (r : Change) → IsHeld now a → CanUndo now r → undone r (all_in now a) ≡ all_in (now - ticks_of r.kind) (all_put_back a r.entries)
back-said now a r held can = records-back rows_are_told r now a held.by can.within

-- ## Once an input was taken

-- it moves the tick number by as much as its kind says
moved : (i : Input) (now : ℕ) → (next_tick now i - ticks_of (kind_of i) ≡ now) × (ticks_of (kind_of i) ≤ next_tick now i)
moved (inputs.Tick row) now = (omega arith, omega arith)
moved i now = (omega arith, omega arith)

-- no tick leads beyond the last
limited : (i : Input) (now : ℕ) (a : All) → verdict (all_in now a) i ≡ None → now ≤ last_tick → next_tick now i ≤ last_tick
unfolding verdict
limited (inputs.Tick row) now a allowed below = grind (arith, nat_tests)
limited i now a allowed below = below

-- what has been done to rows that a bench may have, of the types that keep their values in range
pub record Applied (i : Input) (now : ℕ) (old new : All) (entries : List (ℕ × ℕ)) : Type 0 where
  pub allowed : verdict (all_in now old) i ≡ None
  pub done : IsDone i now old new entries
  pub ranged : AreInRange new.plan
  pub desk : desk.IsSoundDesk (desk_in new.desk)

-- the record that it leaves
abbrev change_of : Input → All → All → Change
change_of i old new = record { kind = kind_of i; entries = all_changes old new }

module _ (i : Input) (now : ℕ) (old new : All) (entries : List (ℕ × ℕ)) (rs left : List Change) (sound : HasSoundPast now old rs) (did : Applied i now old new entries)
    (told : left ≡ record { kind = kind_of i; entries = entries } ∷ rs) where
  held : IsHeld now old
  held = sound-held now old rs sound

  told-changes : left ≡ change_of i old new ∷ rs
  told-changes = told ∙ ap (λ (es : List (ℕ × ℕ)). record { kind = kind_of i; entries = es } ∷ rs) did.done.entries_are

  held-after : IsHeld (next_tick now i) new
  held-after = record {
    limit = limited i now old did.allowed held.limit;
    by = did.done.by;
    ranged = did.ranged;
    desk = did.desk;
    good = subst IsGoodInAll (sym did.done.state) (all_step (all_in now old) i did.allowed held.good);
  }

  can-undo : CanUndo (next_tick now i) (change_of i old new)
  can-undo = record {
    within = entries-within now (next_tick now i) old new held.by did.done.by;
    few = changes-few now (next_tick now i) old new held.by did.done.by;
    tick = (moved i now).1;
  }

  put-back : all_put_back new (all_changes old new) ≡ old
  put-back = rows-back now (next_tick now i) old new held.by did.done.by

  sound-before : HasSoundPast (next_tick now i - ticks_of (kind_of i)) (all_put_back new (all_changes old new)) rs
  sound-before = subst (λ (a : All). HasSoundPast (next_tick now i - ticks_of (kind_of i)) a rs) (sym put-back) (subst (λ (n : ℕ). HasSoundPast n old rs) (sym (moved i now).0) sound)

  pub sound-applied : HasSoundPast (next_tick now i) new left
  sound-applied = subst (λ (qs : List Change). HasSoundPast (next_tick now i) new qs) (sym told-changes) (held-after, can-undo, sound-before)

  pub records-applied : left ≡ record_of i (all_in now old) (all_in (next_tick now i) new) ∷ rs
  records-applied = told-changes ∙ ap (λ (r : Change). r ∷ rs) (sym (records-joined rows_are_told i now (next_tick now i) old new held.by did.done.by))

  pub back-applied : taken_back (all_in (next_tick now i) new) left ≡ record { state = all_in now old; records = rs }
  back-applied =
      ap (taken_back (all_in (next_tick now i) new)) told-changes
      ∙ ap (λ (s : State). let made : Whole = record { state = s; records = rs } in made)
      (back-said (next_tick now i) new (change_of i old new) held-after can-undo
      ∙ ap₂ (λ (n : ℕ) (a : All). all_in n a) (moved i now).0 put-back)

-- ## Once one was taken back

-- the newest record can be taken back, and what is before it is sound
pub record IsNewest (now : ℕ) (a : All) (rs : List Change) (r : Change) : Type 0 where
  pub can : CanUndo now r
  pub before : HasSoundPast (now - ticks_of r.kind) (all_put_back a r.entries) (older rs)
  pub whole_is : taken_back (all_in now a) rs ≡ record { state = all_in (now - ticks_of r.kind) (all_put_back a r.entries); records = older rs }

pub newest-is : (now : ℕ) (a : All) (rs : List Change) (r : Change) → HasSoundPast now a rs → newest rs ≡ Some r → IsNewest now a rs r
newest-is now a [] r sound is = absurd (cc)
newest-is now a (q ∷ rs) r sound is =
    let same : q ≡ r = cc in
    subst (λ (x : Change). IsNewest now a (q ∷ rs) x) same (record {
      can = sound.1;
      before = sound.2;
      whole_is = ap (λ (s : State). let made : Whole = record { state = s; records = rs } in made) (back-said now a q sound.0 sound.1);
    })

-- the history gives the newest record with the place at which it begins: the record, and the place
abbrev told_record : Option (Change × ℕ) → Option Change
told_record None = None
told_record (Some told) = Some told.0

abbrev told_place : Option (Change × ℕ) → Option ℕ
told_place None = None
told_place (Some told) = Some told.1

pub newest-told : (rs : List Change) (r : Change) (at : ℕ) → newest_at rs ≡ Some (r, at) → newest rs ≡ Some r
newest-told [] r at is = ap told_record is
newest-told (q ∷ rs) r at is = ap told_record is

pub start-told : (rs : List Change) (r : Change) (at : ℕ) → newest_at rs ≡ Some (r, at) → newest_start rs ≡ Some at
start-told [] r at is = ap told_place is
start-told (q ∷ rs) r at is = ap told_place is

-- ## All that is earlier

-- the tick records are as many as the tick number
pub sound-ticks : (now : ℕ) (a : All) (rs : List Change) → HasSoundPast now a rs → now ≡ ticks rs
sound-ticks now a [] h = h.1
sound-ticks now a (r ∷ rs) h =
    let rest : now - ticks_of r.kind ≡ ticks rs = sound-ticks (now - ticks_of r.kind) (all_put_back a r.entries) rs h.2 in
    let some : ticks_of r.kind ≤ now = h.1.tick in
    omega arith

-- each earlier state is good
pub sound-earlier : (k now : ℕ) (a : All) (rs : List Change) → HasSoundPast now a rs → IsGoodInAll (earlier (record { state = all_in now a; records = rs }) k).state
sound-earlier zero now a rs h = (sound-held now a rs h).good
sound-earlier (suc k) now a [] h = sound-earlier k now a [] h
sound-earlier (suc k) now a (r ∷ rs) h =
    subst (λ (s : State). IsGoodInAll (earlier (record { state = s; records = rs }) k).state) (sym (back-said now a r h.0 h.1))
    (sound-earlier k (now - ticks_of r.kind) (all_put_back a r.entries) rs h.2)

-- ## At power-up

-- the state at power-up is good
pub good-start : (checked : Checked) → IsGoodInAll (start (checked_plan checked))
unfolding checked_plan
good-start checked = all_started (checked_plan checked) (memory_is_consistent checked.plan checked.passed)

pub sound-start : (a : All) (rs : List Change) → AreAllBy 0 a → AreInRange a.plan → desk.IsSoundDesk (desk_in a.desk) → IsGoodInAll (all_in 0 a) → rs ≡ [] → HasSoundPast 0 a rs
sound-start a rs by ranged desk_sound good none = subst (λ (qs : List Change). HasSoundPast 0 a qs) (sym none)
    (record { limit = omega arith; by = by; ranged = ranged; desk = desk_sound; good = good }, refl)

-- ## One step of the way back

pub record GoesBack (t : ℕ) (h new : Held) : Type 0 where
  pub ahead : t ≤ new.tick
  pub same : sought t (state_of new) new.records ≡ sought t (state_of h) h.records
  pub smaller : length new.records < length h.records

-- an undo at a tick number above t
goes-on : (t : ℕ) (h new : Held) → t < h.tick → HasSoundPast h.tick h.rows h.records → 0 < length h.records → whole new ≡ taken_back (state_of h) h.records → GoesBack t h new
goes-on t h new above sound some is = record {
  ahead = (let tick_is : new.tick ≡ (taken_back (state_of h) h.records).state.now = ap (λ (w : Whole). w.state.now) is in rw tick_is (at h.records sound));
  same = ap (λ (w : Whole). sought t w.state w.records) is ∙ sym (sought-back controller t (state_of h) h.records (λ e. omega arith));
  smaller = (let records_are : new.records ≡ (taken_back (state_of h) h.records).records = ap (λ (w : Whole). w.records) is in rw records_are (shorter h.records some));
}
  where
    at : (rs : List Change) → HasSoundPast h.tick h.rows rs → t ≤ (taken_back (state_of h) rs).state.now
    at [] good = omega arith
    at (r ∷ rs) good =
        let now_is : (undone r (state_of h)).now ≡ h.tick - ticks_of r.kind = ap (λ (s : State). s.now) (back-said h.tick h.rows r good.0 good.1) in
        omega (arith, ticks-at_most r.kind, now_is)

    shorter : (rs : List Change) → 0 < length rs → length (taken_back (state_of h) rs).records < length rs
    shorter [] less = absurd (omega arith)
    shorter (r ∷ rs) less = omega arith

sound-some : (now : ℕ) (a : All) (rs : List Change) → HasSoundPast now a rs → 0 < now → 0 < length rs
sound-some now a [] sound less = absurd (omega (arith, sound.1))
sound-some now a (r ∷ rs) sound less = omega arith

pub goes-back : (t : ℕ) (h new : Held) → HasSoundPast h.tick h.rows h.records → t ≤ h.tick → (h.tick ≡ t → ⊥) →
    whole new ≡ taken_back (state_of h) h.records → GoesBack t h new
goes-back t h new sound ahead other is =
    let above : t < h.tick = omega arith in goes-on t h new above sound (sound-some h.tick h.rows h.records sound (omega arith)) is

-- after a tick there is an input
pub some-input : (t : ℕ) (h : Held) → HasSoundPast h.tick h.rows h.records → t ≤ h.tick → (h.tick ≡ t → ⊥) → h.records ≡ [] → ⊥
some-input t h sound ahead other none =
    let some : 0 < length h.records = sound-some h.tick h.rows h.records sound (omega arith) in
    let empty : length h.records ≡ 0 = ap length none in
    omega (arith, some, empty)

-- ## Quiet ticks, taken back at once

-- what a record is of a quiet tick: its kind, and that it has no entry
pub record IsQuiet (r : Change) : Type 0 where
  pub tick : r.kind ≡ kinds.Tick
  pub none : r.entries ≡ []

of-tick : (k : Kind) → is_tick k ≡ true → k ≡ kinds.Tick
of-tick kinds.Tick is = refl
of-tick kinds.Pattern is = absurd (false≢true is)
of-tick kinds.Switch is = absurd (false≢true is)
of-tick kinds.Fault is = absurd (false≢true is)
of-tick kinds.Reset is = absurd (false≢true is)
of-tick kinds.Begin is = absurd (false≢true is)
of-tick kinds.Set is = absurd (false≢true is)
of-tick kinds.Verify is = absurd (false≢true is)
of-tick kinds.Commit is = absurd (false≢true is)
of-tick kinds.Abort is = absurd (false≢true is)
of-tick kinds.Clock is = absurd (false≢true is)
of-tick kinds.Omit is = absurd (false≢true is)

of-none : (es : List (ℕ × ℕ)) → has_none es ≡ true → es ≡ []
of-none [] is = refl
of-none (e ∷ es) is = absurd (false≢true is)

both : (a b : Bool) → (a && b) ≡ true → (a ≡ true) × (b ≡ true)
both true b is = (refl, is)
both false b is = absurd (false≢true is)

-- the first of them, where there is any
pub quiet-first : (k : ℕ) (r : Change) (rs : List Change) → suc k ≤ quiet_ticks (r ∷ rs) → IsQuiet r × (k ≤ quiet_ticks rs)
quiet-first k r rs most = elim (cases_Bool (is_quiet r)) [
  | inl quiet ↦
      let are = both (is_tick r.kind) (has_none r.entries) quiet in
      let more : quiet_ticks (r ∷ rs) ≡ suc (quiet_ticks rs) = ap (λ (b : Bool). if b then suc (quiet_ticks rs) else 0) quiet in
      (record { tick = of-tick r.kind are.0; none = of-none r.entries are.1 }, omega (arith, more, most))
  | inr loud ↦ let none : quiet_ticks (r ∷ rs) ≡ 0 = ap (λ (b : Bool). if b then suc (quiet_ticks rs) else 0) loud in absurd (omega (arith, none, most))
]

-- without it the rows are the same, a tick before
quiet-past : (now : ℕ) (a : All) (r : Change) (rs : List Change) → IsQuiet r → HasSoundPast (now - ticks_of r.kind) (all_put_back a r.entries) rs → HasSoundPast (now - 1) a rs
quiet-past now a r rs quiet sound =
    subst (λ (es : List (ℕ × ℕ)). HasSoundPast (now - 1) (all_put_back a es) rs) quiet.none (subst (λ (k : Kind). HasSoundPast (now - ticks_of k) (all_put_back a r.entries) rs) quiet.tick sound)

quiet-undone : (now : ℕ) (a : All) (r : Change) → IsQuiet r → IsHeld now a → CanUndo now r → undone r (all_in now a) ≡ all_in (now - 1) a
quiet-undone now a r quiet held can =
    back-said now a r held can ∙ ap (λ (k : Kind). all_in (now - ticks_of k) (all_put_back a r.entries)) quiet.tick ∙ ap (λ (es : List (ℕ × ℕ)). all_in (now - 1) (all_put_back a es)) quiet.none

-- k of them: there are as many ticks, what is left is sound, and what is sought before them is sought from there
pub record AreQuiet (k now : ℕ) (a : All) (rs : List Change) : Type 0 where
  pub within : k ≤ now
  pub sound : HasSoundPast (now - k) a (drop k rs)
  pub same : (t : ℕ) → t + k ≤ now → sought t (all_in (now - k) a) (drop k rs) ≡ sought t (all_in now a) rs

pub are-quiet : (k now : ℕ) (a : All) (rs : List Change) → HasSoundPast now a rs → k ≤ quiet_ticks rs → AreQuiet k now a rs
are-quiet zero now a rs sound most =
    let still : now ≡ now - 0 = omega arith in
    record {
      within = omega arith;
      sound = subst (λ (n : ℕ). HasSoundPast n a rs) still sound;
      same = λ t before. ap (λ (n : ℕ). sought t (all_in n a) rs) (sym still);
    }
are-quiet (suc k) now a [] sound most = absurd (omega (arith, most))
are-quiet (suc k) now a (r ∷ rs) sound most =
    let first = quiet-first k r rs most in
    let one : ticks_of r.kind ≡ 1 = ap ticks_of first.0.tick in
    let some : ticks_of r.kind ≤ now = sound.1.tick in
    let more : AreQuiet k (now - 1) a rs = are-quiet k (now - 1) a rs (quiet-past now a r rs first.0 sound.2) first.1 in
    let there : (now - 1) - k ≡ now - suc k = omega arith in
    record {
      within = let rest = more.within in omega (arith, rest, one, some);
      sound = subst (λ (n : ℕ). HasSoundPast n a (drop k rs)) there more.sound;
      same = λ t before.
          ap (λ (n : ℕ). sought t (all_in n a) (drop k rs)) (sym there)
          ∙ more.same t (omega (arith, before, one, some))
          ∙ ap (λ (s : State). sought t s rs) (sym (quiet-undone now a r first.0 sound.0 sound.1))
          ∙ sym (sought-back controller t (all_in now a) (r ∷ rs) (λ e. let here : now ≡ t = e in omega (arith, here, before)));
    }

-- the bench after them: what is sought is sought from there
pub record GoesBackQuietly (t k : ℕ) (h new : Held) : Type 0 where
  pub sound : HasSoundPast new.tick new.rows new.records
  pub ahead : t ≤ new.tick
  pub same : sought t (state_of new) new.records ≡ sought t (state_of h) h.records
  pub fewer : length new.records ≤ length h.records
  pub less : 0 < k → length new.records < length h.records

length-dropped : (k : ℕ) (rs : List Change) → length (drop k rs) ≤ length rs
length-dropped zero rs = omega arith
length-dropped (suc k) [] = omega arith
length-dropped (suc k) (r ∷ rs) = let less : length (drop k rs) ≤ length rs = length-dropped k rs in omega (arith, less)

less-dropped : (k : ℕ) (rs : List Change) → 0 < k → k ≤ quiet_ticks rs → length (drop k rs) < length rs
less-dropped zero rs some most = absurd (omega (arith, some))
less-dropped (suc k) [] some most = absurd (omega (arith, most))
less-dropped (suc k) (r ∷ rs) some most = let less : length (drop k rs) ≤ length rs = length-dropped k rs in omega (arith, less)

pub goes-back-quietly : (t k most : ℕ) (h new : Held) → HasSoundPast h.tick h.rows h.records → t ≤ h.tick → most ≡ h.tick - t → k ≡ min most (quiet_ticks h.records) → new.tick + k ≡ h.tick → new.rows ≡ h.rows → new.records ≡ drop k h.records
    → GoesBackQuietly t k h new
goes-back-quietly t k most h new sound ahead limit all tick rows left =
    let are : AreQuiet k h.tick h.rows h.records = are-quiet k h.tick h.rows h.records sound (omega (arith, all)) in
    let now_is : new.tick ≡ h.tick - k = omega (arith, tick) in
    record {
      sound = subst (λ (rs : List Change). HasSoundPast new.tick new.rows rs) (sym left)
          (subst (λ (a : All). HasSoundPast new.tick a (drop k h.records)) (sym rows) (subst (λ (n : ℕ). HasSoundPast n h.rows (drop k h.records)) (sym now_is) are.sound));
      ahead = omega (arith, ahead, limit, all, tick);
      same = ap (λ (n : ℕ). sought t (all_in n new.rows) new.records) now_is
          ∙ ap (λ (a : All). sought t (all_in (h.tick - k) a) new.records) rows
          ∙ ap (λ (rs : List Change). sought t (all_in (h.tick - k) h.rows) rs) left
          ∙ are.same t (omega (arith, ahead, limit, all));
      fewer = subst (λ (rs : List Change). length rs ≤ length h.records) (sym left) (length-dropped k h.records);
      less = λ some. subst (λ (rs : List Change). length rs < length h.records) (sym left) (less-dropped k h.records some (omega (arith, all)));
    }
