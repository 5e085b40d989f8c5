-- The rows that have become known, from event to event: the law `rows_add_up`, and what a caller's proof uses.
use Rattle.std.proofs.Common.{◌≡◌, ℕ, ◌+◌, ◌-◌, ◌<◌, ◌≤◌, zero, suc, List, [], ◌∷◌, ◌++◌, refl, sym, ap, ◌∙◌, arith, append-nil, append_assoc, subst}
use Rattle.tsb_types.specs.Sets.{all_off}
use Rattle.tsb_types.specs.declared.row.Row.{Row}
use Rattle.tsb_log_text.specs.declared.log.LogRow.{LogRow}
use Rattle.tsb_field_log.specs.declared.inputs.Wire.{Wire}
use Rattle.tsb_field_log.specs.declared.inputs.InputEvent.{InputEvent}
use Rattle.tsb_field_log.specs.Ticks.{begin_of, row_in}
use Rattle.tsb_field_log.specs.Changes.{change, changes, rows_of}
use Rattle.tsb_field_log.specs.Streets.{tick_at, row_before, rows_until, unwritten}
use Rattle.tsb_field_log.specs.Pushed.{AreInOrderBehind, last_tick_behind, last_tick, rows_before, rows_given}
use Rattle.tsb_field_log.specs.Laws.{AddOneEvent, AddTheEnd, AddUpToTheLog, BeginTheLog}
use Rattle.tsb_field_log.proofs.LeadLemmas.{untouched}
use Rattle.tsb_field_log.proofs.StreetLemmas.{before-first, before-next, LiesIn, lies-in, unwritten-zero, unwritten-some}

-- ## Ticks of events

last-push-behind : (from tick : ℕ) (es : List InputEvent) (e : InputEvent) → last_tick_behind from tick (es ++ e ∷ []) ≡ tick_at from e.nanos
last-push-behind from tick [] e = refl
last-push-behind from tick (x ∷ es) e = last-push-behind from (tick_at from x.nanos) es e

-- the last tick after one more event is that of this event
pub last-push : (from : ℕ) (es : List InputEvent) (e : InputEvent) → last_tick from (es ++ e ∷ []) ≡ tick_at from e.nanos
last-push from es e = last-push-behind from 0 es e

-- events in order end at a tick of a bench
pub order-last : (from tick : ℕ) (es : List InputEvent) → AreInOrderBehind from tick es → last_tick_behind from tick es ≤ 6000000
order-last from tick [] ordered = ordered
order-last from tick (e ∷ es) ordered = order-last from (tick_at from e.nanos) es ordered.1

-- one more event of the same tick or a later one keeps the order
pub order-push : (from tick : ℕ) (es : List InputEvent) (e : InputEvent) → AreInOrderBehind from tick es → last_tick_behind from tick es ≤ tick_at from e.nanos → tick_at from e.nanos ≤ 6000000
    → AreInOrderBehind from tick (es ++ e ∷ [])
order-push from tick [] e ordered later most = (later, most)
order-push from tick (x ∷ es) e ordered later most = (ordered.0, order-push from (tick_at from x.nanos) es e ordered.1 later most)

-- ## Rows of some ticks, and of those after them

pub from-one : (tick : ℕ) → 1 ≤ unwritten tick
from-one zero = omega arith
from-one (suc k) = rw (unwritten-some (suc k) (omega arith)) (omega arith)

row-parts : (inputs : ℕ → Row) (k s to : ℕ) → 1 ≤ s → s + k ≤ to
    → changes inputs (row_before inputs s) s (to - s) ≡ changes inputs (row_before inputs s) s k ++ changes inputs (row_before inputs (s + k)) (s + k) (to - (s + k))
unfolding changes
row-parts inputs zero s to one le =
    let none : s + 0 ≡ s = omega arith in
    ap (λ (t : ℕ). changes inputs (row_before inputs t) t (to - t)) (sym none)
row-parts inputs (suc k) s to one le =
    let more : to - s ≡ suc (to - suc s) = omega (arith, le) in
    let next : s + 1 ≡ suc s = omega arith in
    let there : suc s + k ≡ s + suc k = omega arith in
    let before : row_before inputs (suc s) ≡ inputs s = ap (row_before inputs) (sym next) ∙ before-next inputs s one in
    ap (λ (n : ℕ). changes inputs (row_before inputs s) s n) more
    ∙ ap (λ (r : Row). change s (row_before inputs s) (inputs s) ++ changes inputs r (suc s) (to - suc s)) (sym before)
    ∙ ap (λ (rows : List LogRow). change s (row_before inputs s) (inputs s) ++ rows) (row-parts inputs k (suc s) to (omega arith) (omega (arith, le)))
    ∙ ap (λ (r : Row). change s (row_before inputs s) (inputs s) ++ (changes inputs r (suc s) k ++ changes inputs (row_before inputs (suc s + k)) (suc s + k) (to - (suc s + k)))) before
    ∙ ap (λ (t : ℕ). change s (row_before inputs s) (inputs s) ++ (changes inputs (inputs s) (suc s) k ++ changes inputs (row_before inputs t) t (to - t))) there
    ∙ sym (append_assoc (change s (row_before inputs s) (inputs s)) (changes inputs (inputs s) (suc s) k) (changes inputs (row_before inputs (s + suc k)) (s + suc k) (to - (s + suc k))))

-- the rows of all ticks before this one, and then those from it on
rows-split : (inputs : ℕ → Row) (u to : ℕ) → 1 ≤ u → u ≤ to → changes inputs all_off 1 (to - 1) ≡ changes inputs all_off 1 (u - 1) ++ changes inputs (row_before inputs u) u (to - u)
rows-split inputs u to one le =
    let there : 1 + (u - 1) ≡ u = omega (arith, one) in
    let first : row_before inputs 1 ≡ all_off = before-first inputs 1 (omega arith) in
    ap (λ (r : Row). changes inputs r 1 (to - 1)) (sym first) ∙ row-parts inputs (u - 1) 1 to (omega arith) (omega (arith, one, le))
    ∙ ap (λ (t : ℕ). changes inputs (row_before inputs 1) 1 (u - 1) ++ changes inputs (row_before inputs t) t (to - t)) there
    ∙ ap (λ (r : Row). changes inputs r 1 (u - 1) ++ changes inputs (row_before inputs u) u (to - u)) first

-- rows are told by the inputs of their ticks alone
rows-same : (a b : ℕ → Row) (before : Row) (tick count : ℕ) → ((t : ℕ) → tick ≤ t → t < tick + count → a t ≡ b t) → changes a before tick count ≡ changes b before tick count
unfolding changes
rows-same a b before tick zero same = refl
rows-same a b before tick (suc count) same =
    ap (λ (r : Row). change tick before r ++ changes a r (suc tick) count) (same tick (omega arith) (omega arith))
    ∙ ap (λ (rows : List LogRow). change tick before (b tick) ++ rows) (rows-same a b (b tick) (suc tick) count (λ t le lt. same t (omega (arith, le)) (omega (arith, lt))))

-- ## One more event

-- it changes no tick before its own
settled-rows : (from : ℕ) (wires : List Wire) (es : List InputEvent) (e : InputEvent) (t : ℕ) → 1 ≤ t → t < tick_at from e.nanos → row_in from wires (es ++ e ∷ []) t ≡ row_in from wires es t
settled-rows from wires es e t one lt =
    let there : LiesIn from e.nanos (tick_at from e.nanos) = lies-in from e.nanos (tick_at from e.nanos) refl in
    let low : begin_of from (tick_at from e.nanos) ≤ e.nanos = there.within (later t (tick_at from e.nanos) lt) in
    untouched from t es e wires one (passed from t (tick_at from e.nanos) e.nanos lt low)
  where
    later : (a b : ℕ) → a < b → 1 ≤ b
    later a b below = omega (arith, below)

    passed : (from t u nanos : ℕ) → t < u → begin_of from u ≤ nanos → begin_of from (t + 1) ≤ nanos
    passed from t u nanos below low = omega (arith, below, low)

until-count : (tick to : ℕ) → tick ≤ to → to - unwritten tick ≡ unwritten to - unwritten tick
until-count zero zero le = refl
until-count tick (suc k) le = ap (λ (n : ℕ). n - unwritten tick) (sym (unwritten-some (suc k) (omega arith)))
until-count (suc j) zero le = absurd (omega (arith, le))

until-order : (tick to : ℕ) → tick ≤ to → unwritten tick ≤ unwritten to
until-order tick zero le = let none : tick ≡ 0 = omega (arith, le) in rw (unwritten-zero tick none) (omega arith)
until-order zero (suc k) le = rw (unwritten-some (suc k) (omega arith)) (omega arith)
until-order (suc j) (suc k) le = rw (unwritten-some (suc j) (omega arith), unwritten-some (suc k) (omega arith)) le

-- the rows of the ticks before a later one
rows-until : (inputs : ℕ → Row) (tick to : ℕ) → tick ≤ to
    → changes inputs all_off 1 (unwritten to - 1) ≡ changes inputs all_off 1 (unwritten tick - 1) ++ changes inputs (row_before inputs (unwritten tick)) (unwritten tick) (to - unwritten tick)
rows-until inputs tick to le =
    rows-split inputs (unwritten tick) (unwritten to) (from-one tick) (until-order tick to le)
    ∙ ap (λ (n : ℕ). changes inputs all_off 1 (unwritten tick - 1) ++ changes inputs (row_before inputs (unwritten tick)) (unwritten tick) n) (sym (until-count tick to le))

below-unwritten : (t to : ℕ) → 1 ≤ t → t < 1 + (unwritten to - 1) → t < to
below-unwritten t zero one lt = absurd (omega (arith, one, lt))
below-unwritten t (suc k) one lt = let less : t < 1 + (suc k - 1) = rw (unwritten-some (suc k) (omega arith)) at lt in omega (arith, less)

pub rows-step : AddOneEvent
rows-step from wires es e le =
    ap (λ (n : ℕ). changes (row_in from wires (es ++ e ∷ [])) all_off 1 (unwritten n - 1)) (last-push from es e)
    ∙ rows-same (row_in from wires (es ++ e ∷ [])) (row_in from wires es) all_off 1 (unwritten (tick_at from e.nanos) - 1)
    (λ t one lt. settled-rows from wires es e t one (below-unwritten t (tick_at from e.nanos) one lt))
    ∙ rows-until (row_in from wires es) (last_tick from es) (tick_at from e.nanos) le

-- ## All events

all-rows : (inputs : ℕ → Row) (tick last : ℕ) → tick ≤ last
    → changes inputs all_off 1 (unwritten tick - 1) ++ changes inputs (row_before inputs (unwritten tick)) (unwritten tick) (last + 1 - unwritten tick) ≡ changes inputs all_off 1 last
all-rows inputs tick last le =
    let some : unwritten (last + 1) ≡ last + 1 = unwritten-some (last + 1) (omega arith) in
    let count : last + 1 - 1 ≡ last = omega arith in
    sym (rows-until inputs tick (last + 1) (omega (arith, le))) ∙ ap (λ (n : ℕ). changes inputs all_off 1 (n - 1)) some ∙ ap (λ (n : ℕ). changes inputs all_off 1 n) count

pub rows-end : AddTheEnd
rows-end from wires es le = all-rows (row_in from wires es) (last_tick from es) 6000000 le

-- the rows known so far, and those that further events and the end give, are the log of all
pub rows-more : (from : ℕ) (wires : List Wire) (es more : List InputEvent) → AreInOrderBehind from (last_tick from es) more
    → rows_before from wires es ++ rows_given from wires es more ≡ rows_of (row_in from wires (es ++ more))
rows-more from wires es [] ordered =
    rows-end from wires es ordered ∙ ap (λ (all : List InputEvent). rows_of (row_in from wires all)) (sym (append-nil es))
rows-more from wires es (e ∷ more) ordered =
    sym (append_assoc (rows_before from wires es) (rows_until from wires es (last_tick from es) (tick_at from e.nanos)) (rows_given from wires (es ++ e ∷ []) more))
    ∙ ap (λ (rows : List LogRow). rows ++ rows_given from wires (es ++ e ∷ []) more) (sym (rows-step from wires es e ordered.0))
    ∙ rows-more from wires (es ++ e ∷ []) more (subst (λ (n : ℕ). AreInOrderBehind from n more) (sym (last-push from es e)) ordered.1)
    ∙ ap (λ (all : List InputEvent). rows_of (row_in from wires all)) (append_assoc es (e ∷ []) more)

none-before : (from : ℕ) (wires : List Wire) → rows_before from wires [] ≡ []
unfolding changes
none-before from wires = refl

pub rows-whole : AddUpToTheLog
rows-whole from wires es ordered = ap (λ (rows : List LogRow). rows ++ rows_given from wires [] es) (sym (none-before from wires)) ∙ rows-more from wires [] es ordered

pub rows-front : BeginTheLog
rows-front from wires es more ordered = (rows_given from wires es more, sym (rows-more from wires es more ordered))
