-- Rows that are placed, and rows that are sorted.
use Rattle.std.proofs.Common.{◌≡◌, ℕ, ◌<◌, ◌≤◌, eqb, true, false, cond, List, [], ◌∷◌, ◌++◌, refl, sym, ap, ◌∙◌, append_assoc, arith, subst, inl, inr}
use Rattle.std.proofs.lemmas.List.{append-nil}
use Rattle.std.proofs.lemmas.Bool.{cases_lt, lt-ltb, le-ltb}
use Rattle.std.proofs.lemmas.Bool.Decides.{eqb_tells}
use Rattle.tsb_event_text.specs.declared.rows.EventRow.{EventRow}
use Rattle.tsb_field_streams.specs.Order.{IsInOrderFrom, placed, placed_all, time_of}
use Rattle.tsb_field_streams.specs.OrderLaws.{AreInOrder, StayAsTheyCame, StayInOrder, rows_at}

-- ## A row that is placed

-- before a later row
pub placed-before : (row held : EventRow) (rest : List EventRow) → time_of row < time_of held → placed row (held ∷ rest) ≡ row ∷ held ∷ rest
placed-before row held rest lt = rw (lt-ltb (time_of row) (time_of held) lt) refl

-- behind one that is no later
pub placed-behind : (row held : EventRow) (rest : List EventRow) → time_of held ≤ time_of row → placed row (held ∷ rest) ≡ held ∷ placed row rest
placed-behind row held rest le = rw (le-ltb (time_of row) (time_of held) le) refl

-- the order of time stays
pub placed-order : (row : EventRow) (m : ℕ) (held : List EventRow) → m ≤ time_of row → IsInOrderFrom m held → IsInOrderFrom m (placed row held)
placed-order row m [] le order = (le, tt)
placed-order row m (h ∷ rest) le order = elim (cases_lt (time_of row) (time_of h)) [
  | inl before ↦ subst (IsInOrderFrom m) (sym (placed-before row h rest before)) (le, (omega (arith, before), order.1))
  | inr behind ↦ subst (IsInOrderFrom m) (sym (placed-behind row h rest behind)) (order.0, placed-order row (time_of h) rest behind order.1)
]

pub all-order : (held rows : List EventRow) → IsInOrderFrom 0 held → IsInOrderFrom 0 (placed_all held rows)
all-order held [] order = order
all-order held (row ∷ rows) order = all-order (placed row held) rows (placed-order row 0 held (omega arith) order)

pub in-order : AreInOrder
in-order rows = all-order [] rows tt

-- ## Rows of one moment

-- none is among rows of later moments
none-later : (m k : ℕ) (rows : List EventRow) → m < k → IsInOrderFrom k rows → rows_at m rows ≡ []
none-later m k [] lt order = refl
none-later m k (row ∷ rows) lt order =
    elim (eqb_tells (time_of row) m) [
      | inl same ↦ absurd (let le : k ≤ time_of row = order.0 in let is : time_of row ≡ m = same.1 in omega (arith, le, is, lt))
      | inr other ↦ rw (other.0) (none-later m (time_of row) rows (let le : k ≤ time_of row = order.0 in omega (arith, le, lt)) order.1)
    ]

-- one more row
at-cons : (m : ℕ) (row : EventRow) (rows : List EventRow) → rows_at m (row ∷ rows) ≡ rows_at m (row ∷ []) ++ rows_at m rows
at-cons m row rows = elim (eqb (time_of row) m) as (λ b. cond b (row ∷ rows_at m rows) (rows_at m rows) ≡ cond b (row ∷ []) [] ++ rows_at m rows) [ true ↦ refl | false ↦ refl ]

-- a row that is placed comes behind those of its moment
at-placed : (m k : ℕ) (row : EventRow) (held : List EventRow) → IsInOrderFrom k held → rows_at m (placed row held) ≡ rows_at m held ++ rows_at m (row ∷ [])
at-placed m k row [] order = refl
at-placed m k row (h ∷ rest) order = elim (cases_lt (time_of row) (time_of h)) [
  | inl before ↦ ap (rows_at m) (placed-before row h rest before) ∙ first before
  | inr behind ↦
      ap (rows_at m) (placed-behind row h rest behind) ∙ at-cons m h (placed row rest)
      ∙ ap (λ (v : List EventRow). rows_at m (h ∷ []) ++ v) (at-placed m (time_of h) row rest order.1)
      ∙ sym (append_assoc (rows_at m (h ∷ [])) (rows_at m rest) (rows_at m (row ∷ [])))
      ∙ ap (λ (v : List EventRow). v ++ rows_at m (row ∷ [])) (sym (at-cons m h rest))
]
  where
    first : time_of row < time_of h → rows_at m (row ∷ h ∷ rest) ≡ rows_at m (h ∷ rest) ++ rows_at m (row ∷ [])
    first before = elim (eqb_tells (time_of row) m) [
      | inl same ↦
          let none : rows_at m (h ∷ rest) ≡ [] = none-later m (time_of h) (h ∷ rest) (let is : time_of row ≡ m = same.1 in omega (arith, is, before)) (omega arith, order.1) in
          at-cons m row (h ∷ rest) ∙ ap (λ (v : List EventRow). rows_at m (row ∷ []) ++ v) none ∙ append-nil (rows_at m (row ∷ []))
          ∙ ap (λ (v : List EventRow). v ++ rows_at m (row ∷ [])) (sym none)
      | inr other ↦
          let alone : rows_at m (row ∷ []) ≡ [] = rw (other.0) refl in
          at-cons m row (h ∷ rest) ∙ ap (λ (v : List EventRow). v ++ rows_at m (h ∷ rest)) alone ∙ sym (append-nil (rows_at m (h ∷ rest)))
          ∙ ap (λ (v : List EventRow). rows_at m (h ∷ rest) ++ v) (sym alone)
    ]

at-all : (m : ℕ) (held rows : List EventRow) → IsInOrderFrom 0 held → rows_at m (placed_all held rows) ≡ rows_at m held ++ rows_at m rows
at-all m held [] order = sym (append-nil (rows_at m held))
at-all m held (row ∷ rows) order =
    at-all m (placed row held) rows (placed-order row 0 held (omega arith) order)
    ∙ ap (λ (v : List EventRow). v ++ rows_at m rows) (at-placed m 0 row held order)
    ∙ append_assoc (rows_at m held) (rows_at m (row ∷ [])) (rows_at m rows)
    ∙ ap (λ (v : List EventRow). rows_at m held ++ v) (sym (at-cons m row rows))

pub as-they-came : StayAsTheyCame
as-they-came rows m = at-all m [] rows tt

-- ## Rows in order

-- a row behind others is no earlier
no-earlier : (k : ℕ) (rest : List EventRow) (row : EventRow) (rows : List EventRow) → IsInOrderFrom k (rest ++ row ∷ rows) → k ≤ time_of row
no-earlier k [] row rows order = order.0
no-earlier k (h ∷ rest) row rows order = let first : k ≤ time_of h = order.0 in let more : time_of h ≤ time_of row = no-earlier (time_of h) rest row rows order.1 in omega (arith, first, more)

-- and is placed behind them
placed-last : (k : ℕ) (held : List EventRow) (row : EventRow) (rows : List EventRow) → IsInOrderFrom k (held ++ row ∷ rows) → placed row held ≡ held ++ row ∷ []
placed-last k [] row rows order = refl
placed-last k (h ∷ rest) row rows order =
    placed-behind row h rest (no-earlier (time_of h) rest row rows order.1) ∙ ap (λ (v : List EventRow). h ∷ v) (placed-last (time_of h) rest row rows order.1)

all-last : (held rows : List EventRow) → IsInOrderFrom 0 (held ++ rows) → placed_all held rows ≡ held ++ rows
all-last held [] order = sym (append-nil held)
all-last held (row ∷ rows) order =
    let last : placed row held ≡ held ++ row ∷ [] = placed-last 0 held row rows order in
    ap (λ (v : List EventRow). placed_all v rows) last
    ∙ all-last (held ++ row ∷ []) rows (subst (IsInOrderFrom 0) (sym (append_assoc held (row ∷ []) rows)) order)
    ∙ append_assoc held (row ∷ []) rows

pub stay-in-order : StayInOrder
stay-in-order rows order = all-last [] rows order

-- ## A row that is before all others

-- none of the rows is before this moment
abbrev pub AllFrom : ℕ → List EventRow → Type 0
AllFrom m [] = Unit {0}
AllFrom m (row ∷ rows) = (m ≤ time_of row) × AllFrom m rows

-- the first row stays the first, where no other one is before it
pub first-stays : (row : EventRow) (held rows : List EventRow) → AllFrom (time_of row) rows → placed_all (row ∷ held) rows ≡ row ∷ placed_all held rows
first-stays row held [] from = refl
first-stays row held (next ∷ rows) from =
    ap (λ (v : List EventRow). placed_all v rows) (placed-behind next row held from.0) ∙ first-stays row (placed next held) rows from.1
