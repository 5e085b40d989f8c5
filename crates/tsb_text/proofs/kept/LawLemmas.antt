-- The laws of src/laws.rt.
use Rattle.std.proofs.Common.{zero, suc, ◌≡◌, ◌∙◌, ℕ, ◌+◌, ◌-◌, ◌<◌, ◌≤◌, Bool, true, false, List, [], ◌∷◌, ◌++◌, if◌then◌else◌, nat_le, refl, sym, ap, subst, arith, append-nil}
use Rattle.std.proofs.lemmas.Bool.{le-leb, lt-leb}
use Rattle.tsb_types.specs.Sets.{all_off, is_same_row}
use Rattle.tsb_types.specs.declared.row.Row.{Row}
use Rattle.tsb_log_text.specs.declared.log.LogRow.{LogRow}
use Rattle.tsb_log_text.specs.Logs.{Rises, row_at, row_from}
use Rattle.tsb_step.specs.tsb_plan.Plan.{Plan}
use Rattle.tsb_step.specs.declared.inputs.Input.{Input}
use Rattle.tsb_step.specs.declared.inputs.Input.TheVariants.{Tick}
use Rattle.tsb_step.specs.Runs.{replay}
use Rattle.tsb_step.proofs.ClearLemmas.{one_later}
use Rattle.tsb_text.specs.declared.kept.Other.{Other}
use Rattle.tsb_text.specs.kept.Kept.{kept_of, last_row, new_rows, other_tick, row_behind, row_kept}
use Rattle.tsb_text.specs.kept.Laws.{Differ, GivesAgain, RowsAreFew, RowsAreGiven, given_again, given_from, with_ticks}
use Rattle.tsb_text.proofs.kept.KeptLemmas.{IsBy, kept-by, kept-row, new-later}
use Rattle.tsb_text.proofs.BackLemmas.{no-less, same-now}
use Rattle.tsb_text.specs.Later.{row_tick}
use Rattle.tsb_text.proofs.LaterLemmas.{AreBy, AreLater, by-none, by-more, later-none, later-more}

-- ## Rows in force

-- at a tick that no row is later than
all-by : (before : Row) (rows : List LogRow) (t : ℕ) → AreBy row_tick t rows → row_from before rows t ≡ row_behind before rows
all-by before [] t by-none = refl
all-by before (r ∷ rs) t (by-more x xs is more) = rw (le-leb r.tick t is) (all-by r.row rs t more)

-- later rows change nothing
later-rows : (before : Row) (rows more : List LogRow) (t : ℕ) → AreLater row_tick t more → row_from before (rows ++ more) t ≡ row_from before rows t
later-rows before [] [] t later-none = refl
later-rows before [] (r ∷ rs) t (later-more x xs is more) = rw (lt-leb r.tick t is) refl
later-rows before (r ∷ rs) more t later = ap (λ (x : Row). if nat_le r.tick t then x else before) (later-rows r.row rs more t later)

now-grows : (plan : Plan) (later is : List Input) → (replay plan is).now ≤ (replay plan (later ++ is)).now
now-grows plan [] is = omega arith
now-grows plan (i ∷ later) is =
    let less : (replay plan (later ++ is)).now ≤ (replay plan (i ∷ later ++ is)).now = no-less plan i (later ++ is) in
    let rest : (replay plan is).now ≤ (replay plan (later ++ is)).now = now-grows plan later is in
    omega (arith, less, rest)

-- later inputs leave the row in force at a tick
pub rows-stay : (plan : Plan) (later is : List Input) (t : ℕ) → t ≤ (replay plan is).now → row_at (kept_of plan (later ++ is)).rows t ≡ row_at (kept_of plan is).rows t
rows-stay plan [] is t le = refl
rows-stay plan (Tick row ∷ later) is t le =
    let grows : (replay plan is).now ≤ (replay plan (later ++ is)).now = now-grows plan later is in
    later-rows all_off (kept_of plan (later ++ is)).rows (new_rows ((replay plan (later ++ is)).now + 1) row (kept_of plan (later ++ is))) t
    (new-later t ((replay plan (later ++ is)).now + 1) row (kept_of plan (later ++ is)) (omega (arith, le, grows)))
    ∙ rows-stay plan later is t le
rows-stay plan (i ∷ later) is t le = rows-stay plan later is t le

-- at the tick that is in force, the row is that of the last tick
pub row-now : (plan : Plan) (is : List Input) → row_at (kept_of plan is).rows (replay plan is).now ≡ last_row is
row-now plan is =
    let by : IsBy (replay plan is).now (kept_of plan is) = kept-by plan is (replay plan is).now (omega arith) in
    all-by all_off (kept_of plan is).rows (replay plan is).now by.rows ∙ kept-row plan is

pub rows-given : RowsAreGiven
rows-given plan later row is = rows-stay plan later (Tick row ∷ is) (replay plan (Tick row ∷ is)).now (omega arith) ∙ row-now plan (Tick row ∷ is)

-- ## Few rows

one-more : (last t : ℕ) (rows : List LogRow) (r : LogRow) → last ≤ t → AreBy row_tick t rows → t < r.tick → Rises last rows → Rises last (rows ++ r ∷ [])
one-more last t [] r le by-none lt h = (omega (arith, le, lt), tt)
one-more last t (x ∷ xs) r le (by-more y ys is more) lt h = (h.0, one-more x.tick t xs r is more lt h.1)

one-other : (before : Row) (rows : List LogRow) (r : LogRow) → Differ before rows → is_same_row r.row (row_behind before rows) ≡ false → Differ before (rows ++ r ∷ [])
one-other before [] r h apart = (apart, tt)
one-other before (x ∷ xs) r h apart = (h.0, one-other x.row xs r h.1 apart)

pub kept-rise : (plan : Plan) (is : List Input) → Rises 0 (kept_of plan is).rows
kept-rise plan [] = tt
kept-rise plan (Tick row ∷ is) = go (is_same_row row (row_kept (kept_of plan is))) (kept-rise plan is)
  where
    go : (b : Bool) → Rises 0 (kept_of plan is).rows → Rises 0 ((kept_of plan is).rows ++ (if b then [] else record { tick = (replay plan is).now + 1; row = row } ∷ []))
    go true before = subst (Rises 0) (sym (append-nil (kept_of plan is).rows)) before
    go false before =
        let by : IsBy (replay plan is).now (kept_of plan is) = kept-by plan is (replay plan is).now (omega arith) in
        one-more 0 (replay plan is).now (kept_of plan is).rows (record { tick = (replay plan is).now + 1; row = row }) (omega arith) by.rows (omega arith) before
kept-rise plan (i ∷ is) = kept-rise plan is

kept-differ : (plan : Plan) (is : List Input) → Differ all_off (kept_of plan is).rows
kept-differ plan [] = tt
kept-differ plan (Tick row ∷ is) = go (is_same_row row (row_kept (kept_of plan is))) refl (kept-differ plan is)
  where
    go : (b : Bool) → is_same_row row (row_kept (kept_of plan is)) ≡ b → Differ all_off (kept_of plan is).rows
        → Differ all_off ((kept_of plan is).rows ++ (if b then [] else record { tick = (replay plan is).now + 1; row = row } ∷ []))
    go true e before = subst (Differ all_off) (sym (append-nil (kept_of plan is).rows)) before
    go false e before = one-other all_off (kept_of plan is).rows (record { tick = (replay plan is).now + 1; row = row }) before e
kept-differ plan (i ∷ is) = kept-differ plan is

pub rows-few : RowsAreFew
rows-few plan is = (kept-rise plan is, kept-differ plan is)

-- ## The inputs again

-- rows that agree up to a tick
abbrev pub AgreeTo : ℕ → List LogRow → List LogRow → Type 0
AgreeTo t rows more = (k : ℕ) → k ≤ t → row_at more k ≡ row_at rows k

ticks-same : (rows more : List LogRow) (n t : ℕ) (is : List Input) → AgreeTo (t + n) rows more → with_ticks more n t is ≡ with_ticks rows n t is
ticks-same rows more zero t is h = refl
ticks-same rows more (suc n) t is h =
    let here : row_at more (t + n + 1) ≡ row_at rows (t + n + 1) = h (t + n + 1) (omega arith) in
    let rest : with_ticks more n t is ≡ with_ticks rows n t is = ticks-same rows more n t is (λ k le. h k (omega (arith, le))) in
    λ j. Tick (here j) ∷ rest j

given-same : (rows more : List LogRow) (now : ℕ) (os : List Other) (t : ℕ) (is : List Input) → t ≤ now → AreBy other_tick now os → AgreeTo now rows more → given_from more now os t is ≡ given_from rows now os t is
given-same rows more now [] t is le by-none h = ticks-same rows more (now - t) t is (λ k lt. h k (omega (arith, le, lt)))
given-same rows more now (o ∷ os) t is le (by-more x xs here by) h =
    ap (λ (before : List Input). given_from more now os o.tick (o.input ∷ before)) (ticks-same rows more (o.tick - t) t is (λ k lt. h k (omega (arith, le, lt, here))))
    ∙ given-same rows more now os o.tick (o.input ∷ with_ticks rows (o.tick - t) t is) here by h

-- one tick more
given-tick : (rows : List LogRow) (now : ℕ) (os : List Other) (t : ℕ) (is : List Input) → t ≤ now → AreBy other_tick now os
    → given_from rows (now + 1) os t is ≡ Tick (row_at rows (now + 1)) ∷ given_from rows now os t is
given-tick rows now [] t is le by-none =
    let count : now + 1 - t ≡ suc (now - t) = omega (arith, le) in
    let there : t + (now - t) + 1 ≡ now + 1 = omega (arith, le) in
    ap (λ (n : ℕ). with_ticks rows n t is) count ∙ ap (λ (n : ℕ). Tick (row_at rows n) ∷ with_ticks rows (now - t) t is) there
given-tick rows now (o ∷ os) t is le (by-more x xs here by) = given-tick rows now os o.tick (o.input ∷ with_ticks rows (o.tick - t) t is) here by

-- one other input more
given-other : (rows : List LogRow) (now : ℕ) (os : List Other) (t : ℕ) (is : List Input) (i : Input)
    → given_from rows now (os ++ record { tick = now; input = i } ∷ []) t is ≡ i ∷ given_from rows now os t is
given-other rows now [] t is i = let none : now - now ≡ 0 = omega arith in ap (λ (n : ℕ). with_ticks rows n now (i ∷ with_ticks rows (now - t) t is)) none
given-other rows now (o ∷ os) t is i = given-other rows now os o.tick (o.input ∷ with_ticks rows (o.tick - t) t is) i

pub gives-again : GivesAgain
gives-again plan [] = refl
gives-again plan (Tick row ∷ is) =
    let next : (replay plan (Tick row ∷ is)).now ≡ (replay plan is).now + 1 = one_later (replay plan is) row in
    let by : IsBy (replay plan is).now (kept_of plan is) = kept-by plan is (replay plan is).now (omega arith) in
    let there : row_at (kept_of plan (Tick row ∷ is)).rows ((replay plan is).now + 1) ≡ row = ap (row_at (kept_of plan (Tick row ∷ is)).rows) (sym next) ∙ row-now plan (Tick row ∷ is) in
    let before : given_from (kept_of plan (Tick row ∷ is)).rows (replay plan is).now (kept_of plan is).others 0 [] ≡ is =
    given-same (kept_of plan is).rows (kept_of plan (Tick row ∷ is)).rows (replay plan is).now (kept_of plan is).others 0 [] (omega arith) by.others
    (λ k le. rows-stay plan (Tick row ∷ []) is k le) ∙ gives-again plan is in
    ap (λ (n : ℕ). given_from (kept_of plan (Tick row ∷ is)).rows n (kept_of plan is).others 0 []) next
    ∙ given-tick (kept_of plan (Tick row ∷ is)).rows (replay plan is).now (kept_of plan is).others 0 [] (omega arith) by.others
    ∙ (λ j. Tick (there j) ∷ before j)
gives-again plan (i ∷ is) =
    let same : (replay plan (i ∷ is)).now ≡ (replay plan is).now = same-now (replay plan is) i tt in
    ap (λ (n : ℕ). given_again (kept_of plan (i ∷ is)) n) same
    ∙ given-other (kept_of plan is).rows (replay plan is).now (kept_of plan is).others 0 [] i
    ∙ ap (λ (before : List Input). i ∷ before) (gives-again plan is)
