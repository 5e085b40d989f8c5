-- The rows that are kept tell the last change of their inputs.
use Rattle.std.proofs.Common.{◌≡◌, ◌∙◌, ℕ, ◌+◌, ◌-◌, ◌<◌, ◌≤◌, Bool, true, false, not, List, [], ◌∷◌, ◌++◌, if◌then◌else◌, Some, refl, sym, ap, arith, append-nil, length, take, get_or}
use mathlib.Core.Bool.{beq}
use Rattle.std.proofs.lemmas.List.{get_or_default, take_more}
use Rattle.tsb_types.specs.Sets.{all_off, is_same_row}
use Rattle.tsb_types.specs.declared.row.Row.{Row}
use Rattle.tsb_types.proofs.SetLemmas.{same-row}
use Rattle.tsb_log_text.specs.declared.log.LogRow.{LogRow}
use Rattle.tsb_step.specs.tsb_plan.Plan.{Plan}
use Rattle.tsb_step.specs.declared.inputs.Input.{Input}
use Rattle.tsb_step.specs.declared.inputs.Input.TheVariants.{Tick}
use Rattle.tsb_step.specs.Runs.{replay}
use Rattle.tsb_step.proofs.ClearLemmas.{one_later}
use Rattle.tsb_text.specs.kept.Changed.{change_in, differs, last_change, or_later}
use Rattle.tsb_text.specs.kept.Kept.{kept_of, last_row, row_behind, row_kept}
use Rattle.tsb_text.proofs.kept.KeptLemmas.{behind-last, kept-row}

same-value : (b : Bool) → differs b b ≡ false
same-value true = refl
same-value false = refl

-- the last row, and those before it
pub change-last : (value : Row → Bool) (before : Row) (rows : List LogRow) (r : LogRow)
    → change_in value before (rows ++ r ∷ []) ≡ (if differs (value r.row) (value (row_behind before rows)) then Some r.tick else change_in value before rows)
change-last value before [] r = refl
change-last value before (x ∷ xs) r =
    ap (or_later (differs (value x.row) (value before)) x.tick) (change-last value x.row xs r) ∙ go (differs (value r.row) (value (row_behind x.row xs)))
  where
    go : (b : Bool) → or_later (differs (value x.row) (value before)) x.tick (if b then Some r.tick else change_in value x.row xs)
        ≡ (if b then Some r.tick else or_later (differs (value x.row) (value before)) x.tick (change_in value x.row xs))
    go true = refl
    go false = refl

pub kept-change : (value : Row → Bool) (plan : Plan) (is : List Input) → change_in value all_off (kept_of plan is).rows ≡ last_change value plan is
kept-change value plan [] = refl
kept-change value plan (Tick row ∷ is) = go (is_same_row row (row_kept (kept_of plan is))) refl (kept-change value plan is)
  where
    go : (b : Bool) → is_same_row row (row_kept (kept_of plan is)) ≡ b → change_in value all_off (kept_of plan is).rows ≡ last_change value plan is
        → change_in value all_off ((kept_of plan is).rows ++ (if b then [] else record { tick = (replay plan is).now + 1; row = row } ∷ []))
        ≡ (if differs (value row) (value (last_row is)) then Some (replay plan (Tick row ∷ is)).now else last_change value plan is)
    go true e before =
        let same : row ≡ last_row is = same-row row (row_kept (kept_of plan is)) e ∙ kept-row plan is in
        let none : differs (value row) (value (last_row is)) ≡ false = ap (λ (r : Row). differs (value row) (value r)) (sym same) ∙ same-value (value row) in
        ap (change_in value all_off) (append-nil (kept_of plan is).rows) ∙ before
        ∙ sym (ap (λ (b : Bool). if b then Some (replay plan (Tick row ∷ is)).now else last_change value plan is) none)
    go false e before =
        let next : (replay plan (Tick row ∷ is)).now ≡ (replay plan is).now + 1 = one_later (replay plan is) row in
        change-last value all_off (kept_of plan is).rows (record { tick = (replay plan is).now + 1; row = row })
        ∙ (λ j. if differs (value row) (value (kept-row plan is j)) then Some (sym next j) else before j)
kept-change value plan (i ∷ is) = kept-change value plan is

-- ## A loop from the last row to the first

pub before-last : (value : Row → Bool) (rows : List LogRow) (n left : ℕ) (r : LogRow) → left ≡ n + 1 → n < length rows → r ≡ get_or rows n r
    → change_in value all_off (take left rows) ≡ (if differs (value r.row) (value (row_behind all_off (take n rows))) then Some r.tick else change_in value all_off (take n rows))
before-last value rows n left r one lt is =
    ap (λ (k : ℕ). change_in value all_off (take k rows)) one
    ∙ ap (change_in value all_off) (take_more rows n r lt ∙ ap (λ (x : LogRow). take n rows ++ x ∷ []) (sym is))
    ∙ change-last value all_off (take n rows) r

-- the last of the first rows
pub behind-count : (rows : List LogRow) (count : ℕ) (d : LogRow) → (count ≡ 0 → ⊥) → count ≤ length rows → (get_or rows (count - 1) d).row ≡ row_behind all_off (take count rows)
behind-count rows count d some le =
    let before : count - 1 < length rows = omega (arith, some, le) in
    let one : count - 1 + 1 ≡ count = omega (arith, some) in
    sym (
    ap (λ (k : ℕ). row_behind all_off (take k rows)) (sym one) ∙ ap (row_behind all_off) (take_more rows (count - 1) d before)
    ∙ behind-last all_off (take (count - 1) rows) (get_or rows (count - 1) d)
    )

-- the last of the first rows differs from the row before it
pub change-there : (value : Row → Bool) (rows : List LogRow) (left : ℕ) (d : LogRow) (before : Row) → 0 < left → left ≤ length rows → before ≡ row_behind all_off (take (left - 1) rows)
    → differs (value (get_or rows (left - 1) d).row) (value before) ≡ true → change_in value all_off (take left rows) ≡ change_in value all_off rows
    → Some (get_or rows (left - 1) d).tick ≡ change_in value all_off rows
change-there value rows left d before some le is apart same =
    let lt : left - 1 < length rows = omega (arith, some, le) in
    let here : differs (value (get_or rows (left - 1) d).row) (value (row_behind all_off (take (left - 1) rows))) ≡ true =
    ap (λ (r : Row). differs (value (get_or rows (left - 1) d).row) (value r)) (sym is) ∙ apart in
    sym (ap (λ (b : Bool). if b then Some (get_or rows (left - 1) d).tick else change_in value all_off (take (left - 1) rows)) here)
    ∙ sym (before-last value rows (left - 1) left (get_or rows (left - 1) d) (omega (arith, some)) lt (get_or_default rows (left - 1) d (get_or rows (left - 1) d) lt)) ∙ same

-- or it does not
pub no-change-there : (value : Row → Bool) (rows : List LogRow) (left : ℕ) (d : LogRow) (before : Row) → 0 < left → left ≤ length rows → before ≡ row_behind all_off (take (left - 1) rows)
    → differs (value (get_or rows (left - 1) d).row) (value before) ≡ false → change_in value all_off (take left rows) ≡ change_in value all_off rows
    → change_in value all_off (take (left - 1) rows) ≡ change_in value all_off rows
no-change-there value rows left d before some le is alike same =
    let lt : left - 1 < length rows = omega (arith, some, le) in
    let here : differs (value (get_or rows (left - 1) d).row) (value (row_behind all_off (take (left - 1) rows))) ≡ false =
    ap (λ (r : Row). differs (value (get_or rows (left - 1) d).row) (value r)) (sym is) ∙ alike in
    sym (ap (λ (b : Bool). if b then Some (get_or rows (left - 1) d).tick else change_in value all_off (take (left - 1) rows)) here)
    ∙ sym (before-last value rows (left - 1) left (get_or rows (left - 1) d) (omega (arith, some)) lt (get_or_default rows (left - 1) d (get_or rows (left - 1) d) lt)) ∙ same

-- values that are not equal differ
pub differs-as : (a b x y : Bool) → a ≡ x → b ≡ y → differs x y ≡ not (beq a b)
differs-as true true x y p q = ap (λ (z : Bool). differs z y) (sym p) ∙ ap (differs true) (sym q)
differs-as true false x y p q = ap (λ (z : Bool). differs z y) (sym p) ∙ ap (differs true) (sym q)
differs-as false true x y p q = ap (λ (z : Bool). differs z y) (sym p) ∙ ap (differs false) (sym q)
differs-as false false x y p q = ap (λ (z : Bool). differs z y) (sym p) ∙ ap (differs false) (sym q)
