-- Laws of the cells: a row that the desk can hold is the table of what it says, and a desk in range is read in its
-- table.
use Rattle.std.proofs.Common.{zero, suc, ◌≡◌, ℕ, ◌+◌, ◌-◌, ◌*◌, ◌==◌, ◌<◌, ◌≤◌, true, false, List, [], ◌∷◌, length, map, get_or, drop, slice_index, Option, None, Some, IfSome, refl, arith, sym, ◌∙◌, ap, subst, inl, inr}
use Rattle.std.proofs.lemmas.Bool.{cases_lt}
use Rattle.std.proofs.lemmas.Bool.Decides.{eqb_tells, nat_tests}
use Rattle.std.proofs.lemmas.List.{drop_more, drop_all, same_lists, get_or_default}
use Rattle.std.proofs.lemmas.List.Elements.{All-get_or}
use Rattle.tsb_objects.specs.tsb_types.Lists.{run_from}
use Rattle.tsb_plan.specs.Objects.{has_index, greatest}
use Rattle.tsb_plan.specs.Parts.{unless_zero}
use Rattle.tsb_plan.specs.PlanOf.{put_refusal}
use Rattle.tsb_objects.specs.tsb_rules.declared.rules.Rule.{Rule}
use Rattle.tsb_objects.specs.tsb_rules.declared.rules.Rule.TheVariants.{K1, K2, K3, K4, K5, K6, K7, K8, K9, K10, K11, K12, K13, K14, K15, K16, K17, K18, K19, K20, K21, K22, K23, K24, K25, K26, K27, K28, K29}
use Rattle.tsb_transact.specs.declared.TheConstants.{CELLS, MOST_EDITS}
use Rattle.tsb_transact.specs.declared.desk_state.DeskState.{DeskState}
use Rattle.tsb_transact.specs.declared.desk_state.DeskState.TheVariants.{Normal, Transaction, Verify, Done}
use Rattle.tsb_transact.specs.declared.edit.Edit.{Edit}
use Rattle.tsb_transact.specs.Desk.{Desk, IsSoundDesk}
use Rattle.tsb_transact.specs.Cells.{IsBy, IsEditRow, IsBlankRow, desk_in, desk_cells, edit_cells, edit_in, owner_cell, state_cell, rule_cell, state_of, nth_rule, rules, place_of, id_at}
use Rattle.tsb_transact.specs.Laws.{IsInRange}
use Rattle.tsb_transact.specs.Rows.{IsRow}
use Rattle.tsb_transact.proofs.DeskLemmas.{index-taken, value-taken}
use Rattle.tsb_transact.proofs.PairLemmas.{edit-at, length-edits}
use Rattle.tsb_transact.proofs.PlaceLemmas.{IsPlace, place-at, at-place, place-from, place-within}

-- ## A row is the table of what it says

drop-two : (row : List ℕ) (n : ℕ) → n + 1 < length row → drop n row ≡ slice_index row n ∷ slice_index row (n + 1) ∷ drop (n + 2) row
drop-two row n within =
    let e : n + 1 + 1 ≡ n + 2 = omega arith in
    drop_more row n 0 (omega (arith, within))
    ∙ ap (λ (l : List ℕ). slice_index row n ∷ l) (drop_more row (n + 1) 0 within ∙ ap (λ (k : ℕ). slice_index row (n + 1) ∷ drop k row) e)

-- edit k and those after it
two-on : (row : List ℕ) (k m : ℕ) → length row ≡ CELLS → k + suc m ≡ 65 →
    drop (2 * k + 2) row ≡ slice_index row (2 * k + 2) ∷ slice_index row (2 * k + 3) ∷ drop (2 * (k + 1) + 2) row
two-on row k m full last =
    let e : 2 * k + 2 + 1 ≡ 2 * k + 3 = omega arith in
    let f : 2 * k + 2 + 2 ≡ 2 * (k + 1) + 2 = omega arith in
    drop-two row (2 * k + 2) (omega (arith, full, last))
    ∙ (λ j. slice_index row (2 * k + 2) ∷ slice_index row (e j) ∷ drop (f j) row)

at-end : (row : List ℕ) (k : ℕ) → length row ≡ CELLS → k + 0 ≡ 65 → drop (2 * k + 2) row ≡ []
at-end row k full last = drop_all (2 * k + 2) row (omega (arith, full, last))

blank-run : (row : List ℕ) → IsBy row → (m k : ℕ) → slice_index row 3 < k → k + m ≡ 65 → edit_cells m [] ≡ drop (2 * k + 2) row
blank-run row by zero k over last = sym (at-end row k by.full last)
blank-run row by (suc m) k over last =
    let b : IsBlankRow row k = by.behind k over (omega (arith, last)) in
    let rest : edit_cells m [] ≡ drop (2 * (k + 1) + 2) row = blank-run row by m (k + 1) (omega (arith, over)) (omega (arith, last)) in
    (λ j. sym b.place j ∷ sym b.value j ∷ rest j) ∙ sym (two-on row k m by.full last)

edit-run : (row : List ℕ) → IsBy row → (m k n : ℕ) → 1 ≤ k → k + m ≡ 65 → k + n ≡ slice_index row 3 + 1 →
    edit_cells m (map (edit_in row) (run_from k n)) ≡ drop (2 * k + 2) row
unfolding run_from
edit-run row by m k zero from last count = blank-run row by m k (omega (arith, count)) last
edit-run row by zero k (suc n) from last count = absurd (omega (arith, last, count, by.count))
edit-run row by (suc m) k (suc n) from last count =
    let e : IsEditRow row k = by.each k from (omega (arith, count)) in
    let p : IsPlace (slice_index row (2 * k + 2)) = place-at (slice_index row (2 * k + 2)) e.place_from e.place_to in
    let rest : edit_cells m (map (edit_in row) (run_from (k + 1) n)) ≡ drop (2 * (k + 1) + 2) row =
    edit-run row by m (k + 1) n (omega (arith, from)) (omega (arith, last)) (omega (arith, count)) in
    (λ j. p.back j ∷ slice_index row (2 * k + 3) ∷ rest j) ∙ sym (two-on row k m by.full last)

owner-told : (n : ℕ) → owner_cell (unless_zero n) ≡ n
owner-told zero = refl
owner-told (suc n) =
    let e : (suc n == 0) ≡ false = grind (arith, nat_tests) in
    rw e refl

state-told : (n : ℕ) → n ≤ 3 → state_cell (state_of n) ≡ n
state-told zero within = refl
state-told (suc zero) within = refl
state-told (suc (suc zero)) within = refl
state-told (suc (suc (suc zero))) within = refl
state-told (suc (suc (suc (suc n)))) within = absurd (omega (arith, within))

-- these rules have the numbers from n on
AreNumbered : List Rule → ℕ → Type 0
AreNumbered [] n = Unit {0}
AreNumbered (r ∷ rs) n = (rule_cell (Some r) ≡ n) × AreNumbered rs (n + 1)

numbered : AreNumbered rules 1
unfolding AreNumbered
numbered =
    (refl, (refl, (refl, (refl, (refl, (refl, (refl, (refl, (refl, (refl, (refl, (refl, (refl, (refl, (refl, (refl, (refl, (refl, (refl, (refl, (refl, (refl, (refl, (refl, (refl, (refl, (refl, (refl, (refl, tt)))))))))))))))))))))))))))))

number-told : (rs : List Rule) (a n : ℕ) → AreNumbered rs (a + 1) → 1 ≤ n → n ≤ length rs → rule_cell (nth_rule rs n) ≡ a + n
unfolding AreNumbered
number-told [] a n told from to = absurd (omega (arith, from, to))
number-told (r ∷ rs) a n told from to =
    let some : (n == 0) ≡ false = grind (arith, nat_tests) in
    elim (eqb_tells n 1) [
      | inl s ↦ rw (some, s.0) (told.0 ∙ ap (λ (k : ℕ). a + k) (sym s.1))
      | inr o ↦ rw (some, o.0) (number-told rs (a + 1) (n - 1) told.1 (omega (arith, from, o.1)) (omega (arith, to)) ∙ omega (arith, from))
    ]

rule-told : (n : ℕ) → n ≤ 29 → rule_cell (nth_rule rules n) ≡ n
rule-told n within =
    elim (cases_lt 0 n) [
      | inl some ↦ number-told rules 0 n numbered some (omega (arith, within)) ∙ omega arith
      | inr none ↦ let e : n ≡ 0 = omega (arith, none) in ap (λ (k : ℕ). rule_cell (nth_rule rules k)) e ∙ sym e
    ]

head-apart : (row : List ℕ) → length row ≡ CELLS →
    row ≡ slice_index row 0 ∷ slice_index row 1 ∷ slice_index row 2 ∷ slice_index row 3 ∷ drop 4 row
head-apart row full =
    drop-two row 0 (omega (arith, full)) ∙ ap (λ (l : List ℕ). slice_index row 0 ∷ slice_index row 1 ∷ l) (drop-two row 2 (omega (arith, full)))

pub rows_are_told : (row : List ℕ) → IsBy row → desk_cells (desk_in row) ≡ row
unfolding desk_in
rows_are_told row by =
    let n : ℕ = slice_index row 3 in
    let count : length (map (edit_in row) (run_from 1 n)) ≡ n = length-edits row 1 n in
    let rest : edit_cells MOST_EDITS (map (edit_in row) (run_from 1 n)) ≡ drop 4 row = edit-run row by MOST_EDITS 1 n (omega arith) refl (omega arith) in
    (λ j. owner-told (slice_index row 0) j ∷ state-told (slice_index row 1) by.state j ∷ rule-told (slice_index row 2) by.rule j ∷ count j ∷ rest j)
    ∙ sym (head-apart row by.full)

-- ## A desk in range is read in its table

length-cells : (m : ℕ) (es : List Edit) → length (edit_cells m es) ≡ 2 * m
length-cells zero es = refl
length-cells (suc m) [] =
    let e : 2 * suc m ≡ suc (suc (2 * m)) = omega arith in
    ap (λ (n : ℕ). suc (suc n)) (length-cells m []) ∙ sym e
length-cells (suc m) (x ∷ es) =
    let e : 2 * suc m ≡ suc (suc (2 * m)) = omega arith in
    ap (λ (n : ℕ). suc (suc n)) (length-cells m es) ∙ sym e

-- the two cells of an edit, from 0
record AreCells (cells : List ℕ) (i p v : ℕ) : Type 0 where
  place : slice_index cells (2 * i) ≡ p
  value : slice_index cells (2 * i + 1) ≡ v

cells-next : (p v : ℕ) (cells : List ℕ) (i place value : ℕ) → AreCells cells i place value → AreCells (p ∷ v ∷ cells) (suc i) place value
cells-next p v cells i place value c =
    let e : 2 * suc i ≡ suc (suc (2 * i)) = omega arith in
    let f : 2 * suc i + 1 ≡ suc (suc (2 * i + 1)) = omega arith in
    record {
      place = ap (λ (n : ℕ). slice_index (p ∷ v ∷ cells) n) e ∙ c.place;
      value = ap (λ (n : ℕ). slice_index (p ∷ v ∷ cells) n) f ∙ c.value;
    }

cells-at : (m : ℕ) (es : List Edit) (i : ℕ) (d : Edit) → i < m → i < length es →
    AreCells (edit_cells m es) i (place_of (get_or es i d).id) (get_or es i d).value
cells-at zero es i d below within = absurd (omega (arith, below))
cells-at (suc m) [] i d below within = absurd (omega (arith, within))
cells-at (suc m) (x ∷ es) zero d below within = record { place = refl; value = refl }
cells-at (suc m) (x ∷ es) (suc i) d below within =
    cells-next (place_of x.id) x.value (edit_cells m es) i (place_of (get_or es i d).id) (get_or es i d).value
    (cells-at m es i d (omega (arith, below)) (omega (arith, within)))

cells-behind : (m : ℕ) (es : List Edit) (i : ℕ) → i < m → length es ≤ i → AreCells (edit_cells m es) i 0 0
cells-behind zero es i below over = absurd (omega (arith, below))
cells-behind (suc m) [] zero below over = record { place = refl; value = refl }
cells-behind (suc m) [] (suc i) below over = cells-next 0 0 (edit_cells m []) i 0 0 (cells-behind m [] i (omega (arith, below)) (omega arith))
cells-behind (suc m) (x ∷ es) zero below over = absurd (omega (arith, over))
cells-behind (suc m) (x ∷ es) (suc i) below over =
    cells-next (place_of x.id) x.value (edit_cells m es) i 0 0 (cells-behind m es i (omega (arith, below)) (omega (arith, over)))

-- the cells of edit k of a desk's table, from 1
table-place : (d : Desk) (k place value : ℕ) → 1 ≤ k → AreCells (edit_cells MOST_EDITS d.edits) (k - 1) place value → slice_index (desk_cells d) (2 * k + 2) ≡ place
table-place d k place value from c =
    let e : 2 * k + 2 ≡ suc (suc (suc (suc (2 * (k - 1))))) = omega (arith, from) in
    ap (λ (n : ℕ). slice_index (desk_cells d) n) e ∙ c.place

table-value : (d : Desk) (k place value : ℕ) → 1 ≤ k → AreCells (edit_cells MOST_EDITS d.edits) (k - 1) place value → slice_index (desk_cells d) (2 * k + 3) ≡ value
table-value d k place value from c =
    let e : 2 * k + 3 ≡ suc (suc (suc (suc (2 * (k - 1) + 1)))) = omega (arith, from) in
    ap (λ (n : ℕ). slice_index (desk_cells d) n) e ∙ c.value

rule-back : (r : Rule) → nth_rule rules (rule_cell (Some r)) ≡ Some r
rule-back K1 = refl
rule-back K2 = refl
rule-back K3 = refl
rule-back K4 = refl
rule-back K5 = refl
rule-back K6 = refl
rule-back K7 = refl
rule-back K8 = refl
rule-back K9 = refl
rule-back K10 = refl
rule-back K11 = refl
rule-back K12 = refl
rule-back K13 = refl
rule-back K14 = refl
rule-back K15 = refl
rule-back K16 = refl
rule-back K17 = refl
rule-back K18 = refl
rule-back K19 = refl
rule-back K20 = refl
rule-back K21 = refl
rule-back K22 = refl
rule-back K23 = refl
rule-back K24 = refl
rule-back K25 = refl
rule-back K26 = refl
rule-back K27 = refl
rule-back K28 = refl
rule-back K29 = refl

rule-read : (r : Option Rule) → nth_rule rules (rule_cell r) ≡ r
rule-read None = refl
rule-read (Some r) = rule-back r

rule-within : (r : Option Rule) → rule_cell r ≤ 29
rule-within None = omega arith
rule-within (Some K1) = omega arith
rule-within (Some K2) = omega arith
rule-within (Some K3) = omega arith
rule-within (Some K4) = omega arith
rule-within (Some K5) = omega arith
rule-within (Some K6) = omega arith
rule-within (Some K7) = omega arith
rule-within (Some K8) = omega arith
rule-within (Some K9) = omega arith
rule-within (Some K10) = omega arith
rule-within (Some K11) = omega arith
rule-within (Some K12) = omega arith
rule-within (Some K13) = omega arith
rule-within (Some K14) = omega arith
rule-within (Some K15) = omega arith
rule-within (Some K16) = omega arith
rule-within (Some K17) = omega arith
rule-within (Some K18) = omega arith
rule-within (Some K19) = omega arith
rule-within (Some K20) = omega arith
rule-within (Some K21) = omega arith
rule-within (Some K22) = omega arith
rule-within (Some K23) = omega arith
rule-within (Some K24) = omega arith
rule-within (Some K25) = omega arith
rule-within (Some K26) = omega arith
rule-within (Some K27) = omega arith
rule-within (Some K28) = omega arith
rule-within (Some K29) = omega arith

state-read : (s : DeskState) → state_of (state_cell s) ≡ s
state-read Normal = refl
state-read Transaction = refl
state-read Verify = refl
state-read Done = refl

state-within : (s : DeskState) → state_cell s ≤ 3
state-within Normal = omega arith
state-within Transaction = omega arith
state-within Verify = omega arith
state-within Done = omega arith

owner-read : (o : Option ℕ) → IfSome o (λ s. (1 ≤ s) × (s ≤ 4)) → unless_zero (owner_cell o) ≡ o
owner-read None h = refl
owner-read (Some zero) h = absurd (omega (arith, h.0))
owner-read (Some (suc s)) h =
    let e : (suc s == 0) ≡ false = grind (arith, nat_tests) in
    rw e refl

owner-within : (o : Option ℕ) → IfSome o (λ s. (1 ≤ s) × (s ≤ 4)) → owner_cell o ≤ 4
owner-within None h = omega arith
owner-within (Some s) h = h.1

-- edit k of the table, from 1
module _ (d : Desk) (r : IsInRange d) where
  first : Edit
  first = edit_in [] 0

  taken : (i : ℕ) → i < length d.edits → put_refusal (get_or d.edits i first).id (get_or d.edits i first).value ≡ None
  taken i below = All-get_or (λ (e : Edit). put_refusal e.id e.value ≡ None) d.edits i first below r.sound.taken

  cells-of : (i : ℕ) → i < length d.edits → AreCells (edit_cells MOST_EDITS d.edits) i (place_of (get_or d.edits i first).id) (get_or d.edits i first).value
  cells-of i below = cells-at MOST_EDITS d.edits i first (omega (arith, below, r.sound.room)) below

  edit-read : (i : ℕ) → i < length d.edits → edit_in (desk_cells d) (1 + i) ≡ get_or d.edits i first
  edit-read i below =
      let e : Edit = get_or d.edits i first in
      let c : AreCells (edit_cells MOST_EDITS d.edits) (1 + i - 1) (place_of e.id) e.value =
      subst (λ (k : ℕ). AreCells (edit_cells MOST_EDITS d.edits) k (place_of e.id) e.value) (omega arith) (cells-of i below) in
      let place : slice_index (desk_cells d) (2 * (1 + i) + 2) ≡ place_of e.id = table-place d (1 + i) (place_of e.id) e.value (omega arith) c in
      let value : slice_index (desk_cells d) (2 * (1 + i) + 3) ≡ e.value = table-value d (1 + i) (place_of e.id) e.value (omega arith) c in
      let id : id_at (slice_index (desk_cells d) (2 * (1 + i) + 2)) ≡ e.id = ap id_at place ∙ at-place e.id (index-taken e.id e.value (taken i below)) in
      λ j. record { id = id j; value = value j }

  edits-read : map (edit_in (desk_cells d)) (run_from 1 (length d.edits)) ≡ d.edits
  edits-read =
      let n : ℕ = length d.edits in
      same_lists (map (edit_in (desk_cells d)) (run_from 1 n)) d.edits (length-edits (desk_cells d) 1 n) (λ k e below.
      let within : k < n = omega (arith, below, length-edits (desk_cells d) 1 n) in
      edit-at (desk_cells d) 1 n k e within ∙ edit-read k within ∙ get_or_default d.edits k first e within)

  read : desk_in (desk_cells d) ≡ d
  unfolding desk_in
  read = λ j. record {
    owner = owner-read d.owner r.owner j;
    state = state-read d.state j;
    rule = rule-read d.rule j;
    edits = edits-read j;
  }

  edit-row-at : (i : ℕ) → i < length d.edits → IsEditRow (desk_cells d) (1 + i)
  edit-row-at i below =
      let e : Edit = get_or d.edits i first in
      let same : edit_in (desk_cells d) (1 + i) ≡ e = edit-read i below in
      let has : has_index e.id.object e.id.index ≡ true = index-taken e.id e.value (taken i below) in
      let c : AreCells (edit_cells MOST_EDITS d.edits) (1 + i - 1) (place_of e.id) e.value =
      subst (λ (k : ℕ). AreCells (edit_cells MOST_EDITS d.edits) k (place_of e.id) e.value) (omega arith) (cells-of i below) in
      let place : slice_index (desk_cells d) (2 * (1 + i) + 2) ≡ place_of e.id = table-place d (1 + i) (place_of e.id) e.value (omega arith) c in
      record {
        place_from = rw place (place-from e.id has);
        place_to = rw place (place-within e.id has);
        value = subst (λ (x : Edit). x.value ≤ greatest x.id.object) (sym same) (value-taken e.id e.value (taken i below));
      }

  blank-row-at : (k : ℕ) → length d.edits < k → k ≤ MOST_EDITS → IsBlankRow (desk_cells d) k
  blank-row-at k over within =
      let c : AreCells (edit_cells MOST_EDITS d.edits) (k - 1) 0 0 = cells-behind MOST_EDITS d.edits (k - 1) (omega (arith, over, within)) (omega (arith, over)) in
      record { place = table-place d k 0 0 (omega (arith, over)) c; value = table-value d k 0 0 (omega (arith, over)) c }

  table-by : IsBy (desk_cells d)
  table-by = record {
    full = ap (λ (n : ℕ). suc (suc (suc (suc n)))) (length-cells MOST_EDITS d.edits);
    owner = owner-within d.owner r.owner;
    state = state-within d.state;
    rule = rule-within d.rule;
    count = r.sound.room;
    each = λ k from to. subst (IsEditRow (desk_cells d)) (omega (arith, from)) (edit-row-at (k - 1) (omega (arith, from, to)));
    behind = blank-row-at;
  }

pub states_are_read : (d : Desk) → IsInRange d → (desk_in (desk_cells d) ≡ d) × IsRow (desk_cells d)
states_are_read d r = (read d r, record { by = table-by d r; sound = subst IsSoundDesk (sym (read d r)) r.sound })
