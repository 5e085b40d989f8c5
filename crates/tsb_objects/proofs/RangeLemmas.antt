-- Plans agree on what is from one object up to another where their cells there are the same, and nowhere else.
use Rattle.std.proofs.Common.{◌≡◌, ℕ, ◌+◌, ◌-◌, ◌<◌, ◌≤◌, Bool, true, false, List, length, get_or, refl, arith, sym, ap, ◌∙◌, inl, inr, if◌then◌else◌, subst}
use Rattle.std.proofs.lemmas.Bool.{cases_lt, cond-true, cond-false}
use Rattle.std.proofs.lemmas.Bool.Decides.{nat_tests}
use Rattle.std.proofs.lemmas.List.{ext_get_or}
use Rattle.std.proofs.lemmas.List.Edits.{get_or-between, length-between}
use Rattle.std.specs.List.{between}
use Rattle.tsb_plan.specs.declared.object.Object.{Object}
use Rattle.tsb_plan.specs.declared.object.TheConstants.{PLAN_CELLS}
use Rattle.tsb_plan.specs.Laws.{IsCellOf}
use Rattle.tsb_plan.specs.Objects.{order, indices, first_cell, has_index, value_in}
use Rattle.tsb_plan.specs.PlanOf.{plan_in}
use Rattle.tsb_plan.proofs.CellLemmas.{leave_no_cell}
use Rattle.tsb_plan.proofs.TableLemmas.{order-injective, ends-before, ends-within, index-bounds}
use Rattle.tsb_objects.specs.Agreement.{Agree, is_between, is_one}

-- first cells are in the order of the objects
pub first-cells : (o p : Object) → order o ≤ order p → first_cell o ≤ first_cell p
first-cells o p before =
    elim (cases_lt (order o) (order p)) [
      | inl below ↦ let step : first_cell o + indices o ≤ first_cell p = ends-before o p below in omega arith
      | inr above ↦
          let one : o ≡ p = order-injective o p (omega arith) in
          let cells : first_cell o ≡ first_cell p = ap first_cell one in
          omega arith
    ]

pub first-cell-within : (o : Object) → first_cell o ≤ PLAN_CELLS
first-cell-within o = let step : first_cell o + indices o ≤ PLAN_CELLS = ends-within o in omega arith

-- the same values of an object whose cells are within a part that is the same
value-same : (cells others : List ℕ) (from to : Object) → between (first_cell from) (first_cell to) cells ≡ between (first_cell from) (first_cell to) others →
    (o : Object) (i : ℕ) → is_between from to o ≡ true → value_in cells o i ≡ value_in others o i
value-same cells others from to same o i there = go (has_index o i) refl
  where
    not_before : order from ≤ order o
    not_before = grind (arith, nat_tests, there)

    not_behind : order o < order to
    not_behind = grind (arith, nat_tests, there)

    go : (b : Bool) → has_index o i ≡ b → (if b then get_or cells (first_cell o + (i - 1)) 0 else 0) ≡ (if b then get_or others (first_cell o + (i - 1)) 0 else 0)
    go false is = refl
    go true is =
        let bounds : (1 ≤ i) × (i ≤ indices o) = index-bounds o i is in
        let low : first_cell from ≤ first_cell o = first-cells from o not_before in
        let high : first_cell o + indices o ≤ first_cell to = ends-before o to not_behind in
        let k : ℕ = first_cell o + (i - 1) - first_cell from in
        let place : first_cell from + k ≡ first_cell o + (i - 1) = omega arith in
        let short : first_cell from + k < first_cell to = omega arith in
        ap (λ (n : ℕ). get_or cells n 0) (sym place)
        ∙ sym (get_or-between cells (first_cell from) (first_cell to) k 0 short)
        ∙ ap (λ (xs : List ℕ). get_or xs k 0) same
        ∙ get_or-between others (first_cell from) (first_cell to) k 0 short
        ∙ ap (λ (n : ℕ). get_or others n 0) place

pub agree-between : (cells others : List ℕ) (from to : Object) → between (first_cell from) (first_cell to) cells ≡ between (first_cell from) (first_cell to) others →
    Agree (is_between from to) (plan_in cells) (plan_in others)
agree-between cells others from to same = record { each = λ o i there. value-same cells others from to same o i there }

-- ## And back

-- the object whose cell is within the part is between the two
between-cell : (from to o : Object) (i cell : ℕ) → IsCellOf cell o i → first_cell from ≤ cell → cell < first_cell to → is_between from to o ≡ true
between-cell from to o i cell is low high =
    let bounds : (1 ≤ i) × (i ≤ indices o) = index-bounds o i is.has in
    let at : first_cell o + (i - 1) ≡ cell = is.at in
    let not_before : order from ≤ order o =
    elim (cases_lt (order o) (order from)) [
      | inl below ↦ (let step : first_cell o + indices o ≤ first_cell from = ends-before o from below in absurd (omega arith))
      | inr above ↦ above
    ] in
    let not_behind : order o < order to =
    elim (cases_lt (order o) (order to)) [
      | inl below ↦ below
      | inr above ↦ (let step : first_cell to ≤ first_cell o = first-cells to o above in absurd (omega arith))
    ] in
    grind (arith, nat_tests, not_before, not_behind)

-- a cell of the part is the same in plans that agree on the objects between the two
cell-same : (cells others : List ℕ) (from to : Object) → Agree (is_between from to) (plan_in cells) (plan_in others) →
    (cell : ℕ) → first_cell from ≤ cell → cell < first_cell to → get_or cells cell 0 ≡ get_or others cell 0
cell-same cells others from to agree cell low high =
    let top : first_cell to ≤ PLAN_CELLS = first-cell-within to in
    let within : cell < PLAN_CELLS = omega arith in
    let found : (o : Object) × ((i : ℕ) × IsCellOf cell o i) = leave_no_cell cell within in
    sym (read found.0 found.1.0 found.1.1 cells)
    ∙ agree.each found.0 found.1.0 (between-cell from to found.0 found.1.0 cell found.1.1 low high)
    ∙ read found.0 found.1.0 found.1.1 others
  where
    read : (o : Object) (i : ℕ) → IsCellOf cell o i → (xs : List ℕ) → value_in xs o i ≡ get_or xs cell 0
    read o i is xs =
        cond-true (has_index o i) (get_or xs (first_cell o + (i - 1)) 0) 0 is.has ∙ ap (λ (n : ℕ). get_or xs n 0) is.at

pub between-agree : (cells others : List ℕ) (from to : Object) → length cells ≡ PLAN_CELLS → length others ≡ PLAN_CELLS → order from ≤ order to →
    Agree (is_between from to) (plan_in cells) (plan_in others) →
    between (first_cell from) (first_cell to) cells ≡ between (first_cell from) (first_cell to) others
between-agree cells others from to full full_other before agree =
    ext_get_or 0 (between first end cells) (between first end others) (many cells full ∙ sym (many others full_other)) each
  where
    first : ℕ
    first = first_cell from

    end : ℕ
    end = first_cell to

    many : (xs : List ℕ) → length xs ≡ PLAN_CELLS → length (between first end xs) ≡ end - first
    many xs whole = length-between xs first end (let top : first_cell to ≤ PLAN_CELLS = first-cell-within to in omega (arith, top, whole))

    each : (k : ℕ) → k < length (between first end cells) → get_or (between first end cells) k 0 ≡ get_or (between first end others) k 0
    each k below =
        let size : length (between first end cells) ≡ end - first = many cells full in
        let short : first + k < end = omega (arith, below, size) in
        get_or-between cells first end k 0 short
        ∙ cell-same cells others from to agree (first + k) (omega arith) short
        ∙ sym (get_or-between others first end k 0 short)

-- ## An object of one index

-- plans agree on it where both give it the same value there
pub agree-one : (cells others : List ℕ) (one : Object) → indices one ≡ 1 → value_in cells one 1 ≡ value_in others one 1 →
    Agree (is_one one) (plan_in cells) (plan_in others)
agree-one cells others one single same =
    record { each = λ o i is. each o i (order-injective one o (grind (arith, nat_tests, is))) (has_index o i) refl }
  where
    each : (o : Object) (i : ℕ) → one ≡ o → (b : Bool) → has_index o i ≡ b → value_in cells o i ≡ value_in others o i
    each o i the false is = cond-false (has_index o i) _ 0 is ∙ sym (cond-false (has_index o i) _ 0 is)
    each o i the true is =
        let bounds : (1 ≤ i) × (i ≤ indices o) = index-bounds o i is in
        let count : indices one ≡ indices o = ap indices the in
        let at : 1 ≡ i = omega (arith, bounds.0, bounds.1, count, single) in
        subst (λ (p : Object). value_in cells p i ≡ value_in others p i) the
        (subst (λ (k : ℕ). value_in cells one k ≡ value_in others one k) at same)

pub one-agrees : (cells others : List ℕ) (one : Object) → Agree (is_one one) (plan_in cells) (plan_in others) →
    value_in cells one 1 ≡ value_in others one 1
one-agrees cells others one agree = agree.each one 1 (grind (arith, nat_tests))
