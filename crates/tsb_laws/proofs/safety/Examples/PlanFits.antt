-- Plans that are given by their values: such a plan gives nothing where it has no place, and no value over a limit of its
-- object.
use Rattle.std.proofs.Common.{◌≡◌, ℕ, ◌≤◌, nat_le, Bool, true, false, ◌&&◌, if◌then◌else◌, List, [], ◌∷◌, None, refl, sym, ap, ap₂, subst, arith, ◌∙◌}
use Rattle.std.specs.List.{list_all}
use Rattle.std.proofs.lemmas.Bool.{and_parts, leb-true, true≢false}
use Rattle.tsb_step.specs.tsb_plan.declared.object.Object.{Object}
use Rattle.tsb_step.specs.tsb_plan.declared.object.Object.TheVariants.{PreemptChoosesAnew}
use Rattle.tsb_step.specs.tsb_plan.Objects.{has_index, greatest}
use Rattle.tsb_step.specs.tsb_plan.Plan.{Plan, Counts, all_counts, empty, is_same, with_value, with_values}
use Rattle.tsb_step.specs.tsb_plan.Quad.{row, with_rows, quad_rows, quad_values, quad}
use Rattle.tsb_step.proofs.tsb_plan.TableLemmas.{order-injective}
use Rattle.tsb_step.proofs.tsb_plan.PlanLemmas.{same-parts}
use Rattle.tsb_step.specs.tsb_rules.Rules.{first_broken}
use Rattle.tsb_step.specs.Laws.{IsConsistent}
use Rattle.tsb_step.specs.Tables.{has_place, indices_for}
use Rattle.tsb_step.proofs.PlaceLemmas.{same_indices}
use Rattle.tsb_step.proofs.Examples.Scenes.{opened}

-- at an index that an object has not its value is 0, and no value is over the object's limit
pub record Fits (limit : Object → ℕ) (value : Object → ℕ → ℕ) : Type 0 where
  pub none : (o : Object) (i : ℕ) → has_index o i ≡ false → value o i ≡ 0
  pub bounded : (o : Object) (i : ℕ) → value o i ≤ limit o

-- the limits of a plan in which no preempt chooses anew
abbrev pub no_choice : Object → ℕ
no_choice PreemptChoosesAnew = 0
no_choice o = greatest o

-- the object of an entry has its index, and its limit allows the value
abbrev pub keeps : (Object → ℕ) → Object × ℕ × ℕ → Bool
keeps limit e = has_index e.0 e.1 && nat_le e.2 (limit e.0)

abbrev pub row_keeps : (Object → ℕ) → Object × List ℕ → Bool
row_keeps limit e = list_all (keeps limit) (row e.0 1 e.1)

pub values_fit : (limit : Object → ℕ) (es : List (Object × ℕ × ℕ)) (base : Plan) → list_all (keeps limit) es ≡ true → Fits limit base.value →
    Fits limit (with_values base es).value
values_fit limit [] base all ok = ok
values_fit limit (e ∷ es) base all ok =
    let both : (keeps limit e ≡ true) × (list_all (keeps limit) es ≡ true) = and_parts (keeps limit e) (list_all (keeps limit) es) all in
    let own : (has_index e.0 e.1 ≡ true) × (nat_le e.2 (limit e.0) ≡ true) = and_parts (has_index e.0 e.1) (nat_le e.2 (limit e.0)) both.0 in
    values_fit limit es (with_value base e.0 e.1 e.2) both.1 (record {
      none = λ o i out. none own.0 o i out (is_same e.0 e.1 o i) refl;
      bounded = λ o i. most own.1 o i (is_same e.0 e.1 o i) refl;
    })
  where
    none : has_index e.0 e.1 ≡ true → (o : Object) (i : ℕ) → has_index o i ≡ false → (b : Bool) → is_same e.0 e.1 o i ≡ b →
        (if b then e.2 else base.value o i) ≡ 0
    none has o i out true it =
        let same = same-parts e.0 o e.1 i it in
        absurd (true≢false (sym has ∙ ap₂ has_index (order-injective e.0 o same.0) same.1 ∙ out))
    none has o i out false it = ok.none o i out

    most : nat_le e.2 (limit e.0) ≡ true → (o : Object) (i : ℕ) → (b : Bool) → is_same e.0 e.1 o i ≡ b → (if b then e.2 else base.value o i) ≤ limit o
    most few o i true it = subst (λ (q : Object). e.2 ≤ limit q) (order-injective e.0 o (same-parts e.0 o e.1 i it).0) (leb-true e.2 (limit e.0) few)
    most few o i false it = ok.bounded o i

rows_fit : (limit : Object → ℕ) (rows : List (Object × List ℕ)) (base : Plan) → list_all (row_keeps limit) rows ≡ true → Fits limit base.value →
    Fits limit (with_rows base rows).value
rows_fit limit [] base all ok = ok
rows_fit limit (e ∷ es) base all ok =
    let both : (row_keeps limit e ≡ true) × (list_all (row_keeps limit) es ≡ true) = and_parts (row_keeps limit e) (list_all (row_keeps limit) es) all in
    rows_fit limit es (with_values base (row e.0 1 e.1)) both.1 (values_fit limit (row e.0 1 e.1) base both.0 ok)

-- the built-in plan of eight phases
pub quad_fits : (limit : Object → ℕ) → list_all (row_keeps limit) quad_rows ≡ true → list_all (keeps limit) quad_values ≡ true → Fits limit quad.value
unfolding quad
quad_fits limit rows values =
    values_fit limit quad_values (with_rows empty quad_rows) values
    (rows_fit limit quad_rows empty rows (record { none = λ o i out. refl; bounded = λ o i. omega arith }))

-- a plan of 16 phases that fits and breaks no rule is one of those that the laws of runs speak of
pub consistent : (limit : Object → ℕ) (plan : Plan) → (plan.phase_count ≡ 16) × (plan.counts ≡ all_counts) → first_broken plan ≡ None → Fits limit plan.value → IsConsistent plan
consistent limit plan count rules fits = record {
  rules = rules;
  placed = λ o i out. fits.none o i (sym (ap (λ (n : ℕ). nat_le 1 i && nat_le i n) (same_indices o)) ∙ sym (here o i) ∙ out);
}
  where
    here : (o : Object) (i : ℕ) → has_place plan o i ≡ (nat_le 1 i && nat_le i (indices_for 16 all_counts o))
    here o i = ap₂ (λ (n : ℕ) (c : Counts). nat_le 1 i && nat_le i (indices_for n c o)) count.0 count.1

-- ## The built-in plan

pub quad_count : (quad.phase_count ≡ 16) × (quad.counts ≡ all_counts)
unfolding quad
quad_count = (refl, refl)

-- it breaks no rule
pub quad_breaks_none : first_broken quad ≡ None
unfolding opened
quad_breaks_none = refl

pub quad_consistent : IsConsistent quad
quad_consistent = consistent greatest quad quad_count quad_breaks_none (quad_fits greatest refl refl)
