-- Values of version 1 that are put in turn, and the built-in plans.
use Rattle.std.proofs.Common.{◌≡◌, ℕ, nat_le, Bool, true, ◌&&◌, List, [], ◌∷◌, refl, arith, sym, ◌∙◌, ap, inl, inr}
use Rattle.std.specs.List.{list_all}
use Rattle.std.proofs.Math.Path.{fun_ext}
use Rattle.std.proofs.lemmas.Bool.{cases_Bool, and_parts}
use Rattle.std.proofs.lemmas.Bool.Decides.{nat_tests}
use Rattle.tsb_step.specs.tsb_plan.declared.object.Object.{Object}
use Rattle.tsb_step.specs.tsb_plan.declared.version.Version.TheVariants.{One}
use Rattle.tsb_step.specs.tsb_plan.Plan.{Plan, all_counts, empty, with_value, with_values}
use Rattle.tsb_step.specs.tsb_plan.Quad.{quad, quad_rows, quad_values, row, with_rows}
use Rattle.tsb_step.specs.tsb_plan.Two.{two, two_values}
use Rattle.tsb_step.specs.tsb_plan.Versions.{is_in_rows, has_index_in, greatest_in}
use Rattle.tsb_laws.specs.Sizes.{full}
use Rattle.tsb_laws.specs.Widened.{IsNarrow, is_of_version_1, widened_value, widened}
use Rattle.tsb_laws.specs.BuiltIn.{narrow_empty, AreValues, widened_puts, narrow_two, narrow_quad, narrow_quad_values}
use Rattle.tsb_laws.specs.Versions.{IsWideOf}
use Rattle.tsb_laws.proofs.versions.DeskLemmas.{from-one, with_value-same, put-narrow}

-- ## Values in turn

values-narrow : (plan : Plan) (es : List (Object × ℕ × ℕ)) → IsNarrow plan → AreValues es → IsNarrow (with_values plan es)
values-narrow plan [] narrow are = narrow
values-narrow plan (e ∷ es) narrow are =
    values-narrow (with_value plan e.0 e.1 e.2) es (put-narrow plan e.0 e.1 e.2 narrow are.0.placed are.0.bounded) are.1

values-wide : (plan : Plan) (es : List (Object × ℕ × ℕ)) → AreValues es → with_values (widened plan) (widened_puts es) ≡ widened (with_values plan es)
values-wide plan [] are = refl
values-wide plan (e ∷ es) are =
    ap (λ (q : Plan). with_values q (widened_puts es)) (with_value-same plan e.0 e.1 e.2 (from-one e.0 e.1 are.0.placed))
    ∙ values-wide (with_value plan e.0 e.1 e.2) es are.1

-- with more detectors, overlaps and preempts the same values are put
values-full : (plan : Plan) (es : List (Object × ℕ × ℕ)) → with_values (full plan) es ≡ full (with_values plan es)
values-full plan [] = refl
values-full plan (e ∷ es) = values-full (with_value plan e.0 e.1 e.2) es

rows-full : (plan : Plan) (rows : List (Object × List ℕ)) → with_rows (full plan) rows ≡ full (with_rows plan rows)
rows-full plan [] = refl
rows-full plan (e ∷ es) = ap (λ (q : Plan). with_rows q es) (values-full plan (row e.0 1 e.1)) ∙ rows-full (with_values plan (row e.0 1 e.1)) es

empty-narrow : IsNarrow narrow_empty
empty-narrow = record { phase_count = refl; side_count = refl; counts = refl; placed = λ o i out. refl; bounded = λ o i. omega arith }

no-value : (o : Object) (k : ℕ) → widened_value (λ p i. 0) o k ≡ 0
no-value o k =
    elim (cases_Bool (is_in_rows o)) [
      | inr flat ↦ rw flat refl
      | inl rows ↦ elim (cases_Bool (is_of_version_1 k)) [
        | inl at ↦ rw (rows, at) refl
        | inr out ↦ rw (rows, out) refl
      ]
    ]

empty-wide : full (widened narrow_empty) ≡ empty
empty-wide = ap made (fun_ext (λ o. fun_ext (λ k. no-value o k)))
  where
    made : (Object → ℕ → ℕ) → Plan
    made value = record { phase_count = 16; side_count = 4; counts = all_counts; value = value }

pub puts_make_narrow_plans : (es : List (Object × ℕ × ℕ)) → AreValues es → IsNarrow (with_values narrow_empty es)
puts_make_narrow_plans es are = values-narrow narrow_empty es empty-narrow are

pub puts_make_wide_plans : (es : List (Object × ℕ × ℕ)) → AreValues es → with_values empty (widened_puts es) ≡ full (widened (with_values narrow_empty es))
puts_make_wide_plans es are =
    ap (λ (q : Plan). with_values q (widened_puts es)) (sym empty-wide) ∙ values-full (widened narrow_empty) (widened_puts es)
    ∙ ap full (values-wide narrow_empty es are)

-- ## The built-in plans

abbrev fits : Object × ℕ × ℕ → Bool
fits e = has_index_in One e.0 e.1 && nat_le e.2 (greatest_in One e.0)

values-fit : (es : List (Object × ℕ × ℕ)) → list_all fits es ≡ true → AreValues es
values-fit [] all = tt
values-fit (e ∷ es) all =
    let both : (fits e ≡ true) × (list_all fits es ≡ true) = and_parts (fits e) (list_all fits es) all in
    let parts : (has_index_in One e.0 e.1 ≡ true) × (nat_le e.2 (greatest_in One e.0) ≡ true) = and_parts (has_index_in One e.0 e.1) _ both.0 in
    (record { placed = parts.0; bounded = grind (arith, nat_tests, parts.1) }, values-fit es both.1)

pub two_is_wide : IsWideOf narrow_two two
unfolding two narrow_two
two_is_wide = record {
  is_narrow = puts_make_narrow_plans two_values (values-fit two_values refl);
  is_wide = puts_make_wide_plans two_values (values-fit two_values refl);
}

-- rows at the same indices in both versions
AreFlat : List (Object × List ℕ) → Type 0
AreFlat [] = Unit {0}
AreFlat (e ∷ es) = (list_all fits (row e.0 1 e.1) ≡ true) × (widened_puts (row e.0 1 e.1) ≡ row e.0 1 e.1) × AreFlat es

quad-flat : AreFlat quad_rows
unfolding AreFlat
quad-flat = (
  refl,
  refl,
  (
    refl,
    refl,
    (
      refl,
      refl,
      (
        refl,
        refl,
        (
          refl,
          refl,
          (
            refl,
            refl,
            (
              refl,
              refl,
              (
                refl,
                refl,
                (
                  refl,
                  refl,
                  (
                    refl,
                    refl,
                    (refl, refl, (refl, refl, (refl, refl, (refl, refl, (refl, refl, (refl, refl, (refl, refl, (refl, refl, (refl, refl, (refl, refl, tt)))))))))),
                  ),
                ),
              ),
            ),
          ),
        ),
      ),
    ),
  ),
)

rows-narrow : (plan : Plan) (rows : List (Object × List ℕ)) → IsNarrow plan → AreFlat rows → IsNarrow (with_rows plan rows)
unfolding AreFlat
rows-narrow plan [] narrow flat = narrow
rows-narrow plan (e ∷ es) narrow flat =
    rows-narrow (with_values plan (row e.0 1 e.1)) es (values-narrow plan (row e.0 1 e.1) narrow (values-fit (row e.0 1 e.1) flat.0)) flat.2

rows-wide : (plan : Plan) (rows : List (Object × List ℕ)) → AreFlat rows → with_rows (widened plan) rows ≡ widened (with_rows plan rows)
unfolding AreFlat
rows-wide plan [] flat = refl
rows-wide plan (e ∷ es) flat =
    ap (λ (q : Plan). with_rows q es)
    (ap (with_values (widened plan)) (sym flat.1) ∙ values-wide plan (row e.0 1 e.1) (values-fit (row e.0 1 e.1) flat.0))
    ∙ rows-wide (with_values plan (row e.0 1 e.1)) es flat.2

pub quad_is_wide : IsWideOf narrow_quad quad
unfolding quad narrow_quad
quad_is_wide = record {
  is_narrow = values-narrow (with_rows narrow_empty quad_rows) narrow_quad_values (rows-narrow narrow_empty quad_rows empty-narrow quad-flat)
      (values-fit narrow_quad_values refl);
  is_wide =
      ap (λ (q : Plan). with_values q quad_values)
      (ap (λ (q : Plan). with_rows q quad_rows) (sym empty-wide) ∙ rows-full (widened narrow_empty) quad_rows
      ∙ ap full (rows-wide narrow_empty quad_rows quad-flat))
      ∙ values-full (widened (with_rows narrow_empty quad_rows)) quad_values
      ∙ ap full (values-wide (with_rows narrow_empty quad_rows) narrow_quad_values (values-fit narrow_quad_values refl));
}
