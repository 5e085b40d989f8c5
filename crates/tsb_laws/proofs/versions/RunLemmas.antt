-- Both benches after a list of inputs.
use Rattle.std.proofs.Common.{◌≡◌, ◌≢◌, ◌↔◌, ℕ, ◌<◌, true, false, List, [], ◌∷◌, map, refl, arith, sym, ◌∙◌, true≢false, ap, ap₂, subst, inl, inr}
use Rattle.std.proofs.Math.Path.{fun_ext}
use Rattle.std.proofs.lemmas.Bool.{cases_Bool}
use Rattle.std.proofs.lemmas.Bool.Decides.{nat_tests}
use Rattle.tsb_step.specs.tsb_plan.declared.object.Object.{Object}
use Rattle.tsb_step.specs.tsb_plan.declared.version.Version.TheVariants.{One}
use Rattle.tsb_step.specs.tsb_plan.Plan.{Plan, Counts, narrow_counts, is_enabled}
use Rattle.tsb_step.specs.tsb_plan.Versions.{is_in_rows, has_index_in, translated}
use Rattle.tsb_step.specs.tsb_rules.Rules.{first_broken}
use Rattle.tsb_step.specs.declared.inputs.Input.{Input}
use Rattle.tsb_step.specs.declared.inputs.Input.TheVariants.{Set}
use Rattle.tsb_step.specs.State.{State}
use Rattle.tsb_step.specs.Runs.{replay, AreTaken}
use Rattle.tsb_step.specs.Signs.{display, field, local, stage}
use Rattle.tsb_step.specs.Step.{step, verdict}
use Rattle.tsb_step.specs.Tables.{has_place}
use Rattle.tsb_laws.specs.Sizes.{AreFewer, IsOfFewer, full, full_state, IsInputOf, AreInputsOf}
use Rattle.tsb_laws.specs.Widened.{IsNarrow, is_of_version_1, narrowed, widened, widened_input, IsWithin, AreWithin, widened_state}
use Rattle.tsb_laws.specs.Versions.{SaysTheSame, RestsBeyond}
use Rattle.tsb_laws.proofs.versions.ListLemmas.{is_narrow}
use Rattle.tsb_laws.proofs.versions.PlanLemmas.{not-enabled}
use Rattle.tsb_laws.proofs.versions.CoordLemmas.{local_now-same}
use Rattle.tsb_laws.proofs.versions.TickLemmas.{IsNarrowState}
use Rattle.tsb_laws.proofs.versions.RuleLemmas.{first_broken-same}
use Rattle.tsb_laws.proofs.versions.DeskLemmas.{from-one, row_index-of, row_index-back, row_index-there, value-same, translated-row, translated-flat}
use Rattle.tsb_laws.proofs.versions.StepLemmas.{shows-same, fields-same, step-same, step-narrow, start-narrow}
use Rattle.tsb_laws.proofs.versions.RefusalLemmas.{verdict-same, wide-range}
use Rattle.tsb_laws.proofs.sizes.RuleLemmas as sizes
use Rattle.tsb_laws.proofs.sizes.RunLemmas.{states_same, refuse_the_same, local-same}
use Rattle.tsb_laws.proofs.sizes.TickLemmas.{display-same, field-same}

-- ## The wide plan

-- nothing is at an index that none is translated to
nothing-elsewhere : (narrow : Plan) (o : Object) (k : ℕ) → IsNarrow narrow →
    ((i : ℕ) → has_index_in One o i ≡ true → translated One o i ≢ k) → (widened narrow).value o k ≡ 0
nothing-elsewhere narrow o k is other =
    elim (cases_Bool (is_in_rows o)) [
      | inr flat ↦ rw flat (is.placed o k (not-at k (translated-flat o k flat)))
      | inl rows ↦ elim (cases_Bool (is_of_version_1 k)) [
        | inr out ↦ rw (rows, out) refl
        | inl at ↦ rw (rows, at) (is.placed o (narrowed k) (not-at (narrowed k) (translated-row o (narrowed k) rows ∙ row_index-there k at)))
      ]
    ]
  where
    not-at : (i : ℕ) → translated One o i ≡ k → has_index_in One o i ≡ false
    not-at i e =
        elim (cases_Bool (has_index_in One o i)) [
          | inr out ↦ out
          | inl has ↦ absurd (other i has e)
        ]

widened-says : (narrow : Plan) → IsNarrow narrow → SaysTheSame narrow (full (widened narrow))
widened-says narrow is = record {
  phase_count = refl;
  side_count = refl;
  counts = refl;
  there = λ o i has. value-same narrow o i (from-one o i has);
  elsewhere = λ o k other. nothing-elsewhere narrow o k is other;
}

-- both plans have the same where they have nothing
same-nothing : (narrow wide : Plan) (o : Object) (k : ℕ) → IsNarrow narrow → SaysTheSame narrow wide →
    ((i : ℕ) → has_index_in One o i ≡ true → translated One o i ≢ k) → wide.value o k ≡ (widened narrow).value o k
same-nothing narrow wide o k is says other = says.elsewhere o k other ∙ sym (nothing-elsewhere narrow o k is other)

-- and where they have what the narrow plan has at index i
same-at : (narrow wide : Plan) (o : Object) (k i : ℕ) → IsNarrow narrow → SaysTheSame narrow wide → translated One o i ≡ k →
    ((j : ℕ) → has_index_in One o j ≡ true → translated One o j ≡ k → j ≡ i) → wide.value o k ≡ (widened narrow).value o k
same-at narrow wide o k i is says e alone =
    elim (cases_Bool (has_index_in One o i)) [
      | inl has ↦ sym (ap (wide.value o) e) ∙ says.there o i has ∙ sym (value-same narrow o i (from-one o i has)) ∙ ap ((widened narrow).value o) e
      | inr out ↦ same-nothing narrow wide o k is says
          (λ j has f. true≢false (sym (subst (λ n. has_index_in One o n ≡ true) (alone j has f) has) ∙ out))
    ]

same-value : (narrow wide : Plan) (o : Object) (k : ℕ) → IsNarrow narrow → SaysTheSame narrow wide → wide.value o k ≡ (widened narrow).value o k
same-value narrow wide o k is says =
    elim (cases_Bool (is_in_rows o)) [
      | inr flat ↦ same-at narrow wide o k k is says (translated-flat o k flat) (λ j has f. sym (translated-flat o j flat) ∙ f)
      | inl rows ↦ elim (cases_Bool (is_of_version_1 k)) [
        | inl at ↦ same-at narrow wide o k (narrowed k) is says (translated-row o (narrowed k) rows ∙ row_index-there k at)
            (λ j has f. sym (row_index-back j (from-one o j has)) ∙ ap narrowed (sym (translated-row o j rows) ∙ f))
        | inr out ↦ same-nothing narrow wide o k is says
            (λ i has e. true≢false (sym (subst (λ n. is_of_version_1 n ≡ true) (sym (translated-row o i rows) ∙ e) (row_index-of i)) ∙ out))
      ]
    ]

pub wide_plans : (narrow wide : Plan) → IsNarrow narrow → SaysTheSame narrow wide ↔ (wide ≡ full (widened narrow))
wide_plans narrow wide is = (to, from)
  where
    plan-of : ℕ → ℕ → Counts → (Object → ℕ → ℕ) → Plan
    plan-of n d counts value = record { phase_count = n; side_count = d; counts = counts; value = value }

    to : SaysTheSame narrow wide → wide ≡ full (widened narrow)
    to says =
        ap₂ (λ (n d : ℕ). plan-of n d wide.counts wide.value) says.phase_count says.side_count
        ∙ ap₂ (λ (counts : Counts) (value : Object → ℕ → ℕ). plan-of 16 4 counts value) says.counts
        (fun_ext (λ o. fun_ext (λ k. same-value narrow wide o k is says)))

    from : wide ≡ full (widened narrow) → SaysTheSame narrow wide
    from e = subst (λ (q : Plan). SaysTheSame narrow q) (sym e) (widened-says narrow is)

-- ## The plan of 16 phases and 4 sides with the detectors, overlaps and preempts of version 1

narrow-fewer : AreFewer narrow_counts
narrow-fewer = record { vehicle_detectors = omega arith; pedestrian_detectors = omega arith; overlaps = omega arith; preempts = omega arith }

-- what version 1 has an index for has a place there
place-there : (narrow : Plan) (o : Object) (i : ℕ) → IsNarrow narrow → has_index_in One o i ≡ true → has_place (widened narrow) o (translated One o i) ≡ true
place-there narrow o i is has = rw is.counts (wide-range o i has)

few-there : (narrow : Plan) → IsNarrow narrow → IsOfFewer (widened narrow)
few-there narrow is = record {
  fewer = subst AreFewer (sym is.counts) narrow-fewer;
  placed = λ o k out. nothing-elsewhere narrow o k is (λ i has e. true≢false (sym (ap (has_place (widened narrow) o) (sym e) ∙ place-there narrow o i is has) ∙ out));
}

input-there : (narrow : Plan) (i : Input) → IsNarrow narrow → IsWithin i → IsInputOf (widened narrow) (widened_input i)
input-there narrow (Set station id v) is low = place-there narrow id.object id.index is low.placed
input-there narrow i is low = tt

inputs-there : (narrow : Plan) (is : List Input) → IsNarrow narrow → AreWithin is → AreInputsOf (widened narrow) (map widened_input is)
inputs-there narrow [] plan within = tt
inputs-there narrow (i ∷ is) plan within = (input-there narrow i plan within.0, inputs-there narrow is plan within.1)

pub break_the_same_rule : (narrow wide : Plan) → IsNarrow narrow → SaysTheSame narrow wide → first_broken wide ≡ first_broken narrow
break_the_same_rule narrow wide is says =
    ap first_broken ((wide_plans narrow wide is).0 says) ∙ sizes.first_broken-same (widened narrow) (few-there narrow is) ∙ first_broken-same narrow is

-- ## Runs

narrow-run : (plan : Plan) (is : List Input) → IsNarrow plan → AreWithin is → IsNarrowState (replay plan is)
narrow-run plan [] narrow within = start-narrow plan narrow
narrow-run plan (i ∷ is) narrow within = step-narrow (replay plan is) i (narrow-run plan is narrow within.1) within.0

same-run : (plan : Plan) (is : List Input) → IsNarrow plan → AreWithin is →
    replay (widened plan) (map widened_input is) ≡ widened_state (replay plan is)
same-run plan [] narrow within = refl
same-run plan (i ∷ is) narrow within =
    ap (λ (s : State). step s (widened_input i)) (same-run plan is narrow within.1)
    ∙ step-same (replay plan is) i (narrow-run plan is narrow within.1) within.0

pub states_agree : (narrow wide : Plan) (is : List Input) → IsNarrow narrow → SaysTheSame narrow wide → AreWithin is →
    replay wide (map widened_input is) ≡ full_state (widened_state (replay narrow is))
states_agree narrow wide is plan says within =
    ap (λ (q : Plan). replay q (map widened_input is)) ((wide_plans narrow wide plan).0 says)
    ∙ states_same (widened narrow) (map widened_input is) (few-there narrow plan) (inputs-there narrow is plan within)
    ∙ ap full_state (same-run narrow is plan within)

pub heads_agree : (narrow wide : Plan) (is : List Input) → IsNarrow narrow → SaysTheSame narrow wide → AreWithin is →
    display (replay wide (map widened_input is)) ≡ display (replay narrow is)
heads_agree narrow wide is plan says within =
    ap display (states_agree narrow wide is plan says within) ∙ display-same (widened_state (replay narrow is))
    ∙ shows-same (replay narrow is) (narrow-run narrow is plan within).plan

pub fields_agree : (narrow wide : Plan) (is : List Input) → IsNarrow narrow → SaysTheSame narrow wide → AreWithin is →
    field (replay wide (map widened_input is)) ≡ field (replay narrow is)
fields_agree narrow wide is plan says within =
    ap field (states_agree narrow wide is plan says within) ∙ field-same (widened_state (replay narrow is))
    ∙ fields-same (replay narrow is) (narrow-run narrow is plan within).plan

pub counters_agree : (narrow wide : Plan) (is : List Input) → IsNarrow narrow → SaysTheSame narrow wide → AreWithin is →
    local (replay wide (map widened_input is)) ≡ local (replay narrow is)
counters_agree narrow wide is plan says within =
    ap (λ (s : State). local s) (states_agree narrow wide is plan says within) ∙ local-same (widened_state (replay narrow is))
    ∙ local_now-same (replay narrow is).plan (replay narrow is).pattern (replay narrow is).correction (replay narrow is).now (narrow-run narrow is plan within).plan

pub stages_agree : (narrow wide : Plan) (is : List Input) → IsNarrow narrow → SaysTheSame narrow wide → AreWithin is →
    stage (replay wide (map widened_input is)) ≡ stage (replay narrow is)
stages_agree narrow wide is plan says within = ap (λ (s : State). stage s) (states_agree narrow wide is plan says within)

pub refusals_agree : (i : Input) → IsWithin i → (narrow wide : Plan) (is : List Input) → IsNarrow narrow → SaysTheSame narrow wide →
    AreWithin is → verdict (replay wide (map widened_input is)) (widened_input i) ≡ verdict (replay narrow is) i
refusals_agree i low narrow wide is plan says within =
    ap (λ (q : Plan). verdict (replay q (map widened_input is)) (widened_input i)) ((wide_plans narrow wide plan).0 says)
    ∙ refuse_the_same (widened narrow) (map widened_input is) (few-there narrow plan) (inputs-there narrow is plan within) (widened_input i)
    (input-there narrow i plan low)
    ∙ ap (λ (s : State). verdict s (widened_input i)) (same-run narrow is plan within)
    ∙ verdict-same (replay narrow is) i (narrow-run narrow is plan within) low

take : (narrow wide : Plan) (is : List Input) → IsNarrow narrow → SaysTheSame narrow wide → AreWithin is →
    AreTaken narrow is → AreTaken wide (map widened_input is)
take narrow wide [] plan says within taken = tt
take narrow wide (i ∷ is) plan says within taken =
    (take narrow wide is plan says within.1 taken.0, refusals_agree i within.0 narrow wide is plan says within.1 ∙ taken.1)

take_back : (narrow wide : Plan) (is : List Input) → IsNarrow narrow → SaysTheSame narrow wide → AreWithin is →
    AreTaken wide (map widened_input is) → AreTaken narrow is
take_back narrow wide [] plan says within taken = tt
take_back narrow wide (i ∷ is) plan says within taken =
    (take_back narrow wide is plan says within.1 taken.0, sym (refusals_agree i within.0 narrow wide is plan says within.1) ∙ taken.1)

pub take_the_same : (narrow wide : Plan) (is : List Input) → IsNarrow narrow → SaysTheSame narrow wide → AreWithin is →
    AreTaken narrow is ↔ AreTaken wide (map widened_input is)
take_the_same narrow wide is plan says within = (take narrow wide is plan says within, take_back narrow wide is plan says within)

pub others_rest : (p : ℕ) → 8 < p → (narrow wide : Plan) (is : List Input) → IsNarrow narrow → SaysTheSame narrow wide →
    AreWithin is → RestsBeyond wide (map widened_input is) p
others_rest p beyond narrow wide is plan says within =
    let out : is_narrow p ≡ false = grind (arith, nat_tests) in
    let run : IsNarrowState (replay narrow is) = narrow-run narrow is plan within in
    record {
      disabled = ap (λ (s : State). is_enabled s.plan p) (states_agree narrow wide is plan says within) ∙ not-enabled (replay narrow is).plan p run.plan out;
      resting = ap (λ (s : State). s.phases p) (states_agree narrow wide is plan says within) ∙ run.resting p out;
    }
