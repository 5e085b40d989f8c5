-- The line of a plan is read as that plan.
use Rattle.std.proofs.Common.{◌≡◌, ◌∙◌, ℕ, ◌≤◌, ◌==◌, nat_le, true, false, List, length, nat_lt, Some, None, option_map, Result, Ok, refl, sym, ap, arith, inl, inr}
use Rattle.std.proofs.lemmas.Bool.{and_from, cases_Bool, eqb-true, false≢true, le-leb, le-ltb}
use Rattle.std.proofs.lemmas.Bool.Decides.{nat_tests}
use Rattle.std.proofs.lemmas.Option.{same_Some}
use Rattle.serde_json.specs.Data.{object}
use Rattle.serde_json.specs.Read.{read}
use Rattle.tsb_objects.specs.tsb_rules.Rules.{first_broken}
use Rattle.tsb_plan.specs.declared.object.Object.{Object}
use Rattle.tsb_plan.specs.declared.version.Version.{Version}
use Rattle.tsb_plan.specs.declared.version.Version.TheVariants.{One, Two, Three}
use Rattle.tsb_plan.specs.Objects.{has_index, indices}
use Rattle.tsb_plan.specs.Plan.{Plan, empty}
use Rattle.tsb_plan.specs.Versions.{has_index_in, indices_in, number_of}
use Rattle.tsb_plan.specs.VersionLaws.{TranslateApart}
use Rattle.tsb_plan_text.proofs.RiseLemmas.{read_all_rise}
use Rattle.tsb_plan_text.proofs.SaysLemmas.{says_these}
use Rattle.tsb_plan_text.proofs.TextLemmas.{some_data}
use Rattle.tsb_plan_text.specs.PlanErrors.{Error}
use Rattle.tsb_plan_text.specs.PlanText.{limit, data_of, data_plan, checked, reading, version_in, version_numbered}
use Rattle.tsb_status_text.specs.Laws.{IsWhole, TellPlansApart}
use Rattle.tsb_status_text.specs.PlanLine.{plan_text, version_for}
use Rattle.tsb_status_text.proofs.AcceptLemmas.{IsAsInPlan, members_accepted, plan_good, version-as-in-plan, version-has-all}
use Rattle.tsb_status_text.proofs.FoundLemmas.{plan_data, plan_members, value_there, version_there}
use Rattle.tsb_status_text.proofs.JsonLemmas.{AreSmall, read_text, text_short, text_utf8}
use Rattle.tsb_status_text.proofs.TextLemmas.{greatest_small}

small : (plan : Plan) → IsWhole plan → AreSmall plan
small plan whole = λ o i. omega (arith, whole.ranged o i, greatest_small o)

-- plans that say the same are the same
same_plan : (a b : Plan) → a.phase_count ≡ b.phase_count → a.side_count ≡ b.side_count → a.counts ≡ b.counts → ((o : Object) (i : ℕ) → a.value o i ≡ b.value o i) → a ≡ b
same_plan a b phases sides counts values = λ i. record {
  phase_count = phases i;
  side_count = sides i;
  counts = counts i;
  value = λ o k. values o k i;
}

text_data : (plan : Plan) → IsWhole plan → read (plan_text plan) ≡ Some (object (plan_members plan))
text_data plan whole = read_text plan (small plan whole) ∙ plan_data plan (small plan whole)

-- a version is found by its number
numbered : (v : Version) → version_numbered (number_of v) ≡ Some v
numbered One = refl
numbered Two = refl
numbered Three = refl

-- an index that the version has is one of the plan
in_plan : (v : Version) → IsAsInPlan v → (o : Object) (i : ℕ) → has_index_in v o i ≡ true → has_index o i ≡ true
in_plan v its o i has =
    let from : 1 ≤ i = grind (arith, nat_tests, has) in
    let to : i ≤ indices_in v o = grind (arith, nat_tests, has) in
    and_from (nat_le 1 i) _ (le-leb 1 i from) (le-leb i (indices o) (omega (arith, to, its.within o)))

-- at an index that the version has not the plan is 0
zero_elsewhere : (plan : Plan) → IsWhole plan → (o : Object) (i : ℕ) → has_index_in (version_for plan) o i ≡ false → plan.value o i ≡ 0
zero_elsewhere plan whole o i hasnt = elim (cases_Bool (has_index o i)) [
  | inr out ↦ whole.elsewhere o i out
  | inl has ↦ elim (cases_Bool (plan.value o i == 0)) [
    | inl zero_is ↦ eqb-true (plan.value o i) 0 zero_is
    | inr other ↦ absurd (false≢true (sym hasnt ∙ (version-has-all plan whole.ranged o i (grind (arith, nat_tests, has)) (grind (arith, nat_tests, has)) other).0))
  ]
]

-- the plan that its members give
pub data_back : TranslateApart → (plan : Plan) → IsWhole plan → data_plan (object (plan_members plan)) ≡ Ok plan
unfolding data_plan
data_back apart plan whole =
    let ms = plan_members plan in
    let fits = small plan whole in
    let v = version_for plan in
    let its = version-as-in-plan plan in
    let made = members_accepted v its ms empty (plan_good plan fits whole.ranged) in
    let rises = read_all_rise (plan_text plan) (object ms) (text_data plan whole) ms refl in
    let says = says_these apart v ms made.plan rises made.is in
    let values : (o : Object) (i : ℕ) → made.plan.value o i ≡ plan.value o i = λ o i. elim (cases_Bool (has_index_in v o i)) [
      | inl has ↦ ap (made.plan.value o) (sym (its.at o i)) ∙ says.there o i has ∙ value_there plan fits o i (in_plan v its o i has)
      | inr none ↦
          says.elsewhere o i (λ k at same. false≢true (sym none ∙ ap (has_index_in v o) (sym same ∙ its.at o k) ∙ at))
          ∙ sym (zero_elsewhere plan whole o i none)
    ] in
    let same : made.plan ≡ plan =
    same_plan made.plan plan (made.phases ∙ sym whole.phases) (made.sides ∙ sym whole.sides) (made.counts ∙ sym whole.counts) values in
    let version : version_in ms ≡ Some v = rw (version_there plan) (numbered v) in
    rw version (made.is ∙ ap Ok same)

pub read_back : TranslateApart → (plan : Plan) → IsWhole plan → first_broken plan ≡ None → reading (plan_text plan) ≡ Ok plan
unfolding reading checked
read_back apart plan whole sound =
    let short : nat_lt limit (length (plan_text plan)) ≡ false = le-ltb limit (length (plan_text plan)) (text_short plan (small plan whole)) in
    let parsed : data_of (plan_text plan) ≡ Some (object (plan_members plan)) =
    some_data (plan_text plan) (object (plan_members plan)) (text_utf8 plan (small plan whole)) (text_data plan whole) in
    rw (short, parsed, data_back apart plan whole, sound) refl

same_Ok : (a b : Plan) (r : Result Plan Error) → r ≡ Ok a → r ≡ Ok b → a ≡ b
same_Ok a b r first second = grind (arith, first, second)

pub told_apart : TranslateApart → TellPlansApart
told_apart apart plan other whole others same =
    let text : (p : Plan) → IsWhole p → option_map data_plan (read (plan_text p)) ≡ Some (Ok p) = λ p h. ap (option_map data_plan) (text_data p h) ∙ ap Some (data_back apart p h) in
    same_Ok plan other (Ok plan) refl (same_Some (Ok plan) (Ok other) (sym (text plan whole) ∙ ap (λ (t : List ℕ). option_map data_plan (read t)) same ∙ text other others))
