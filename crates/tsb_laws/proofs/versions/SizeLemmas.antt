-- The plan of a text of version 2 is one of fewer detectors, overlaps and preempts.
use Rattle.std.proofs.Common.{◌≡◌, ◌↔◌, ℕ, nat_le, true, false, ◌&&◌, List, Ok, refl, sym, ◌∙◌, ap, subst, arith, true≢false}
use Rattle.std.proofs.lemmas.Bool.{and_parts}
use Rattle.serde_json.specs.Data.{Members}
use Rattle.tsb_step.specs.tsb_plan.declared.object.Object.{Object}
use Rattle.tsb_step.specs.tsb_plan.declared.object.Object.TheVariants.{PedestrianDetectorCallPhase}
use Rattle.tsb_step.specs.tsb_plan.declared.version.Version.TheVariants.{Two}
use Rattle.tsb_step.specs.tsb_plan.Plan.{Plan, Counts, narrow_counts}
use Rattle.tsb_step.specs.tsb_plan.Versions.{has_object, has_index_in, indices_in}
use Rattle.tsb_step.specs.declared.inputs.Input.{Input}
use Rattle.tsb_step.specs.Runs.{replay, AreTaken}
use Rattle.tsb_step.specs.Signs.{display}
use Rattle.tsb_step.specs.Tables.{indices_for, has_place}
use Rattle.tsb_plan_text.specs.PlanText.{reading}
use Rattle.tsb_laws.specs.Sizes.{IsOfFewer, AreInputsOf, full, full_state}
use Rattle.tsb_laws.specs.Texts.{IsOfVersion, GoesAsInVersion2, in_version_2}
use Rattle.tsb_laws.proofs.sizes.RunLemmas.{states_same, show_the_same, take_the_same}
use Rattle.tsb_laws.proofs.versions.TextLemmas.{IsReadIn, read-in}

-- with 16 phases and the counts of version 2 an object has the indices of version 2
two-table : (o : Object) → indices_for 16 narrow_counts o ≡ indices_in Two o
two-table PedestrianDetectorCallPhase = refl
two-table o = refl

no-place : (plan : Plan) (o : Object) (i k : ℕ) → plan.phase_count ≡ 16 → has_place (in_version_2 plan) o i ≡ false → has_index_in Two o k ≡ true → k ≡ i → ⊥
no-place plan o i k phases out has same =
    let within : (nat_le 1 k && nat_le k (indices_in Two o)) ≡ true = (and_parts (has_object Two o) (nat_le 1 k && nat_le k (indices_in Two o)) has).1 in
    let here : (nat_le 1 i && nat_le i (indices_in Two o)) ≡ true = subst (λ (j : ℕ). (nat_le 1 j && nat_le j (indices_in Two o)) ≡ true) same within in
    let there : (nat_le 1 i && nat_le i (indices_for 16 narrow_counts o)) ≡ true =
    subst (λ (n : ℕ). (nat_le 1 i && nat_le i n) ≡ true) (sym (two-table o)) here in
    let place : has_place (in_version_2 plan) o i ≡ true =
    subst (λ (n : ℕ). (nat_le 1 i && nat_le i (indices_for n narrow_counts o)) ≡ true) (sym phases) there in
    true≢false (sym place ∙ out)

pub of-fewer : (text : List ℕ) (members : Members) (plan : Plan) → IsOfVersion Two text members → reading text ≡ Ok plan → IsOfFewer (in_version_2 plan)
of-fewer text members plan is e = record {
  fewer = record { vehicle_detectors = omega arith; pedestrian_detectors = omega arith; overlaps = omega arith; preempts = omega arith };
  placed = λ o i out. was.these.elsewhere o i (λ k has same. no-place plan o i k was.read.phases out has same);
}
  where
    was : IsReadIn Two members plan
    was = read-in Two text members plan is e

pub goes-as-in-2 : (text : List ℕ) (members : Members) (plan : Plan) → IsOfVersion Two text members → reading text ≡ Ok plan →
    (is : List Input) → AreInputsOf (in_version_2 plan) is → GoesAsInVersion2 plan is
goes-as-in-2 text members plan of e is within =
    let fewer : IsOfFewer (in_version_2 plan) = of-fewer text members plan of e in
    let whole : full (in_version_2 plan) ≡ plan = ap (λ (c : Counts). record plan { counts = c }) (sym (read-in Two text members plan of e).read.counts) in
    record {
      taken = subst (λ (q : Plan). AreTaken (in_version_2 plan) is ↔ AreTaken q is) whole (take_the_same (in_version_2 plan) is fewer within);
      heads = subst (λ (q : Plan). display (replay q is) ≡ display (replay (in_version_2 plan) is)) whole (show_the_same (in_version_2 plan) is fewer within).0;
      states = subst (λ (q : Plan). replay q is ≡ full_state (replay (in_version_2 plan) is)) whole (states_same (in_version_2 plan) is fewer within);
    }
