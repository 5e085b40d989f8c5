-- What the laws of cells and of what the calls look at refuse, by computing: cells out of range, a 17th phase and a
-- 65th detector. Beside each is what the definitions make of cells, memories and detectors in range.
use Rattle.std.proofs.Common.{◌≡◌, ◌∙◌, ℕ, ◌==◌, ◌≤◌, Bool, true, false, ◌&&◌, if◌then◌else◌, List, [], ◌∷◌, map, refl, sym, ap, arith, inl, inr}
use Rattle.std.proofs.lemmas.Bool.{cases_Bool, eqb-true, true≢false}
use Rattle.tsb_objects.specs.tsb_types.Lists.{run_from, some_passes}
use Rattle.tsb_objects.specs.tsb_types.Sets.{number_of_bits, is_phase}
use Rattle.tsb_objects.specs.tsb_plan.declared.object.Object.TheVariants.{VehicleDetectorCallPhase}
use Rattle.tsb_objects.specs.tsb_plan.Plan.{Plan, with_value}
use Rattle.tsb_objects.specs.tsb_plan.Quad.{quad}
use Rattle.tsb_calls.specs.Memories.{Memories, Given, calls, has_output}
use Rattle.tsb_calls.specs.Cells.{memories_in, memories_cells, IsBy}
use Rattle.tsb_calls.specs.Laws.{AreInRange}
use Rattle.tsb_calls.proofs.StateLemmas.{calls-read}
use Rattle.tsb_calls.proofs.Examples.Examples.{resting, remembering, staying}

-- ## Rows are read

-- 16 in vehicle memory, 2 in pedestrian memory, and of each phase as many vehicles as its number
abbrev pub kept : Memories
kept = record { vehicle = λ p. p == 16; pedestrian = λ p. p == 2; count = λ p. if is_phase p then p else 0 }

abbrev pub in_range : List ℕ
in_range = memories_cells kept

apart : (n p : ℕ) → is_phase n ≡ true → is_phase p ≡ false → (p == n) ≡ false
apart n p own out =
    elim (cases_Bool (p == n)) [
      | inl e ↦ absurd (true≢false (sym own ∙ sym (ap is_phase (eqb-true p n e)) ∙ out))
      | inr e ↦ e
    ]

few : (p : ℕ) (is : Bool) → p ≤ 16 → (if is then p else 0) ≤ 255
few p true to = omega (arith, to)
few p false to = omega arith

fit : AreInRange kept
fit = record {
  counts = λ p from to. few p (is_phase p) to;
  others = record {
    vehicle = λ p out. apart 16 p refl out;
    pedestrian = λ p out. apart 2 p refl out;
    count = λ p out. rw out refl;
  };
}

can_be : IsBy in_range
can_be = (calls-read kept fit).by

is_told : memories_cells (memories_in in_range) ≡ in_range
unfolding run_from number_of_bits
is_told = refl

-- a list that names a 17th phase
abbrev pub over_16 : List ℕ
over_16 = 98304 ∷ 2 ∷ run_from 1 16

would_lose_it : memories_cells (memories_in over_16) ≡ in_range
unfolding run_from number_of_bits
would_lose_it = refl

-- ## What is read is in range: counts over 255

abbrev pub over_255 : List ℕ
over_255 = 0 ∷ 0 ∷ map (λ p. 256) (run_from 1 16)

would_count_256 : (memories_in over_255).count 1 ≡ 256
unfolding run_from
would_count_256 = refl

-- ## States are read: memory of a 17th phase

is_read : (memories_in (memories_cells (remembering (16 ∷ [])))).vehicle 16 ≡ true
unfolding run_from number_of_bits
is_read = refl

has_17 : (remembering (17 ∷ [])).vehicle 17 ≡ true
has_17 = refl

would_lose_17 : (memories_in (memories_cells (remembering (17 ∷ [])))).vehicle 17 ≡ false
unfolding run_from number_of_bits
would_lose_17 = refl

-- ## Looks only at its own: the output of a 65th detector

abbrev pub output_of_65 : Plan → Given → ℕ → Bool
output_of_65 plan given p = some_passes (λ d. calls plan d p && given.output d) (run_from 1 65)

-- a plan that has detector 65 call phase 3, and its output on
abbrev pub calls_3 : Plan
calls_3 = with_value quad VehicleDetectorCallPhase 65 3

has_none : has_output calls_3 (staying (65 ∷ []) (resting [])) 3 ≡ false
unfolding quad run_from has_output
has_none = refl

would_have_one : output_of_65 calls_3 (staying (65 ∷ []) (resting [])) 3 ≡ true
unfolding quad run_from
would_have_one = refl
