-- What offsets are counted to. At the tick of a pattern's offset its local counter is at that moment. Coordination asks
-- the same in two plans that differ in offsets, and in what these are counted to, alone, where local 0 comes at one
-- time. Each law here is the contract of a function in src/laws.rt, and proved there.
use Rattle.std.specs.Prelude.{◌≡◌, ℕ, ◌*◌, ◌%◌, ◌==◌, true, if◌then◌else◌, Option, Some}
use Rattle.tsb_objects.specs.tsb_plan.declared.object.Object.TheVariants.{PatternOffsetTime, CoordReference}
use Rattle.tsb_objects.specs.tsb_plan.Objects.{order}
use Rattle.tsb_objects.specs.tsb_plan.Plan.{Plan}
use Rattle.tsb_objects.specs.tsb_plan.Parts.{cycle, offset, offset_reference}
use Rattle.tsb_objects.specs.Instants.{counted_to, offset_in_effect}
use Rattle.tsb_coord.specs.Correction.{Correction, local_now, forces, lets_walk_again, selected_correction}
use Rattle.tsb_coord.specs.Coordinated.{local, residue_of_difference, end_of, reference, asks_hold, asks_omit, serving_order, is_pattern}

-- at each tick of its offset the local counter of pattern n, in step, is the time from local 0 to the moment. Local 0 is
-- the end of the split of c
abbrev pub MomentsComeAtOffsets : Plan → Type 0
MomentsComeAtOffsets plan = (n moment c t : ℕ) → is_pattern plan n ≡ true →
    counted_to (offset_reference plan) plan n ≡ Some moment → reference plan n ≡ Some c → t % cycle plan n ≡ offset plan n →
    local plan t (Some n) ≡ Some (residue_of_difference (cycle plan n) moment (end_of plan n c))

-- the plan with these offsets of patterns, in seconds, and this number of coordReference
abbrev pub with_offsets : Plan → (ℕ → ℕ) → ℕ → Plan
with_offsets plan offsets number = record plan {
  value = λ o i. if order o == order PatternOffsetTime then offsets i
      else (if order o == order CoordReference then number else plan.value o i);
}

-- in both plans coordination begins, counts and asks alike
pub record AskAlike (plan other : Plan) : Type 0 where
  pub begun : (selected : Option ℕ) (now midnight : ℕ) (l : Option ℕ) →
      selected_correction plan selected now midnight l ≡ selected_correction other selected now midnight l
  pub counted : (selected : Option ℕ) (c : Correction) (t : ℕ) → local_now plan selected c t ≡ local_now other selected c t
  pub forced : (selected : Option ℕ) (c : Correction) (t p : ℕ) → forces plan selected c t p ≡ forces other selected c t p
  pub walks : (selected : Option ℕ) (c : Correction) (t p : ℕ) → lets_walk_again plan selected c t p ≡ lets_walk_again other selected c t p
  pub held : (selected : Option ℕ) (p : ℕ) → asks_hold plan selected p ≡ asks_hold other selected p
  pub omitted : (selected : Option ℕ) (p : ℕ) → asks_omit plan selected p ≡ asks_omit other selected p
  pub ordered : (selected : Option ℕ) (r : ℕ) → serving_order plan selected r ≡ serving_order other selected r

-- other offsets, counted to another moment, change nothing where local 0 comes at the same time in each pattern
abbrev pub OffsetsCountAlike : Type 0
OffsetsCountAlike = (plan : Plan) (offsets : ℕ → ℕ) (number : ℕ) →
    ((n : ℕ) → offset_in_effect (with_offsets plan offsets number) n ≡ offset_in_effect plan n) →
    AskAlike (with_offsets plan offsets number) plan

-- with coordReference 0 an offset is in effect as it is, in tenths of a second
abbrev pub PlainOffsetsAct : Type 0
PlainOffsetsAct = (plan : Plan) (offsets : ℕ → ℕ) (n : ℕ) → offset_in_effect (with_offsets plan offsets 0) n ≡ 10 * offsets n
