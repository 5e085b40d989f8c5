-- Plan texts of versions 1 and 2, as statements. A text of version 1 names a plan of 8 phases and 2 sides: what holds
-- of it and of the plan that is read. A text of version 2: what is read where the number of version 3 takes its place; tsb_plan_text has how a text is read, or refused.
--
-- All are proved, as the contract of a function that does nothing (src/versions.rt).
use Rattle.std.specs.Prelude.{◌≡◌, ◌↔◌, ℕ, ◌≤◌, false, List, length, map, if◌then◌else◌, Some, None, Ok, codes}
use Rattle.serde_json.specs.Data.{Data, Members, number, put, unsigned}
use Rattle.serde_json.specs.Find.{as_object}
use Rattle.tsb_step.specs.tsb_types.Lists.{or_number}
use Rattle.tsb_step.specs.tsb_plan.declared.object.Object.{Object}
use Rattle.tsb_step.specs.tsb_plan.declared.version.Version.{Version}
use Rattle.tsb_step.specs.tsb_plan.declared.version.Version.TheVariants.{One, Two, Three}
use Rattle.tsb_step.specs.tsb_plan.Plan.{Plan, narrow_counts}
use Rattle.tsb_step.specs.tsb_plan.Versions.{has_object, has_index_in}
use Rattle.tsb_plan_text.specs.PlanText.{limit, data_of, version_in, reading}
use Rattle.tsb_plan_text.specs.PlanTextSays.{number_for}
use Rattle.tsb_step.specs.tsb_rules.Rules.{first_broken}
use Rattle.tsb_step.specs.declared.inputs.Input.{Input}
use Rattle.tsb_step.specs.Runs.{replay, AreTaken}
use Rattle.tsb_step.specs.Signs.{display}
use Rattle.tsb_laws.specs.Sizes.{IsOfFewer, AreInputsOf, full_state}
use Rattle.tsb_laws.specs.Widened.{IsNarrow, widened_input, AreWithin, widened_state}
use Rattle.tsb_laws.specs.Options.{HasNoOptions, OptionsOff}
use Rattle.tsb_laws.specs.Versions.{SaysTheSame}

-- the text is a JSON object of this version, and these are its members
pub record IsOfVersion (v : Version) (text : List ℕ) (members : Members) : Type 0 where
  pub value : Data
  pub is_json : data_of text ≡ Some value
  pub is_table : as_object value ≡ Some members
  pub tells : version_in members ≡ Some v

-- the plan of 8 phases and 2 sides that the members of a text name: at an index of version 1 the number that is
-- under the object's name and the index, and 0 where none does
abbrev pub named_plan : Members → Plan
named_plan members = record {
  phase_count = 8;
  side_count = 2;
  counts = narrow_counts;
  value = λ o i. if has_index_in One o i then or_number (number_for members o i) 0 else 0;
}

-- what is said of each text of version 1 that is read, by its members and the plan that it gives
abbrev pub OfReadTexts : (Members → Plan → Type 0) → Type 0
OfReadTexts fact = (text : List ℕ) (members : Members) (plan : Plan) → IsOfVersion One text members → reading text ≡ Ok plan → fact members plan

-- It names a plan of version 1: each number is within that version's range.
abbrev pub TextsNameNarrowPlans : Type 0
TextsNameNarrowPlans = OfReadTexts (λ members plan. IsNarrow (named_plan members))

-- The plan that is read is the wide plan, which says the same as the one that is named.
abbrev pub TextsGiveWidePlans : Type 0
TextsGiveWidePlans = OfReadTexts (λ members plan. SaysTheSame (named_plan members) plan)

-- The plan that it names breaks no rule.
abbrev pub NamedPlansBreakNoRule : Type 0
NamedPlansBreakNoRule = OfReadTexts (λ members plan. first_broken (named_plan members) ≡ None)

-- what a bench of 16 phases and 4 sides, with all detectors, overlaps and preempts, does with the plan that is read,
-- beside what one of 8 and 2, with those of version 1, does with the plan that is named: both take the same inputs, show
-- the same heads, and are in the same state, with the translated plan and edits
pub record GoesAlike (named read : Plan) (is : List Input) : Type 0 where
  pub taken : AreTaken named is ↔ AreTaken read (map widened_input is)
  pub heads : display (replay read (map widened_input is)) ≡ display (replay named is)
  pub states : replay read (map widened_input is) ≡ full_state (widened_state (replay named is))

-- So it is after any inputs within version 1's ranges.
abbrev pub ReadBenchesGoAlike : Type 0
ReadBenchesGoAlike = OfReadTexts (λ members plan. (is : List Input) → AreWithin is → GoesAlike (named_plan members) plan is)

-- Each option is 0 in the plan that is read, as version 1 has none of their objects.
abbrev pub TextsHaveNoOptions : Type 0
TextsHaveNoOptions = OfReadTexts (λ members plan. HasNoOptions plan)

-- So each definition that reads an option is the one without it.
abbrev pub TextsLeaveOptionsOff : Type 0
TextsLeaveOptionsOff = OfReadTexts (λ members plan. OptionsOff plan)

-- ## Versions 2 and 3

-- the same members with the number of version 3
abbrev pub renumbered : Members → Members
renumbered members = put (codes "version") (number (unsigned 3)) members

-- A text of version 2 that is read gives the same plan with the number of version 3 in place of 2, however it is
-- written.
abbrev pub RenumberedTextsGiveTheSame : Type 0
RenumberedTextsGiveTheSame = (text other : List ℕ) (members : Members) (plan : Plan) → IsOfVersion Two text members → reading text ≡ Ok plan →
    IsOfVersion Three other (renumbered members) → length other ≤ limit → reading other ≡ Ok plan

-- In the plan that is read each object is 0 that the text's version has not.
abbrev pub TextsGiveNoLaterObject : Type 0
TextsGiveNoLaterObject = (v : Version) (text : List ℕ) (members : Members) (plan : Plan) → IsOfVersion v text members → reading text ≡ Ok plan →
    (o : Object) (i : ℕ) → has_object v o ≡ false → plan.value o i ≡ 0

-- the same plan, of as many detectors, overlaps and preempts as version 2 has
abbrev pub in_version_2 : Plan → Plan
in_version_2 plan = record plan { counts = narrow_counts }

-- what a bench of all detectors, overlaps and preempts does with a plan, beside what one of those of version 2 does:
-- both take the same inputs, show the same heads, and are in the same state
pub record GoesAsInVersion2 (plan : Plan) (is : List Input) : Type 0 where
  pub taken : AreTaken (in_version_2 plan) is ↔ AreTaken plan is
  pub heads : display (replay plan is) ≡ display (replay (in_version_2 plan) is)
  pub states : replay plan is ≡ full_state (replay (in_version_2 plan) is)

-- A text of version 2 gives nothing where version 2 has no place. So its plan goes as in version 2 after any inputs but
-- values that a station sets where version 2 has no place.
abbrev pub BenchesGoAsInVersion2 : Type 0
BenchesGoAsInVersion2 = (text : List ℕ) (members : Members) (plan : Plan) → IsOfVersion Two text members → reading text ≡ Ok plan →
    IsOfFewer (in_version_2 plan) × ((is : List Input) → AreInputsOf (in_version_2 plan) is → GoesAsInVersion2 plan is)
