-- A plan text of version 1 that is read, by computing: one phase, in ring 2, whose place in the sequence stands at
-- index 9 in version 1 and at 17 in a plan. The same in versions 2 and 3. And mistakes: without the translation, and of
-- numbers beyond version 1's ranges.
use Rattle.std.specs.Prelude.{◌≡◌, ℕ, List, [], ◌∷◌, Ok, Err, codes, refl}
use Rattle.std.specs.Fmt.{digits}
use Rattle.std.specs.Str.{is_utf8, chars}
use lib.Utf8.{encode}
use Rattle.serde_json.specs.Data.{Data, Members, no_members, member, object, number, unsigned}
use Rattle.serde_json.proofs.OnLiterals.{serde_json_on_literals}
use Rattle.tsb_step.specs.tsb_plan.declared.object.Object.{Object}
use Rattle.tsb_step.specs.tsb_plan.declared.object.Object.TheVariants.{PhaseEnabled, PhaseRing, PhaseSide, PhaseConcurrency, PhaseYellowChange, SequenceData, CoordForceMode}
use Rattle.tsb_step.specs.tsb_plan.declared.version.Version.TheVariants.{One, Two, Three}
use Rattle.tsb_step.specs.tsb_plan.Names.{object_named}
use Rattle.tsb_step.specs.tsb_plan.Objects.{objects}
use Rattle.tsb_step.specs.tsb_plan.Plan.{Plan, empty, with_value, with_values}
use Rattle.tsb_step.specs.tsb_plan.Versions.{greatest_in, translated}
use Rattle.tsb_plan_text.specs.PlanErrors.{no_such_object, no_such_index, out_of_range, broken}
use Rattle.tsb_plan_text.specs.PlanText.{data_of, index_named, with_entry, with_object, with_notes, with_member, data_plan, checked, reading}
use Rattle.tsb_step.specs.tsb_rules.declared.rules.Rule.TheVariants.{K6}
use Rattle.tsb_laws.specs.Texts.{IsOfVersion, named_plan, renumbered}
use Rattle.tsb_laws.proofs.versions.Examples.Examples.{opened}

-- what a text that is read opens
unfoldable pub opened_texts : Unit {0}
unfolding opened serde_json_on_literals is_utf8 chars encode digits object_named objects data_of index_named with_entry with_object with_notes with_member data_plan checked reading
opened_texts = tt

-- ## A text

abbrev text : List ℕ
text = codes "{\"version\":1,\"phaseEnabled\":{\"2\":1},\"phaseRing\":{\"2\":2},\"phaseSide\":{\"2\":1},\"phaseYellowChange\":{\"2\":30},\"sequenceData\":{\"9\":2}}"

-- a table of one number
abbrev table : List ℕ → ℕ → Data
table index n = object (member index (number (unsigned n)) no_members)

-- its members, in the order of their names
abbrev members : Members
members =
    member (codes "phaseEnabled") (table (codes "2") 1) (member (codes "phaseRing") (table (codes "2") 2)
    (member (codes "phaseSide") (table (codes "2") 1) (member (codes "phaseYellowChange") (table (codes "2") 30)
    (member (codes "sequenceData") (table (codes "9") 2) (member (codes "version") (number (unsigned 1)) no_members)))))

is_of_version_1 : IsOfVersion One text members
unfolding opened_texts
is_of_version_1 = record { value = object members; is_json = refl; is_table = refl; tells = refl }

abbrev plan : Plan
plan = with_values empty ((PhaseEnabled, 2, 1) ∷ (PhaseRing, 2, 2) ∷ (PhaseSide, 2, 1) ∷ (PhaseYellowChange, 2, 30) ∷ (SequenceData, 17, 2) ∷ [])

is_read : reading text ≡ Ok plan
unfolding opened_texts
is_read = refl

-- what is named at 9 is put at 17
is_named : (named_plan members).value SequenceData 9 ≡ 2
unfolding opened_texts
is_named = refl

is_there : plan.value SequenceData (translated One SequenceData 9) ≡ 2
is_there = refl

-- ## An index that is not translated

abbrev not_translated : Plan
not_translated = with_values empty ((PhaseEnabled, 2, 1) ∷ (PhaseRing, 2, 2) ∷ (PhaseSide, 2, 1) ∷ (PhaseYellowChange, 2, 30) ∷ (SequenceData, 9, 2) ∷ [])

-- it does not say the same, and breaks a rule that the plan that is named does not break
would_not_say_it : not_translated.value SequenceData (translated One SequenceData 9) ≡ 0
would_not_say_it = refl

would_be_refused : checked not_translated ≡ Err (broken K6)
unfolding opened_texts
would_be_refused = refl

-- ## Numbers beyond version 1's ranges: they are refused, and a plan that has one is none of version 1

abbrev with_list : List ℕ
with_list = codes "{\"version\":1,\"phaseConcurrency\":{\"2\":256}}"

abbrev members_with_list : Members
members_with_list = member (codes "phaseConcurrency") (table (codes "2") 256) (member (codes "version") (number (unsigned 1)) no_members)

list_is_of_version_1 : IsOfVersion One with_list members_with_list
unfolding opened_texts
list_is_of_version_1 = record { value = object members_with_list; is_json = refl; is_table = refl; tells = refl }

list_is_refused : reading with_list ≡ Err (out_of_range PhaseConcurrency (codes "2"))
unfolding opened_texts
list_is_refused = refl

names_too_much : (named_plan members_with_list).value PhaseConcurrency 2 ≡ 256
unfolding opened_texts
names_too_much = refl

most : greatest_in One PhaseConcurrency ≡ 255
most = refl

-- so is an index that version 1 does not have
index_is_refused : reading (codes "{\"version\":1,\"phaseEnabled\":{\"9\":1}}") ≡ Err (no_such_index PhaseEnabled (codes "9"))
unfolding opened_texts
index_is_refused = refl

-- ## An option: version 1 has no object for it

abbrev with_option : Plan
with_option = with_value plan CoordForceMode 1 1

would_have_an_option : with_option.value CoordForceMode 1 ≡ 1
would_have_an_option = refl

option_is_refused : reading (codes "{\"version\":1,\"coordForceMode\":{\"1\":1}}") ≡ Err (no_such_object (codes "coordForceMode"))
unfolding opened_texts
option_is_refused = refl

-- ## The number of version 3 in place of 2

abbrev text_2 : List ℕ
text_2 = codes "{\"version\":2,\"phaseEnabled\":{\"2\":1},\"phaseRing\":{\"2\":2},\"phaseSide\":{\"2\":1},\"phaseYellowChange\":{\"2\":30},\"sequenceData\":{\"17\":2}}"

abbrev text_3 : List ℕ
text_3 = codes "{\"version\":3,\"phaseEnabled\":{\"2\":1},\"phaseRing\":{\"2\":2},\"phaseSide\":{\"2\":1},\"phaseYellowChange\":{\"2\":30},\"sequenceData\":{\"17\":2}}"

abbrev members_2 : Members
members_2 =
    member (codes "phaseEnabled") (table (codes "2") 1) (member (codes "phaseRing") (table (codes "2") 2)
    (member (codes "phaseSide") (table (codes "2") 1) (member (codes "phaseYellowChange") (table (codes "2") 30)
    (member (codes "sequenceData") (table (codes "17") 2) (member (codes "version") (number (unsigned 2)) no_members)))))

is_of_version_2 : IsOfVersion Two text_2 members_2
unfolding opened_texts
is_of_version_2 = record { value = object members_2; is_json = refl; is_table = refl; tells = refl }

is_read_in_2 : reading text_2 ≡ Ok plan
unfolding opened_texts
is_read_in_2 = refl

is_of_version_3 : IsOfVersion Three text_3 (renumbered members_2)
unfolding opened_texts
is_of_version_3 = record { value = object (renumbered members_2); is_json = refl; is_table = refl; tells = refl }

is_read_in_3 : reading text_3 ≡ Ok plan
unfolding opened_texts
is_read_in_3 = refl

-- ## Version 3 has the indices of version 1

abbrev as_in_version_1 : Object → ℕ → ℕ
as_in_version_1 o i = translated One o i

stands_at_17 : translated Three SequenceData 17 ≡ 17
stands_at_17 = refl

would_stand_at_33 : as_in_version_1 SequenceData 17 ≡ 33
would_stand_at_33 = refl
