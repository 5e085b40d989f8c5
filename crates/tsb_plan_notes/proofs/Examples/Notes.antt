-- Notes, computed.
use Rattle.std.proofs.Common.{◌≡◌, [], Some, None, refl, codes}
use Rattle.std.specs.Fmt.{digits}
use Rattle.json.specs.Json.{Json, Members, member, no_members, number}
use Rattle.json.specs.Print.{print_from}
use Rattle.tsb_plan.specs.declared.object.Object.TheVariants.{PhaseMinimumGreen, PhaseRing, VehicleDetectorDelay}
use Rattle.tsb_plan.specs.Objects.{objects}
use Rattle.tsb_plan_notes.specs.Notes.{entries_notes, fault_text, greatest_end, over_text, path_of, range_end, unit_end}
use Rattle.tsb_plan_notes.specs.Near.{near_object}
use Rattle.tsb_plan_notes.specs.Parts.{is_index, tenths_of}
use Rattle.tsb_plan_notes.specs.Newer.{newer_note}
use Rattle.tsb_plan_notes.specs.PhaseLists.{phases_of}
use Rattle.tsb_plan.specs.declared.version.Version.TheVariants.{Two, Three}

-- one entry
abbrev entry : Json → Members
entry d = member (codes "1") d no_members

-- seconds with a decimal
half-seconds : entries_notes (Some Three) PhaseMinimumGreen (entry (number (codes "7.5"))) ≡ codes "phaseMinimumGreen.1: 7.5 is no whole number: seconds\n"
unfolding is_index print_from path_of fault_text unit_end
half-seconds = refl

-- a negative number, one with an exponent, and one past 32 bits
negative : entries_notes (Some Three) PhaseRing (entry (number (codes "-20"))) ≡ codes "phaseRing.1: -20 is negative\n"
unfolding is_index print_from path_of fault_text unit_end
negative = refl

with-exponent : entries_notes (Some Three) PhaseRing (entry (number (codes "1e2"))) ≡ codes "phaseRing.1: 1e2 has an exponent\n"
unfolding is_index print_from path_of fault_text unit_end
with-exponent = refl

too-large : entries_notes (Some Three) PhaseRing (entry (number (codes "4294967296"))) ≡ codes "phaseRing.1: 4294967296 is too large\n"
unfolding is_index print_from path_of fault_text unit_end
too-large = refl

-- tenths of a second, where a number has just one decimal
tenths : tenths_of (codes "3.2") ≡ Some 32
unfolding tenths_of
tenths = refl

two-decimals : tenths_of (codes "3.25") ≡ None
unfolding tenths_of
two-decimals = refl

-- phases in a text, in any order and each once
phases : phases_of (codes "4,7") ≡ Some 72
unfolding phases_of
phases = refl

phases-apart : phases_of (codes "2 + 6, 1") ≡ Some 35
unfolding phases_of
phases-apart = refl

phase-16 : phases_of (codes "16,9") ≡ Some 33024
unfolding phases_of
phase-16 = refl

phase-17 : phases_of (codes "4,17") ≡ None
unfolding phases_of
phase-17 = refl

phase-again : phases_of (codes "4,7,4") ≡ None
unfolding phases_of
phase-again = refl

-- notes are newer than version 2
newer : newer_note (Some Two) None (codes "notes") ≡ codes "notes: version 3 has it, and this text is of version 2\n"
newer = refl

not-newer : newer_note (Some Three) None (codes "notes") ≡ []
not-newer = refl

-- a whole number
whole : entries_notes (Some Three) PhaseRing (entry (number (codes "1"))) ≡ []
unfolding is_index
whole = refl

-- an index that stands twice
twice : entries_notes (Some Three) PhaseRing (member (codes "1") (number (codes "1")) (entry (number (codes "2"))))
    ≡ codes "phaseRing.1: it stands twice, as 1 and as 2, and the last one counts\n"
unfolding is_index print_from path_of
twice = refl

-- the greatest value, and one more
greatest : entries_notes (Some Three) PhaseMinimumGreen (entry (number (codes "255"))) ≡ []
unfolding is_index
greatest = refl

over : entries_notes (Some Three) PhaseMinimumGreen (entry (number (codes "256"))) ≡ codes "phaseMinimumGreen.1: 256 is out of range, 0 to 255: seconds\n"
unfolding is_index print_from path_of over_text greatest_end digits
over = refl

-- an index more than there are
no-index : entries_notes (Some Three) PhaseRing (member (codes "17") (number (codes "1")) no_members) ≡ codes "phaseRing.17: no such index, 1 to 16\n"
unfolding is_index path_of range_end digits
no-index = refl

-- a detector that version 2 has not, in a text of it and in one of version 3
newer-index : entries_notes (Some Two) VehicleDetectorDelay (member (codes "17") (number (codes "1")) no_members)
    ≡ codes "vehicleDetectorDelay.17: version 3 has it, and this text is of version 2\n"
unfolding is_index path_of
newer-index = refl

known-index : entries_notes (Some Three) VehicleDetectorDelay (member (codes "64") (number (codes "1")) no_members) ≡ []
unfolding is_index
known-index = refl

-- and one that no version has
no-detector : entries_notes (Some Two) VehicleDetectorDelay (member (codes "65") (number (codes "1")) no_members)
    ≡ codes "vehicleDetectorDelay.65: no such index, 1 to 16\n"
unfolding is_index path_of range_end digits
no-detector = refl

-- a short form of a name, and a name that is near none
short-form : near_object (codes "phaseMinGreen") ≡ Some PhaseMinimumGreen
unfolding near_object objects
short-form = refl

unlike : near_object (codes "version4") ≡ None
unfolding near_object objects
unlike = refl
