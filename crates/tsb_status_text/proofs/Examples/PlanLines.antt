-- Whole lines, each worked by hand.
use Rattle.std.proofs.Common.{◌≡◌, [], ◌∷◌, Some, None, codes, refl}
use Rattle.std.specs.Fmt.{digits}
use Rattle.json.specs.Print.{print_from, escape_byte}
use Rattle.tsb_objects.specs.tsb_rules.declared.rules.Rule.TheVariants.{K8}
use Rattle.tsb_objects.specs.tsb_types.Lists.{run_from}
use Rattle.tsb_plan.specs.declared.object.Object.TheVariants.{OverlapType, PhaseYellowChange, PreemptMaximumPresence, VehicleDetectorDelay}
use Rattle.tsb_plan.specs.Objects.{objects}
use Rattle.tsb_plan.specs.Plan.{empty, with_value}
use Rattle.tsb_plan.specs.Two.{two}
use Rattle.tsb_transact.specs.declared.desk_state.DeskState.TheVariants.{Done, Verify}
use Rattle.tsb_transact.specs.Desk.{Desk, closed}
use Rattle.tsb_status_text.specs.EditsLine.{edits_json, edits_text}
use Rattle.tsb_status_text.specs.PlanLine.{fits_version_2, is_all_zeros, plan_json, plan_text, table, version_for, with_object}

-- ## Plans

-- the built-in plan of two phases
line_of_two : plan_text two ≡ codes "{\"version\":2,\"phaseEnabled\":{\"2\":1,\"4\":1},\"phaseMaxRecall\":{\"2\":1,\"4\":1},\"phaseRing\":{\"2\":1,\"4\":1},\"phaseSide\":{\"2\":1,\"4\":2},\"phaseMinimumGreen\":{\"2\":5,\"4\":5},\"phaseMaximum1\":{\"2\":10,\"4\":8},\"phaseMaximum2\":{\"2\":10,\"4\":8},\"phaseYellowChange\":{\"2\":30,\"4\":30},\"phaseRedClear\":{\"2\":10,\"4\":10},\"sequenceData\":{\"1\":2,\"2\":4}}"
unfolding plan_text plan_json version_for fits_version_2 with_object is_all_zeros table objects run_from print_from escape_byte digits two
line_of_two = refl

-- a plan of zeros
line_of_zeros : plan_text empty ≡ codes "{\"version\":2}"
unfolding plan_text plan_json version_for fits_version_2 with_object is_all_zeros table objects run_from print_from escape_byte digits
line_of_zeros = refl

-- vehicle detector 17, which version 2 has not
line_of_later : plan_text (with_value empty VehicleDetectorDelay 17 5) ≡ codes "{\"version\":3,\"vehicleDetectorDelay\":{\"17\":5}}"
unfolding plan_text plan_json version_for fits_version_2 with_object is_all_zeros table objects run_from print_from escape_byte digits
line_of_later = refl

-- a protected and permissive arrow, a type of overlap that version 2 has not, though it has the object
line_of_arrow : plan_text (with_value empty OverlapType 1 2) ≡ codes "{\"version\":3,\"overlapType\":{\"1\":2}}"
unfolding plan_text plan_json version_for fits_version_2 with_object is_all_zeros table objects run_from print_from escape_byte digits
line_of_arrow = refl

-- ## Desks

-- no transaction is open
line_of_closed : edits_text closed ≡ codes "{\"owner\":null,\"state\":\"normal\",\"rule\":null,\"edits\":[]}"
unfolding edits_text edits_json print_from escape_byte digits
line_of_closed = refl

-- a yellow change of 2 s breaks rule K8
abbrev pub in_verify : Desk
in_verify = record { owner = Some 3; state = Verify; rule = Some K8; edits = record { id = record { object = PhaseYellowChange; index = 2 }; value = 20 } ∷ [] }

line_in_verify : edits_text in_verify ≡ codes "{\"owner\":3,\"state\":\"verify\",\"rule\":\"K8\",\"edits\":[{\"object\":\"phaseYellowChange\",\"index\":2,\"value\":20}]}"
unfolding edits_text edits_json print_from escape_byte digits
line_in_verify = refl

-- two edits, in the order in which they came
abbrev pub in_done : Desk
in_done = record {
  owner = Some 1;
  state = Done;
  rule = None;
  edits =
      record { id = record { object = PreemptMaximumPresence; index = 4 }; value = 65535 }
      ∷ record { id = record { object = PhaseYellowChange; index = 16 }; value = 0 } ∷ [];
}

line_in_done : edits_text in_done
    ≡ codes "{\"owner\":1,\"state\":\"done\",\"rule\":null,\"edits\":[{\"object\":\"preemptMaximumPresence\",\"index\":4,\"value\":65535},{\"object\":\"phaseYellowChange\",\"index\":16,\"value\":0}]}"
unfolding edits_text edits_json print_from escape_byte digits
line_in_done = refl
