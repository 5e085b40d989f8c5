-- Which wires lead to a bench, and the form of a log by them, worked by hand, and mistakes that the definition refuses.
use Rattle.std.specs.Prelude.{◌≡◌, ℕ, true, false, List, [], ◌∷◌, ◌++◌, length, refl}
use Rattle.tsb_field_log.specs.declared.inputs.InputKind.{InputKind}
use Rattle.tsb_field_log.specs.declared.inputs.InputKind.TheVariants.{Vehicle, Preempt}
use Rattle.tsb_field_log.specs.declared.inputs.Wire.{Wire}
use Rattle.tsb_field_log.specs.Mapping.{is_wired, own_wires, wires_of}
use Rattle.tsb_field_log.specs.Wires.{form_of_wires}
use Rattle.tsb_log_text.specs.declared.form.RowForm.TheVariants.{Digits, Lists}

abbrev pub leads : InputKind → ℕ → ℕ → Wire
leads kind channel input = record { kind = kind; channel = channel; input = input }

-- preempt channel 2 leads to inputs 3 and 4, and vehicle channel 4 to detector 1
abbrev pub mapped : List Wire
mapped = leads Preempt 2 3 ∷ leads Preempt 2 4 ∷ leads Vehicle 4 1 ∷ []

-- it leads to no input 2 any more; that vehicle channel 4 is mapped leaves preempt channel 4 as it was
preempts : own_wires mapped Preempt 1 4 ≡ leads Preempt 1 1 ∷ leads Preempt 3 3 ∷ leads Preempt 4 4 ∷ []
unfolding own_wires
preempts = refl

all_told : length (wires_of mapped) ≡ 29
unfolding own_wires
all_told = refl

none_mapped : length (wires_of []) ≡ 28
unfolding own_wires
none_mapped = refl

wired : is_wired mapped Preempt 2 ∷ is_wired mapped Vehicle 2 ∷ is_wired mapped Preempt 3 ∷ is_wired mapped Vehicle 4 ∷ [] ≡ true ∷ false ∷ false ∷ true ∷ []
wired = refl

-- ## The form of a log by wires

by_digits : form_of_wires mapped ≡ Digits
by_digits = refl

-- one wire to an input for which digits have none is enough
by_lists : form_of_wires (mapped ++ leads Preempt 1 5 ∷ []) ≡ Lists
by_lists = refl

-- ## A mistake: each channel leads to the input of its own number too, though it is mapped

abbrev pub with_own : List Wire → List Wire
with_own wires = wires ++ own_wires [] Preempt 1 4

own_kept : with_own mapped ≡ mapped ++ leads Preempt 1 1 ∷ leads Preempt 2 2 ∷ leads Preempt 3 3 ∷ leads Preempt 4 4 ∷ []
unfolding own_wires
own_kept = refl
