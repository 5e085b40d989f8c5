-- Which device is blamed where a filter ends.
use Rattle.std.specs.Prelude.{◌≡◌, Bool, true, false, Result, Ok, Err}
use Rattle.tsb_field_streams.specs.declared.error.FilterError.{FilterError}
use Rattle.tsb_field_streams.specs.declared.error.FilterError.TheVariants.{Memory, Read, Write}

-- a fault of what was read: neither memory nor a device has failed
abbrev pub IsOfText : FilterError → Type 0
IsOfText Memory = ⊥
IsOfText Read = ⊥
IsOfText Write = ⊥
IsOfText fault = Unit {0}

-- a filter ended, and none of its devices had failed before: a read fault is answered exactly where a read has failed, and a
-- write fault exactly where a write or a flush has
abbrev pub Blames : {T : Type 0} → Result T FilterError → (read_failed write_failed : Bool) → Type 0
Blames (Ok t) read_failed write_failed = (read_failed ≡ false) × (write_failed ≡ false)
Blames (Err Read) read_failed write_failed = (read_failed ≡ true) × (write_failed ≡ false)
Blames (Err Write) read_failed write_failed = (read_failed ≡ false) × (write_failed ≡ true)
Blames (Err fault) read_failed write_failed = (read_failed ≡ false) × (write_failed ≡ false)

-- calls of a writer alone were made
abbrev pub BlamesWriter : {T : Type 0} → Result T FilterError → Bool → Type 0
BlamesWriter result write_failed = Blames result false write_failed

-- memory did not run out
abbrev pub HasMemory : {T : Type 0} → Result T FilterError → Type 0
HasMemory result = result ≡ Err Memory → ⊥

-- where memory ran out, no call of a device was made
abbrev pub OnMemory : {T D E : Type 0} → Result T FilterError → (reader left : D) → (writer holds : E) → Type 0
OnMemory result reader left writer holds = result ≡ Err Memory → (left ≡ reader) × (holds ≡ writer)
