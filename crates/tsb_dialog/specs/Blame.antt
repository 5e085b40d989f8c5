-- Which device is blamed for a fault.
use Rattle.std.specs.Prelude.{◌≡◌, Bool, true, false, Result, Ok, Err}
use Rattle.tsb_dialog.specs.declared.error.DialogError.{DialogError}
use Rattle.tsb_dialog.specs.declared.error.DialogError.TheVariants.{Read, Write, TooLarge}

-- calls of a device were made, none of which had failed before: a fault is answered exactly where one of them failed
abbrev pub AfterCalls : {T E : Type 0} → Result T E → Bool → Type 0
AfterCalls (Ok t) failed = failed ≡ false
AfterCalls (Err e) failed = failed ≡ true

-- at the end of a dialog: a read fault is answered exactly where a read has failed, and a write fault exactly where a
-- write or a flush has; but for a write fault, all that was written was passed on
abbrev pub Blames : Result (Unit {0}) DialogError → (read_failed write_failed flushed : Bool) → Type 0
Blames (Ok u) read_failed write_failed flushed = (read_failed ≡ false) × (write_failed ≡ false) × (flushed ≡ true)
Blames (Err Read) read_failed write_failed flushed = (read_failed ≡ true) × (write_failed ≡ false) × (flushed ≡ true)
Blames (Err Write) read_failed write_failed flushed = (read_failed ≡ false) × (write_failed ≡ true)
Blames (Err TooLarge) read_failed write_failed flushed = (read_failed ≡ false) × (write_failed ≡ false) × (flushed ≡ true)
