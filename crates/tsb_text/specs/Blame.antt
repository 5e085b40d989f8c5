-- Which device is blamed for the fault of a session, of a record or of a live run.
use Rattle.std.specs.Prelude.{◌≡◌, Bool, true, false, Result, Ok, Err}
use Rattle.tsb_text.specs.declared.error.SessionError.{SessionError}
use Rattle.tsb_text.specs.declared.error.SessionError.TheVariants.{Memory, Read, Write, TooLarge}

-- no call has failed, and all that was written was passed on
abbrev pub NoneFailed : (read_failed write_failed flushed : Bool) → Type 0
NoneFailed read_failed write_failed flushed = (read_failed ≡ false) × (write_failed ≡ false) × (flushed ≡ true)

-- a read fault is answered exactly where a read has failed, and a write fault exactly where a write or a flush has; but
-- for a write fault, all that was written was passed on
abbrev pub Blames : {T : Type 0} → Result T SessionError → (read_failed write_failed flushed : Bool) → Type 0
Blames (Ok t) read_failed write_failed flushed = NoneFailed read_failed write_failed flushed
Blames (Err Memory) read_failed write_failed flushed = NoneFailed read_failed write_failed flushed
Blames (Err Read) read_failed write_failed flushed = (read_failed ≡ true) × (write_failed ≡ false) × (flushed ≡ true)
Blames (Err Write) read_failed write_failed flushed = (read_failed ≡ false) × (write_failed ≡ true)
Blames (Err TooLarge) read_failed write_failed flushed = NoneFailed read_failed write_failed flushed
