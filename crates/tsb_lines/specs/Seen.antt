-- What is seen of a reader or a writer, and what is written to a writer.
use Rattle.std.specs.Prelude.{◌≡◌, ℕ, List, Bool, true, false, Option}
use Rattle.std.specs.Io.KnownBytes.{Appends}
use Rattle.tsb_lines.specs.Writes.{AppendsFront}
use Rattle.tsb_lines.specs.declared.watched.Watched.{Watched}

-- the bytes that a writer holds, or that a reader has left, where they are known; whether a call of it has failed; and
-- whether all that was written was passed on
pub record Seen : Type 0 where
  pub bytes : Option (List ℕ)
  pub failed : Bool
  pub flushed : Bool

-- what is seen of a device whose bytes this gives
abbrev pub seen : {D : Type 0} → (D → Option (List ℕ)) → Watched D → Seen
seen bytes watched = record { bytes = bytes watched.device; failed = watched.failed; flushed = watched.flushed }

-- no call of a device has failed, and nothing that was written waits
abbrev pub IsFresh : {D : Type 0} → Watched D → Type 0
IsFresh watched = (watched.failed ≡ false) × (watched.flushed ≡ true)

-- a text has gone out whole, and was passed on
abbrev pub GoesOut : Seen → Seen → List ℕ → Type 0
GoesOut old new text = Appends old.bytes new.bytes text × (new.flushed ≡ true)

-- a text is written: it goes out whole, or the writer has failed, and has taken the first bytes of the text or none
abbrev pub Tells : Seen → Seen → List ℕ → Type 0
Tells old new text = AppendsFront old.bytes new.bytes text × (new.failed ≡ false → GoesOut old new text)
