-- Which device is blamed.
use Rattle.std.proofs.Common.{◌≡◌, Bool, false, refl, subst, sym}
use Rattle.std.specs.declared.result.Result.{Result}
use Rattle.std.specs.declared.result.Result.TheVariants.{Err}
use Rattle.tsb_field_streams.specs.declared.error.FilterError.{FilterError}
use Rattle.tsb_field_streams.specs.declared.error.FilterError.TheVariants.{Memory, Read, Write, TooLarge, LongLine, Malformed, TimeOrder, TooManyRows, PastEnd, LogTooLarge}
use Rattle.tsb_field_streams.specs.Blame.{Blames, BlamesWriter, HasMemory, IsOfText}

-- a fault of what was read blames no device
pub text-blames : (T : Type 0) (fault : FilterError) (failed : Bool) → IsOfText fault → failed ≡ false → BlamesWriter {T = T} (Err fault) failed
text-blames T Memory failed text well = absurd text
text-blames T Read failed text well = absurd text
text-blames T Write failed text well = absurd text
text-blames T TooLarge failed text well = (refl, well)
text-blames T (LongLine line) failed text well = (refl, well)
text-blames T (Malformed line why) failed text well = (refl, well)
text-blames T (TimeOrder disorder) failed text well = (refl, well)
text-blames T (TooManyRows line) failed text well = (refl, well)
text-blames T PastEnd failed text well = (refl, well)
text-blames T LogTooLarge failed text well = (refl, well)

-- nor memory
pub text-memory : {T : Type 0} (fault : FilterError) → IsOfText fault → HasMemory {T = T} (Err fault)
text-memory Memory text is = absurd text
text-memory Read text is = absurd text
text-memory Write text is = absurd text
text-memory TooLarge text is = cc
text-memory (LongLine line) text is = cc
text-memory (Malformed line why) text is = cc
text-memory (TimeOrder disorder) text is = cc
text-memory (TooManyRows line) text is = cc
text-memory PastEnd text is = cc
text-memory LogTooLarge text is = cc

-- the fault of a part is that of the whole, whatever the part gave
pub blames-on : (T S : Type 0) (fault : FilterError) (failed : Bool) → BlamesWriter {T = T} (Err fault) failed → BlamesWriter {T = S} (Err fault) failed
blames-on T S Memory failed blames = blames
blames-on T S Read failed blames = blames
blames-on T S Write failed blames = blames
blames-on T S TooLarge failed blames = blames
blames-on T S (LongLine line) failed blames = blames
blames-on T S (Malformed line why) failed blames = blames
blames-on T S (TimeOrder disorder) failed blames = blames
blames-on T S (TooManyRows line) failed blames = blames
blames-on T S PastEnd failed blames = blames
blames-on T S LogTooLarge failed blames = blames

pub memory-on : {T S : Type 0} (fault : FilterError) → HasMemory {T = T} (Err fault) → HasMemory {T = S} (Err fault)
memory-on Memory has is = has refl
memory-on Read has is = cc
memory-on Write has is = cc
memory-on TooLarge has is = cc
memory-on (LongLine line) has is = cc
memory-on (Malformed line why) has is = cc
memory-on (TimeOrder disorder) has is = cc
memory-on (TooManyRows line) has is = cc
memory-on PastEnd has is = cc
memory-on LogTooLarge has is = cc

-- no read has failed
pub reads-well : {T : Type 0} (result : Result T FilterError) (read_failed write_failed : Bool) → read_failed ≡ false → BlamesWriter result write_failed → Blames result read_failed write_failed
reads-well {T} result read_failed write_failed well blames = subst (λ (b : Bool). Blames result b write_failed) (sym well) blames
