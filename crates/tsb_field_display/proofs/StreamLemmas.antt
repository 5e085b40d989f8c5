-- Bytes that come one after the other, and the display lines in them.
use Rattle.std.proofs.Common.{◌≡◌, ℕ, ◌+◌, ◌<◌, ◌≤◌, ◌==◌, List, [], ◌∷◌, ◌++◌, length, length-append, Bool, true, false, not, refl, sym, ap, ◌∙◌, append_assoc, Some, None, Ok, Err, arith, subst, inl, inr}
use Rattle.std.specs.declared.option.Option.{Option}
use Rattle.std.specs.List.{cons_option, filter_map}
use Rattle.std.specs.Io.KnownBytes.{Consumes, IsAtEnd, Keeps as KeepsBytes}
use Rattle.std.proofs.lemmas.Bool.{ne_eqb, true≢false}
use Rattle.std.proofs.lemmas.Bool.Decides.{eqb_tells}
use Rattle.std.proofs.lemmas.List.{append-nil}
use Rattle.std.proofs.lemmas.List.Sums.{fold-append}
use Rattle.tsb_lines.specs.Lines.{HasNoFeed, kept, without_return}
use Rattle.tsb_lines.proofs.KeptLemmas.{kept-more, kept-tells}
use Rattle.tsb_lines.proofs.LineLemmas.{feedless-more, length-return, split-alone, split-joined}
use Rattle.tsb_lines.proofs.StreamLemmas.{consumes-kept, consumes-more, consumes-nothing}
use Rattle.tsb_field_display.specs.declared.error.ReplayError.TheVariants.{Memory, Read}
use Rattle.tsb_field_display.specs.declared.shown.Shown.{Shown}
use Rattle.tsb_field_display.specs.declared.stream.DisplayStream.{DisplayStream}
use Rattle.tsb_field_display.specs.declared.stream.TheConstants.{KEPT}
use Rattle.tsb_field_display.specs.Reading.{shown_of}
use Rattle.tsb_field_display.specs.Remaining.{Keeps}
use Rattle.tsb_field_display.specs.Stream.{GoesOn, Going, ReplayRead, Stand, StandsAt, shown_in, shown_lines, start, with_byte, with_bytes, with_held, with_line, with_shown}

-- ## A line of which the first bytes are held

-- a line that is longer shows nothing
other-length : (is_wide : Bool) (line : List ℕ) → 71 ≤ length line → shown_of is_wide line ≡ None
unfolding shown_of
other-length true line long = let off : (length line == 70) ≡ false = ne_eqb (length line) 70 (λ e. absurd (omega (arith, long, e))) in rw off refl
other-length false line long = let off : (length line == 53) ≡ false = ne_eqb (length line) 53 (λ e. absurd (omega (arith, long, e))) in rw off refl

-- whatever its end is
long-shows : (is_wide : Bool) (line : List ℕ) → KEPT ≤ length line → shown_in is_wide line ≡ None
long-shows is_wide line long = let most = length-return line in other-length is_wide (without_return line) (omega (arith, long, most))

-- the bytes that are kept of a line show what it shows
held-shows : (is_wide : Bool) (line : List ℕ) → shown_in is_wide (kept KEPT line) ≡ shown_in is_wide line
held-shows is_wide line = kept-tells (shown_in is_wide) KEPT None (long-shows is_wide) line

-- what is known where these lines have ended, and the bytes of this line that are kept
abbrev pub stand : Bool → List Shown → List ℕ → Stand
stand is_wide shown line = record { is_wide = is_wide; shown = shown; held = kept KEPT line }

-- a byte more of the line
held-further : (is_wide : Bool) (shown : List Shown) (line : List ℕ) (b : ℕ) → with_held (stand is_wide shown line) b ≡ stand is_wide shown (line ++ b ∷ [])
held-further is_wide shown line b = ap (λ (v : List ℕ). record { is_wide = is_wide; shown = shown; held = v }) (kept-more KEPT line (b ∷ []))

-- ## Display lines

shown-on : (shown rest : List Shown) (line : Option Shown) → with_shown shown line ++ rest ≡ shown ++ cons_option line rest
shown-on shown rest None = refl
shown-on shown rest (Some line) = append_assoc shown (line ∷ []) rest

shown-last : (shown : List Shown) (line : Option Shown) → with_shown shown line ≡ shown ++ cons_option line []
shown-last shown None = sym (append-nil shown)
shown-last shown (Some line) = refl

-- a line feed, and a byte that is none
byte-feed : (s : Stand) (b : ℕ) → (b == 10) ≡ true → with_byte s b ≡ with_line s
byte-feed s b e = rw e refl

byte-other : (s : Stand) (b : ℕ) → (b == 10) ≡ false → with_byte s b ≡ with_held s b
byte-other s b e = rw e refl

-- after some lines and the bytes of a line, what is known when the last line has ended
lines-on : (is_wide : Bool) (bytes line : List ℕ) (shown : List Shown) → HasNoFeed line →
    (with_line (with_bytes (stand is_wide shown line) bytes)).shown ≡ shown ++ shown_lines is_wide (line ++ bytes)
lines-on is_wide [] line shown f =
    ap (λ (o : Option Shown). with_shown shown o) (held-shows is_wide line) ∙ shown-last shown (shown_in is_wide line)
    ∙ sym (ap (λ (v : List ℕ). shown ++ shown_lines is_wide v) (append-nil line) ∙ ap (λ (ls : List (List ℕ)). shown ++ filter_map (shown_in is_wide) ls) (split-alone line f))
lines-on is_wide (b ∷ bytes) line shown f = elim (eqb_tells b 10) [
  | inl on ↦
      ap (λ (s : Stand). (with_line (with_bytes s bytes)).shown) (byte-feed (stand is_wide shown line) b on.0)
      ∙ lines-on is_wide bytes [] (with_shown shown (shown_in is_wide (kept KEPT line))) tt
      ∙ ap (λ (o : Option Shown). with_shown shown o ++ shown_lines is_wide bytes) (held-shows is_wide line)
      ∙ shown-on shown (shown_lines is_wide bytes) (shown_in is_wide line)
      ∙ sym (ap (λ (v : ℕ). shown ++ shown_lines is_wide (line ++ v ∷ bytes)) on.1
      ∙ ap (λ (ls : List (List ℕ)). shown ++ filter_map (shown_in is_wide) ls) (split-joined line bytes f))
  | inr off ↦
      ap (λ (s : Stand). (with_line (with_bytes s bytes)).shown) (byte-other (stand is_wide shown line) b off.0 ∙ held-further is_wide shown line b)
      ∙ lines-on is_wide bytes (line ++ b ∷ []) shown (feedless-more line b f off.1)
      ∙ ap (λ (v : List ℕ). shown ++ shown_lines is_wide v) (append_assoc line (b ∷ []) bytes)
]

-- the display lines among bytes are what is known when all of them were taken and the last line has ended
pub lines-taken : (is_wide : Bool) (bytes : List ℕ) → (with_line (with_bytes (start is_wide) bytes)).shown ≡ shown_lines is_wide bytes
lines-taken is_wide bytes = lines-on is_wide bytes [] [] tt

-- ## Lines that are taken whole

no-feed : (b : ℕ) → (b ≡ 10 → ⊥) → (b == 10) ≡ false
no-feed b f = elim (eqb_tells b 10) [ inl on ↦ absurd (f on.1) | inr off ↦ off.0 ]

-- a byte and a piece of a line behind it come to the same as both at once
held-both : (held piece : List ℕ) (b : ℕ) → kept KEPT (kept KEPT (held ++ b ∷ []) ++ piece) ≡ kept KEPT (held ++ b ∷ piece)
held-both held piece b = kept-more KEPT (held ++ b ∷ []) piece ∙ ap (kept KEPT) (append_assoc held (b ∷ []) piece)

-- a piece of a line goes onto what is held of it
pub piece-held : (s : Stand) (piece : List ℕ) → 0 < length piece → HasNoFeed piece → with_bytes s piece ≡ record { is_wide = s.is_wide; shown = s.shown; held = kept KEPT (s.held ++ piece) }
piece-held s [] some f = absurd (omega (arith, some))
piece-held s (b ∷ []) some f = byte-other s b (no-feed b f.0)
piece-held s (b ∷ c ∷ piece) some f =
    ap (λ (t : Stand). with_bytes t (c ∷ piece)) (byte-other s b (no-feed b f.0))
    ∙ piece-held (with_held s b) (c ∷ piece) (omega arith) f.1
    ∙ ap (λ (v : List ℕ). record { is_wide = s.is_wide; shown = s.shown; held = v }) (held-both s.held (c ∷ piece) b)

-- the rest of a line goes onto what is held of it, and the line feed behind it ends the line
pub rest-ended : (s : Stand) (rest : List ℕ) → HasNoFeed rest → with_bytes s (rest ++ 10 ∷ []) ≡ with_line (record { is_wide = s.is_wide; shown = s.shown; held = kept KEPT (s.held ++ rest) })
rest-ended s [] f = ap (λ (o : Option Shown). record { is_wide = s.is_wide; shown = with_shown s.shown o; held = [] }) (sym (held-shows s.is_wide (s.held ++ []) ∙ ap (shown_in s.is_wide) (append-nil s.held)))
rest-ended s (b ∷ rest) f =
    ap (λ (t : Stand). with_bytes t (rest ++ 10 ∷ [])) (byte-other s b (no-feed b f.0))
    ∙ rest-ended (with_held s b) rest f.1
    ∙ ap (λ (v : List ℕ). with_line (record { is_wide = s.is_wide; shown = s.shown; held = v })) (held-both s.held rest b)

-- bytes behind those that were taken
pub bytes-behind : (s : Stand) (taken more : List ℕ) → with_bytes s (taken ++ more) ≡ with_bytes (with_bytes s taken) more
bytes-behind s taken more = fold-append with_byte s taken more

-- ## Reading

pub going_start : (is_wide : Bool) (i : Option (List ℕ)) (failed : Bool) (stream : DisplayStream) → failed ≡ false → StandsAt (start is_wide) stream → Going is_wide failed i i stream 0
going_start is_wide i failed stream well stands = record { well = well; bytes = []; taken = consumes-nothing i; stands = stands; many = omega arith }

-- a read that there may be more after brought a byte
pub going_next : (is_wide more failed : Bool) (i l : Option (List ℕ)) (stream : DisplayStream) (reads : ℕ) → more ≡ true → GoesOn is_wide more failed i l stream reads → Going is_wide failed i l stream (reads + 1)
going_next is_wide more failed i l stream reads is on = record {
  well = on.going.well;
  bytes = on.going.bytes;
  taken = on.going.taken;
  stands = on.going.stands;
  many = let grown = on.grows is in omega (arith, grown);
}

-- bytes more
more-stands : (is_wide : Bool) (old new : DisplayStream) (bytes more : List ℕ) → StandsAt (with_bytes (start is_wide) bytes) old → ((s : Stand) → StandsAt s old → StandsAt (with_bytes s more) new) → StandsAt (with_bytes (start is_wide) (bytes ++ more)) new
more-stands is_wide old new bytes more stands step = subst (λ (s : Stand). StandsAt s new) (sym (fold-append with_byte (start is_wide) bytes more)) (step (with_bytes (start is_wide) bytes) stands)

-- a read failed
pub read_failed : (is_wide was failed : Bool) (i l m : Option (List ℕ)) (stream : DisplayStream) (reads : ℕ) → Going is_wide was i l stream reads → KeepsBytes l m → failed ≡ true → ReplayRead is_wide (Err Read) failed i m
read_failed is_wide was failed i l m stream reads going still is = record { bytes = going.bytes; taken = consumes-kept i l m going.bytes going.taken still; so = inl is }

-- so many bytes were read that no read more is made
pub read_endless : (is_wide failed : Bool) (i l : Option (List ℕ)) (stream : DisplayStream) (reads : ℕ) → 18446744073709551615 ≤ reads → Going is_wide failed i l stream reads → ReplayRead is_wide (Err Read) failed i l
read_endless is_wide failed i l stream reads all going = record { bytes = going.bytes; taken = going.taken; so = inr (let many = going.many in omega (arith, all, many)) }

-- there was no memory for what was read
pub read_wanting : (is_wide was failed : Bool) (i l m : Option (List ℕ)) (stream : DisplayStream) (reads : ℕ) (bytes : List ℕ) → Going is_wide was i l stream reads → Consumes l m bytes → failed ≡ was → ReplayRead is_wide (Err Memory) failed i m
read_wanting is_wide was failed i l m stream reads bytes going taken still =
    record { bytes = going.bytes ++ bytes; taken = consumes-more i l m going.bytes bytes going.taken taken; so = still ∙ going.well }

pub read_end : (is_wide failed : Bool) (i l : Option (List ℕ)) (old new : DisplayStream) (reads : ℕ) → Going is_wide failed i l old reads → IsAtEnd l → ((s : Stand) → StandsAt s old → StandsAt (with_line s) new)
    → ReplayRead is_wide (Ok new.replay) failed i l
read_end is_wide failed i l old new reads going end ends = record {
  bytes = going.bytes;
  taken = going.taken;
  so = (
    going.well,
    end,
    subst (λ (lines : List Shown). Keeps new.replay lines) (lines-taken is_wide going.bytes) (ends (with_bytes (start is_wide) going.bytes) going.stands).shown,
  );
}

-- there was no memory for the last line
pub end_wanting : (is_wide failed : Bool) (i l : Option (List ℕ)) (stream : DisplayStream) (reads : ℕ) → Going is_wide failed i l stream reads → ReplayRead is_wide (Err Memory) failed i l
end_wanting is_wide failed i l stream reads going = record { bytes = going.bytes; taken = going.taken; so = going.well }

-- the bytes of one read more, of which none is the end
pub going_on : (is_wide was failed : Bool) (i l m : Option (List ℕ)) (old new : DisplayStream) (reads count : ℕ) (bytes : List ℕ) → Going is_wide was i l old reads → failed ≡ was → Consumes l m bytes
    → ((s : Stand) → StandsAt s old → StandsAt (with_bytes s bytes) new) → count ≡ length bytes → (count ≡ 0 → IsAtEnd m) → GoesOn is_wide (not (count == 0)) failed i m new reads
going_on is_wide was failed i l m old new reads count bytes going still taken stands long end = record {
  going = record {
    well = still ∙ going.well;
    bytes = going.bytes ++ bytes;
    taken = consumes-more i l m going.bytes bytes going.taken taken;
    stands = more-stands is_wide old new going.bytes bytes going.stands stands;
    many = let all = length-append going.bytes bytes in let many = going.many in omega (arith, all, many);
  };
  end = λ none. elim (eqb_tells count 0) [ inl on ↦ end on.1 | inr off ↦ absurd (more (count == 0) off.0 none) ];
  grows = λ some. elim (eqb_tells count 0) [
    | inl on ↦ absurd (less (count == 0) on.0 some)
    | inr off ↦ let one = off.1 in let all = length-append going.bytes bytes in let many = going.many in omega (arith, one, all, many, long)
  ];
}
  where
    more : (is : Bool) → is ≡ false → not is ≡ false → ⊥
    more true off none = true≢false off
    more false off none = true≢false none

    less : (is : Bool) → is ≡ true → not is ≡ true → ⊥
    less true on some = true≢false (sym some)
    less false on some = true≢false (sym on)
