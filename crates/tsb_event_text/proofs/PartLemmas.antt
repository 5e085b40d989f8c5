-- Fields that a separator parts.
use Rattle.std.proofs.Common.{◌≡◌, ◌∙◌, ℕ, true, false, List, [], ◌∷◌, ◌++◌, refl, ap, sym, inl, inr, Some}
use Rattle.std.proofs.lemmas.Bool.{or_parts}
use Rattle.std.proofs.lemmas.Bool.Decides.{eqb_tells}
use Rattle.std.specs.Prelude.{◌==◌}
use Rattle.tsb_event_text.specs.declared.columns.Separator.{Separator}
use Rattle.tsb_event_text.specs.declared.columns.Separator.TheVariants.{Comma, Semicolon, Tab}
use Rattle.tsb_event_text.specs.Columns.{mark_of}
use Rattle.tsb_event_text.specs.Events.{has_byte}
use Rattle.tsb_event_text.specs.Fields.{Plain, fields_from, fields_of, joined, onto_field, with_field}
use Rattle.tsb_event_text.specs.Laws.{ArePartedAgain, AreReadAlike, is_quoted}
use Rattle.tsb_event_text.specs.Rows.{row_in, row_of}
use Rattle.tsb_event_text.specs.Wide.{wide_in, wide_of}
use Rattle.tsb_event_text.proofs.FieldLemmas.{onto-with}

-- after the beginning of a field, up to a mark
pub inside : (m : ℕ) (xs rest : List ℕ) → has_byte m xs ≡ false → fields_from m Plain (xs ++ m ∷ rest) ≡ with_field xs (fields_of m rest)
inside m [] rest p = elim (eqb_tells m m) [ inl is ↦ rw is.0 refl | inr off ↦ absurd (off.1 refl) ]
inside m (x ∷ xs) rest p = elim (eqb_tells x m) [
  | inl is ↦ absurd (let no : true ≡ false = rw is.0 at p in cc)
  | inr off ↦ rw off.0 (ap (onto_field x) (inside m xs rest (rw off.0 at p)) ∙ onto-with x xs (fields_of m rest))
]

-- up to the end of the line
pub ends : (m : ℕ) (xs : List ℕ) → has_byte m xs ≡ false → fields_from m Plain xs ≡ Some (xs ∷ [])
ends m [] p = refl
ends m (x ∷ xs) p = elim (eqb_tells x m) [
  | inl is ↦ absurd (let no : true ≡ false = rw is.0 at p in cc)
  | inr off ↦ rw off.0 (ap (onto_field x) (ends m xs (rw off.0 at p)))
]

-- an empty field before a mark
nothing : (s : Separator) (rest : List ℕ) → fields_of (mark_of s) (mark_of s ∷ rest) ≡ with_field [] (fields_of (mark_of s) rest)
nothing Comma rest = refl
nothing Semicolon rest = refl
nothing Tab rest = refl

-- a field that begins with no quote, up to a mark
pub first : (s : Separator) (xs rest : List ℕ) → has_byte (mark_of s) xs ≡ false → is_quoted xs ≡ false
    → fields_of (mark_of s) (xs ++ mark_of s ∷ rest) ≡ with_field xs (fields_of (mark_of s) rest)
first s [] rest p q = nothing s rest
first s (x ∷ xs) rest p q = let plain : (x == 34) ≡ false = q in elim (eqb_tells x (mark_of s)) [
  | inl is ↦ absurd (let no : true ≡ false = rw is.0 at p in cc)
  | inr off ↦ rw (plain, off.0) (ap (onto_field x) (inside (mark_of s) xs rest (rw off.0 at p)) ∙ onto-with x xs (fields_of (mark_of s) rest))
]

-- and the last one
pub last : (m : ℕ) (xs : List ℕ) → has_byte m xs ≡ false → is_quoted xs ≡ false → fields_of m xs ≡ Some (xs ∷ [])
last m [] p q = refl
last m (x ∷ xs) p q = let plain : (x == 34) ≡ false = q in elim (eqb_tells x m) [
  | inl is ↦ absurd (let no : true ≡ false = rw is.0 at p in cc)
  | inr off ↦ rw (plain, off.0) (ap (onto_field x) (ends m xs (rw off.0 at p)))
]

-- without a quote a field begins with none
pub unquoted : (xs : List ℕ) → has_byte 34 xs ≡ false → is_quoted xs ≡ false
unquoted [] p = refl
unquoted (x ∷ xs) p = (or_parts (x == 34) (has_byte 34 xs) p).0

-- ## The laws

pub parted : ArePartedAgain
parted s field [] free = last (mark_of s) field free.0 free.1
parted s field (more ∷ fields) free =
    first s field (joined (mark_of s) (more ∷ fields)) free.0 free.1 ∙ ap (with_field field) (parted s more fields free.2)

pub alike : AreReadAlike
unfolding row_of wide_of
alike one other columns times zone asked field fields free clear = (
  ap (row_in columns asked) (parted one field fields free) ∙ sym (ap (row_in columns asked) (parted other field fields clear)),
  ap (wide_in columns times zone asked) (parted one field fields free) ∙ sym (ap (wide_in columns times zone asked) (parted other field fields clear)),
)
