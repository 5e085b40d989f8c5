-- Headers and rows, column by column.
use Rattle.std.proofs.Common.{◌≡◌, ◌∙◌, ℕ, List, refl, ap, Option, Some}
use Rattle.std.specs.Prelude.{slice_get}
use Rattle.tsb_event_text.specs.declared.columns.Column.TheVariants.{Device, Time, Code, Parameter}
use Rattle.tsb_event_text.specs.declared.columns.Columns.{Columns}
use Rattle.tsb_event_text.specs.declared.columns.Separator.{Separator}
use Rattle.tsb_event_text.specs.Fields.{device_at, fields_of}
use Rattle.tsb_event_text.specs.Columns.{place_from, columns_at, columns_in}
use Rattle.tsb_event_text.specs.Rows.{row_with, row_in}

pub columns-with : (separator : Separator) (m : ℕ) (line : List ℕ) (fields : List (List ℕ)) (d t k p : Option ℕ) → fields_of m line ≡ Some fields
    → place_from 0 Device fields ≡ d → place_from 0 Time fields ≡ t → place_from 0 Code fields ≡ k → place_from 0 Parameter fields ≡ p
    → columns_in separator (fields_of m line) ≡ columns_at separator d t k p
columns-with separator m line fields d t k p e hd ht hk hp = ap (columns_in separator) e ∙ rw (hd, ht, hk, hp) refl

pub row-with : (columns : Columns) (asked : Option (List ℕ)) (m : ℕ) (line : List ℕ) (fields : List (List ℕ)) (d t k p : Option (List ℕ)) → fields_of m line ≡ Some fields
    → device_at fields columns.device ≡ d → slice_get fields columns.time ≡ t → slice_get fields columns.code ≡ k → slice_get fields columns.parameter ≡ p
    → row_in columns asked (fields_of m line) ≡ row_with asked d t k p
row-with columns asked m line fields d t k p e hd ht hk hp = ap (row_in columns asked) e ∙ rw (hd, ht, hk, hp) refl
