-- The fields of a line of CSV, which is a list of bytes without its end.
use Rattle.std.specs.Prelude.{ℕ, ◌==◌, Bool, true, false, List, [], ◌∷◌, ◌++◌, slice_get, if◌then◌else◌, Option, Some, None}
use Rattle.tsb_lines.specs.Lines.{onto_first}

-- where a byte stands in a line
pub data Place : Type 0 where
  -- at the beginning of a field
  Start : Place
  -- in a field that no quote began
  Plain : Place
  -- after the quote that began a field
  Quoted : Place
  -- after the quote that ended it
  Closed : Place

-- b before the first of these fields, where there are fields
abbrev pub onto_field : ℕ → Option (List (List ℕ)) → Option (List (List ℕ))
onto_field b None = None
onto_field b (Some fields) = Some (onto_first b fields)

-- this field, and then these, where there are fields
abbrev pub with_field : List ℕ → Option (List (List ℕ)) → Option (List (List ℕ))
with_field field None = None
with_field field (Some fields) = Some (field ∷ fields)

-- the fields of the rest of a line, from this place on. This mark ends a field, a comma, say; within quotes it is a part
-- of it. A field that a quote begins is what stands up to the next quote, and the mark or the line's end has to follow that.
abbrev pub fields_from : ℕ → Place → List ℕ → Option (List (List ℕ))
fields_from mark Start [] = Some ([] ∷ [])
fields_from mark Plain [] = Some ([] ∷ [])
fields_from mark Quoted [] = None
fields_from mark Closed [] = Some ([] ∷ [])
fields_from mark Start (b ∷ bs) =
    if b == 34 then fields_from mark Quoted bs
    else if b == mark then with_field [] (fields_from mark Start bs)
    else onto_field b (fields_from mark Plain bs)
fields_from mark Plain (b ∷ bs) =
    if b == mark then with_field [] (fields_from mark Start bs) else onto_field b (fields_from mark Plain bs)
fields_from mark Quoted (b ∷ bs) =
    if b == 34 then fields_from mark Closed bs else onto_field b (fields_from mark Quoted bs)
fields_from mark Closed (b ∷ bs) = if b == mark then with_field [] (fields_from mark Start bs) else None

-- the fields of a line that this mark parts, or none where a quote is out of place
abbrev pub fields_of : ℕ → List ℕ → Option (List (List ℕ))
fields_of mark line = fields_from mark Start line

-- there are fields
abbrev pub are_there : Option (List (List ℕ)) → Bool
are_there None = false
are_there (Some fields) = true

-- this field, and then those of the rest, where a mark follows it
abbrev pub led_by : List ℕ → Option (Option (List (List ℕ))) → Option (List (List ℕ))
led_by field None = Some (field ∷ [])
led_by field (Some behind) = with_field field behind

-- the field in this place
abbrev pub field_in : Option (List (List ℕ)) → ℕ → Option (List ℕ)
field_in None place = None
field_in (Some fields) place = slice_get fields place

-- the device of these fields: nothing, where no column has it
abbrev pub device_at : List (List ℕ) → Option ℕ → Option (List ℕ)
device_at fields None = Some []
device_at fields (Some place) = slice_get fields place

-- the device of a line
abbrev pub device_in : Option (List (List ℕ)) → Option ℕ → Option (List ℕ)
device_in fields None = Some []
device_in fields (Some place) = field_in fields place

-- a field
abbrev pub is_field : Option (List ℕ) → Bool
is_field None = false
is_field (Some field) = true

-- a line has a third field
abbrev pub has_third : ℕ → List ℕ → Bool
has_third mark line = is_field (field_in (fields_of mark line) 2)

-- fields in a line, with a mark between them
abbrev pub joined : ℕ → List (List ℕ) → List ℕ
joined mark [] = []
joined mark (field ∷ []) = field
joined mark (field ∷ more ∷ fields) = field ++ mark ∷ joined mark (more ∷ fields)
