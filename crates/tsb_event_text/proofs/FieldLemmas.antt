-- Fields of a line, one after another.
use Rattle.std.proofs.Common.{◌≡◌, ℕ, ◌+◌, ◌-◌, ◌<◌, true, false, List, [], ◌∷◌, length, refl, sym, ap, ◌∙◌, arith, zero, suc, get_or, take, drop, inl, inr, Option, Some, None, length-drop, take_all}
use Rattle.std.proofs.lemmas.Bool.Decides.{eqb_tells}
use Rattle.std.specs.Prelude.{slice_get}
use Rattle.tsb_event_text.specs.declared.columns.Column.{Column}
use Rattle.tsb_event_text.specs.Fields.{Plain, Quoted, Closed, onto_field, with_field, led_by, fields_from, fields_of, are_there}
use Rattle.tsb_event_text.specs.Columns.{names_column, place_from}

-- none of the first n bytes is b
abbrev pub Without : ℕ → List ℕ → ℕ → Type 0
Without b xs n = (k : ℕ) → k < n → get_or xs k 0 ≡ b → ⊥

pub onto-with : (b : ℕ) (field : List ℕ) (o : Option (List (List ℕ))) → onto_field b (with_field field o) ≡ with_field (b ∷ field) o
onto-with b field None = refl
onto-with b field (Some fields) = refl

-- ## A field that no quote began

pub plain-last : (m : ℕ) (xs : List ℕ) → Without m xs (length xs) → fields_from m Plain xs ≡ Some (xs ∷ [])
plain-last m [] f = refl
plain-last m (b ∷ bs) f = elim (eqb_tells b m) [
  | inl z ↦ absurd (f 0 (omega arith) z.1)
  | inr off ↦ rw off.0 (ap (onto_field b) (plain-last m bs (λ k lt. f (suc k) (omega (arith, lt)))))
]

pub plain-first : (m : ℕ) (xs : List ℕ) (n : ℕ) → n < length xs → Without m xs n → get_or xs n 0 ≡ m → fields_from m Plain xs ≡ with_field (take n xs) (fields_of m (drop (suc n) xs))
plain-first m [] n lt f e = absurd (omega (arith, lt))
plain-first m (b ∷ bs) zero lt f e = let z : b ≡ m = e in elim (eqb_tells b m) [ inl is ↦ rw is.0 refl | inr off ↦ absurd (off.1 z) ]
plain-first m (b ∷ bs) (suc n) lt f e = elim (eqb_tells b m) [
  | inl z ↦ absurd (f 0 (omega arith) z.1)
  | inr off ↦
      rw off.0
      (ap (onto_field b) (plain-first m bs n (omega (arith, lt)) (λ k below. f (suc k) (omega (arith, below))) e)
      ∙ onto-with b (take n bs) (fields_of m (drop (suc n) bs)))
]

-- ## A field that a quote began

pub quoted-open : (m : ℕ) (xs : List ℕ) → Without 34 xs (length xs) → fields_from m Quoted xs ≡ None
quoted-open m [] f = refl
quoted-open m (b ∷ bs) f = elim (eqb_tells b 34) [
  | inl z ↦ absurd (f 0 (omega arith) z.1)
  | inr off ↦ rw off.0 (ap (onto_field b) (quoted-open m bs (λ k lt. f (suc k) (omega (arith, lt)))))
]

pub quoted-first : (m : ℕ) (xs : List ℕ) (n : ℕ) (o : Option (List (List ℕ))) → n < length xs → Without 34 xs n → get_or xs n 0 ≡ 34 → fields_from m Closed (drop (suc n) xs) ≡ with_field [] o
    → fields_from m Quoted xs ≡ with_field (take n xs) o
quoted-first m [] n o lt f e h = absurd (omega (arith, lt))
quoted-first m (b ∷ bs) zero o lt f e h = let z : b ≡ 34 = e in rw z h
quoted-first m (b ∷ bs) (suc n) o lt f e h = elim (eqb_tells b 34) [
  | inl z ↦ absurd (f 0 (omega arith) z.1)
  | inr off ↦
      rw off.0
      (ap (onto_field b) (quoted-first m bs n o (omega (arith, lt)) (λ k below. f (suc k) (omega (arith, below))) e h)
      ∙ onto-with b (take n bs) o)
]

closed-end : (m : ℕ) (xs : List ℕ) → length xs ≡ 0 → fields_from m Closed xs ≡ with_field [] (Some [])
closed-end m [] e = refl
closed-end m (b ∷ bs) e = absurd (omega (arith, e))

closed-mark : (m : ℕ) (xs : List ℕ) → 0 < length xs → get_or xs 0 0 ≡ m → fields_from m Closed xs ≡ with_field [] (fields_of m (drop 1 xs))
closed-mark m [] lt e = absurd (omega (arith, lt))
closed-mark m (b ∷ bs) lt e = let z : b ≡ m = e in elim (eqb_tells b m) [ inl is ↦ rw is.0 refl | inr off ↦ absurd (off.1 z) ]

closed-other : (m : ℕ) (xs : List ℕ) → 0 < length xs → (get_or xs 0 0 ≡ m → ⊥) → fields_from m Closed xs ≡ with_field [] None
closed-other m [] lt e = absurd (omega (arith, lt))
closed-other m (b ∷ bs) lt e = elim (eqb_tells b m) [ inl z ↦ absurd (e z.1) | inr off ↦ rw off.0 refl ]

pub quoted-end : (m : ℕ) (xs : List ℕ) (n : ℕ) → n < length xs → Without 34 xs n → get_or xs n 0 ≡ 34 → length (drop (suc n) xs) ≡ 0 → fields_from m Quoted xs ≡ Some (take n xs ∷ [])
quoted-end m xs n lt f e none = quoted-first m xs n (Some []) lt f e (closed-end m (drop (suc n) xs) none)

pub quoted-mark : (m : ℕ) (xs : List ℕ) (n : ℕ) → n < length xs → Without 34 xs n → get_or xs n 0 ≡ 34 → 0 < length (drop (suc n) xs) → get_or (drop (suc n) xs) 0 0 ≡ m
    → fields_from m Quoted xs ≡ with_field (take n xs) (fields_of m (drop 1 (drop (suc n) xs)))
quoted-mark m xs n lt f e some is = quoted-first m xs n (fields_of m (drop 1 (drop (suc n) xs))) lt f e (closed-mark m (drop (suc n) xs) some is)

pub quoted-other : (m : ℕ) (xs : List ℕ) (n : ℕ) → n < length xs → Without 34 xs n → get_or xs n 0 ≡ 34 → 0 < length (drop (suc n) xs) → (get_or (drop (suc n) xs) 0 0 ≡ m → ⊥)
    → fields_from m Quoted xs ≡ None
quoted-other m xs n lt f e some other = quoted-first m xs n None lt f e (closed-other m (drop (suc n) xs) some other)

-- what stands after the first byte, as a slice
pub tail : (xs : List ℕ) → take (length xs - 1) (drop 1 xs) ≡ drop 1 xs
tail xs = take_all (length xs - 1) (drop 1 xs) (let l : length (drop 1 xs) ≡ length xs - 1 = length-drop 1 xs in omega (arith, l))

-- ## One field after another

-- a line that has fields has them after a mark as well
pub behind-mark : (field : List ℕ) (more : Option (List (List ℕ))) (now : List (List ℕ)) → with_field field more ≡ Some now → (later : List (List ℕ)) × (more ≡ Some later) × (now ≡ field ∷ later)
behind-mark field None now e = absurd (cc)
behind-mark field (Some later) now e = (later, refl, cc)

-- where fields are there, they are there after each mark
pub there-more : (m : ℕ) (line : List ℕ) (field : List ℕ) (more : Option (List (List ℕ))) → fields_of m line ≡ with_field field more → are_there more ≡ are_there (fields_of m line)
there-more m line field None e = ap are_there (sym e)
there-more m line field (Some later) e = ap are_there (sym e)

-- the field in a place of a line, as far as it was read: what is left of the place, from the fields that are left
pub record Reaches (m : ℕ) (fields : List (List ℕ)) (place : ℕ) (rest : List ℕ) (left : ℕ) : Type 0 where
  pub now : List (List ℕ)
  pub are : fields_of m rest ≡ Some now
  pub same : slice_get now left ≡ slice_get fields place

pub reaches-here : (m : ℕ) (fields : List (List ℕ)) (place : ℕ) (rest field : List ℕ) (left : ℕ) (more : Option (Option (List (List ℕ)))) → Reaches m fields place rest left → fields_of m rest ≡ led_by field more → left ≡ 0
    → Some field ≡ slice_get fields place
reaches-here m fields place rest field left None r e z =
    let first : Some r.now ≡ Some (field ∷ []) = sym r.are ∙ e in
    let is : r.now ≡ field ∷ [] = cc in
    sym (ap (λ (fs : List (List ℕ)). slice_get fs 0) is) ∙ ap (slice_get r.now) (sym z) ∙ r.same
reaches-here m fields place rest field left (Some more) r e z =
    let (later, some, is) = behind-mark field more r.now (sym e ∙ r.are) in
    sym (ap (λ (fs : List (List ℕ)). slice_get fs 0) is) ∙ ap (slice_get r.now) (sym z) ∙ r.same

pub reaches-past : (m : ℕ) (fields : List (List ℕ)) (place : ℕ) (rest field : List ℕ) (left : ℕ) → Reaches m fields place rest left → fields_of m rest ≡ Some (field ∷ []) → (left ≡ 0 → ⊥) → None ≡ slice_get fields place
reaches-past m fields place rest field zero r e n = absurd (n refl)
reaches-past m fields place rest field (suc left) r e n =
    let first : Some r.now ≡ Some (field ∷ []) = sym r.are ∙ e in
    let is : r.now ≡ field ∷ [] = cc in
    sym (ap (λ (fs : List (List ℕ)). slice_get fs (suc left)) is) ∙ r.same

pub reaches-more : (m : ℕ) (fields : List (List ℕ)) (place : ℕ) (rest field more : List ℕ) (left : ℕ) → Reaches m fields place rest left → fields_of m rest ≡ with_field field (fields_of m more) → (left ≡ 0 → ⊥) → Reaches m fields place more (left - 1)
reaches-more m fields place rest field more zero r e n = absurd (n refl)
reaches-more m fields place rest field more (suc left) r e n =
    let (later, some, is) = behind-mark field (fields_of m more) r.now (sym e ∙ r.are) in
    record {
      now = later;
      are = some;
      same = (let less : suc left - 1 ≡ left = omega arith in ap (slice_get later) less) ∙ sym (ap (λ (fs : List (List ℕ)). slice_get fs (suc left)) is) ∙ r.same;
    }

pub reaches-none : (m : ℕ) (fields : List (List ℕ)) (place : ℕ) (rest : List ℕ) (left : ℕ) → Reaches m fields place rest left → fields_of m rest ≡ None → None ≡ slice_get fields place
reaches-none m fields place rest left r e = absurd (let no : Some r.now ≡ None = sym r.are ∙ e in cc)

-- ## The place of a column

-- the place of a column, as far as fields were read: this many were, and none of them names it
pub record Seeks (m : ℕ) (column : Column) (fields : List (List ℕ)) (rest : List ℕ) (place : ℕ) : Type 0 where
  pub now : List (List ℕ)
  pub are : fields_of m rest ≡ Some now
  pub same : place_from place column now ≡ place_from 0 column fields

pub seeks-none : (m : ℕ) (column : Column) (fields : List (List ℕ)) (rest : List ℕ) (place : ℕ) → Seeks m column fields rest place → fields_of m rest ≡ None → None ≡ place_from 0 column fields
seeks-none m column fields rest place s e = absurd (let no : Some s.now ≡ None = sym s.are ∙ e in cc)

-- the field that comes first, of a line that has fields
leads : (m : ℕ) (rest field : List ℕ) (more : Option (Option (List (List ℕ)))) (now : List (List ℕ)) → fields_of m rest ≡ led_by field more → fields_of m rest ≡ Some now → (later : List (List ℕ)) × (now ≡ field ∷ later)
leads m rest field None now e are = ([], (let first : Some now ≡ Some (field ∷ []) = sym are ∙ e in cc))
leads m rest field (Some more) now e are = let (later, some, is) = behind-mark field more now (sym e ∙ are) in (later, is)

pub seeks-here : (m : ℕ) (column : Column) (fields : List (List ℕ)) (rest field : List ℕ) (more : Option (Option (List (List ℕ)))) (place : ℕ) → Seeks m column fields rest place → fields_of m rest ≡ led_by field more
    → names_column column field ≡ true → Some place ≡ place_from 0 column fields
seeks-here m column fields rest field more place s e named =
    let (later, is) = leads m rest field more s.now e s.are in
    let first : place_from place column (field ∷ later) ≡ Some place = rw named refl in
    sym first ∙ sym (ap (place_from place column) is) ∙ s.same

pub seeks-past : (m : ℕ) (column : Column) (fields : List (List ℕ)) (rest field : List ℕ) (place : ℕ) → Seeks m column fields rest place → fields_of m rest ≡ Some (field ∷ []) → names_column column field ≡ false
    → None ≡ place_from 0 column fields
seeks-past m column fields rest field place s e other =
    let first : Some s.now ≡ Some (field ∷ []) = sym s.are ∙ e in
    let is : s.now ≡ field ∷ [] = cc in
    let none : place_from place column (field ∷ []) ≡ None = rw other refl in
    sym none ∙ sym (ap (place_from place column) is) ∙ s.same

pub seeks-more : (m : ℕ) (column : Column) (fields : List (List ℕ)) (rest field more : List ℕ) (place : ℕ) → Seeks m column fields rest place → fields_of m rest ≡ with_field field (fields_of m more) → names_column column field ≡ false
    → Seeks m column fields more (place + 1)
seeks-more m column fields rest field more place s e other =
    let (later, some, is) = behind-mark field (fields_of m more) s.now (sym e ∙ s.are) in
    let next : place_from place column (field ∷ later) ≡ place_from (place + 1) column later = rw other refl in
    record {
      now = later;
      are = some;
      same = sym next ∙ sym (ap (place_from place column) is) ∙ s.same;
    }

-- ## Fields that are there

pub some-there : (m : ℕ) (line : List ℕ) → are_there (fields_of m line) ≡ true → (fields : List (List ℕ)) × (fields_of m line ≡ Some fields)
some-there m line e = at (fields_of m line) refl e
  where
    at : (o : Option (List (List ℕ))) → fields_of m line ≡ o → are_there (fields_of m line) ≡ true → (fields : List (List ℕ)) × (fields_of m line ≡ Some fields)
    at None is e = absurd (let no : are_there (fields_of m line) ≡ false = ap are_there is in cc)
    at (Some fields) is e = (fields, is)

pub none-there : (m : ℕ) (line : List ℕ) → are_there (fields_of m line) ≡ false → fields_of m line ≡ None
none-there m line e = at (fields_of m line) refl e
  where
    at : (o : Option (List (List ℕ))) → fields_of m line ≡ o → are_there (fields_of m line) ≡ false → fields_of m line ≡ None
    at None is e = is
    at (Some fields) is e = absurd (let no : are_there (fields_of m line) ≡ true = ap are_there is in cc)
