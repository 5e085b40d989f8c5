-- Rows of a card, channel by channel, and the phases of a pair.
use Rattle.std.proofs.Common.{zero, suc, get_or, length, replicate, set, ◌≡◌, ℕ, ◌+◌, ◌<◌, ◌≤◌, ◌∙◌, Bool, true, false, ◌&&◌, ◌||◌, nat_le, List, [], ◌∷◌, refl, ap, arith, sym, inl, inr}
use Rattle.std.specs.List.{list_any}
use Rattle.std.proofs.lemmas.Bool.{and_parts, cases_eq, cases_lt, le-leb, le-ltb, lt-leb, lt-ltb}
use Rattle.std.proofs.lemmas.Grind.{get_or-set_at}
use Rattle.std.proofs.lemmas.List.{get_or-replicate, get_or-set_other, get_or_past}
use Rattle.tsb_plan.specs.Plan.{Plan, phases}
use Rattle.tsb_types.specs.Sets.{has_number, set_of_list}
use Rattle.tsb_types.specs.declared.number_set.NumberSet.{NumberSet}
use Rattle.tsb_types.proofs.SetLemmas.{names-zero}
use Rattle.tsb_card.specs.declared.card.Card.{Card}
use Rattle.tsb_card.specs.Card.{permits}
use Rattle.tsb_card.specs.Pairs.{IsByPhases, channel, is_listed, is_lit_beside, is_pair, is_permissive, lights, meets}

pub beyond : (k b : ℕ) (pair : Bool) → 16 ≤ k → (is_listed (suc k) b && pair) ≡ false
beyond k b pair past = elim (cases_lt (suc k) b) [
  | inl above ↦
      (let one : nat_le 1 (suc k) ≡ true = le-leb 1 (suc k) (omega arith) in
      let far : nat_le b 16 ≡ false = lt-leb b 16 (omega (arith, above, past)) in rw (one, lt-ltb (suc k) b above, far) refl)
  | inr below ↦ (let one : nat_le 1 (suc k) ≡ true = le-leb 1 (suc k) (omega arith) in rw (one, le-ltb (suc k) b below) refl)
]

-- at first all rows are blank
pub blank-rows : (row : NumberSet) → ((n : ℕ) → has_number row n ≡ false) → (k b : ℕ) → has_number (get_or (replicate 16 row) k (set_of_list 0)) b ≡ false
blank-rows row none k b = elim (cases_lt k 16) [
  | inl below ↦ ap (λ (r : NumberSet). has_number r b) (get_or-replicate 16 k row (set_of_list 0) below) ∙ none b
  | inr past ↦
      (let all : length (replicate 16 row) ≤ k = past in
      ap (λ (r : NumberSet). has_number r b) (get_or_past (replicate 16 row) k (set_of_list 0) all) ∙ names-zero b)
]

-- a row is put at a place
module _ (rows : List NumberSet) (place at : ℕ) (row : NumberSet) (same : at ≡ place) (within : place < length rows) where
  there : get_or (set rows at row) place (set_of_list 0) ≡ row
  there = get_or-set_at rows at place row (set_of_list 0) (sym same) (omega (arith, same, within))

  -- the rows so far are good, with that of this place
  pub rows-done : (good : ℕ → ℕ → Bool) → ((b : ℕ) → has_number row b ≡ good place b) → ((k : ℕ) → k < place → (b : ℕ) → has_number (get_or rows k (set_of_list 0)) b ≡ good k b)
      → (k : ℕ) → k < place + 1 → (b : ℕ) → has_number (get_or (set rows at row) k (set_of_list 0)) b ≡ good k b
  rows-done good here before k below b = elim (cases_eq k place) [
    | inl is ↦ rw is (ap (λ (r : NumberSet). has_number r b) there ∙ here b)
    | inr apart ↦
        ap (λ (r : NumberSet). has_number r b) (get_or-set_other rows at k row (set_of_list 0) (λ e. apart (e ∙ same)))
        ∙ before k (omega (arith, below, apart)) b
  ]

  -- and the others are blank
  pub rows-left : ((k : ℕ) → place ≤ k → (b : ℕ) → has_number (get_or rows k (set_of_list 0)) b ≡ false)
      → (k : ℕ) → place + 1 ≤ k → (b : ℕ) → has_number (get_or (set rows at row) k (set_of_list 0)) b ≡ false
  rows-left blank k from b =
      ap (λ (r : NumberSet). has_number r b) (get_or-set_other rows at k row (set_of_list 0) (λ e. omega (arith, e, same, from)))
      ∙ blank k (omega (arith, from)) b

-- all rows
pub rows-all : (plan : Plan) (card : Card) (n : ℕ) → 16 ≤ n → ((k : ℕ) → k < n → (b : ℕ) → permits card (suc k) b ≡ is_permissive plan (suc k) b) → ((k : ℕ) → n ≤ k → (b : ℕ) → permits card (suc k) b ≡ false)
    → (a b : ℕ) → permits card a b ≡ is_permissive plan a b
rows-all plan card n all done left zero b = refl
rows-all plan card n all done left (suc k) b = elim (cases_lt k n) [
  | inl below ↦ done k below b
  | inr past ↦ left k past b ∙ sym (beyond k b (is_pair plan (suc k) b) (omega (arith, past, all)))
]

-- ## The law

-- one of a list that passes a test
passing : (test : ℕ → Bool) (ps : List ℕ) → list_any test ps ≡ true → (p : ℕ) × (test p ≡ true)
passing test [] h = absurd (cc)
passing test (p ∷ ps) h = go (test p) refl h (λ later. passing test ps later)
  where
    go : (t : Bool) → test p ≡ t → (t || list_any test ps) ≡ true → (list_any test ps ≡ true → (q : ℕ) × (test q ≡ true)) → (q : ℕ) × (test q ≡ true)
    go true is some rest = (p, is)
    go false is some rest = rest some

pub by-phases : (plan : Plan) (a b : ℕ) → is_pair plan a b ≡ true → IsByPhases plan a b
unfolding is_pair
by-phases plan a b pair =
    let one = passing (meets plan (channel plan a) (channel plan b)) (phases plan) pair in
    let both = and_parts (lights plan (channel plan a) one.0) (list_any (is_lit_beside plan (channel plan b) one.0) (phases plan)) one.1 in
    let other = passing (is_lit_beside plan (channel plan b) one.0) (phases plan) both.1 in
    let beside = and_parts (lights plan (channel plan b) other.0) _ other.1 in
    record { one = one.0; other = other.0; lights_one = both.0; lights_other = beside.0; together = beside.1 }
