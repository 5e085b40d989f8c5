-- Reading by places: how many entries and records are read, which one stands at an index, and that
-- lists of bytes which agree before a place hold the same records before it.
use Rattle.std.proofs.Common.{◌≡◌, ℕ, zero, suc, ◌+◌, ◌-◌, ◌*◌, ◌<◌, ◌≤◌, List, ◌∷◌, length, get_or, refl, sym, ap, subst, arith, ◌∙◌, slice_get, Some, None}
use Rattle.tsb_history.specs.History.{Change, newest_at, newest_start, older, size_of}
use Rattle.tsb_history.specs.Bytes.{entries_at, count_at, start_at, change_at, changes_at, IsRecordAt, IsLaid, two_at, four_at, kind_of}

-- so many entries are read as are asked for, and so many records
pub length-entries_at : (n : ℕ) (bs : List ℕ) (i : ℕ) → length (entries_at n bs i) ≡ n
length-entries_at zero bs i = refl
length-entries_at (suc n) bs i = ap suc (length-entries_at n bs (i + 6))

pub length-changes_at : (n : ℕ) (bs : List ℕ) (end : ℕ) → length (changes_at n bs end) ≡ n
length-changes_at zero bs end = refl
length-changes_at (suc n) bs end = ap suc (length-changes_at n bs (start_at bs end))

-- records take all bytes before the place at which the last of them ends
pub size-laid : (n : ℕ) (bs : List ℕ) (end : ℕ) → IsLaid n bs end → size_of (changes_at n bs end) ≡ end
size-laid zero bs end laid = sym laid
size-laid (suc n) bs end laid =
    let fits : 6 * count_at bs end + 3 ≤ end = laid.0.whole in
    let count : length (entries_at (count_at bs end) bs (start_at bs end)) ≡ count_at bs end = length-entries_at (count_at bs end) bs (start_at bs end) in
    let rest : size_of (changes_at n bs (start_at bs end)) ≡ start_at bs end = size-laid n bs (start_at bs end) laid.1 in
    omega arith

-- the records before the newest end where it begins
pub rest-laid : (n : ℕ) (bs : List ℕ) (end : ℕ) → (n ≡ 0 → ⊥) → IsLaid n bs end → IsLaid (n - 1) bs (start_at bs end)
rest-laid zero bs end some laid = absurd (some refl)
rest-laid (suc n) bs end some laid = let one : n ≡ suc n - 1 = omega arith in subst (λ (m : ℕ). IsLaid m bs (start_at bs end)) one laid.1

-- the newest of some records is the one that ends last, and begins behind all others
pub newest_at-some : (n : ℕ) (bs : List ℕ) (end : ℕ) → (n ≡ 0 → ⊥) → IsLaid n bs end → newest_at (changes_at n bs end) ≡ Some (change_at bs end, start_at bs end)
newest_at-some zero bs end some laid = absurd (some refl)
newest_at-some (suc n) bs end some laid = ap (λ (m : ℕ). Some (change_at bs end, m)) (size-laid n bs (start_at bs end) laid.1)

-- so where one begins at a place, there is one, and it is that
pub start-some : (n : ℕ) (bs : List ℕ) (end start : ℕ) → newest_start (changes_at n bs end) ≡ Some start → n ≡ 0 → ⊥
start-some zero bs end start begins e = cc
start-some (suc n) bs end start begins e = omega (arith, e)

pub start-is : (n : ℕ) (bs : List ℕ) (end start : ℕ) → IsLaid n bs end → newest_start (changes_at n bs end) ≡ Some start → start ≡ start_at bs end
start-is zero bs end start laid begins = absurd (cc)
start-is (suc n) bs end start laid begins =
    let rest : size_of (changes_at n bs (start_at bs end)) ≡ start_at bs end = size-laid n bs (start_at bs end) laid.1 in
    let same : size_of (changes_at n bs (start_at bs end)) ≡ start = cc in
    sym same ∙ rest

-- the newest record takes the bytes from its start on
pub size-newest : (n : ℕ) (bs : List ℕ) (end : ℕ) → (n ≡ 0 → ⊥) → IsLaid n bs end → size_of (changes_at n bs end) + start_at bs end ≡ size_of (older (changes_at n bs end)) + end
size-newest zero bs end some laid = absurd (some refl)
size-newest (suc n) bs end some laid =
    let fits : 6 * count_at bs end + 3 ≤ end = laid.0.whole in
    let count : length (entries_at (count_at bs end) bs (start_at bs end)) ≡ count_at bs end = length-entries_at (count_at bs end) bs (start_at bs end) in
    omega arith

-- an entry that is there, and one that is not
pub entry-there : (n : ℕ) (bs : List ℕ) (k i : ℕ) → i < n → slice_get (entries_at n bs k) i ≡ Some (two_at bs (k + 6 * i), four_at bs (k + 6 * i + 2))
entry-there zero bs k i h = absurd (omega arith)
entry-there (suc n) bs k zero h =
    let same : k ≡ k + 6 * 0 = omega arith in
    ap (λ (m : ℕ). Some (two_at bs m, four_at bs (m + 2))) same
entry-there (suc n) bs k (suc i) h =
    let same : k + 6 + 6 * i ≡ k + 6 * suc i = omega arith in
    entry-there n bs (k + 6) i (omega arith) ∙ ap (λ (m : ℕ). Some (two_at bs m, four_at bs (m + 2))) same

pub entry-none : (n : ℕ) (bs : List ℕ) (k i : ℕ) → n ≤ i → slice_get (entries_at n bs k) i ≡ None
entry-none zero bs k i h = refl
entry-none (suc n) bs k zero h = absurd (omega arith)
entry-none (suc n) bs k (suc i) h = entry-none n bs (k + 6) i (omega arith)

-- two lists of bytes agree before a place
pub record Agree (bs cs : List ℕ) (end : ℕ) : Type 0 where
  pub each : (i : ℕ) → i < end → get_or cs i 0 ≡ get_or bs i 0

-- so they hold the same numbers, entries and records before it
two_same : (bs cs : List ℕ) (end i : ℕ) → Agree bs cs end → i + 2 ≤ end → two_at cs i ≡ two_at bs i
two_same bs cs end i a h =
    let first : get_or cs i 0 ≡ get_or bs i 0 = a.each i (omega arith) in
    let second : get_or cs (i + 1) 0 ≡ get_or bs (i + 1) 0 = a.each (i + 1) (omega arith) in
    omega arith

four_same : (bs cs : List ℕ) (end i : ℕ) → Agree bs cs end → i + 4 ≤ end → four_at cs i ≡ four_at bs i
four_same bs cs end i a h =
    let first : get_or cs i 0 ≡ get_or bs i 0 = a.each i (omega arith) in
    let second : get_or cs (i + 1) 0 ≡ get_or bs (i + 1) 0 = a.each (i + 1) (omega arith) in
    let third : get_or cs (i + 2) 0 ≡ get_or bs (i + 2) 0 = a.each (i + 2) (omega arith) in
    let fourth : get_or cs (i + 3) 0 ≡ get_or bs (i + 3) 0 = a.each (i + 3) (omega arith) in
    omega arith

entries_same : (n : ℕ) (bs cs : List ℕ) (end i : ℕ) → Agree bs cs end → i + 6 * n ≤ end → entries_at n cs i ≡ entries_at n bs i
entries_same zero bs cs end i a h = refl
entries_same (suc n) bs cs end i a h =
    let cell : two_at cs i ≡ two_at bs i = two_same bs cs end i a (omega arith) in
    let old : four_at cs (i + 2) ≡ four_at bs (i + 2) = four_same bs cs end (i + 2) a (omega arith) in
    let rest : entries_at n cs (i + 6) ≡ entries_at n bs (i + 6) = entries_same n bs cs end (i + 6) a (omega arith) in
    ap (λ (m : ℕ). (m, four_at cs (i + 2)) ∷ entries_at n cs (i + 6)) cell
    ∙ ap (λ (m : ℕ). (two_at bs i, m) ∷ entries_at n cs (i + 6)) old
    ∙ ap (λ (es : List (ℕ × ℕ)). (two_at bs i, four_at bs (i + 2)) ∷ es) rest

count_same : (bs cs : List ℕ) (end : ℕ) → Agree bs cs end → IsRecordAt bs end → count_at cs end ≡ count_at bs end
count_same bs cs end a h = let fits : 6 * count_at bs end + 3 ≤ end = h.whole in two_same bs cs end (end - 2) a (omega arith)

start_same : (bs cs : List ℕ) (end : ℕ) → Agree bs cs end → IsRecordAt bs end → start_at cs end ≡ start_at bs end
start_same bs cs end a h = ap (λ (n : ℕ). end - (6 * n + 3)) (count_same bs cs end a h)

kind_same : (bs cs : List ℕ) (end : ℕ) → Agree bs cs end → IsRecordAt bs end → get_or cs (end - 3) 0 ≡ get_or bs (end - 3) 0
kind_same bs cs end a h = let fits : 6 * count_at bs end + 3 ≤ end = h.whole in a.each (end - 3) (omega arith)

agree-start : (bs cs : List ℕ) (end : ℕ) → Agree bs cs end → Agree bs cs (start_at bs end)
agree-start bs cs end a = record { each = λ i h. a.each i (omega arith) }

change_same : (bs cs : List ℕ) (end : ℕ) → Agree bs cs end → IsRecordAt bs end → change_at cs end ≡ change_at bs end
change_same bs cs end a h =
    let fits : 6 * count_at bs end + 3 ≤ end = h.whole in
    let there : entries_at (count_at bs end) cs (start_at bs end) ≡ entries_at (count_at bs end) bs (start_at bs end) =
    entries_same (count_at bs end) bs cs end (start_at bs end) a (omega arith) in
    ap (λ (k : ℕ). let made : Change = record { kind = kind_of k; entries = entries_at (count_at cs end) cs (start_at cs end) } in made) (kind_same bs cs end a h)
    ∙ ap (λ (n : ℕ). let made : Change = record { kind = kind_of (get_or bs (end - 3) 0); entries = entries_at n cs (end - (6 * n + 3)) } in made) (count_same bs cs end a h)
    ∙ ap (λ (es : List (ℕ × ℕ)). let made : Change = record { kind = kind_of (get_or bs (end - 3) 0); entries = es } in made) there

-- the records before a place are those of the bytes before it
pub changes_same : (n : ℕ) (bs cs : List ℕ) (end : ℕ) → Agree bs cs end → IsLaid n bs end → changes_at n cs end ≡ changes_at n bs end
changes_same zero bs cs end a h = refl
changes_same (suc n) bs cs end a h =
    ap (λ (r : Change). r ∷ changes_at n cs (start_at cs end)) (change_same bs cs end a h.0)
    ∙ ap (λ (m : ℕ). change_at bs end ∷ changes_at n cs m) (start_same bs cs end a h.0)
    ∙ ap (λ (rs : List Change). change_at bs end ∷ rs) (changes_same n bs cs (start_at bs end) (agree-start bs cs end a) h.1)

pub laid_same : (n : ℕ) (bs cs : List ℕ) (end : ℕ) → Agree bs cs end → IsLaid n bs end → IsLaid n cs end
laid_same zero bs cs end a h = h
laid_same (suc n) bs cs end a h =
    let whole : 6 * count_at bs end + 3 ≤ end = h.0.whole in (
      record { whole = subst (λ (m : ℕ). 6 * m + 3 ≤ end) (sym (count_same bs cs end a h.0)) whole },
      subst (λ (m : ℕ). IsLaid n cs m) (sym (start_same bs cs end a h.0)) (laid_same n bs cs (start_at bs end) (agree-start bs cs end a) h.1),
    )

-- there are no more records than bytes
pub count-laid : (n : ℕ) (bs : List ℕ) (end : ℕ) → IsLaid n bs end → n ≤ end
count-laid zero bs end h = omega arith
count-laid (suc n) bs end h =
    let fits : 6 * count_at bs end + 3 ≤ end = h.0.whole in
    let rest : n ≤ end - (6 * count_at bs end + 3) = count-laid n bs (start_at bs end) h.1 in
    omega arith
