-- What was written is read again: the spelling of a record after other bytes, and so the records
-- and the bytes of a history after a push and after a pop.
use Rattle.std.proofs.Common.{◌≡◌, ℕ, zero, suc, ◌+◌, ◌-◌, ◌*◌, ◌≤◌, List, [], ◌∷◌, ◌++◌, length, get_or, take, refl, sym, ap, subst, arith, ◌∙◌, append_assoc, length-append, get_or-append-add, get_or-take, length-take-le, add_assoc, take_at, All}
use Rattle.std.proofs.Math.ListN.{get_or-append}
use Rattle.std.proofs.lemmas.List.Elements.{All-cons, All-tail, All-head}
use Rattle.std.proofs.lemmas.Nat.{from_le_bytes-to_le_bytes_2, from_le_bytes-to_le_bytes_4}
use Rattle.std.specs.Int.{w16, w32, to_le_bytes}
use Rattle.tsb_history.specs.declared.kinds.Kind.{Kind}
use Rattle.tsb_history.specs.declared.kinds.Kind.TheVariants.{Tick}
use Rattle.tsb_history.specs.History.{Change, older, size_of, FitsEntry, FitsRecord}
use Rattle.tsb_history.specs.Bytes.{entries_at, count_at, start_at, change_at, changes_at, IsRecordAt, IsLaid, two_at, four_at, kind_of, code_of, entry_bytes, entries_bytes, record_bytes, IsKept, bytes_of}
use Rattle.tsb_history.proofs.PlaceLemmas.{length-entries_at, changes_same, laid_same, Agree}

-- a list of bytes after another is read in the same way
two_behind : (xs ys : List ℕ) (i : ℕ) → two_at (xs ++ ys) (length xs + i) ≡ two_at ys i
two_behind xs ys i =
    let next : length xs + i + 1 ≡ length xs + (i + 1) = omega arith in
    let first : get_or (xs ++ ys) (length xs + i) 0 ≡ get_or ys i 0 = get_or-append-add xs ys i 0 in
    let second : get_or (xs ++ ys) (length xs + i + 1) 0 ≡ get_or ys (i + 1) 0 = ap (λ (m : ℕ). get_or (xs ++ ys) m 0) next ∙ get_or-append-add xs ys (i + 1) 0 in
    omega arith

four_behind : (xs ys : List ℕ) (i : ℕ) → four_at (xs ++ ys) (length xs + i) ≡ four_at ys i
four_behind xs ys i =
    let at : (k : ℕ) → get_or (xs ++ ys) (length xs + i + k) 0 ≡ get_or ys (i + k) 0 =
    λ k. ap (λ (m : ℕ). get_or (xs ++ ys) m 0) (add_assoc (length xs) i k) ∙ get_or-append-add xs ys (i + k) 0 in
    let zeroth : get_or (xs ++ ys) (length xs + i) 0 ≡ get_or ys i 0 = get_or-append-add xs ys i 0 in
    let first : get_or (xs ++ ys) (length xs + i + 1) 0 ≡ get_or ys (i + 1) 0 = at 1 in
    let second : get_or (xs ++ ys) (length xs + i + 2) 0 ≡ get_or ys (i + 2) 0 = at 2 in
    let third : get_or (xs ++ ys) (length xs + i + 3) 0 ≡ get_or ys (i + 3) 0 = at 3 in
    omega arith

entries_behind : (n : ℕ) (xs ys : List ℕ) (i : ℕ) → entries_at n (xs ++ ys) (length xs + i) ≡ entries_at n ys i
entries_behind zero xs ys i = refl
entries_behind (suc n) xs ys i =
    let further : (k : ℕ) → length xs + i + k ≡ length xs + (i + k) = λ k. omega arith in
    ap (λ (m : ℕ). (m, four_at (xs ++ ys) (length xs + i + 2)) ∷ entries_at n (xs ++ ys) (length xs + i + 6)) (two_behind xs ys i)
    ∙ ap (λ (m : ℕ). (two_at ys i, m) ∷ entries_at n (xs ++ ys) (length xs + i + 6)) (ap (four_at (xs ++ ys)) (further 2) ∙ four_behind xs ys (i + 2))
    ∙ ap (λ (es : List (ℕ × ℕ)). (two_at ys i, four_at ys (i + 2)) ∷ es) (ap (entries_at n (xs ++ ys)) (further 6) ∙ entries_behind n xs ys (i + 6))

-- how many bytes the entries take, and a record
length-entries_bytes : (es : List (ℕ × ℕ)) → length (entries_bytes es) ≡ 6 * length es
length-entries_bytes [] = refl
length-entries_bytes (e ∷ es) = let rest : length (entries_bytes es) ≡ 6 * length es = length-entries_bytes es in omega arith

-- what was written is read
entries_read : (es : List (ℕ × ℕ)) (more : List ℕ) → All FitsEntry es → entries_at (length es) (entries_bytes es ++ more) 0 ≡ es
entries_read [] more fits = refl
entries_read (e ∷ es) more fits =
    let here : FitsEntry e = All-head FitsEntry e es fits in
    let others : All FitsEntry es = All-tail FitsEntry e es fits in
    let cell : two_at (entry_bytes e) 0 ≡ e.0 = from_le_bytes-to_le_bytes_2 e.0 here.cell in
    let old : four_at (to_le_bytes w32 e.1) 0 ≡ e.1 = from_le_bytes-to_le_bytes_4 e.1 here.old in
    let rest : entries_at (length es) (entry_bytes e ++ (entries_bytes es ++ more)) 6 ≡ es =
    entries_behind (length es) (entry_bytes e) (entries_bytes es ++ more) 0 ∙ entries_read es more others in
    ap (λ (n : ℕ). (n, four_at (to_le_bytes w32 e.1) 0) ∷ entries_at (length es) (entry_bytes e ++ (entries_bytes es ++ more)) 6) cell
    ∙ ap (λ (n : ℕ). (e.0, n) ∷ entries_at (length es) (entry_bytes e ++ (entries_bytes es ++ more)) 6) old
    ∙ ap (λ (fs : List (ℕ × ℕ)). e ∷ fs) rest

-- a kind is read from its own byte
kind-code : (k : Kind) → kind_of (code_of k) ≡ k
kind-code Tick = refl
kind-code k = refl

-- a record after other bytes is read whole
pub record IsRead (bs : List ℕ) (r : Change) : Type 0 where
  pub change : change_at (bs ++ record_bytes r) (length (bs ++ record_bytes r)) ≡ r
  pub start : start_at (bs ++ record_bytes r) (length (bs ++ record_bytes r)) ≡ length bs
  pub whole : IsRecordAt (bs ++ record_bytes r) (length (bs ++ record_bytes r))

pub record-read : (bs : List ℕ) (r : Change) → FitsRecord r → IsRead bs r
record-read bs r fits =
    let n : ℕ = length r.entries in
    let front : List ℕ = bs ++ entries_bytes r.entries in
    let tail : List ℕ = code_of r.kind ∷ to_le_bytes w16 (length r.entries) in
    let cs : List ℕ = bs ++ record_bytes r in
    let end : ℕ = length (bs ++ record_bytes r) in
    let regrouped : cs ≡ front ++ tail = sym (append_assoc bs (entries_bytes r.entries) tail) in
    let front_len : length front ≡ length bs + 6 * length r.entries = length-append bs (entries_bytes r.entries) ∙ ap (λ (m : ℕ). length bs + m) (length-entries_bytes r.entries) in
    let three : length tail ≡ 3 = refl in
    let len : end ≡ length front + 3 = ap length regrouped ∙ length-append front tail in
    let at_count : end - 2 ≡ length front + 1 = omega arith in
    let at_kind : end - 3 ≡ length front + 0 = omega arith in
    let count : count_at cs end ≡ length r.entries =
    ap (two_at cs) at_count ∙ ap (λ (ds : List ℕ). two_at ds (length front + 1)) regrouped ∙ two_behind front tail 1 ∙ from_le_bytes-to_le_bytes_2 (length r.entries) fits.few in
    let kind : get_or cs (end - 3) 0 ≡ code_of r.kind =
    ap (λ (m : ℕ). get_or cs m 0) at_kind ∙ ap (λ (ds : List ℕ). get_or ds (length front + 0) 0) regrouped ∙ get_or-append-add front tail 0 0 in
    let start : start_at cs end ≡ length bs = omega arith in
    let zeroth : length bs ≡ length bs + 0 = omega arith in
    let read : entries_at (length r.entries) cs (length bs) ≡ r.entries =
    ap (entries_at (length r.entries) cs) zeroth ∙ entries_behind (length r.entries) bs (record_bytes r) 0 ∙ entries_read r.entries tail fits.entries in
    let bound : 6 * count_at cs end + 3 ≤ end = omega arith in
    record {
      change = ap (λ (m : ℕ). let made : Change = record { kind = kind_of m; entries = entries_at (count_at cs end) cs (start_at cs end) } in made) kind
          ∙ ap (λ (k : Kind). let made : Change = record { kind = k; entries = entries_at (count_at cs end) cs (start_at cs end) } in made) (kind-code r.kind)
          ∙ ap (λ (m : ℕ). let made : Change = record { kind = r.kind; entries = entries_at m cs (start_at cs end) } in made) count
          ∙ ap (λ (m : ℕ). let made : Change = record { kind = r.kind; entries = entries_at (length r.entries) cs m } in made) start
          ∙ ap (λ (es : List (ℕ × ℕ)). let made : Change = record { kind = r.kind; entries = es } in made) read;
      start = start;
      whole = record { whole = bound };
    }

-- m records, the newest r after those before
pub record IsGrown (m n : ℕ) (bs cs : List ℕ) (r : Change) : Type 0 where
  pub laid : IsLaid m cs (length cs)
  pub records : changes_at m cs (length cs) ≡ r ∷ changes_at n bs (length bs)

agree-behind : (bs ys : List ℕ) → Agree bs (bs ++ ys) (length bs)
agree-behind bs ys = record { each = λ i h. get_or-append bs ys 0 i h }

pub grown : (n : ℕ) (bs cs : List ℕ) (r : Change) → IsLaid n bs (length bs) → FitsRecord r → cs ≡ bs ++ record_bytes r → IsGrown (n + 1) n bs cs r
grown n bs cs r laid fits is =
    let ds : List ℕ = bs ++ record_bytes r in
    let read : IsRead bs r = record-read bs r fits in
    let agree : Agree bs (bs ++ record_bytes r) (length bs) = agree-behind bs (record_bytes r) in
    let one : suc n ≡ n + 1 = omega arith in
    let whole : IsGrown (suc n) n bs ds r = record {
      laid = (read.whole, subst (λ (m : ℕ). IsLaid n ds m) (sym read.start) (laid_same n bs ds (length bs) agree laid));
      records = ap (λ (q : Change). q ∷ changes_at n ds (start_at ds (length ds))) read.change
          ∙ ap (λ (m : ℕ). r ∷ changes_at n ds m) read.start ∙ ap (λ (rs : List Change). r ∷ rs) (changes_same n bs ds (length bs) agree laid);
    } in
    subst (λ (es : List ℕ). IsGrown (n + 1) n bs es r) (sym is) (subst (λ (m : ℕ). IsGrown m n bs ds r) one whole)

-- m records, the newest taken away
pub record IsShrunk (m n : ℕ) (bs cs : List ℕ) : Type 0 where
  pub laid : IsLaid m cs (length cs)
  pub records : changes_at m cs (length cs) ≡ older (changes_at n bs (length bs))

pub shrunk : (n : ℕ) (bs cs : List ℕ) (start : ℕ) → IsLaid n bs (length bs) → (n ≡ 0 → ⊥) → start ≡ start_at bs (length bs) → cs ≡ take start bs → IsShrunk (n - 1) n bs cs
shrunk zero bs cs start laid some at is = absurd (some refl)
shrunk (suc n) bs cs start laid some at is =
    let place : ℕ = start_at bs (length bs) in
    let ds : List ℕ = take (start_at bs (length bs)) bs in
    let agree : Agree bs ds place = record { each = λ i h. get_or-take (start_at bs (length bs)) bs i 0 h } in
    let inside : start_at bs (length bs) ≤ length bs = omega arith in
    let len : place ≡ length ds = sym (length-take-le (start_at bs (length bs)) bs inside) in
    let one : n ≡ suc n - 1 = omega arith in
    let whole : IsShrunk n (suc n) bs ds = record {
      laid = subst (λ (m : ℕ). IsLaid n ds m) len (laid_same n bs ds place agree laid.1);
      records = ap (λ (m : ℕ). changes_at n ds m) (sym len) ∙ changes_same n bs ds place agree laid.1;
    } in
    subst (λ (es : List ℕ). IsShrunk (suc n - 1) (suc n) bs es) (sym (is ∙ ap (λ (m : ℕ). take m bs) at)) (subst (λ (m : ℕ). IsShrunk m (suc n) bs ds) one whole)

pub length-record_bytes : (r : Change) → length (record_bytes r) ≡ 6 * length r.entries + 3
length-record_bytes r =
    let three : length (code_of r.kind ∷ to_le_bytes w16 (length r.entries)) ≡ 3 = refl in
    length-append (entries_bytes r.entries) (code_of r.kind ∷ to_le_bytes w16 (length r.entries)) ∙ ap (λ (m : ℕ). m + 3) (length-entries_bytes r.entries)

-- the spelling of records is of as many bytes as they take
pub length-bytes_of : (rs : List Change) → length (bytes_of rs) ≡ size_of rs
length-bytes_of [] = refl
length-bytes_of (r ∷ rs) =
    length-append (bytes_of rs) (record_bytes r)
    ∙ ap (λ (m : ℕ). m + length (record_bytes r)) (length-bytes_of rs)
    ∙ ap (λ (m : ℕ). size_of rs + m) (length-record_bytes r)

-- pushed and popped, the bytes are the spelling of the records
pub kept-grown : (n : ℕ) (bs cs : List ℕ) (r : Change) → IsKept n bs → FitsRecord r → cs ≡ bs ++ record_bytes r → IsKept (n + 1) cs
kept-grown n bs cs r kept fits is =
    let more : IsGrown (n + 1) n bs cs r = grown n bs cs r kept.laid fits is in
    record {
      laid = more.laid;
      fits = subst (All FitsRecord) (sym more.records) (All-cons FitsRecord r (changes_at n bs (length bs)) fits kept.fits);
      spelled = is ∙ ap (λ (xs : List ℕ). xs ++ record_bytes r) kept.spelled ∙ ap bytes_of (sym more.records);
    }

-- the bytes before the newest record are the spelling of the others
front-spelled : (n : ℕ) (bs : List ℕ) → IsRecordAt bs (length bs) → bs ≡ bytes_of (changes_at (suc n) bs (length bs))
    → take (start_at bs (length bs)) bs ≡ bytes_of (changes_at n bs (start_at bs (length bs)))
front-spelled n bs whole spelled =
    let front : List ℕ = bytes_of (changes_at n bs (start_at bs (length bs))) in
    let r : Change = change_at bs (length bs) in
    let fits : 6 * count_at bs (length bs) + 3 ≤ length bs = whole.whole in
    let count : length (entries_at (count_at bs (length bs)) bs (start_at bs (length bs))) ≡ count_at bs (length bs) =
    length-entries_at (count_at bs (length bs)) bs (start_at bs (length bs)) in
    let tail : length (record_bytes (change_at bs (length bs))) ≡ 6 * count_at bs (length bs) + 3 =
    length-record_bytes (change_at bs (length bs)) ∙ ap (λ (m : ℕ). 6 * m + 3) count in
    let all : length bs ≡ length (bytes_of (changes_at n bs (start_at bs (length bs)))) + length (record_bytes (change_at bs (length bs))) =
    ap length spelled ∙ length-append (bytes_of (changes_at n bs (start_at bs (length bs)))) (record_bytes (change_at bs (length bs))) in
    let len : length (bytes_of (changes_at n bs (start_at bs (length bs)))) ≡ start_at bs (length bs) = omega arith in
    ap (take (start_at bs (length bs))) spelled
    ∙ take_at (bytes_of (changes_at n bs (start_at bs (length bs)))) (record_bytes (change_at bs (length bs))) (start_at bs (length bs)) len

pub kept-shrunk : (n : ℕ) (bs cs : List ℕ) (start : ℕ) → IsKept n bs → (n ≡ 0 → ⊥) → start ≡ start_at bs (length bs) → cs ≡ take start bs → IsKept (n - 1) cs
kept-shrunk zero bs cs start kept some at is = absurd (some refl)
kept-shrunk (suc n) bs cs start kept some at is =
    let less : IsShrunk (suc n - 1) (suc n) bs cs = shrunk (suc n) bs cs start kept.laid some at is in
    record {
      laid = less.laid;
      fits = subst (All FitsRecord) (sym less.records) (All-tail FitsRecord (change_at bs (length bs)) (changes_at n bs (start_at bs (length bs))) kept.fits);
      spelled = is ∙ ap (λ (m : ℕ). take m bs) at ∙ front-spelled n bs kept.laid.0 kept.spelled ∙ ap bytes_of (sym less.records);
    }
