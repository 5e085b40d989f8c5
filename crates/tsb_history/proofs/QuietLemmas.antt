-- Records of quiet ticks, which have three bytes each, and the records behind them.
use Rattle.std.proofs.Common.{◌≡◌, ℕ, zero, suc, ◌+◌, ◌-◌, ◌*◌, ◌≤◌, ◌==◌, Bool, true, false, ◌&&◌, if◌then◌else◌, List, [], ◌∷◌, length, take, drop, min, get_or, refl, sym, ap, subst, arith, ◌∙◌, inl, inr}
use Rattle.std.proofs.lemmas.Bool.{cases_Bool, false≢true}
use Rattle.std.proofs.lemmas.Bool.Decides.{eqb_tells}
use Rattle.std.proofs.lemmas.List.{length-take-le, take-take, take_all}
use Rattle.tsb_history.specs.History.{Change, has_none, is_quiet, is_tick, older, quiet_ticks}
use Rattle.tsb_history.specs.Bytes.{change_at, changes_at, count_at, entries_at, kind_of, start_at, IsKept, IsLaid, IsRecordAt}
use Rattle.tsb_history.proofs.PlaceLemmas.{length-changes_at}
use Rattle.tsb_history.proofs.ByteLemmas.{IsShrunk, kept-shrunk, shrunk}

-- ## One record

-- so many entries are none where they are 0
none-of : (n : ℕ) (bs : List ℕ) (i : ℕ) → has_none (entries_at n bs i) ≡ (n == 0)
none-of zero bs i = refl
none-of (suc n) bs i = elim (eqb_tells (suc n) 0) [ inl same ↦ absurd (omega (arith, same.1)) | inr other ↦ sym other.0 ]

and-second : (a b : Bool) → (a && b) ≡ true → b ≡ true
and-second true b both = both
and-second false b both = absurd (false≢true both)

-- the record of a quiet tick has three bytes
quiet-start : (bs : List ℕ) (end : ℕ) → is_quiet (change_at bs end) ≡ true → start_at bs end ≡ end - 3
quiet-start bs end quiet =
    let none : (count_at bs end == 0) ≡ true = sym (none-of (count_at bs end) bs (start_at bs end)) ∙ and-second (is_tick (kind_of (get_or bs (end - 3) 0))) (has_none (entries_at (count_at bs end) bs (start_at bs end))) quiet in
    elim (eqb_tells (count_at bs end) 0) [
      | inl same ↦ ap (λ (n : ℕ). end - (6 * n + 3)) same.1
      | inr other ↦ absurd (false≢true (sym other.0 ∙ none))
    ]

-- where records are laid and there is one, it is whole
pub first-whole : (n : ℕ) (bs : List ℕ) (end : ℕ) → (n ≡ 0 → ⊥) → IsLaid n bs end → IsRecordAt bs end
first-whole zero bs end some laid = absurd (some refl)
first-whole (suc n) bs end some laid = laid.0

-- ## Those before it

pub quiet-none : (n : ℕ) (bs : List ℕ) (end : ℕ) → (n ≡ 0 → ⊥) → is_quiet (change_at bs end) ≡ false → quiet_ticks (changes_at n bs end) ≡ 0
quiet-none zero bs end some loud = refl
quiet-none (suc n) bs end some loud = ap (λ (b : Bool). if b then suc (quiet_ticks (changes_at n bs (start_at bs end))) else 0) loud

-- one record of a quiet tick, and m behind it
pub record IsPassed (n m : ℕ) (bs : List ℕ) (end : ℕ) : Type 0 where
  pub within : 3 ≤ end
  pub laid : IsLaid m bs (end - 3)
  pub rest : changes_at n bs end ≡ change_at bs end ∷ changes_at m bs (end - 3)
  pub more : quiet_ticks (changes_at n bs end) ≡ suc (quiet_ticks (changes_at m bs (end - 3)))

pub quiet-one : (n m : ℕ) (bs : List ℕ) (end : ℕ) → m + 1 ≡ n → IsLaid n bs end → is_quiet (change_at bs end) ≡ true → IsPassed n m bs end
quiet-one zero m bs end one laid quiet = absurd (omega (arith, one))
quiet-one (suc n) m bs end one laid quiet =
    let start : start_at bs end ≡ end - 3 = quiet-start bs end quiet in
    let same : n ≡ m = omega (arith, one) in
    let whole : 6 * count_at bs end + 3 ≤ end = laid.0.whole in
    record {
      within = omega (arith, whole);
      laid = subst (λ (k : ℕ). IsLaid k bs (end - 3)) same (subst (λ (at : ℕ). IsLaid n bs at) start laid.1);
      rest = ap (λ (at : ℕ). change_at bs end ∷ changes_at n bs at) start ∙ ap (λ (k : ℕ). change_at bs end ∷ changes_at k bs (end - 3)) same;
      more = ap (λ (b : Bool). if b then suc (quiet_ticks (changes_at n bs (start_at bs end))) else 0) quiet
          ∙ ap (λ (at : ℕ). suc (quiet_ticks (changes_at n bs at))) start ∙ ap (λ (k : ℕ). suc (quiet_ticks (changes_at k bs (end - 3)))) same;
    }

-- there are no more of them than records
pub quiet-few : (rs : List Change) → quiet_ticks rs ≤ length rs
quiet-few [] = omega arith
quiet-few (r ∷ rs) = let rest : quiet_ticks rs ≤ length rs = quiet-few rs in elim (cases_Bool (is_quiet r)) [
  | inl quiet ↦ rw quiet (omega (arith, rest))
  | inr loud ↦ rw loud (omega arith)
]

-- the first of such records is one where there is any
quiet-first : (n k : ℕ) (bs : List ℕ) (end : ℕ) → suc k ≤ quiet_ticks (changes_at n bs end) → is_quiet (change_at bs end) ≡ true
quiet-first zero k bs end most = absurd (omega (arith, most))
quiet-first (suc n) k bs end most = elim (cases_Bool (is_quiet (change_at bs end))) [
  | inl quiet ↦ quiet
  | inr loud ↦ let none : quiet_ticks (changes_at (suc n) bs end) ≡ 0 = ap (λ (b : Bool). if b then suc (quiet_ticks (changes_at n bs (start_at bs end))) else 0) loud in absurd (omega (arith, none, most))
]

-- k records of quiet ticks, and m behind them
pub record ArePassed (k n m : ℕ) (bs : List ℕ) (end : ℕ) : Type 0 where
  pub within : 3 * k ≤ end
  pub laid : IsLaid m bs (end - 3 * k)
  pub rest : changes_at m bs (end - 3 * k) ≡ drop k (changes_at n bs end)

pub passed : (k n m : ℕ) (bs : List ℕ) (end : ℕ) → m + k ≡ n → IsLaid n bs end → k ≤ quiet_ticks (changes_at n bs end) → ArePassed k n m bs end
passed zero n m bs end all laid most =
    let same : n ≡ m = omega (arith, all) in
    let there : end ≡ end - 3 * 0 = omega arith in
    record {
      within = omega arith;
      laid = subst (λ (j : ℕ). IsLaid j bs (end - 3 * 0)) same (subst (λ (at : ℕ). IsLaid n bs at) there laid);
      rest = ap (λ (j : ℕ). changes_at j bs (end - 3 * 0)) (sym same) ∙ ap (λ (at : ℕ). changes_at n bs at) (sym there);
    }
passed (suc k) n m bs end all laid most =
    let one : IsPassed n (m + k) bs end = quiet-one n (m + k) bs end (omega (arith, all)) laid (quiet-first n k bs end most) in
    let more : ArePassed k (m + k) m bs (end - 3) = passed k (m + k) m bs (end - 3) refl one.laid (let sum = one.more in omega (arith, sum, most)) in
    let there : (end - 3) - 3 * k ≡ end - 3 * suc k = omega arith in
    record {
      within = let near = one.within in let far = more.within in omega (arith, near, far);
      laid = subst (λ (at : ℕ). IsLaid m bs at) there more.laid;
      rest = ap (λ (at : ℕ). changes_at m bs at) (sym there) ∙ more.rest ∙ ap (drop (suc k)) (sym one.rest);
    }

-- as many as were looked for, at most: no more than there are, and all of them where all records were looked at
pub record AreFound (limit k n : ℕ) (bs : List ℕ) (end : ℕ) : Type 0 where
  pub few : k ≤ n
  pub most : k ≤ quiet_ticks (changes_at n bs end)
  pub passed : ArePassed k n (n - k) bs end
  pub all : n ≤ limit → k ≡ quiet_ticks (changes_at n bs end)

pub found : (limit k n : ℕ) (bs : List ℕ) (end : ℕ) → k ≡ min limit (quiet_ticks (changes_at n bs end)) → IsLaid n bs end → AreFound limit k n bs end
found limit k n bs end is laid =
    let some : quiet_ticks (changes_at n bs end) ≤ length (changes_at n bs end) = quiet-few (changes_at n bs end) in
    let many : length (changes_at n bs end) ≡ n = length-changes_at n bs end in
    record {
      few = omega (arith, is, some, many);
      most = omega (arith, is);
      passed = passed k n (n - k) bs end (omega (arith, is, some, many)) laid (omega (arith, is));
      all = λ whole. omega (arith, is, some, many, whole);
    }

-- in these bytes, up to their end
pub found-in : (limit k n : ℕ) (bs cs : List ℕ) (end : ℕ) → cs ≡ bs → end ≡ length bs → k ≡ min limit (quiet_ticks (changes_at n cs end)) → IsLaid n bs (length bs) → AreFound limit k n bs (length bs)
found-in limit k n bs cs end same at is laid =
    found limit k n bs (length bs) (is ∙ ap (λ (es : List ℕ). min limit (quiet_ticks (changes_at n es end))) same ∙ ap (λ (m : ℕ). min limit (quiet_ticks (changes_at n bs m))) at) laid

-- ## Taken away

-- without k records of quiet ticks the bytes are the spelling of the m behind them
pub record AreTaken (k n m : ℕ) (bs cs : List ℕ) : Type 0 where
  pub kept : IsKept m cs
  pub rest : changes_at m cs (length cs) ≡ drop k (changes_at n bs (length bs))

pub taken : (k n m : ℕ) (bs cs : List ℕ) → m + k ≡ n → IsKept n bs → k ≤ quiet_ticks (changes_at n bs (length bs)) → cs ≡ take (length bs - 3 * k) bs → AreTaken k n m bs cs
taken zero n m bs cs all kept most is =
    let same : n ≡ m = omega (arith, all) in
    let whole : bs ≡ cs = sym (is ∙ take_all (length bs - 3 * 0) bs (omega arith)) in
    record {
      kept = subst (λ (j : ℕ). IsKept j cs) same (subst (λ (es : List ℕ). IsKept n es) whole kept);
      rest = ap (λ (j : ℕ). changes_at j cs (length cs)) (sym same) ∙ ap (λ (es : List ℕ). changes_at n es (length es)) (sym whole);
    }
taken (suc k) n m bs cs all kept most is =
    let end : ℕ = length bs in
    let quiet : is_quiet (change_at bs end) ≡ true = quiet-first n k bs end most in
    let some : n ≡ 0 → ⊥ = λ e. omega (arith, all, e) in
    let one : IsPassed n (m + k) bs end = quiet-one n (m + k) bs end (omega (arith, all)) kept.laid quiet in
    let start : end - 3 ≡ start_at bs end = sym (quiet-start bs end quiet) in
    let ds : List ℕ = take (end - 3) bs in
    let left : n - 1 ≡ m + k = omega (arith, all) in
    let less : IsShrunk (n - 1) n bs ds = shrunk n bs ds (end - 3) kept.laid some start refl in
    let still : IsKept (m + k) ds = subst (λ (j : ℕ). IsKept j ds) left (kept-shrunk n bs ds (end - 3) kept some start refl) in
    let len : length ds ≡ end - 3 = length-take-le (end - 3) bs (omega arith) in
    let behind : changes_at (m + k) ds (length ds) ≡ changes_at (m + k) bs (end - 3) =
    ap (λ (j : ℕ). changes_at j ds (length ds)) (sym left) ∙ less.records ∙ ap older one.rest in
    let cut : cs ≡ take (length ds - 3 * k) ds =
    is ∙ ap (λ (j : ℕ). take j bs) (omega (arith, len)) ∙ sym (take-take (length ds - 3 * k) (end - 3) bs (omega (arith, len))) in
    let more : AreTaken k (m + k) m ds cs =
    taken k (m + k) m ds cs refl still (let sum = one.more in let same : quiet_ticks (changes_at (m + k) ds (length ds)) ≡ quiet_ticks (changes_at (m + k) bs (end - 3)) = ap quiet_ticks behind in omega (arith, sum, same, most)) cut in
    record {
      kept = more.kept;
      rest = more.rest ∙ ap (drop k) behind ∙ ap (drop (suc k)) (sym one.rest);
    }
