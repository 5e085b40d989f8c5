-- What came later than a tick is at the end.
use Rattle.std.proofs.Common.{◌≡◌, ◌∙◌, ℕ, ◌+◌, ◌-◌, ◌<◌, ◌≤◌, nat_lt, true, false, List, [], ◌∷◌, ◌++◌, refl, sym, ap, rules, arith, length, take, take_all, get_or}
use Rattle.std.proofs.lemmas.List.{take_more}
use Rattle.tsb_text.specs.Later.{unless_later, without_later}

module _ {X : Type 0} (tick : X → ℕ) (t : ℕ) where
  -- each of them is later than t, or none is
  pub data AreLater : List X → Type 0 where
    later-none : AreLater []
    later-more : (x : X) (xs : List X) → t < tick x → AreLater xs → AreLater (x ∷ xs)

  one-later : (x : X) → t < tick x → unless_later tick t x [] ≡ []
  one-later x later = let is : nat_lt t (tick x) ≡ true = search (rules, later) in rw is refl

  one-stays : (x : X) → tick x ≤ t → unless_later tick t x [] ≡ x ∷ []
  one-stays x stays = let is : nat_lt t (tick x) ≡ false = search (rules, stays) in rw is refl

  -- the last is later
  pub last-later : (xs : List X) (x : X) → t < tick x → without_later tick t (xs ++ x ∷ []) ≡ without_later tick t xs
  last-later [] x later = one-later x later
  last-later (y ∷ ys) x later = ap (unless_later tick t y) (last-later ys x later)

  before-some : (y : X) (ys : List X) (x : X) → unless_later tick t y (ys ++ x ∷ []) ≡ y ∷ (ys ++ x ∷ [])
  before-some y [] x = refl
  before-some y (z ∷ zs) x = refl

  -- the last is not
  pub last-stays : (xs : List X) (x : X) → tick x ≤ t → without_later tick t (xs ++ x ∷ []) ≡ xs ++ x ∷ []
  last-stays [] x stays = one-stays x stays
  last-stays (y ∷ ys) x stays = ap (unless_later tick t y) (last-stays ys x stays) ∙ before-some y ys x

  -- the last of a list comes after all others
  last-apart : (xs : List X) (x : X) → 0 < length xs → x ≡ get_or xs (length xs - 1) x → xs ≡ take (length xs - 1) xs ++ x ∷ []
  last-apart xs x some is =
      let one : length xs - 1 < length xs = omega (arith, some) in
      let all : length xs - 1 + 1 ≡ length xs = omega (arith, some) in
      sym (take_all (length xs) xs (omega arith)) ∙ ap (λ (n : ℕ). take n xs) (sym all) ∙ take_more xs (length xs - 1) x one
      ∙ ap (λ (y : X). take (length xs - 1) xs ++ y ∷ []) (sym is)

  -- one step of a loop that drops the last, which is later
  pub drop-later : (seen xs rest : List X) (x : X) (n : ℕ) → seen ≡ xs → length seen ≡ n → 0 < length seen → x ≡ get_or seen (length seen - 1) x → t < tick x
      → rest ≡ take (n - 1) xs → without_later tick t rest ≡ without_later tick t xs
  drop-later seen xs rest x n same long some is later front =
      let apart : seen ≡ take (length seen - 1) seen ++ x ∷ [] = last-apart seen x some is in
      let there : rest ≡ take (length seen - 1) seen = front ∙ ap (λ (k : ℕ). take (k - 1) xs) (sym long) ∙ ap (take (length seen - 1)) (sym same) in
      ap (without_later tick t) there ∙ sym (last-later (take (length seen - 1) seen) x later) ∙ ap (without_later tick t) (sym apart ∙ same)

  -- and its end, at one that is not
  pub none-later : (seen xs : List X) (x : X) → seen ≡ xs → 0 < length seen → x ≡ get_or seen (length seen - 1) x → tick x ≤ t → without_later tick t xs ≡ xs
  none-later seen xs x same some is stays =
      let apart : xs ≡ take (length seen - 1) seen ++ x ∷ [] = sym same ∙ last-apart seen x some is in
      ap (without_later tick t) apart ∙ last-stays (take (length seen - 1) seen) x stays ∙ sym apart

  -- ## What is not later, and what is

  -- none of them is later than t
  pub data AreBy : List X → Type 0 where
    by-none : AreBy []
    by-more : (x : X) (xs : List X) → tick x ≤ t → AreBy xs → AreBy (x ∷ xs)

  pub by-append : (xs ys : List X) → AreBy xs → AreBy ys → AreBy (xs ++ ys)
  by-append [] ys a b = b
  by-append (x ∷ xs) ys (by-more y zs is more) b = by-more x (xs ++ ys) is (by-append xs ys more b)

  all-later : (ys : List X) → AreLater ys → without_later tick t ys ≡ []
  all-later [] later-none = refl
  all-later (y ∷ ys) (later-more x xs is more) = ap (unless_later tick t y) (all-later ys more) ∙ one-later y is

  pub later-gone : (xs ys : List X) → AreLater ys → without_later tick t (xs ++ ys) ≡ without_later tick t xs
  later-gone [] ys later = all-later ys later
  later-gone (x ∷ xs) ys later = ap (unless_later tick t x) (later-gone xs ys later)

  stays-before : (x : X) (xs : List X) → tick x ≤ t → unless_later tick t x xs ≡ x ∷ xs
  stays-before x [] is = one-stays x is
  stays-before x (y ∷ ys) is = refl

  pub by-stays : (xs : List X) → AreBy xs → without_later tick t xs ≡ xs
  by-stays [] by-none = refl
  by-stays (x ∷ xs) (by-more y ys is more) = ap (unless_later tick t x) (by-stays xs more) ∙ stays-before x xs is
