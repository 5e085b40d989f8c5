-- The numbers that a list spells, read item by item.
use Rattle.std.proofs.Common.{◌≡◌, ◌∙◌, ◌⊎◌, ℕ, ◌+◌, ◌-◌, ◌^◌, ◌<◌, ◌≤◌, ◌==◌, ◌*◌, ◌&&◌, ◌||◌, Bool, true, false, zero, suc, List, [], ◌∷◌, ◌++◌, append_assoc, append-nil, is_some, option_map, refl, sym, ap, subst, arith, inl, inr, Option, Some, None, nat_le, nat_lt}
use Rattle.std.proofs.lemmas.Bool.{and_parts, false_from_ne_true, false≢true, le-leb, leb-false, leb-true, lt-ltb, ltb-true, or_cases}
use Rattle.std.proofs.lemmas.Bool.Decides.{eqb_tells}
use Rattle.std.proofs.lemmas.Option.{same_Some}
use Rattle.tsb_lines.specs.Lines.{onto_first}
use Rattle.tsb_types.specs.Lists.{among, run_from}
use Rattle.tsb_types.specs.Sets.{has_detector, list_of, names}
use Rattle.tsb_types.proofs.RunLemmas.{among-run}
use Rattle.tsb_types.proofs.SetLemmas.{list_of-below, names-above, names-list_of, same_names}
use Rattle.tsb_types.specs.declared.detector_set.DetectorSet.{DetectorSet}
use Rattle.tsb_log_text.specs.RowLists.{as_range, as_run, ends_of_item, list_of_numbers, list_spelled, lists_of, numbers_from, own_list, parts, plain_number, row_of_three, with_numbers, words_left}
use Rattle.tsb_log_text.proofs.RunsLemmas.{is-either}

with-both : (ns ms : List ℕ) (o : Option (List ℕ)) → with_numbers ns (with_numbers ms o) ≡ with_numbers (ns ++ ms) o
with-both ns ms None = refl
with-both ns ms (Some more) = ap Some (sym (append_assoc ns ms more))

among-append : (n : ℕ) (ns ms : List ℕ) → among n (ns ++ ms) ≡ (among n ns || among n ms)
among-append n [] ms = refl
among-append n (q ∷ qs) ms = elim (is-either (q == n)) [ inl z ↦ rw z refl | inr z ↦ rw z (among-append n qs ms) ]

-- ## A run has its numbers alone

apart : (a b : ℕ) → (b < a) ⊎ (a < b) → (a == b) ≡ false
apart a b h = elim (eqb_tells a b) [
  | inl z ↦ absurd (elim h [ inl less ↦ (let e : a ≡ b = z.1 in omega (arith, e, less)) | inr more ↦ (let e : a ≡ b = z.1 in omega (arith, e, more)) ])
  | inr z ↦ z.0
]

not-run : (p a n : ℕ) → (p < a) ⊎ (a + n ≤ p) → among p (run_from a n) ≡ false
unfolding run_from
not-run p a zero h = refl
not-run p a (suc n) (inl below) = rw (apart a p (inl below)) (not-run p (a + 1) n (inl (omega (arith, below))))
not-run p a (suc n) (inr above) = rw (apart a p (inr (omega (arith, above)))) (not-run p (a + 1) n (inr (omega (arith, above))))

within-run : (n first end : ℕ) → first ≤ end → among n (run_from first (end + 1 - first)) ≡ (nat_le first n && nat_le n end)
within-run n first end rises = elim (is-either (nat_le first n)) [
  | inl z ↦ (let from : first ≤ n = leb-true first n z in elim (is-either (nat_le n end)) [
    | inl y ↦ (let to : n ≤ end = leb-true n end y in rw (z, y) (among-run n first (end + 1 - first) from (omega (arith, from, to, rises))))
    | inr y ↦ (let over : end < n = leb-false n end y in rw (z, y) (not-run n first (end + 1 - first) (inr (omega (arith, over, rises)))))
  ])
  | inr z ↦ (let under : n < first = leb-false first n z in rw z (not-run n first (end + 1 - first) (inl under)))
]

-- ## The items so far

-- of a list these numbers are read, up to the last one, and these parts are left
pub record HasRead (most : ℕ) (list : List ℕ) (on : DetectorSet) (last : ℕ) (left : List (List ℕ)) : Type 0 where
  pub ns : List ℕ
  pub read : numbers_from most 0 (parts 44 list) ≡ with_numbers ns (numbers_from most last left)
  pub has : (n : ℕ) → has_detector on n ≡ among n ns
  pub few : (n : ℕ) → among n ns ≡ true → n ≤ most

pub same-left : (most last : ℕ) (list : List ℕ) (on : DetectorSet) (one other : List (List ℕ)) → one ≡ other → HasRead most list on last one → HasRead most list on last other
same-left most last list on one other same h = subst (HasRead most list on last) same h

in-run : (n first end most : ℕ) → first ≤ end → end ≤ most → among n (run_from first (end + 1 - first)) ≡ true → n ≤ most
in-run n first end most rises within is =
    let both = and_parts (nat_le first n) (nat_le n end) (sym (within-run n first end rises) ∙ is) in
    let to : n ≤ end = leb-true n end both.1 in
    omega (arith, to, within)

pub item-taken : (most last first end : ℕ) (list item : List ℕ) (left : List (List ℕ)) (on now : DetectorSet)
    → ends_of_item (parts 45 item) ≡ Some (first, end) → last < first → first ≤ end → end ≤ most
    → ((n : ℕ) → has_detector now n ≡ (has_detector on n || (nat_le first n && nat_le n end)))
    → HasRead most list on last (item ∷ left) → HasRead most list now end left
item-taken most last first end list item left on now ends above rises within has h =
    let run : List ℕ = run_from first (end + 1 - first) in
    let here : numbers_from most last (item ∷ left) ≡ with_numbers run (numbers_from most end left) =
    rw (ends, lt-ltb last first above, le-leb end most within) refl in
    record {
      ns = h.ns ++ run;
      read = h.read ∙ ap (with_numbers h.ns) here ∙ with-both h.ns run (numbers_from most end left);
      has = λ n. has n ∙ ap (λ (b : Bool). b || (nat_le first n && nat_le n end)) (h.has n)
          ∙ ap (λ (b : Bool). among n h.ns || b) (sym (within-run n first end rises)) ∙ sym (among-append n h.ns run);
      few = λ n is. elim (or_cases (among n h.ns) (among n run) (sym (among-append n h.ns run) ∙ is)) [
        | inl z ↦ h.few n z
        | inr z ↦ in-run n first end most rises within z
      ];
    }

-- ## The ends of an item

abbrev Nothing : {A : Type 0} → Option A → Type 0
Nothing None = Unit {0}
Nothing (Some x) = ⊥

run-rises : (o : Option ℕ) (first end : ℕ) → as_run o ≡ Some (first, end) → first ≤ end
run-rises None first end e = absurd (subst Nothing e tt)
run-rises (Some n) first end e =
    let both = same_Some (n, n) (first, end) e in
    let low : n ≡ first = ap (λ (r : ℕ × ℕ). r.0) both in
    let high : n ≡ end = ap (λ (r : ℕ × ℕ). r.1) both in
    omega (arith, low, high)

range-rises : (a b : Option ℕ) (first end : ℕ) → as_range a b ≡ Some (first, end) → first ≤ end
range-rises None b first end e = absurd (subst Nothing e tt)
range-rises (Some x) None first end e = absurd (subst Nothing e tt)
range-rises (Some x) (Some y) first end e = elim (is-either (nat_lt x y)) [
  | inl z ↦ (let both = same_Some (x, y) (first, end) (rw z at e) in
      let low : x ≡ first = ap (λ (r : ℕ × ℕ). r.0) both in
      let high : y ≡ end = ap (λ (r : ℕ × ℕ). r.1) both in
      let less : x < y = ltb-true x y z in
      omega (arith, low, high, less))
  | inr z ↦ absurd (subst Nothing (rw z at e) tt)
]

pub ends-rise : (ps : List (List ℕ)) (first end : ℕ) → ends_of_item ps ≡ Some (first, end) → first ≤ end
ends-rise [] first end e = absurd (subst Nothing e tt)
ends-rise (low ∷ []) first end e = run-rises (plain_number low) first end e
ends-rise (low ∷ high ∷ []) first end e = range-rises (plain_number low) (plain_number high) first end e
ends-rise (low ∷ high ∷ more ∷ ps) first end e = absurd (subst Nothing e tt)

-- ## The whole list

-- as many times twice
pow-up : (k n all : ℕ) → k + n ≡ all → 2 ^ n ≤ 2 ^ all
pow-up zero n all same =
    let e : n ≡ all = omega (arith, same) in
    subst (λ (m : ℕ). 2 ^ n ≤ 2 ^ m) e (let less : 2 ^ n ≤ 2 ^ n = omega arith in less)
pow-up (suc k) n zero same = absurd (omega (arith, same))
pow-up (suc k) n (suc all) same =
    let up : 2 ^ n ≤ 2 ^ all = pow-up k n all (omega (arith, same)) in
    let twice : 2 ^ suc all ≡ 2 * 2 ^ all = omega arith in
    let more : 2 ^ n ≤ 2 ^ suc all = omega (arith, up, twice) in
    more

pow-64 : (most : ℕ) → most ≤ 64 → 2 ^ most ≤ 2 ^ 64
pow-64 most within = pow-up (64 - most) most 64 (omega (arith, within))

-- the word that a set holds is the list of the numbers that are read
the-list : (most last word : ℕ) (list : List ℕ) (on : DetectorSet) → most ≤ 64 → word < 2 ^ 64 → ((n : ℕ) → names word n ≡ has_detector on n)
    → (h : HasRead most list on last []) → list_of most (λ n. among n h.ns) ≡ word
the-list most last word list on within fits same h =
    let test : ℕ → Bool = λ n. among n h.ns in
    let below : list_of most test < 2 ^ most = list_of-below most test in
    let up : 2 ^ most ≤ 2 ^ 64 = pow-64 most within in
    let short : list_of most test < 2 ^ 64 = omega (arith, below, up) in
    same_names 64 (list_of most test) word short fits
    (λ p one to. elim (is-either (nat_le p most)) [
      | inl z ↦ names-list_of most p test one (leb-true p most z) ∙ sym (h.has p) ∙ sym (same p)
      | inr z ↦ (let over : most < p = leb-false p most z in
          names-above most p (list_of most test) below over
          ∙ sym (same p ∙ h.has p ∙ false_from_ne_true (among p h.ns) (λ there. (let few : p ≤ most = h.few p there in absurd (omega (arith, few, over))))))
    ])

pub all-spelled : (most last word : ℕ) (list : List ℕ) (on : DetectorSet) → most ≤ 64 → word < 2 ^ 64 → ((n : ℕ) → names word n ≡ has_detector on n)
    → HasRead most list on last [] → list_spelled most list ≡ Some word
all-spelled most last word list on within fits same h =
    ap (list_of_numbers most) h.read ∙ ap (λ (ns : List ℕ). let o : Option ℕ = Some (list_of most (λ n. among n ns)) in o) (append-nil h.ns)
    ∙ ap Some (the-list most last word list on within fits same h)

pub all-few : (most last word : ℕ) (list : List ℕ) (on : DetectorSet) → most ≤ 64 → word < 2 ^ 64 → ((n : ℕ) → names word n ≡ has_detector on n)
    → HasRead most list on last [] → word < 2 ^ most
all-few most last word list on within fits same h =
    subst (λ (w : ℕ). w < 2 ^ most) (the-list most last word list on within fits same h) (list_of-below most (λ n. among n h.ns))

-- ## The lists of a row

onto-some : (v p e c : ℕ) (ls : List (List ℕ)) → row_of_three v p (Some (e, onto_first c ls)) ≡ None
onto-some v p e c [] = refl
onto-some v p e c (l ∷ ls) = refl

words-some : (v p e : ℕ) (text : List ℕ) → row_of_three v p (Some (e, parts 32 text)) ≡ None
words-some v p e [] = refl
words-some v p e (c ∷ cs) = elim (is-either (c == 32)) [ inl z ↦ rw z refl | inr z ↦ rw z (onto-some v p e c (parts 32 cs)) ]

-- words are left after the third list
pub words-left : {T : Type 0} (now : T → List ℕ) (v p e : ℕ) (o : Option T) → is_some o ≡ true → row_of_three v p (Some (e, words_left (option_map now o))) ≡ None
words-left now v p e None is = absurd (false≢true is)
words-left now v p e (Some text) is = words-some v p e (now text)

pub lists-read : (text : List ℕ) (v p : ℕ) (ws rest : List (List ℕ)) (o : Option (ℕ × List (List ℕ)))
    → own_list 86 64 (parts 32 text) ≡ Some (v, ws) → own_list 80 16 ws ≡ Some (p, rest) → own_list 69 8 rest ≡ o → lists_of text ≡ row_of_three v p o
unfolding lists_of
lists-read text v p ws rest o one two three = rw (one, two, three) refl
