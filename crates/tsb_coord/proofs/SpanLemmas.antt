-- From one tick to the next on the local counter: how long it takes to an instant or to the end of a time, and what
-- stays so until then. What is late stays late between instants, as late force-off begins and ends at them, and what is
-- in its permissive time does between its instant and its end. What is left to an instant is enough for a walk up to
-- the end of the time for a walk.
use Rattle.std.proofs.Common.{zero, suc, ◌≡◌, ◌≢◌, ℕ, ◌+◌, ◌-◌, ◌*◌, ◌%◌, ◌<◌, ◌≤◌, ◌==◌, ◌⊎◌, nat_le, nat_lt, min, Bool, true, false, ◌&&◌, if◌then◌else◌, Option, Some, None, IfSome, refl, sym, ap, subst, ◌∙◌, arith, inl, inr}
use Rattle.std.proofs.Math.Nat.{mod-eq_of_lt, mod-lt, mod-add-mod, mul-mod_left, add-mul-mod_self_right}
use Rattle.std.proofs.lemmas.Bool.{cases_lt, cases_eq, ne_eqb, eq-eqb}
use Rattle.std.proofs.lemmas.Bool.Decides.{nat_tests}
use Rattle.tsb_coord.specs.Coordinated.{residue_of_difference, agree, is_from_to, counted_on, is_late, is_behind, permissive_end_from, is_left, recycle_end_from}
use Rattle.tsb_coord.specs.Due.{IsMet}

-- ## Until an instant is met

-- an instant later in this cycle
pub not_before : (m local i k : ℕ) → local < i → i < m → k < i - local → ((local + k) % m == i) ≡ false
not_before m local i k later below before =
    let within : local + k < m = omega arith in
    ap (λ x. x == i) (mod-eq_of_lt within) ∙ ne_eqb (local + k) i (λ e. omega (arith, e, before))

-- an instant in the next cycle
pub not_yet : (m local i k : ℕ) → i < local → local < m → k < i + m - local → ((local + k) % m == i) ≡ false
not_yet m local i k earlier below before =
    elim (cases_lt (local + k) m) [
      | inl within ↦ ap (λ x. x == i) (mod-eq_of_lt within) ∙ ne_eqb (local + k) i (λ e. omega (arith, e, earlier))
      | inr over ↦
          let turn : local + k ≡ local + k - m + 1 * m = omega (arith, over) in
          let rest : local + k - m < m = omega arith in
          ap (λ x. x % m == i) turn
          ∙ ap (λ x. x == i) (add-mul-mod_self_right (local + k - m) 1 m ∙ mod-eq_of_lt rest)
          ∙ ne_eqb (local + k - m) i (λ e. omega (arith, e, before, over))
    ]

-- one in the next cycle, or that is met now, from the next tick on
pub not_again : (m local i k : ℕ) → i ≤ local → local < m → 1 ≤ k → k < i + m - local → ((local + k) % m == i) ≡ false
not_again m local i k earlier below some before =
    elim (cases_lt (local + k) m) [
      | inl within ↦ ap (λ x. x == i) (mod-eq_of_lt within) ∙ ne_eqb (local + k) i (λ e. omega (arith, e, earlier, some))
      | inr over ↦
          let turn : local + k ≡ local + k - m + 1 * m = omega (arith, over) in
          let rest : local + k - m < m = omega arith in
          ap (λ x. x % m == i) turn
          ∙ ap (λ x. x == i) (add-mul-mod_self_right (local + k - m) 1 m ∙ mod-eq_of_lt rest)
          ∙ ne_eqb (local + k - m) i (λ e. omega (arith, e, before, over))
    ]

-- an instant is met: later in this cycle, and in the next
pub met_later : (m local i : ℕ) → local < i → i < m → ((local + (i - local)) % m == i) ≡ true
met_later m local i later below =
    let at : local + (i - local) ≡ i = omega arith in
    eq-eqb _ _ (ap (λ x. x % m) at ∙ mod-eq_of_lt below)

pub met_next : (m local i : ℕ) → i ≤ local → local < m → ((local + (i + m - local)) % m == i) ≡ true
met_next m local i earlier below =
    let at : local + (i + m - local) ≡ i + 1 * m = omega arith in
    let within : i < m = omega arith in
    eq-eqb _ _ (ap (λ x. x % m) at ∙ add-mul-mod_self_right i 1 m ∙ mod-eq_of_lt within)

-- each instant is met within a cycle
pub met_within : (m local i : ℕ) → local < m → i < m → (k : ℕ) × ((k < m) × (((local + k) % m == i) ≡ true))
met_within m local i here below =
    elim (cases_lt local i) [
      | inl later ↦ (i - local, (omega arith, met_later m local i later below))
      | inr from ↦ elim (cases_lt i local) [
        | inl earlier ↦ (i + m - local, (omega (arith, earlier), met_next m local i (omega (arith, earlier)) here))
        | inr to ↦ (let at : local + 0 ≡ i = omega (arith, from, to) in
            (0, (omega arith, eq-eqb _ _ (ap (λ x. x % m) at ∙ mod-eq_of_lt below))))
      ]
    ]

-- the lesser of two waits is met, where each is met or a whole cycle
pub met_least : {A : Type 0} (test : A → Option ℕ) (m local ticks other : ℕ) (a : A) →
    ((ticks ≡ m) ⊎ ((x : A) × IsMet m local (test x) ticks)) → ((other ≡ m) ⊎ IsMet m local (test a) other) →
    ((min ticks other ≡ m) ⊎ ((x : A) × IsMet m local (test x) (min ticks other)))
met_least test m local ticks other a one two =
    elim (cases_lt other ticks) [
      | inl less ↦
          let e : min ticks other ≡ other = omega arith in
          elim two [ inl whole ↦ inl (e ∙ whole) | inr met ↦ inr (a, subst (λ (x : ℕ). IsMet m local (test a) x) (sym e) met) ]
      | inr more ↦
          let e : min ticks other ≡ ticks = omega arith in
          elim one [ inl whole ↦ inl (e ∙ whole) | inr met ↦ inr (met.0, subst (λ (x : ℕ). IsMet m local (test met.0) x) (sym e) met.1) ]
    ]

-- of two that are met, or a whole cycle, the lesser is, likewise
pub least_of : (A : ℕ → Type 0) (m ticks other : ℕ) → ((ticks ≡ m) ⊎ A ticks) → ((other ≡ m) ⊎ A other) → ((min ticks other ≡ m) ⊎ A (min ticks other))
least_of A m ticks other one two =
    elim (cases_lt other ticks) [
      | inl less ↦ let e : min ticks other ≡ other = omega arith in subst (λ (x : ℕ). (x ≡ m) ⊎ A x) (sym e) two
      | inr more ↦ let e : min ticks other ≡ ticks = omega arith in subst (λ (x : ℕ). (x ≡ m) ⊎ A x) (sym e) one
    ]

-- and of two that differ in what is met
pub next_of_both : (A B : ℕ → Type 0) (m ticks other : ℕ) → ((ticks ≡ m) ⊎ A ticks) → ((other ≡ m) ⊎ B other) →
    ((min ticks other ≡ m) ⊎ (A (min ticks other) ⊎ B (min ticks other)))
next_of_both A B m ticks other one two =
    elim (cases_lt other ticks) [
      | inl less ↦
          let e : min ticks other ≡ other = omega arith in
          elim two [ inl whole ↦ inl (e ∙ whole) | inr met ↦ inr (inr (subst (λ (x : ℕ). B x) (sym e) met)) ]
      | inr more ↦
          let e : min ticks other ≡ ticks = omega arith in
          elim one [ inl whole ↦ inl (e ∙ whole) | inr met ↦ inr (inl (subst (λ (x : ℕ). A x) (sym e) met)) ]
    ]

-- ## From an instant to an end, until one of them is met

-- the tick after m - 1 is 0, and after any other the next number
next_is : (m here : ℕ) → here < m → ((here + 1) % m ≡ here + 1) ⊎ (((here + 1) % m ≡ 0) × (here + 1 ≡ m))
next_is m here below =
    elim (cases_lt (here + 1) m) [
      | inl within ↦ inl (mod-eq_of_lt within)
      | inr over ↦
          let turn : here + 1 ≡ 1 * m = omega (arith, over, below) in
          let last : here + 1 ≡ m = omega (arith, over, below) in
          inr (ap (λ x. x % m) turn ∙ mul-mod_left 1 m, last)
    ]

-- from one tick to the next, which is neither the begin i nor the end u: where the end is in this cycle, where it is in
-- the next, and where from one begin to the next all is within
step_in_cycle : (m i u here next : ℕ) → u < m → here < m → ((next ≡ here + 1) ⊎ ((next ≡ 0) × (here + 1 ≡ m))) →
    (next == i) ≡ false → (next == u) ≡ false → is_from_to m here i u ≡ is_from_to m next i u
step_in_cycle m i u here next low below (inl step) not_from not_to = grind (arith, nat_tests)
step_in_cycle m i u here next low below (inr turn) not_from not_to =
    let zero_next : next ≡ 0 = turn.0 in
    let last : here + 1 ≡ m = turn.1 in
    grind (arith, nat_tests)

step_over_end : (m i u e here next : ℕ) → i < m → u ≡ e + m → e < i → here < m → next < m →
    ((next ≡ here + 1) ⊎ ((next ≡ 0) × (here + 1 ≡ m))) → (next == i) ≡ false → (next == e) ≡ false →
    is_from_to m here i u ≡ is_from_to m next i u
step_over_end m i u e here next first over within below then_below (inl step) not_from not_to = grind (arith, nat_tests)
step_over_end m i u e here next first over within below then_below (inr turn) not_from not_to =
    let zero_next : next ≡ 0 = turn.0 in
    let last : here + 1 ≡ m = turn.1 in
    grind (arith, nat_tests)

all_within : (m i u l : ℕ) → i < m → i + m ≤ u → l < m → is_from_to m l i u ≡ true
all_within m i u l first long here = grind (arith, nat_tests)

step_alike : (m i u here next : ℕ) → i < m → here < m → next < m → ((next ≡ here + 1) ⊎ ((next ≡ 0) × (here + 1 ≡ m))) →
    (next == i) ≡ false → (next == u % m) ≡ false → is_from_to m here i u ≡ is_from_to m next i u
step_alike m i u here next first below then_below step not_from not_to =
    elim (cases_lt u m) [
      | inl low ↦ step_in_cycle m i u here next low below step not_from (ap (λ x. next == x) (sym (mod-eq_of_lt low)) ∙ not_to)
      | inr over ↦ elim (cases_lt u (i + m)) [
        | inl within ↦
            let turn : u ≡ u - m + 1 * m = omega (arith, over) in
            let counted : u ≡ u - m + m = omega (arith, over) in
            let before : u - m < i = omega (arith, over, within) in
            let rest : u - m < m = omega (arith, within, first) in
            let end : u % m ≡ u - m = ap (λ x. x % m) turn ∙ add-mul-mod_self_right (u - m) 1 m ∙ mod-eq_of_lt rest in
            step_over_end m i u (u - m) here next first counted before below then_below step not_from (ap (λ x. next == x) (sym end) ∙ not_to)
        | inr long ↦ all_within m i u here first long below ∙ sym (all_within m i u next first long then_below)
      ]
    ]

-- so over any number of ticks, also where the local counter goes on from 0
same_span : (m i u local : ℕ) → i < m → (k : ℕ) → ((j : ℕ) → 1 ≤ j → j ≤ k → ((local + j) % m == i) ≡ false) →
    ((j : ℕ) → 1 ≤ j → j ≤ k → ((local + j) % m == u % m) ≡ false) →
    is_from_to m ((local + 0) % m) i u ≡ is_from_to m ((local + k) % m) i u
same_span m i u local low zero not_from not_to = refl
same_span m i u local low (suc k) not_from not_to =
    let some : 0 < m = omega (arith, low) in
    let step : ((local + k) % m + 1) % m ≡ (local + suc k) % m = mod-add-mod (local + k) m 1 ∙ ap (λ x. x % m) (one_more local k) in
    same_span m i u local low k (λ j one to_k. not_from j one (omega (arith, to_k))) (λ j one to_k. not_to j one (omega (arith, to_k)))
    ∙ step_alike m i u ((local + k) % m) ((local + suc k) % m) low (mod-lt (local + k) some) (mod-lt (local + suc k) some)
    (subst (λ (x : ℕ). (x ≡ (local + k) % m + 1) ⊎ ((x ≡ 0) × ((local + k) % m + 1 ≡ m))) step (next_is m ((local + k) % m) (mod-lt (local + k) some)))
    (not_from (suc k) (omega arith) (omega arith)) (not_to (suc k) (omega arith) (omega arith))
  where
    one_more : (local k : ℕ) → local + k + 1 ≡ local + suc k
    one_more local k = omega arith

-- a late end that is counted on is met where it is met
counted_within : (m i e : ℕ) → e < m → counted_on m i e % m ≡ e
counted_within m i e low = go (nat_lt e i)
  where
    go : (b : Bool) → (if b then e + m else e) % m ≡ e
    go true = let turn : e + m ≡ e + 1 * m = omega arith in ap (λ x. x % m) turn ∙ add-mul-mod_self_right e 1 m ∙ mod-eq_of_lt low
    go false = mod-eq_of_lt low

pub same_late : (m local k : ℕ) (from to : Option ℕ) → IfSome from (λ i. i < m) → IfSome to (λ i. i < m) →
    ((j : ℕ) → 1 ≤ j → j ≤ k → agree (Some ((local + j) % m)) from ≡ false) → ((j : ℕ) → 1 ≤ j → j ≤ k → agree (Some ((local + j) % m)) to ≡ false) →
    is_late m (Some ((local + 0) % m)) from to ≡ is_late m (Some ((local + k) % m)) from to
same_late m local k None to low high not_from not_to = refl
same_late m local k (Some i) None low high not_from not_to = refl
same_late m local k (Some i) (Some e) low high not_from not_to =
    same_span m i (counted_on m i e) local low k not_from (λ j one to_k. ap (λ x. (local + j) % m == x) (counted_within m i e high) ∙ not_to j one to_k)

pub same_behind : (m time local k : ℕ) (from : Option ℕ) → IfSome from (λ i. i < m) →
    ((j : ℕ) → 1 ≤ j → j ≤ k → agree (Some ((local + j) % m)) from ≡ false) →
    ((j : ℕ) → 1 ≤ j → j ≤ k → agree (Some ((local + j) % m)) (permissive_end_from m time from) ≡ false) →
    (nat_lt 0 time && is_behind m time (Some ((local + 0) % m)) from) ≡ (nat_lt 0 time && is_behind m time (Some ((local + k) % m)) from)
same_behind m time local k None low not_from not_to = refl
same_behind m time local k (Some i) low not_from not_to = go (nat_lt 0 time) not_to
  where
    go : (b : Bool) → ((j : ℕ) → 1 ≤ j → j ≤ k → agree (Some ((local + j) % m)) (if b then Some ((i + time + 1) % m) else None) ≡ false) →
        (b && is_from_to m ((local + 0) % m) i (i + time + 1)) ≡ (b && is_from_to m ((local + k) % m) i (i + time + 1))
    go true ends = same_span m i (i + time + 1) local low k not_from ends
    go false ends = refl

-- ## What is left to an instant

-- what is left of a cycle from here to the instant i, which is below it: in this cycle or in the next
left_in_cycle : (m i here : ℕ) → here ≤ i → i < m → residue_of_difference m i here ≡ i - here
left_in_cycle m i here before low =
    let below : here < m = omega (arith, before, low) in
    let turn : i + (m - here) ≡ i - here + 1 * m = omega (arith, before, low) in
    let rest : i - here < m = omega (arith, low) in
    ap (λ x. (i + (m - x)) % m) (mod-eq_of_lt below) ∙ ap (λ x. x % m) turn ∙ add-mul-mod_self_right (i - here) 1 m ∙ mod-eq_of_lt rest

left_over_end : (m i here : ℕ) → i < here → here < m → residue_of_difference m i here ≡ i + (m - here)
left_over_end m i here behind below =
    let rest : i + (m - here) < m = omega (arith, behind, below) in
    ap (λ x. (i + (m - x)) % m) (mod-eq_of_lt below) ∙ mod-eq_of_lt rest

-- it is one tick less in the next tick, where it is not 0 here
one_less : (m i here next : ℕ) → i < m → here < m → next < m → ((next ≡ here + 1) ⊎ ((next ≡ 0) × (here + 1 ≡ m))) → here ≢ i →
    residue_of_difference m i here ≡ residue_of_difference m i next + 1
one_less m i here next low below then_below step apart =
    elim (cases_lt i here) [
      | inl behind ↦ elim step [
        | inl one ↦
            let less : i + (m - here) ≡ i + (m - next) + 1 = omega (arith, one, then_below) in
            let after : i < next = omega (arith, one, behind) in
            left_over_end m i here behind below ∙ less ∙ ap (λ x. x + 1) (sym (left_over_end m i next after then_below))
        | inr turn ↦
            let zero_next : next ≡ 0 = turn.0 in
            let last : here + 1 ≡ m = turn.1 in
            let less : i + (m - here) ≡ i - next + 1 = omega (arith, last, zero_next) in
            let to : next ≤ i = omega (arith, zero_next) in
            left_over_end m i here behind below ∙ less ∙ ap (λ x. x + 1) (sym (left_in_cycle m i next to low))
      ]
      | inr to ↦
          let before : here < i = omega (arith, to, apart) in
          elim step [
            | inl one ↦
                let less : i - here ≡ i - next + 1 = omega (arith, one, before) in
                let still : next ≤ i = omega (arith, one, before) in
                left_in_cycle m i here to low ∙ less ∙ ap (λ x. x + 1) (sym (left_in_cycle m i next still low))
            | inr turn ↦ let last : here + 1 ≡ m = turn.1 in absurd (omega (arith, last, before, low))
          ]
    ]

-- what is left of it, counted back from the instant, is here
left_back : (m i here : ℕ) → i < m → here < m → residue_of_difference m i (residue_of_difference m i here) ≡ here
left_back m i here low below =
    elim (cases_lt i here) [
      | inl behind ↦
          let after : i < i + (m - here) = omega (arith, below) in
          let within : i + (m - here) < m = omega (arith, behind, below) in
          let e : i + (m - (i + (m - here))) ≡ here = omega (arith, behind, below) in
          ap (residue_of_difference m i) (left_over_end m i here behind below) ∙ left_over_end m i (i + (m - here)) after within ∙ e
      | inr to ↦
          let e : i - (i - here) ≡ here = omega (arith, to) in
          ap (residue_of_difference m i) (left_in_cycle m i here to low) ∙ left_in_cycle m i (i - here) (omega arith) low ∙ e
    ]

-- so from one tick to the next the same times fit, but at the instant and at the end of the time for a walk
step_left : (m time i here next : ℕ) → i < m → here < m → next < m → (here + 1) % m ≡ next → (here == i) ≡ false →
    (next == (residue_of_difference m i time + 1) % m) ≡ false →
    nat_le time (residue_of_difference m i here) ≡ nat_le time (residue_of_difference m i next)
step_left m time i here next low below then_below step not_at not_end =
    ap (nat_le time) less
    ∙ elim (cases_eq time (residue_of_difference m i here)) [
      | inl same ↦
          let end : (residue_of_difference m i time + 1) % m ≡ next = ap (λ x. (residue_of_difference m i x + 1) % m) same ∙ ap (λ x. (x + 1) % m) (left_back m i here low below) ∙ step in
          absurd (differ (sym (eq-eqb next _ (sym end)) ∙ not_end))
      | inr other ↦ one_more time (residue_of_difference m i next) (λ e. other (e ∙ sym less))
    ]
  where
    differ : true ≡ false → ⊥
    differ e = cc

    apart : here ≢ i
    apart e = differ (sym (eq-eqb here i e) ∙ not_at)

    less : residue_of_difference m i here ≡ residue_of_difference m i next + 1
    less = one_less m i here next low below then_below (subst (λ (x : ℕ). (x ≡ here + 1) ⊎ ((x ≡ 0) × (here + 1 ≡ m))) step (next_is m here below)) apart

    one_more : (time rest : ℕ) → time ≢ rest + 1 → nat_le time (rest + 1) ≡ nat_le time rest
    one_more time rest other = grind (arith, nat_tests, other)

same_rest : (m time i local : ℕ) → i < m → (k : ℕ) → ((j : ℕ) → j ≤ k → ((local + j) % m == i) ≡ false) →
    ((j : ℕ) → 1 ≤ j → j ≤ k → ((local + j) % m == (residue_of_difference m i time + 1) % m) ≡ false) →
    nat_le time (residue_of_difference m i ((local + 0) % m)) ≡ nat_le time (residue_of_difference m i ((local + k) % m))
same_rest m time i local low zero not_at not_end = refl
same_rest m time i local low (suc k) not_at not_end =
    let some : 0 < m = omega (arith, low) in
    same_rest m time i local low k (λ j to_k. not_at j (omega (arith, to_k))) (λ j one to_k. not_end j one (omega (arith, to_k)))
    ∙ step_left m time i ((local + k) % m) ((local + suc k) % m) low (mod-lt (local + k) some) (mod-lt (local + suc k) some)
    (mod-add-mod (local + k) m 1 ∙ ap (λ x. x % m) (one_more local k)) (not_at k (omega arith)) (not_end (suc k) (omega arith) (omega arith))
  where
    one_more : (local k : ℕ) → local + k + 1 ≡ local + suc k
    one_more local k = omega arith

pub same_left : (m time local k : ℕ) (at : Option ℕ) → IfSome at (λ i. i < m) →
    ((j : ℕ) → j ≤ k → agree (Some ((local + j) % m)) at ≡ false) →
    ((j : ℕ) → 1 ≤ j → j ≤ k → agree (Some ((local + j) % m)) (recycle_end_from m time at) ≡ false) →
    is_left m time (Some ((local + 0) % m)) at ≡ is_left m time (Some ((local + k) % m)) at
same_left m time local k None low not_at not_end = refl
same_left m time local k (Some i) low not_at not_end = same_rest m time i local low k not_at not_end
