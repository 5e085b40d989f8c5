-- The local counter comes to a force-off instant that is shown to be so far off.
use Rattle.std.proofs.Common.{◌≡◌, ℕ, ◌+◌, ◌-◌, ◌*◌, ◌%◌, ◌<◌, ◌≤◌, ◌==◌, Bool, true, false, if◌then◌else◌, List, ◌++◌, Option, Some, None, refl, sym, ap, ap₂, arith, ◌∙◌, inl, inr}
use Rattle.std.proofs.Math.Nat.{mod-eq_of_lt, mod-lt, add-mul-mod_self_right}
use Rattle.std.proofs.lemmas.Bool.{cases_lt, eqb-true}
use Rattle.std.proofs.lemmas.Bool.Decides.{nat_tests}
use Rattle.tsb_step.specs.tsb_types.Intervals.{is_green}
use Rattle.tsb_step.specs.tsb_plan.Parts.{is_used, cycle}
use Rattle.tsb_step.specs.tsb_objects.Instants.{offset_in_effect}
use Rattle.tsb_step.specs.tsb_plan.Plan.{Plan}
use Rattle.tsb_step.specs.tsb_plan.Running.{running}
use Rattle.tsb_step.specs.tsb_rules.Consistent.{IsWhole}
use Rattle.tsb_step.specs.tsb_coord.Coordinated.{counter, local_in, force_off, agree}
use Rattle.tsb_step.specs.tsb_coord.Clock.{shift}
use Rattle.tsb_step.specs.tsb_coord.Correction.{ahead_in, shift_in, shift_of}
use Rattle.tsb_step.specs.tsb_ring.Rings.{Ring}
use Rattle.tsb_step.specs.declared.inputs.Input.{Input}
use Rattle.tsb_step.specs.State.{State, interval}
use Rattle.tsb_step.specs.Status.{status, serving, until_instant, force_off_from, force_off_of}
use Rattle.tsb_step.specs.Signs.{local, IsInStep}
use Rattle.tsb_step.specs.Tick.{runs}
use Rattle.tsb_step.specs.Runs.{replay, AreTaken}
use Rattle.tsb_step.specs.Laws.{IsConsistent}
use Rattle.tsb_step.specs.Good.{IsGood, IsPatternNumber}
use Rattle.tsb_step.proofs.GoodLemmas.{good_run}
use Rattle.tsb_step.proofs.tsb_coord.LocalLemmas.{counter_moves_on}
use Rattle.tsb_step.proofs.tsb_objects.InstantLemmas.{instant-below, offset-below}
use Rattle.tsb_step.proofs.tsb_rules.ConsistentLemmas.{whole}
use Rattle.tsb_laws.specs.TimesLeft.{IsShown, is_at_instant, StaysInStep, ComesThen}
use Rattle.tsb_laws.proofs.safety.StretchLemmas.{taken_before}

-- ## Round a cycle

-- x is the place of the counter, i the instant, c the cycle
module _ (x i c n j : ℕ) (stands : x < c) (within : i < c) (rest : (i + c - x) % c ≡ n) where
  ahead : x ≤ i → i - x ≡ n
  ahead low = sym (mod-eq_of_lt less) ∙ (sym (add-mul-mod_self_right (i - x) 1 c) ∙ (ap (λ (k : ℕ). k % c) whole_turn ∙ rest))
    where
      less : i - x < c
      less = omega (arith, within)

      whole_turn : (i - x) + 1 * c ≡ i + c - x
      whole_turn = omega (arith, low)

  behind : i < x → i + c - x ≡ n
  behind high = sym (mod-eq_of_lt less) ∙ rest
    where
      less : i + c - x < c
      less = omega (arith, high, stands)

  -- before its end a cycle is counted as it is, and once round from 0 again
  within_cycle : x + j < c → (x + j) % c ≡ x + j
  within_cycle h = mod-eq_of_lt h

  once_round : c ≤ x + j → x + j < c + c → (x + j) % c ≡ x + j - c
  once_round h less = ap (λ (k : ℕ). k % c) turned ∙ (add-mul-mod_self_right (x + j - c) 1 c ∙ mod-eq_of_lt rest_less)
    where
      turned : x + j ≡ (x + j - c) + 1 * c
      turned = omega (arith, h)

      rest_less : x + j - c < c
      rest_less = omega (arith, h, less)

  not_yet : j < n → ((x + j) % c == i) ≡ false
  not_yet early =
      elim (cases_lt i x) [
        | inl high ↦ (let all : i + c - x ≡ n = behind high in
            elim (cases_lt (x + j) c) [
              | inl h ↦ ap (λ (k : ℕ). k == i) (within_cycle h) ∙ above (x + j) (omega (arith, high))
              | inr h ↦ ap (λ (k : ℕ). k == i) (once_round h (omega (arith, all, early, within))) ∙ other (x + j - c) (omega (arith, all, early, h, high, stands))
            ])
        | inr low ↦ (let all : i - x ≡ n = ahead low in
            ap (λ (k : ℕ). k == i) (within_cycle (omega (arith, all, early, within))) ∙ other (x + j) (omega (arith, all, early)))
      ]
    where
      other : (m : ℕ) → m < i → (m == i) ≡ false
      other m less = grind (arith, nat_tests, less)

      above : (m : ℕ) → i < m → (m == i) ≡ false
      above m more = grind (arith, nat_tests, more)

  there : j ≡ n → ((x + j) % c == i) ≡ true
  there now =
      elim (cases_lt i x) [
        | inl high ↦ (let all : i + c - x ≡ n = behind high in
            ap (λ (k : ℕ). k == i) (once_round (omega (arith, all, now, high, stands)) (omega (arith, all, now, within, stands, high)))
            ∙ same (x + j - c) (omega (arith, all, now, high, stands)))
        | inr low ↦ (let all : i - x ≡ n = ahead low in
            ap (λ (k : ℕ). k == i) (within_cycle (omega (arith, all, now, low, within))) ∙ same (x + j) (omega (arith, all, now, low)))
      ]
    where
      same : (m : ℕ) → m ≡ i → (m == i) ≡ true
      same m e = grind (arith, nat_tests, e)

-- ## The pattern that runs

record RunsPattern (s : State) (m : ℕ) : Type 0 where
  used : is_used s.plan m ≡ true
  from_one : 1 ≤ m
  within : m ≤ 16

runs_pattern : (s : State) → IsGood s → (m : ℕ) → runs s ≡ Some m → RunsPattern s m
runs_pattern s good m h = go s.pattern refl h
  where
    go : (o : Option ℕ) → s.pattern ≡ o → running s.plan o ≡ Some m → RunsPattern s m
    go None e k = absurd cc
    go (Some n) e k = used (is_used s.plan n) refl k
      where
        used : (b : Bool) → is_used s.plan n ≡ b → (if b then Some n else None) ≡ Some m → RunsPattern s m
        used false u l = absurd cc
        used true u l =
            let same : n ≡ m = cc in
            let number : IsPatternNumber n = good.pattern n e in
            let low : 1 ≤ n = number.from_one in
            let high : n ≤ 16 = number.within in
            record { used = ap (λ (k : ℕ). is_used s.plan k) (sym same) ∙ u; from_one = omega (arith, same, low); within = omega (arith, same, high) }

its_parts : (s : State) → IsGood s → (m : ℕ) → runs s ≡ Some m → IsWhole s.plan m
its_parts s good m h =
    let it : RunsPattern s m = runs_pattern s good m h in whole s.plan good.plan.rules m it.from_one it.within it.used

-- in step the local counter is that of the cycle and the offset
local_is : (s : State) (m : ℕ) → runs s ≡ Some m → IsInStep s → local s ≡ Some (counter s.plan m (s.now + shift_of s.plan m s.correction))
local_is s m h step =
    let none : ahead_in s.plan (runs s) s.correction s.now ≡ 0 = eqb-true (ahead_in s.plan (runs s) s.correction s.now) 0 step in
    ap (λ (k : ℕ). local_in s.plan (s.now + shift_in s.plan (runs s) s.correction + k) (runs s)) none
    ∙ (ap (λ (o : Option ℕ). local_in s.plan (s.now + shift_in s.plan o s.correction + 0) o) h
    ∙ ap (λ (k : ℕ). Some (counter s.plan m k)) (no_more (s.now + shift_of s.plan m s.correction)))
  where
    no_more : (k : ℕ) → k + 0 ≡ k
    no_more k = omega arith

-- ## What is shown

-- a pattern runs in which the phase has an instant
record HasInstant (s : State) (p n : ℕ) : Type 0 where
  number : ℕ
  pattern : runs s ≡ Some number
  place : ℕ
  stands : local s ≡ Some place
  instant : ℕ
  has : force_off s.plan (runs s) p ≡ Some instant
  rest : until_instant (cycle s.plan number) place instant ≡ n

has_instant : (s : State) (p n : ℕ) → force_off_from s.plan (runs s) (local s) (force_off s.plan (runs s) p) ≡ Some n → HasInstant s p n
has_instant s p n h = go (runs s) (local s) (force_off s.plan (runs s) p) refl refl refl h
  where
    go : (a b c : Option ℕ) → runs s ≡ a → local s ≡ b → force_off s.plan (runs s) p ≡ c → force_off_from s.plan a b c ≡ Some n → HasInstant s p n
    go None b c e f g k = absurd cc
    go (Some m) None c e f g k = absurd cc
    go (Some m) (Some l) None e f g k = absurd cc
    go (Some m) (Some l) (Some i) e f g k = record { number = m; pattern = e; place = l; stands = f; instant = i; has = g; rest = cc }

shown_instant : (s : State) (r : Ring) (p n : ℕ) → IsShown s r p (λ x. x.force_off_in) n → HasInstant s p n
unfolding status
shown_instant s r p n x = of_ring (serving s r) x.phase x.left
  where
    of_ring : (o : Option ℕ) → o ≡ Some p → force_off_of s o ≡ Some n → HasInstant s p n
    of_ring o e h = go (is_green (interval s p)) (rw e at h)
      where
        go : (b : Bool) → (if b then force_off_from s.plan (runs s) (local s) (force_off s.plan (runs s) p) else None) ≡ Some n → HasInstant s p n
        go true k = has_instant s p n k
        go false k = absurd cc

pub force_offs_come : (plan : Plan) (base later : List Input) (r : Ring) (p n j : ℕ) → IsConsistent plan → AreTaken plan (later ++ base) →
    IsShown (replay plan base) r p (λ x. x.force_off_in) n → StaysInStep p (replay plan base) (replay plan (later ++ base)) →
    (replay plan (later ++ base)).now ≡ (replay plan base).now + j → ComesThen (is_at_instant p (replay plan (later ++ base))) j n
force_offs_come plan base later r p n j ok taken shown stays clock = record {
  before = λ early. at ∙ not_yet x it.instant c n j below_x below_i rest early;
  at_end = λ now. at ∙ there x it.instant c n j below_x below_i rest now;
}
  where
    good : IsGood (replay plan base)
    good = good_run plan base ok (taken_before plan base later taken)

    it : HasInstant (replay plan base) p n
    it = shown_instant (replay plan base) r p n shown

    parts : IsWhole (replay plan base).plan it.number
    parts = its_parts (replay plan base) good it.number it.pattern

    c : ℕ
    c = cycle (replay plan base).plan it.number

    from : ℕ
    from = (replay plan base).now + shift_of (replay plan base).plan it.number (replay plan base).correction

    x : ℕ
    x = counter (replay plan base).plan it.number from

    some : 0 < c
    some = let low = parts.below in omega (arith, low)

    below_x : x < c
    below_x = mod-lt (from + cycle (replay plan base).plan it.number - offset_in_effect (replay plan base).plan it.number) some

    below_i : it.instant < c
    below_i =
        instant-below (replay plan base).plan it.number p it.instant (runs_pattern (replay plan base) good it.number it.pattern).used
        (ap (λ (o : Option ℕ). force_off (replay plan base).plan o p) (sym it.pattern) ∙ it.has)

    stands : it.place ≡ x
    stands = let one = local_is (replay plan base) it.number it.pattern stays.in_step in let other = it.stands in cc

    rest : (it.instant + c - x) % c ≡ n
    rest = ap (λ (k : ℕ). until_instant c k it.instant) (sym stands) ∙ it.rest

    runs_then : runs (replay plan (later ++ base)) ≡ Some it.number
    runs_then = stays.same_pattern ∙ it.pattern

    s : State
    s = replay plan (later ++ base)

    same_shift : shift_of s.plan it.number s.correction ≡ shift_of (replay plan base).plan it.number (replay plan base).correction
    same_shift = ap₂ shift (stays.same_cycle it.number it.pattern) stays.same_midnight

    turned : s.now + shift_of s.plan it.number s.correction ≡ from + j
    turned = omega (arith, clock, same_shift)

    same_counter : counter s.plan it.number (s.now + shift_of s.plan it.number s.correction) ≡ (x + j) % c
    same_counter =
        ap (λ (k : ℕ). counter s.plan it.number k) turned
        ∙ ap₂ (λ (m o : ℕ). (from + j + m - o) % m) (stays.same_cycle it.number it.pattern) (stays.same_offset it.number it.pattern)
        ∙ counter_moves_on (replay plan base).plan it.number from j (offset-below (replay plan base).plan it.number parts.below)

    at : is_at_instant p (replay plan (later ++ base)) ≡ ((x + j) % c == it.instant)
    at =
        ap₂ agree (local_is (replay plan (later ++ base)) it.number runs_then stays.still) (stays.same_instant ∙ it.has)
        ∙ ap (λ (k : ℕ). k == it.instant) same_counter
