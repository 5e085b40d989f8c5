-- The local counter a yellow change and a red clearance after a force-off instant, and at most the permissive time
-- after that; and where force-off is late.
use Rattle.std.proofs.Common.{zero, suc, ◌≡◌, ℕ, ◌+◌, ◌-◌, ◌*◌, ◌/◌, ◌%◌, ◌<◌, ◌≤◌, ◌==◌, nat_le, nat_lt, Bool, true, false, not, ◌&&◌, ◌||◌, if◌then◌else◌, Option, Some, None, refl, arith, sym, ap, ◌∙◌, inl, inr}
use Rattle.std.proofs.Math.Bool.{or-false}
use Rattle.std.proofs.Math.Nat.{div-add-mod', mod-lt, mod-eq_of_lt, mod-add-mod, add-mul-mod_self_right, mul-mod_left}
use Rattle.std.proofs.lemmas.Bool.{and_parts, cases_lt, leb-true}
use Rattle.std.proofs.lemmas.Bool.Decides.{nat_tests}
use Rattle.tsb_objects.specs.tsb_types.Lists.{run_from, first, or_else, or_number}
use Rattle.tsb_objects.specs.tsb_plan.Plan.{Plan, is_enabled, ring_of, yellow_change, red_clear}
use Rattle.tsb_objects.specs.tsb_plan.Parts.{is_used, cycle, permissive_time, leads_and_lags, split_of, is_coordinated, forces_late}
use Rattle.tsb_objects.specs.tsb_plan.Running.{running, is_coordinated_now, coordinates_in}
use Rattle.tsb_objects.specs.tsb_rules.Consistent.{IsPhase, IsWhole}
use Rattle.tsb_objects.specs.tsb_rules.PatternRules.{split_end}
use Rattle.tsb_objects.specs.tsb_rules.Rules.{first_broken}
use Rattle.tsb_objects.specs.Instants.{is_coordinated_in, offset_in_effect}
use Rattle.tsb_objects.proofs.tsb_rules.ConsistentLemmas.{whole, coordinated}
use Rattle.tsb_objects.proofs.InstantLemmas.{instant-below, offset-below, coordinated-has-no-end, others-have-no-time}
use Rattle.tsb_coord.specs.Coordinated.{counter, local, residue_of_difference, end_in, end_of, instant_from, coordinated_in_ring, first_coordinated, reference, instant_by, force_off, agree, yields_to, instant_of, late_end, is_from_to, is_late, is_forced_late, yields_for, is_behind, is_permitted, is_at_force_off, is_in_permissive_time, asks_force_off, is_pattern}
use Rattle.tsb_coord.specs.Laws.{clear_of, IsCountedFrom, IsAtMostBehind}

-- ## Residues

-- numbers that differ by multiples of m have one residue
pub same_residue : (m a b i j : ℕ) → a + i * m ≡ b + j * m → a % m ≡ b % m
same_residue m a b i j e =
    sym (add-mul-mod_self_right a i m) ∙ (ap (λ x. x % m) e ∙ add-mul-mod_self_right b j m)

-- k after the residue of a - (b + k) comes that of a - b
pub difference_moves_on : (m a b k : ℕ) → 0 < m → (residue_of_difference m a (b + k) + k) % m ≡ residue_of_difference m a b
difference_moves_on m a b k some =
    mod-add-mod (a + (m - (b + k) % m)) m k ∙
    same_residue m (a + (m - (b + k) % m) + k) (a + (m - b % m)) (b / m) ((b + k) / m)
    (balanced m a b k (b / m * m) ((b + k) / m * m) (b % m) ((b + k) % m) (div-add-mod' b m) (div-add-mod' (b + k) m)
    (mod-lt b some) (mod-lt (b + k) some))
  where
    balanced : (m a b k x y r s : ℕ) → x + r ≡ b → y + s ≡ b + k → r < m → s < m →
        a + (m - s) + k + x ≡ a + (m - r) + y
    balanced m a b k x y r s one other low below = omega (arith, one, other, low, below)

pub no_difference : (m a : ℕ) → 0 < m → residue_of_difference m a a ≡ 0
no_difference m a some =
    ap (λ x. x % m) (whole_turns m a (a / m) (a % m) (div-add-mod' a m) (mod-lt a some)) ∙ mul-mod_left (a / m + 1) m
  where
    whole_turns : (m a q r : ℕ) → q * m + r ≡ a → r < m → a + (m - r) ≡ (q + 1) * m
    whole_turns m a q r e low = omega (arith, e, low)

-- ## The local counter

pub counter_moves_on : (plan : Plan) (n t k : ℕ) → offset_in_effect plan n < cycle plan n →
    counter plan n (t + k) ≡ (counter plan n t + k) % cycle plan n
counter_moves_on plan n t k below =
    ap (λ x. x % cycle plan n) (later_by t k (cycle plan n) (offset_in_effect plan n) below) ∙
    sym (mod-add-mod (t + cycle plan n - offset_in_effect plan n) (cycle plan n) k)
  where
    later_by : (t k c o : ℕ) → o < c → t + k + c - o ≡ t + c - o + k
    later_by t k c o below = omega (arith, below)

-- at the instant i, and a yellow change and red clearance later
clear_at : (plan : Plan) (n t p c : ℕ) → offset_in_effect plan n < cycle plan n → counter plan n t ≡ instant_from plan n c p →
    counter plan n (clear_of plan t p) ≡ residue_of_difference (cycle plan n) (end_of plan n p) (end_of plan n c)
clear_at plan n t p c below at =
    let k : ℕ = yellow_change plan p + red_clear plan p in
    let some : 0 < cycle plan n = omega (arith, below) in
    ap (counter plan n) (joined t (yellow_change plan p) (red_clear plan p)) ∙
    (counter_moves_on plan n t k below ∙
    (ap (λ x. (x + k) % cycle plan n) (at ∙ ap (residue_of_difference (cycle plan n) (end_of plan n p))
    (joined (end_of plan n c) (yellow_change plan p) (red_clear plan p))) ∙
    difference_moves_on (cycle plan n) (end_of plan n p) (end_of plan n c) k some))
  where
    joined : (t y r : ℕ) → t + y + r ≡ t + (y + r)
    joined t y r = omega arith

-- so many ticks after the instant, and a yellow change and red clearance later
clear_behind : (plan : Plan) (n t p c k : ℕ) → offset_in_effect plan n < cycle plan n → counter plan n t ≡ (instant_from plan n c p + k) % cycle plan n →
    counter plan n (clear_of plan t p) ≡ (residue_of_difference (cycle plan n) (end_of plan n p) (end_of plan n c) + k) % cycle plan n
clear_behind plan n t p c k below at =
    let m : ℕ = cycle plan n in
    let later : ℕ = yellow_change plan p + red_clear plan p in
    let i : ℕ = instant_from plan n c p in
    let some : 0 < m = omega (arith, below) in
    let moved : (i + later) % m ≡ residue_of_difference m (end_of plan n p) (end_of plan n c) =
    ap (λ x. (residue_of_difference m (end_of plan n p) x + later) % m) (joined (end_of plan n c) (yellow_change plan p) (red_clear plan p))
    ∙ difference_moves_on m (end_of plan n p) (end_of plan n c) later some in
    ap (counter plan n) (joined t (yellow_change plan p) (red_clear plan p))
    ∙ counter_moves_on plan n t later below
    ∙ ap (λ x. (x + later) % m) at
    ∙ mod-add-mod (i + k) m later
    ∙ ap (λ x. x % m) (turned i k later)
    ∙ sym (mod-add-mod (i + later) m k)
    ∙ ap (λ x. (x + k) % m) moved
  where
    joined : (t y r : ℕ) → t + y + r ≡ t + (y + r)
    joined t y r = omega arith

    turned : (i k y : ℕ) → i + k + y ≡ i + y + k
    turned i k y = omega arith

-- ## The pattern, its coordinated phases and their ends

-- one that a list's first is
pub record IsFirst (test : ℕ → Bool) (a n c : ℕ) : Type 0 where
  pub from : a ≤ c
  pub below : c < a + n
  pub passes : test c ≡ true

pub first_passes : (test : ℕ → Bool) (a n c : ℕ) → first test (run_from a n) ≡ Some c → IsFirst test a n c
unfolding run_from
first_passes test a zero c e = cc
first_passes test a (suc n) c e =
    go (test a) refl e (λ (f : first test (run_from (a + 1) n) ≡ Some c). first_passes test (a + 1) n c f)
  where
    go : (b : Bool) → test a ≡ b → (if b then Some a else first test (run_from (a + 1) n)) ≡ Some c →
        (first test (run_from (a + 1) n) ≡ Some c → IsFirst test (a + 1) n c) → IsFirst test a (suc n) c
    go true here e later = let same : a ≡ c = cc in
        record { from = omega (arith, same); below = omega (arith, same); passes = ap test (sym same) ∙ here }
    go false here e later =
        let rest : IsFirst test (a + 1) n c = later e in
        let from : a + 1 ≤ c = rest.from in
        let below : c < a + 1 + n = rest.below in
        record { from = omega arith; below = omega arith; passes = rest.passes }

pub in_range : (plan : Plan) (n : ℕ) → is_pattern plan n ≡ true → (1 ≤ n) × (n ≤ 16) × (is_used plan n ≡ true)
in_range plan n is =
    let parts = and_parts (nat_le 1 n && nat_le n 16) (is_used plan n) is in
    let ends = and_parts (nat_le 1 n) (nat_le n 16) parts.0 in
    (leb-true 1 n ends.0, leb-true n 16 ends.1, parts.1)

pub its_parts : (plan : Plan) → first_broken plan ≡ None → (n : ℕ) → is_pattern plan n ≡ true → IsWhole plan n
its_parts plan none n is =
    let range = in_range plan n is in whole plan none n range.0 range.1 range.2

-- the splits of any two coordinated phases of a pattern that does not lead and lag end at one time
pub ends_agree : (plan : Plan) → first_broken plan ≡ None → (n c d : ℕ) → IsWhole plan n → leads_and_lags plan n ≡ false → IsPhase plan c → IsPhase plan d →
    is_coordinated_now plan (Some n) c ≡ true → is_coordinated_now plan (Some n) d ≡ true → end_of plan n c ≡ end_of plan n d
ends_agree plan none n c d parts at_one is also one other =
    let u : ℕ = parts.its_split in
    let table : split_of plan n ≡ Some u = parts.in_use.split in
    let named : (p : ℕ) → is_coordinated_now plan (Some n) p ≡ true → is_coordinated plan u p ≡ true =
    λ p e. ap (λ o. coordinates_in plan o p) (sym table) ∙ e in
    let end : (p : ℕ) → end_of plan n p ≡ split_end plan parts.its_sequence u p =
    λ p. ap (λ o. end_in plan n o p) table ∙ ap (λ o. split_end plan (or_number o 1) u p) parts.in_use.sequence in
    let ends : split_end plan parts.its_sequence u c ≡ split_end plan parts.its_sequence u d =
    ((coordinated plan none n parts.its_sequence u parts.in_use).together c d is also (named c one) (named d other)).ends at_one in
    end c ∙ (ends ∙ sym (end d))

-- the phase that instants are counted from is a coordinated one
pub record IsReference (plan : Plan) (n c : ℕ) : Type 0 where
  pub is_phase : IsPhase plan c
  pub is_one : is_coordinated_now plan (Some n) c ≡ true

pub reference_is : (plan : Plan) (n c : ℕ) → reference plan n ≡ Some c → IsReference plan n c
reference_is plan n c = go (coordinated_in_ring plan n 1) (first_coordinated plan n) of_ring of_any
  where
    is_one_of : (test : ℕ → Bool) → first test (run_from 1 plan.phase_count) ≡ Some c → IsPhase plan c
    is_one_of test e =
        let found : IsFirst test 1 plan.phase_count c = first_passes test 1 plan.phase_count c e in
        let below : c < 1 + plan.phase_count = found.below in
        record { from_one = found.from; within = omega arith }

    of_ring : coordinated_in_ring plan n 1 ≡ Some c → IsReference plan n c
    of_ring e = record {
      is_phase = is_one_of (is_coordinated_in plan n 1) e;
      is_one = (and_parts (is_coordinated_now plan (Some n) c) (ring_of plan c == 1) (first_passes (is_coordinated_in plan n 1) 1 plan.phase_count c e).passes).0;
    }

    of_any : first_coordinated plan n ≡ Some c → IsReference plan n c
    of_any e = record {
      is_phase = is_one_of (is_coordinated_now plan (Some n)) e;
      is_one = (first_passes (is_coordinated_now plan (Some n)) 1 plan.phase_count c e).passes;
    }

    go : (one other : Option ℕ) → (one ≡ Some c → IsReference plan n c) → (other ≡ Some c → IsReference plan n c) → or_else one other ≡ Some c → IsReference plan n c
    go None other first_is second_is e = second_is e
    go (Some d) other first_is second_is e = first_is e

-- where there is a coordinated phase, there is one that instants are counted from
pub reference_found : (plan : Plan) (n c : ℕ) → first_coordinated plan n ≡ Some c → (d : ℕ) × (reference plan n ≡ Some d)
reference_found plan n c is = go (coordinated_in_ring plan n 1) (first_coordinated plan n) is
  where
    go : (one other : Option ℕ) → other ≡ Some c → (d : ℕ) × (or_else one other ≡ Some d)
    go None other e = (c, e)
    go (Some d) other e = (d, refl)

-- ## Late force-off and the permissive time

-- at its instant a phase is forced off
pub at_instant_asks : (plan : Plan) (t : ℕ) (selected : Option ℕ) (p : ℕ) → is_at_force_off plan t selected p ≡ true →
    asks_force_off plan t selected p ≡ true
at_instant_asks plan t selected p at =
    ap (λ (b : Bool). b || (is_forced_late plan (running plan selected) (local plan t selected) p || is_in_permissive_time plan t selected p)) at

pub never_late : (m : ℕ) (at from : Option ℕ) → is_late m at from None ≡ false
never_late m None from = refl
never_late m (Some l) None = refl
never_late m (Some l) (Some i) = refl

-- a phase without a late end is never late, and so forced off at its instant and in its permissive time alone
without_end : (plan : Plan) (runs at : Option ℕ) (p : ℕ) → late_end plan runs p ≡ None → is_forced_late plan runs at p ≡ false
without_end plan None at p none = refl
without_end plan (Some n) at p none =
    ap (is_late (cycle plan n) at (force_off plan (Some n) p)) none ∙ never_late (cycle plan n) at (force_off plan (Some n) p)

at_instant_or_permitted : (plan : Plan) (t : ℕ) (selected : Option ℕ) (p : ℕ) → late_end plan (running plan selected) p ≡ None →
    asks_force_off plan t selected p ≡ (is_at_force_off plan t selected p || is_in_permissive_time plan t selected p)
at_instant_or_permitted plan t selected p none =
    ap (λ (b : Bool). is_at_force_off plan t selected p || (b || is_in_permissive_time plan t selected p))
    (without_end plan (running plan selected) (local plan t selected) p none)

off_ends_none : (plan : Plan) (runs : Option ℕ) (p : ℕ) → forces_late plan ≡ false → late_end plan runs p ≡ None
off_ends_none plan None p off = refl
off_ends_none plan (Some n) p off =
    ap (λ (b : Bool). if b && not (is_coordinated_now plan (Some n) p) then instant_of plan n (yields_to plan n p) else None) off

coordinated_ends_none : (plan : Plan) (runs : Option ℕ) (p : ℕ) → is_coordinated_now plan runs p ≡ true → late_end plan runs p ≡ None
coordinated_ends_none plan None p one = refl
coordinated_ends_none plan (Some n) p one = coordinated-has-no-end plan n p one

-- with coordForceMode 0 each phase is forced off at its instant and in its permissive time alone
pub mode_0 : (plan : Plan) (t : ℕ) (selected : Option ℕ) (p : ℕ) → forces_late plan ≡ false →
    asks_force_off plan t selected p ≡ (is_at_force_off plan t selected p || is_in_permissive_time plan t selected p)
mode_0 plan t selected p off = at_instant_or_permitted plan t selected p (off_ends_none plan (running plan selected) p off)

-- in each mode a coordinated phase is
pub coordinated_at_instant : (plan : Plan) (t : ℕ) (selected : Option ℕ) (p : ℕ) → is_coordinated_now plan (running plan selected) p ≡ true →
    asks_force_off plan t selected p ≡ (is_at_force_off plan t selected p || is_in_permissive_time plan t selected p)
coordinated_at_instant plan t selected p one =
    at_instant_or_permitted plan t selected p (coordinated_ends_none plan (running plan selected) p one)

-- with a time of 0 no tick is permitted
timeless : (plan : Plan) (n p : ℕ) (at : Option ℕ) → yields_for plan n p ≡ 0 → is_permitted plan (Some n) at p ≡ false
timeless plan n p at none = ap (λ (time : ℕ). nat_lt 0 time && is_behind (cycle plan n) time at (force_off plan (Some n) p)) none

-- of a phase that is not coordinated
pub others_not_permitted : (plan : Plan) (t : ℕ) (selected : Option ℕ) (p : ℕ) → is_coordinated_now plan (running plan selected) p ≡ false →
    is_in_permissive_time plan t selected p ≡ false
others_not_permitted plan t selected p = go (running plan selected) (local plan t selected)
  where
    go : (runs at : Option ℕ) → is_coordinated_now plan runs p ≡ false → is_permitted plan runs at p ≡ false
    go None at other = refl
    go (Some n) at other = timeless plan n p at (others-have-no-time plan n p other)

-- of a pattern whose permissive time is 0
pub none_permitted_without : (plan : Plan) (t : ℕ) (selected : Option ℕ) (n p : ℕ) → running plan selected ≡ Some n → permissive_time plan n ≡ 0 →
    is_in_permissive_time plan t selected p ≡ false
none_permitted_without plan t selected n p runs none =
    ap (λ (o : Option ℕ). is_permitted plan o (local plan t selected) p) runs
    ∙ timeless plan n p (local plan t selected)
    (either_way (is_coordinated_now plan (Some n) p) (permissive_time plan n) none)
  where
    either_way : (b : Bool) (x : ℕ) → x ≡ 0 → (if b then x else 0) ≡ 0
    either_way true x none = none
    either_way false x none = refl

-- with both options off each phase is forced off at its instant alone
pub options_off : (plan : Plan) (t : ℕ) (selected : Option ℕ) (p : ℕ) → forces_late plan ≡ false → ((n : ℕ) → permissive_time plan n ≡ 0) →
    asks_force_off plan t selected p ≡ is_at_force_off plan t selected p
options_off plan t selected p off none =
    mode_0 plan t selected p off
    ∙ ap (λ (b : Bool). is_at_force_off plan t selected p || b) (go (running plan selected) refl)
    ∙ or-false (is_at_force_off plan t selected p)
  where
    go : (runs : Option ℕ) → running plan selected ≡ runs → is_in_permissive_time plan t selected p ≡ false
    go None is = ap (λ (o : Option ℕ). is_permitted plan o (local plan t selected) p) is
    go (Some n) is = none_permitted_without plan t selected n p is (none n)

-- ## What is asked

instant_met : (m : ℕ) (instant : Option ℕ) → agree (Some m) instant ≡ true → instant ≡ Some m
instant_met m None e = absurd cc
instant_met m (Some k) e = let same : m ≡ k = grind (arith, nat_tests, e) in ap Some (sym same)

instant_asked : (plan : Plan) (n t p : ℕ) → is_used plan n ≡ true → is_at_force_off plan t (Some n) p ≡ true →
    force_off plan (Some n) p ≡ Some (counter plan n t)
instant_asked plan n t p used asked =
    let now : agree (Some (counter plan n t)) (force_off plan (Some n) p) ≡ true = rw used at asked in
    instant_met (counter plan n t) (force_off plan (Some n) p) now

-- an instant is counted from a coordinated phase
pub record IsCounted (plan : Plan) (n p i : ℕ) : Type 0 where
  pub from : ℕ
  pub is : reference plan n ≡ Some from
  pub at : i ≡ instant_from plan n from p

is_counted : (plan : Plan) (n p i : ℕ) → force_off plan (Some n) p ≡ Some i → IsCounted plan n p i
unfolding force_off
is_counted plan n p i e = go (is_enabled plan p) (reference plan n) refl e
  where
    go : (b : Bool) (o : Option ℕ) → reference plan n ≡ o → (if b then instant_by plan n o p else None) ≡ Some i →
        IsCounted plan n p i
    go false o is e = absurd cc
    go true None is e = absurd cc
    go true (Some c) is e = record { from = c; is = is; at = cc }

-- and so the same from each that it may be counted from
same_end : (plan : Plan) → first_broken plan ≡ None → (n c d : ℕ) → IsWhole plan n → reference plan n ≡ Some c → IsCountedFrom plan n d →
    end_of plan n c ≡ end_of plan n d
same_end plan none n c d parts is counted = go (leads_and_lags plan n) refl
  where
    one : IsReference plan n c
    one = reference_is plan n c is

    go : (b : Bool) → leads_and_lags plan n ≡ b → end_of plan n c ≡ end_of plan n d
    go true apart = let same : c ≡ d = only (sym is ∙ counted.counted apart) in ap (end_of plan n) same
      where
        only : {a b : ℕ} → Some a ≡ Some b → a ≡ b
        only e = cc
    go false at_one = ends_agree plan none n c d parts at_one one.is_phase counted.is_phase one.is_one counted.is_one

pub local_now : (plan : Plan) (n t : ℕ) → is_used plan n ≡ true → local plan t (Some n) ≡ Some (counter plan n t)
local_now plan n t used = rw used refl

pub runs_now : (plan : Plan) (n : ℕ) → is_used plan n ≡ true → running plan (Some n) ≡ Some n
runs_now plan n used = rw used refl

pub ends_with_its_split : (plan : Plan) → first_broken plan ≡ None → (n t p c : ℕ) → is_pattern plan n ≡ true →
    is_at_force_off plan t (Some n) p ≡ true → IsCountedFrom plan n c →
    local plan (clear_of plan t p) (Some n) ≡ Some (residue_of_difference (cycle plan n) (end_of plan n p) (end_of plan n c))
ends_with_its_split plan none n t p c is asked from =
    let range = in_range plan n is in
    let parts : IsWhole plan n = its_parts plan none n is in
    let counted : IsCounted plan n p (counter plan n t) =
    is_counted plan n p (counter plan n t) (instant_asked plan n t p range.2 asked) in
    let same : end_of plan n counted.from ≡ end_of plan n c = same_end plan none n counted.from c parts counted.is from in
    local_now plan n (clear_of plan t p) range.2 ∙
    ap Some (clear_at plan n t p counted.from (offset-below plan n parts.below) counted.at ∙
    ap (residue_of_difference (cycle plan n) (end_of plan n p)) same)

pub ends_at_zero : (plan : Plan) → first_broken plan ≡ None → (n t p : ℕ) → is_pattern plan n ≡ true → IsCountedFrom plan n p →
    is_at_force_off plan t (Some n) p ≡ true → local plan (clear_of plan t p) (Some n) ≡ Some 0
ends_at_zero plan none n t p is from at =
    let below : offset_in_effect plan n < cycle plan n = offset-below plan n (its_parts plan none n is).below in
    ends_with_its_split plan none n t p p is at from ∙
    ap Some (no_difference (cycle plan n) (end_of plan n p) (omega (arith, below)))

-- ## In the permissive time

-- the local counter l is so many ticks after the instant of p, at most the permissive time
pub record StandsBehind (plan : Plan) (n p l : ℕ) : Type 0 where
  pub instant : ℕ
  pub is : force_off plan (Some n) p ≡ Some instant
  pub ticks : ℕ
  pub most : ticks ≤ permissive_time plan n
  pub at : l ≡ (instant + ticks) % cycle plan n

-- from i up to behind it, in this cycle or from the last one on
in_this : (m l i time : ℕ) → i ≤ l → is_from_to m l i (i + time + 1) ≡ true → l - i ≤ time
in_this m l i time from is = grind (arith, nat_tests, from, is)

in_next : (m l i time : ℕ) → l < i → is_from_to m l i (i + time + 1) ≡ true → l + m - i ≤ time
in_next m l i time before is = grind (arith, nat_tests, before, is)

so_much_behind : (m l i time : ℕ) → l < m → i < m → is_from_to m l i (i + time + 1) ≡ true → (k : ℕ) × ((k ≤ time) × (l ≡ (i + k) % m))
so_much_behind m l i time here low is =
    elim (cases_lt l i) [
      | inl before ↦
          let at : i + (l + m - i) ≡ l + 1 * m = omega (arith, before, low) in
          (l + m - i, (in_next m l i time before is, sym (ap (λ x. x % m) at ∙ add-mul-mod_self_right l 1 m ∙ mod-eq_of_lt here)))
      | inr from ↦
          let at : i + (l - i) ≡ l = omega (arith, from) in
          (l - i, (in_this m l i time from is, sym (ap (λ x. x % m) at ∙ mod-eq_of_lt here)))
    ]

yields_most : (plan : Plan) (n p : ℕ) → yields_for plan n p ≤ permissive_time plan n
yields_most plan n p = go (is_coordinated_now plan (Some n) p)
  where
    go : (b : Bool) → (if b then permissive_time plan n else 0) ≤ permissive_time plan n
    go true = omega arith
    go false = omega arith

permitted_behind : (plan : Plan) (n p l : ℕ) → is_used plan n ≡ true → l < cycle plan n → is_permitted plan (Some n) (Some l) p ≡ true → StandsBehind plan n p l
permitted_behind plan n p l used here is =
    go (force_off plan (Some n) p) refl
    (and_parts (nat_lt 0 (yields_for plan n p)) (is_behind (cycle plan n) (yields_for plan n p) (Some l) (force_off plan (Some n) p)) is).1
  where
    go : (o : Option ℕ) → force_off plan (Some n) p ≡ o → is_behind (cycle plan n) (yields_for plan n p) (Some l) o ≡ true → StandsBehind plan n p l
    go None at behind = cc
    go (Some i) at behind =
        let k = so_much_behind (cycle plan n) l i (yields_for plan n p) here (instant-below plan n p i used at) behind in
        let less : k.0 ≤ yields_for plan n p = k.1.0 in
        record { instant = i; is = at; ticks = k.0; most = omega (arith, less, yields_most plan n p); at = k.1.1 }

at_instant_behind : (plan : Plan) (n p l : ℕ) → is_used plan n ≡ true → l < cycle plan n → agree (Some l) (force_off plan (Some n) p) ≡ true → StandsBehind plan n p l
at_instant_behind plan n p l used here is =
    let same : l + 0 ≡ l = omega arith in
    record {
      instant = l;
      is = instant_met l (force_off plan (Some n) p) is;
      ticks = 0;
      most = omega arith;
      at = sym (ap (λ x. x % cycle plan n) same ∙ mod-eq_of_lt here);
    }

-- a coordinated phase that is forced off
asked_behind : (plan : Plan) (n t p : ℕ) → is_used plan n ≡ true → offset_in_effect plan n < cycle plan n → is_coordinated_now plan (Some n) p ≡ true →
    asks_force_off plan t (Some n) p ≡ true → StandsBehind plan n p (counter plan n t)
asked_behind plan n t p used below one asked =
    let here : counter plan n t < cycle plan n = mod-lt (t + cycle plan n - offset_in_effect plan n) (omega (arith, below)) in
    let running_one : is_coordinated_now plan (running plan (Some n)) p ≡ true = ap (λ o. is_coordinated_now plan o p) (runs_now plan n used) ∙ one in
    let either : (is_at_force_off plan t (Some n) p || is_in_permissive_time plan t (Some n) p) ≡ true =
    sym (coordinated_at_instant plan t (Some n) p running_one) ∙ asked in
    let now : (agree (Some (counter plan n t)) (force_off plan (Some n) p) || is_permitted plan (Some n) (Some (counter plan n t)) p) ≡ true = rw used at either in
    go here (agree (Some (counter plan n t)) (force_off plan (Some n) p)) refl now
  where
    go : counter plan n t < cycle plan n → (b : Bool) → agree (Some (counter plan n t)) (force_off plan (Some n) p) ≡ b →
        (b || is_permitted plan (Some n) (Some (counter plan n t)) p) ≡ true → StandsBehind plan n p (counter plan n t)
    go here true at either = at_instant_behind plan n p (counter plan n t) used here at
    go here false at either = permitted_behind plan n p (counter plan n t) used here either

pub ends_in_time : (plan : Plan) → first_broken plan ≡ None → (n t p c : ℕ) → is_pattern plan n ≡ true → is_coordinated_now plan (Some n) p ≡ true →
    asks_force_off plan t (Some n) p ≡ true → IsCountedFrom plan n c →
    IsAtMostBehind plan n (residue_of_difference (cycle plan n) (end_of plan n p) (end_of plan n c)) (permissive_time plan n) (local plan (clear_of plan t p) (Some n))
ends_in_time plan none n t p c is one asked from =
    let used : is_used plan n ≡ true = (in_range plan n is).2 in
    let parts : IsWhole plan n = its_parts plan none n is in
    let m : ℕ = cycle plan n in
    let it : StandsBehind plan n p (counter plan n t) = asked_behind plan n t p used (offset-below plan n parts.below) one asked in
    let counted : IsCounted plan n p it.instant = is_counted plan n p it.instant it.is in
    let same : end_of plan n counted.from ≡ end_of plan n c = same_end plan none n counted.from c parts counted.is from in
    let at : counter plan n t ≡ (instant_from plan n counted.from p + it.ticks) % m = it.at ∙ ap (λ x. (x + it.ticks) % m) counted.at in (
      it.ticks,
      (
        it.most,
        local_now plan n (clear_of plan t p) used
            ∙ ap Some (clear_behind plan n t p counted.from it.ticks (offset-below plan n parts.below) at ∙ ap (λ x. (residue_of_difference m (end_of plan n p) x + it.ticks) % m) same),
      ),
    )

pub ends_near_zero : (plan : Plan) → first_broken plan ≡ None → (n t p : ℕ) → is_pattern plan n ≡ true → IsCountedFrom plan n p →
    asks_force_off plan t (Some n) p ≡ true → IsAtMostBehind plan n 0 (permissive_time plan n) (local plan (clear_of plan t p) (Some n))
ends_near_zero plan none n t p is from asked =
    let below : offset_in_effect plan n < cycle plan n = offset-below plan n (its_parts plan none n is).below in
    let it = ends_in_time plan none n t p p is from.is_one asked from in
    (it.0, (it.1.0, it.1.1 ∙ ap (λ x. Some ((x + it.0) % cycle plan n)) (no_difference (cycle plan n) (end_of plan n p) (omega (arith, below)))))

-- ## Where a phase yields

-- an instant at which late force-off ends is not late
not_at_end : (m l : ℕ) (from : Option ℕ) → is_late m (Some l) from (Some l) ≡ false
not_at_end m l None = refl
not_at_end m l (Some i) = go (nat_lt l i) refl
  where
    go : (b : Bool) → nat_lt l i ≡ b → is_from_to m l i (if b then l + m else l) ≡ false
    go true before = grind (arith, nat_tests, before)
    go false from = grind (arith, nat_tests, from)

-- late force-off of p, if it has any, ends at the instant of the phase that it yields to
ends_at_instant : (plan : Plan) (n p c l : ℕ) → yields_to plan n p ≡ Some c → force_off plan (Some n) c ≡ Some l →
    is_forced_late plan (Some n) (Some l) p ≡ false
ends_at_instant plan n p c l yields at =
    ap (λ (o : Option ℕ). is_late (cycle plan n) (Some l) from (if forces_late plan && not (is_coordinated_now plan (Some n) p) then instant_of plan n o else None)) yields
    ∙ ap (λ (o : Option ℕ). is_late (cycle plan n) (Some l) from (if forces_late plan && not (is_coordinated_now plan (Some n) p) then o else None)) at
    ∙ go (forces_late plan && not (is_coordinated_now plan (Some n) p))
  where
    from : Option ℕ
    from = force_off plan (Some n) p

    go : (b : Bool) → is_late (cycle plan n) (Some l) from (if b then Some l else None) ≡ false
    go true = not_at_end (cycle plan n) l from
    go false = never_late (cycle plan n) (Some l) from

pub ends_where_it_yields : (plan : Plan) (n t p c : ℕ) → is_pattern plan n ≡ true → yields_to plan n p ≡ Some c →
    is_at_force_off plan t (Some n) c ≡ true →
    asks_force_off plan t (Some n) p ≡ (is_at_force_off plan t (Some n) p || is_in_permissive_time plan t (Some n) p)
ends_where_it_yields plan n t p c is yields at =
    let used : is_used plan n ≡ true = (in_range plan n is).2 in
    let l : ℕ = counter plan n t in
    let ended : is_forced_late plan (Some n) (Some l) p ≡ false = ends_at_instant plan n p c l yields (instant_asked plan n t c used at) in
    ap (λ (b : Bool). is_at_force_off plan t (Some n) p || (b || is_in_permissive_time plan t (Some n) p)) (not_late used ended)
  where
    not_late : is_used plan n ≡ true → is_forced_late plan (Some n) (Some (counter plan n t)) p ≡ false → is_forced_late plan (running plan (Some n)) (local plan t (Some n)) p ≡ false
    not_late used ended = rw used ended
