-- Force-off instants, found by residues of what they are counted from.
use Rattle.std.proofs.Common.{◌≡◌, ℕ, ◌+◌, ◌-◌, ◌%◌, ◌<◌, ◌≤◌, ◌==◌, nat_lt, max, Bool, true, false, not, ◌&&◌, ◌||◌, if◌then◌else◌, List, Option, Some, None, IfSome, refl, arith, ap, sym, subst, ◌∙◌}
use Rattle.std.proofs.Math.Nat.{mod-add-mod, mod-lt}
use Rattle.std.proofs.lemmas.Bool.Decides.{nat_tests}
use Rattle.tsb_plan.specs.declared.object.Object.TheVariants.{PatternCycleTime}
use Rattle.tsb_plan.specs.Objects.{AreInRange, value_in}
use Rattle.tsb_plan.specs.PlanOf.{plan_in}
use Rattle.tsb_plan.specs.Parts.{cycle, is_used, offset, offset_reference, permissive_time, forces_late}
use Rattle.tsb_plan.specs.Plan.{Plan, is_enabled, yellow_change, red_clear}
use Rattle.tsb_plan.specs.Running.{is_coordinated_now}
use Rattle.tsb_objects.specs.Instants.{residue_of_difference, end_of, instant_from, reference, instant_by, force_off, agree, yields_to, instant_of, late_end, is_from_to, counted_on, is_late, yields_for, is_behind, permissive_end_from, permissive_end, forces_off, tick_before, waiting_point, end_within, counted_to, offset_from, offset_in_effect}
use Rattle.tsb_objects.specs.PatternTables.{instant_in, end_behind, permissive_end_in}

-- the residue of a difference is that of the residues' difference
pub from_residues : (m a b y r : ℕ) → (a % m + (m - (b % m + (y + r)) % m)) % m ≡ residue_of_difference m a (b + y + r)
from_residues m a b y r =
    ap (λ x. (a % m + (m - x)) % m) (mod-add-mod b m (y + r) ∙ ap (λ x. x % m) (joined b y r)) ∙ mod-add-mod a m (m - (b + y + r) % m)
  where
    joined : (b y r : ℕ) → b + (y + r) ≡ b + y + r
    joined b y r = omega arith

-- an instant is below the cycle of a pattern that is used
below-by : (plan : Plan) (n p i : ℕ) (o : Option ℕ) → is_used plan n ≡ true → instant_by plan n o p ≡ Some i → i < cycle plan n
below-by plan n p i None used is = cc
below-by plan n p i (Some c) used is =
    let same : instant_from plan n c p ≡ i = cc in
    let some : 0 < cycle plan n = grind (arith, nat_tests, used) in
    subst (λ (k : ℕ). k < cycle plan n) same
    (mod-lt (end_of plan n p + (cycle plan n - (end_of plan n c + yellow_change plan p + red_clear plan p) % cycle plan n)) some)

pub instant-below : (plan : Plan) (n p i : ℕ) → is_used plan n ≡ true → force_off plan (Some n) p ≡ Some i → i < cycle plan n
unfolding force_off
instant-below plan n p i used is = go (is_enabled plan p) is
  where
    go : (b : Bool) → (if b then instant_by plan n (reference plan n) p else None) ≡ Some i → i < cycle plan n
    go true is = below-by plan n p i (reference plan n) used is
    go false is = cc

pub instants-below : (plan : Plan) (n p : ℕ) (o : Option ℕ) → is_used plan n ≡ true → o ≡ force_off plan (Some n) p → IfSome o (λ i. i < cycle plan n)
instants-below plan n p None used is = tt
instants-below plan n p (Some i) used is = instant-below plan n p i used (sym is)

-- so it is below 2550, of a plan in memory
pub instants-small : (cells : List ℕ) → AreInRange cells → (n p : ℕ) (o : Option ℕ) → is_used (plan_in cells) n ≡ true → o ≡ force_off (plan_in cells) (Some n) p → IfSome o (λ i. i < 2550)
instants-small cells ranged n p o used is = go o (instants-below (plan_in cells) n p o used is)
  where
    most : cycle (plan_in cells) n ≤ 2550
    most = let value : value_in cells PatternCycleTime n ≤ 255 = ranged.each PatternCycleTime n in omega arith

    go : (o : Option ℕ) → IfSome o (λ i. i < cycle (plan_in cells) n) → IfSome o (λ i. i < 2550)
    go None below = tt
    go (Some i) below = let low : i < cycle (plan_in cells) n = below in omega (arith, low, most)

-- where the offset is below the cycle, the local counter is 0 within the first cycle
pub offset-below : (plan : Plan) (n : ℕ) → offset plan n < cycle plan n → offset_in_effect plan n < cycle plan n
offset-below plan n low = go (counted_to (offset_reference plan) plan n) (end_within plan n (reference plan n))
  where
    go : (moment end : Option ℕ) → offset_from plan n moment end < cycle plan n
    go None end = low
    go (Some x) None = low
    go (Some x) (Some e) = mod-lt (offset plan n + e + (cycle plan n - x % cycle plan n)) (omega (arith, low))

-- ## The words of an instant and an end, looked at as they are

-- no tick is before an end of 0, in this cycle nor in the next
none-before : (m local word : ℕ) → is_from_to m local word 0 ≡ false
none-before m local word = grind (arith, nat_tests)

-- a word that is an instant is its number
is-number : (word i : ℕ) → instant_in word ≡ Some i → word ≡ i
is-number word i is = go (word == 65535) is
  where
    go : (b : Bool) → (if b then None else Some word) ≡ Some i → word ≡ i
    go true e = cc
    go false e = cc

-- at the instant alone, up to a late end as well, and in the permissive time
at-alone : (m local i : ℕ) → i < m → is_from_to m local i (max (i + 0 + 1) 0) ≡ ((local == i) || (false || false))
at-alone m local i low = grind (arith, nat_tests)

at-or-late : (m local i until : ℕ) → i < m → is_from_to m local i (max (i + 0 + 1) until) ≡ ((local == i) || (is_from_to m local i until || false))
at-or-late m local i until low = grind (arith, nat_tests)

at-or-behind : (m local i time : ℕ) → i < m →
    is_from_to m local i (max (i + time + 1) 0) ≡ ((local == i) || (false || (nat_lt 0 time && is_from_to m local i (i + time + 1))))
at-or-behind m local i time low = grind (arith, nat_tests)

-- of a phase that is not coordinated, and of one that is
between : (m local word end : ℕ) (instant late : Option ℕ) → IfSome instant (λ i. i < m) →
    instant_in word ≡ instant → end ≡ end_behind m instant late 0 →
    is_from_to m local word end ≡ (agree (Some local) instant || (is_late m (Some local) instant late || false))
between m local word end None late low is ends = ap (is_from_to m local word) ends ∙ none-before m local word
between m local word end (Some i) None low is ends =
    ap (is_from_to m local word) ends ∙ ap (λ (w : ℕ). is_from_to m local w (max (i + 0 + 1) 0)) (is-number word i is) ∙ at-alone m local i low
between m local word end (Some i) (Some to) low is ends =
    ap (is_from_to m local word) ends
    ∙ ap (λ (w : ℕ). is_from_to m local w (max (i + 0 + 1) (counted_on m i to))) (is-number word i is) ∙ at-or-late m local i (counted_on m i to) low

behind : (m time local word end : ℕ) (instant : Option ℕ) → IfSome instant (λ i. i < m) → instant_in word ≡ instant → end ≡ end_behind m instant None time →
    is_from_to m local word end ≡ (agree (Some local) instant || (is_late m (Some local) instant None || (nat_lt 0 time && is_behind m time (Some local) instant)))
behind m time local word end None low is ends = ap (is_from_to m local word) ends ∙ none-before m local word ∙ sym (and-false (nat_lt 0 time))
  where
    and-false : (b : Bool) → (b && false) ≡ false
    and-false true = refl
    and-false false = refl
behind m time local word end (Some i) low is ends =
    ap (is_from_to m local word) ends ∙ ap (λ (w : ℕ). is_from_to m local w (max (i + time + 1) 0)) (is-number word i is) ∙ at-or-behind m local i time low

-- the late end of a coordinated phase, and the permissive time of another
pub coordinated-has-no-end : (plan : Plan) (n p : ℕ) → is_coordinated_now plan (Some n) p ≡ true → late_end plan (Some n) p ≡ None
coordinated-has-no-end plan n p one =
    ap (λ (b : Bool). if forces_late plan && not b then instant_of plan n (yields_to plan n p) else None) one ∙ go (forces_late plan)
  where
    go : (b : Bool) → (if b && false then instant_of plan n (yields_to plan n p) else None) ≡ None
    go true = refl
    go false = refl

pub others-have-no-time : (plan : Plan) (n p : ℕ) → is_coordinated_now plan (Some n) p ≡ false → yields_for plan n p ≡ 0
others-have-no-time plan n p other = ap (λ (b : Bool). if b then permissive_time plan n else 0) other

-- a late end is an instant, and so below the cycle
pub late-end-below : (plan : Plan) (n p : ℕ) → is_used plan n ≡ true → IfSome (late_end plan (Some n) p) (λ i. i < cycle plan n)
late-end-below plan n p used = go (forces_late plan && not (is_coordinated_now plan (Some n) p)) (yields_to plan n p)
  where
    go : (b : Bool) (o : Option ℕ) → IfSome (if b then instant_of plan n o else None) (λ i. i < cycle plan n)
    go false o = tt
    go true None = tt
    go true (Some c) = instants-below plan n c (force_off plan (Some n) c) used refl

pub by-words : (plan : Plan) (n p m local word end : ℕ) → is_used plan n ≡ true → m ≡ cycle plan n → instant_in word ≡ force_off plan (Some n) p →
    end ≡ end_behind (cycle plan n) (force_off plan (Some n) p) (late_end plan (Some n) p) (yields_for plan n p) →
    is_from_to m local word end ≡ forces_off plan (Some n) (Some local) p
by-words plan n p m local word end used is_cycle is ends =
    ap (λ (x : ℕ). is_from_to x local word end) is_cycle ∙ go (is_coordinated_now plan (Some n) p) refl
  where
    at : Option ℕ
    at = force_off plan (Some n) p

    low : IfSome at (λ i. i < cycle plan n)
    low = instants-below plan n p at used refl

    go : (b : Bool) → is_coordinated_now plan (Some n) p ≡ b → is_from_to (cycle plan n) local word end ≡ forces_off plan (Some n) (Some local) p
    go true one =
        let no_end : late_end plan (Some n) p ≡ None = coordinated-has-no-end plan n p one in
        behind (cycle plan n) (yields_for plan n p) local word end at low is (ends ∙ ap (λ (o : Option ℕ). end_behind (cycle plan n) at o (yields_for plan n p)) no_end)
        ∙ ap (λ (o : Option ℕ). agree (Some local) at || (is_late (cycle plan n) (Some local) at o || (nat_lt 0 (yields_for plan n p) && is_behind (cycle plan n) (yields_for plan n p) (Some local) at))) (sym no_end)
    go false other =
        let no_time : yields_for plan n p ≡ 0 = others-have-no-time plan n p other in
        between (cycle plan n) local word end at (late_end plan (Some n) p) low is (ends ∙ ap (end_behind (cycle plan n) at (late_end plan (Some n) p)) no_time)
        ∙ ap (λ (time : ℕ). agree (Some local) at || (is_late (cycle plan n) (Some local) at (late_end plan (Some n) p) || (nat_lt 0 time && is_behind (cycle plan n) time (Some local) at))) (sym no_time)

-- ## The end of a permissive time, by the same words

end-by-words : (m time word end : ℕ) (instant : Option ℕ) → instant_in word ≡ instant → end ≡ end_behind m instant None time →
    permissive_end_in m word end ≡ permissive_end_from m time instant
end-by-words m time word end None is ends = ap (λ (e : ℕ). permissive_end_in m word e) ends ∙ ap (λ (b : Bool). if b then Some (0 % m) else None) (none-below word)
  where
    none-below : (word : ℕ) → nat_lt (word + 1) 0 ≡ false
    none-below word = grind (arith, nat_tests)
end-by-words m time word end (Some i) is ends =
    ap (λ (e : ℕ). permissive_end_in m word e) ends ∙ ap (λ (w : ℕ). permissive_end_in m w (max (i + time + 1) 0)) (is-number word i is)
    ∙ ap (λ (b : Bool). if b then Some (max (i + time + 1) 0 % m) else None) (some-time i time) ∙ ap (λ (e : ℕ). if nat_lt 0 time then Some (e % m) else None) (no-max i time)
  where
    some-time : (i time : ℕ) → nat_lt (i + 1) (max (i + time + 1) 0) ≡ nat_lt 0 time
    some-time i time = grind (arith, nat_tests)

    no-max : (i time : ℕ) → max (i + time + 1) 0 ≡ i + time + 1
    no-max i time = omega arith

pub permissive-end-by-words : (plan : Plan) (n p m word end : ℕ) → is_coordinated_now plan (Some n) p ≡ true → m ≡ cycle plan n →
    instant_in word ≡ force_off plan (Some n) p →
    end ≡ end_behind (cycle plan n) (force_off plan (Some n) p) (late_end plan (Some n) p) (yields_for plan n p) →
    permissive_end_in m word end ≡ permissive_end plan (Some n) p
permissive-end-by-words plan n p m word end one is_cycle is ends =
    ap (λ (x : ℕ). permissive_end_in x word end) is_cycle
    ∙ end-by-words (cycle plan n) (yields_for plan n p) word end (force_off plan (Some n) p) is
    (ends ∙ ap (λ (o : Option ℕ). end_behind (cycle plan n) (force_off plan (Some n) p) o (yields_for plan n p)) (coordinated-has-no-end plan n p one))

-- where a pattern waits is below its cycle
pub waits-below : (plan : Plan) (n : ℕ) → is_used plan n ≡ true → waiting_point plan n < cycle plan n
waits-below plan n used = go (instant_of plan n (reference plan n))
  where
    some : 0 < cycle plan n
    some = grind (arith, nat_tests, used)

    go : (o : Option ℕ) → tick_before (cycle plan n) o < cycle plan n
    go None = some
    go (Some i) = mod-lt (i + (cycle plan n - 1 % cycle plan n)) some
