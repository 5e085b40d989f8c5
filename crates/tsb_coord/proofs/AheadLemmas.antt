-- How far the local counter is ahead so many ticks after the selection, in each mode. From tick to tick it waits, loses
-- or gains one more at most, and it is in step after as many ticks as its mode and its limit need.
use Rattle.std.proofs.Common.{zero, suc, ◌≡◌, ◌≢◌, ℕ, ◌+◌, ◌-◌, ◌*◌, ◌/◌, ◌%◌, ◌<◌, ◌≤◌, ◌==◌, ◌⊎◌, min, max, Bool, true, false, if◌then◌else◌, refl, sym, ap, subst, ◌∙◌, arith, inl, inr, le_trans}
use Rattle.std.proofs.Math.Nat.{mod-lt, mod-eq_of_lt, mod-add-mod, mod_self, mod-le, mul-le-mul_right, div-add-mod', div-mul-le_self, div-zero, lt-div-mul-add}
use Rattle.std.proofs.lemmas.Nat.{div-mul-add, mod-mul-add, div_below, le-div}
use Rattle.std.proofs.lemmas.Bool.{cases_lt, le-leb}
use Rattle.std.proofs.lemmas.Bool.Decides.{nat_tests}
use Rattle.tsb_objects.specs.tsb_plan.declared.plan.patterns.CorrectionMode.{CorrectionMode}
use Rattle.tsb_objects.specs.tsb_plan.declared.plan.patterns.CorrectionMode.TheVariants.{AtOnce, Dwell, ShortWay, AddOnly}
use Rattle.tsb_objects.specs.tsb_plan.Plan.{Plan}
use Rattle.tsb_objects.specs.tsb_plan.Parts.{cycle, correction_limit}
use Rattle.tsb_coord.specs.Correction.{Correction, lost, gained, longest_wait, waited, way, slower, faster, is_slower_way, by_short_way, ahead_by}
use Rattle.tsb_coord.specs.Laws.{waits, IsLongEnough}

-- ## Differences

pub rest_grows : (x y w : ℕ) → x ≤ y → x - w ≤ y - w
rest_grows x y w up = omega arith

pub rest_stays : (x w : ℕ) → x < w → x + 1 - w ≡ x - w
rest_stays x w before = omega arith

pub rest_goes_on : (x w : ℕ) → w ≤ x → x + 1 - w ≡ x - w + 1
rest_goes_on x w there = omega arith

rest_of : (w k x : ℕ) → w + k ≤ x → k ≤ x - w
rest_of w k x long = omega arith

none_left : (a v w : ℕ) → v ≤ w → a - v ≡ 0 → a - w ≡ 0
none_left a v w more none = omega arith

all_lost : (a w : ℕ) → a ≤ w → a - w ≡ 0
all_lost a w all = omega arith

none_of_none : (a w : ℕ) → a ≡ 0 → a - w ≡ 0
none_of_none a w none = omega arith

all_left : (a w : ℕ) → w ≡ 0 → a - w ≡ a
all_left a w none = omega arith

quotient_grows : (d x y : ℕ) → x ≤ y → x / d ≤ y / d
quotient_grows zero x y up = omega (arith, div-zero x, div-zero y)
quotient_grows (suc d) x y up =
    let part : x / suc d * suc d ≤ x = div-mul-le_self x (suc d) in
    le-div (x / suc d) y (suc d) (omega arith) (omega arith)

quotient_by_one : (d x l : ℕ) → 0 < d → l ≤ d → (x + l) / d ≤ x / d + 1
quotient_by_one d x l some few =
    let rest : x < x / d * d + d = lt-div-mul-add some in
    let below : (x + l) / d < x / d + 2 = div_below (x + l) d (x / d + 2) some (omega arith) in
    omega arith

share_grows : (limit d x y : ℕ) → x ≤ y → x * limit / d ≤ y * limit / d
share_grows limit d x y up = quotient_grows d (x * limit) (y * limit) (mul-le-mul_right limit up)

share_by_one : (limit d x : ℕ) → 0 < d → limit ≤ d → (x + 1) * limit / d ≤ x * limit / d + 1
share_by_one limit d x some few =
    let sum : x * limit + limit ≡ (x + 1) * limit = omega arith in
    subst (λ (y : ℕ). y / d ≤ x * limit / d + 1) sum (quotient_by_one d (x * limit) limit some few)

share_of_none : (limit d : ℕ) → 0 * limit / d ≡ 0
share_of_none limit zero = div-zero (0 * limit)
share_of_none limit (suc d) =
    let part : 0 * limit / suc d * suc d ≤ 0 * limit = div-mul-le_self (0 * limit) (suc d) in
    omega arith

-- ## How long it has waited

waited_step : (round most x : ℕ) → most ≤ round → (x / round * most + min most (x % round) ≤ (x + 1) / round * most + min most ((x + 1) % round))
    × ((x + 1) / round * most + min most ((x + 1) % round) ≤ x / round * most + min most (x % round) + 1)
waited_step round zero x fits = (omega arith, omega arith)
waited_step round (suc k) x fits =
    let most : ℕ = suc k in
    let some : 0 < round = omega arith in
    let q : ℕ = x / round in
    let r : ℕ = x % round in
    let whole : q * round + r ≡ x = div-add-mod' x round in
    let low : r < round = mod-lt x some in
    elim (cases_lt (r + 1) round) [
      | inl within ↦
          let next : x + 1 ≡ q * round + (r + 1) = omega arith in
          let quotient : (x + 1) / round ≡ q = ap (λ y. y / round) next ∙ div-mul-add q round (r + 1) within in
          let rest : (x + 1) % round ≡ r + 1 = ap (λ y. y % round) next ∙ mod-mul-add q round (r + 1) within in
          let value : (x + 1) / round * most + min most ((x + 1) % round) ≡ q * most + min most (r + 1) =
          ap (λ y. y * most + min most ((x + 1) % round)) quotient ∙ ap (λ y. q * most + min most y) rest in
          let less : min most r ≤ min most (r + 1) = omega arith in
          let more : min most (r + 1) ≤ min most r + 1 = omega arith in
          (omega (arith, value, less), omega (arith, value, more))
      | inr last ↦
          let next : x + 1 ≡ (q + 1) * round + 0 = omega arith in
          let quotient : (x + 1) / round ≡ q + 1 = ap (λ y. y / round) next ∙ div-mul-add (q + 1) round 0 some in
          let rest : (x + 1) % round ≡ 0 = ap (λ y. y % round) next ∙ mod-mul-add (q + 1) round 0 some in
          let value : (x + 1) / round * most + min most ((x + 1) % round) ≡ (q + 1) * most + min most 0 =
          ap (λ y. y * most + min most ((x + 1) % round)) quotient ∙ ap (λ y. (q + 1) * most + min most y) rest in
          let most_of : min most r ≤ most = omega arith in
          let nearly : most ≤ min most r + 1 = omega arith in
          (omega (arith, value, most_of), omega (arith, value, nearly))
    ]

waited_by_one : (m most x : ℕ) → (waited m most x ≤ waited m most (x + 1)) × (waited m most (x + 1) ≤ waited m most x + 1)
waited_by_one m most x = waited_step (m + most) most x (omega arith)

waited_grows : (m most x y : ℕ) → x ≤ y → waited m most x ≤ waited m most y
waited_grows m most x y up = go (y - x) y (omega arith)
  where
    go : (k y : ℕ) → y ≡ x + k → waited m most x ≤ waited m most y
    go zero y e = let same : x ≡ y = omega arith in subst (λ (z : ℕ). waited m most x ≤ waited m most z) same (omega arith)
    go (suc k) y e =
        let last : x + k + 1 ≡ y = omega arith in
        let before : waited m most x ≤ waited m most (x + k) = go k (x + k) refl in
        let step : waited m most (x + k) ≤ waited m most (x + k + 1) = (waited_by_one m most (x + k)).0 in
        subst (λ (z : ℕ). waited m most x ≤ waited m most z) last (omega (arith, before, step))

waited_none : (m most : ℕ) → waited m most 0 ≡ 0
waited_none m most =
    let quotient : 0 / (m + most) ≤ 0 = quotient_none (m + most) in
    let rest : 0 % (m + most) ≤ 0 = mod-le 0 (m + most) in
    let none : 0 / (m + most) ≡ 0 = omega arith in
    let product : 0 * most + min most (0 % (m + most)) ≡ 0 = omega (arith, rest) in
    ap (λ y. y * most + min most (0 % (m + most))) none ∙ product
  where
    quotient_none : (d : ℕ) → 0 / d ≤ 0
    quotient_none zero = omega (arith, div-zero 0)
    quotient_none (suc d) = let part : 0 / suc d * suc d ≤ 0 = div-mul-le_self 0 (suc d) in omega arith

some_wait : (limit m : ℕ) → 0 < m → 0 < longest_wait limit m
some_wait limit m some = go (limit == 0)
  where
    go : (b : Bool) → 0 < (if b then m else max 1 (m * limit / 100))
    go true = some
    go false = omega arith

-- it has waited for as much as it was ahead once these ticks are over
waited_for : (m most ahead : ℕ) → 0 < m → 0 < most → ahead ≤ waited m most (waits m most ahead)
waited_for m most ahead some one =
    let q : ℕ = (ahead - 1) / most in
    let r : ℕ = (ahead - 1) % most in
    let whole : q * most + r ≡ ahead - 1 = div-add-mod' (ahead - 1) most in
    let low : r < most = mod-lt (ahead - 1) one in
    let within : r + 1 < m + most = omega arith in
    let quotient : (q * (m + most) + (r + 1)) / (m + most) ≡ q = div-mul-add q (m + most) (r + 1) within in
    let rest : (q * (m + most) + (r + 1)) % (m + most) ≡ r + 1 = mod-mul-add q (m + most) (r + 1) within in
    let value : waited m most (waits m most ahead) ≡ q * most + min most (r + 1) =
    ap (λ y. y * most + min most ((q * (m + most) + (r + 1)) % (m + most))) quotient ∙ ap (λ y. q * most + min most y) rest in
    let all : min most (r + 1) ≡ r + 1 = omega arith in
    omega (arith, value, all, whole)

-- ## A faster counter: it gains up to a whole cycle

faster_stays : (m ahead g h : ℕ) → 0 < ahead → g ≤ h → faster m ahead g ≡ 0 → faster m ahead h ≡ 0
faster_stays m ahead g h some up there =
    elim (cases_lt g (m - ahead)) [
      | inl less ↦
          let sum : ahead + min (m - ahead) g ≡ ahead + g = omega arith in
          let within : ahead + g < m = omega arith in
          let none : ahead + g ≡ 0 = sym (mod-eq_of_lt within) ∙ ap (λ x. x % m) (sym sum) ∙ there in
          absurd (omega arith)
      | inr whole ↦
          let one : min (m - ahead) g ≡ m - ahead = omega arith in
          let other : min (m - ahead) h ≡ m - ahead = omega arith in
          ap (λ x. (ahead + x) % m) (other ∙ sym one) ∙ there
    ]

faster_there : (m ahead g : ℕ) → ahead ≤ m → m - ahead ≤ g → faster m ahead g ≡ 0
faster_there m ahead g below all =
    let sum : ahead + min (m - ahead) g ≡ m = omega arith in
    ap (λ x. x % m) sum ∙ mod_self m

faster_by_one : (m ahead g h : ℕ) → g ≤ h → h ≤ g + 1 → (faster m ahead h ≡ faster m ahead g) ⊎ (faster m ahead h ≡ (faster m ahead g + 1) % m)
faster_by_one m ahead g h up few =
    elim (cases_lt g (m - ahead)) [
      | inl less ↦ elim (cases_lt g h) [
        | inl more ↦
            let sum : ahead + min (m - ahead) h ≡ ahead + min (m - ahead) g + 1 = omega arith in
            inr (ap (λ x. x % m) sum ∙ sym (mod-add-mod (ahead + min (m - ahead) g) m 1))
        | inr none ↦ (let same : h ≡ g = omega arith in inl (ap (faster m ahead) same))
      ]
      | inr whole ↦
          let same : min (m - ahead) h ≡ min (m - ahead) g = omega arith in
          inl (ap (λ x. (ahead + x) % m) same)
    ]

slower_by_one : (ahead x y : ℕ) → x ≤ y → y ≤ x + 1 → (slower ahead y ≡ slower ahead x) ⊎ (slower ahead x ≡ slower ahead y + 1)
slower_by_one ahead x y up few =
    elim (cases_lt x ahead) [
      | inl still ↦ elim (cases_lt x y) [ inl more ↦ inr (omega arith) | inr none ↦ inl (omega arith) ]
      | inr there ↦ inl (omega arith)
    ]

-- ## In each mode

-- once it is not ahead it is not any more
pub once_by : (mode : CorrectionMode) (plan : Plan) (n : ℕ) (c : Correction) (x y : ℕ) → x ≤ y → ahead_by mode plan n c x ≡ 0 → ahead_by mode plan n c y ≡ 0
once_by AtOnce plan n c x y up there = refl
once_by Dwell plan n c x y up there =
    let most : ℕ = longest_wait (correction_limit plan) (cycle plan n) in
    let more : waited (cycle plan n) most (x - way plan n c) ≤ waited (cycle plan n) most (y - way plan n c) =
    waited_grows (cycle plan n) most (x - way plan n c) (y - way plan n c) (rest_grows x y (way plan n c) up) in
    none_left c.ahead (waited (cycle plan n) most (x - way plan n c)) (waited (cycle plan n) most (y - way plan n c)) more there
once_by ShortWay plan n c x y up there = go (is_slower_way (cycle plan n) c.ahead) refl there
  where
    m : ℕ
    m = cycle plan n

    limit : ℕ
    limit = correction_limit plan

    go : (b : Bool) → is_slower_way m c.ahead ≡ b → (if b then slower c.ahead (lost limit x) else faster m c.ahead (gained limit x)) ≡ 0 →
        (if b then slower c.ahead (lost limit y) else faster m c.ahead (gained limit y)) ≡ 0
    go true is none = none_left c.ahead (lost limit x) (lost limit y) (share_grows limit (100 + limit) x y up) none
    go false is none =
        let far : m < 2 * c.ahead = grind (arith, nat_tests, is) in
        faster_stays m c.ahead (gained limit x) (gained limit y) (omega (arith, far)) (share_grows limit (100 - limit) x y up) none
once_by AddOnly plan n c x y up there =
    none_left c.ahead (lost (correction_limit plan) x) (lost (correction_limit plan) y) (share_grows (correction_limit plan) (100 + correction_limit plan) x y up) there

-- one that is not ahead at the selection never is
pub none_by : (mode : CorrectionMode) (plan : Plan) (n : ℕ) (c : Correction) (x : ℕ) → c.ahead ≡ 0 → ahead_by mode plan n c x ≡ 0
none_by AtOnce plan n c x none = refl
none_by Dwell plan n c x none =
    none_of_none c.ahead (waited (cycle plan n) (longest_wait (correction_limit plan) (cycle plan n)) (x - way plan n c)) none
none_by ShortWay plan n c x none =
    ap (λ b. if b then slower c.ahead (lost (correction_limit plan) x) else faster (cycle plan n) c.ahead (gained (correction_limit plan) x))
    (le-leb (2 * c.ahead) (cycle plan n) (twice_none c.ahead (cycle plan n) none)) ∙ none_of_none c.ahead (lost (correction_limit plan) x) none
  where
    twice_none : (a m : ℕ) → a ≡ 0 → 2 * a ≤ m
    twice_none a m none = omega arith
none_by AddOnly plan n c x none = none_of_none c.ahead (lost (correction_limit plan) x) none

pub some_cycle : (a m : ℕ) → a < m → 0 < m
some_cycle a m low = omega arith

pub start_by : (mode : CorrectionMode) (plan : Plan) (n : ℕ) (c : Correction) (x : ℕ) → x ≡ 0 → mode ≢ AtOnce → c.ahead < cycle plan n → ahead_by mode plan n c x ≡ c.ahead
start_by AtOnce plan n c x first other low = absurd (other refl)
start_by Dwell plan n c x first other low =
    let most : ℕ = longest_wait (correction_limit plan) (cycle plan n) in
    let none : waited (cycle plan n) most (x - way plan n c) ≡ 0 =
    ap (waited (cycle plan n) most) (none_of_none x (way plan n c) first) ∙ waited_none (cycle plan n) most in
    all_left c.ahead (waited (cycle plan n) most (x - way plan n c)) none
start_by ShortWay plan n c x first other low =
    ap (by_short_way (cycle plan n) (correction_limit plan) c.ahead) first ∙ go (is_slower_way (cycle plan n) c.ahead)
  where
    m : ℕ
    m = cycle plan n

    limit : ℕ
    limit = correction_limit plan

    go : (b : Bool) → (if b then slower c.ahead (lost limit 0) else faster m c.ahead (gained limit 0)) ≡ c.ahead
    go true = all_left c.ahead (lost limit 0) (share_of_none limit (100 + limit))
    go false =
        let none : gained limit 0 ≡ 0 = share_of_none limit (100 - limit) in
        let sum : c.ahead + min (m - c.ahead) (gained limit 0) ≡ c.ahead = omega (arith, none) in
        ap (λ y. y % m) sum ∙ mod-eq_of_lt low
start_by AddOnly plan n c x first other low =
    all_left c.ahead (lost (correction_limit plan) x) (ap (lost (correction_limit plan)) first ∙ share_of_none (correction_limit plan) (100 + correction_limit plan))

-- from a tick to the next: as far ahead, a tick less, or, by the short way, a tick more round the cycle
pub record IsOn (mode : CorrectionMode) (m a b : ℕ) : Type 0 where
  pub is : (a ≡ b + 1) ⊎ ((b ≡ a) ⊎ ((mode ≡ ShortWay) × (b ≡ (a + 1) % m)))

on_slower : (mode : CorrectionMode) (m ahead x y : ℕ) → x ≤ y → y ≤ x + 1 → IsOn mode m (slower ahead x) (slower ahead y)
on_slower mode m ahead x y up few =
    record { is = elim (slower_by_one ahead x y up few) [ inl same ↦ inr (inl same) | inr less ↦ inl less ] }

pub on_by : (mode : CorrectionMode) (plan : Plan) (n : ℕ) (c : Correction) (x : ℕ) → correction_limit plan ≤ 50 →
    IsOn mode (cycle plan n) (ahead_by mode plan n c x) (ahead_by mode plan n c (x + 1))
on_by AtOnce plan n c x limited = record { is = inr (inl refl) }
on_by Dwell plan n c x limited =
    let most : ℕ = longest_wait (correction_limit plan) (cycle plan n) in
    elim (cases_lt x (way plan n c)) [
      | inl before ↦
          let same : x + 1 - way plan n c ≡ x - way plan n c = rest_stays x (way plan n c) before in
          record { is = inr (inl (ap (λ y. c.ahead - waited (cycle plan n) most y) same)) }
      | inr there ↦
          let next : x + 1 - way plan n c ≡ x - way plan n c + 1 = rest_goes_on x (way plan n c) there in
          let step = waited_by_one (cycle plan n) most (x - way plan n c) in
          subst (λ (y : ℕ). IsOn Dwell (cycle plan n) (slower c.ahead (waited (cycle plan n) most (x - way plan n c))) (slower c.ahead (waited (cycle plan n) most y))) (sym next)
          (on_slower Dwell (cycle plan n) c.ahead (waited (cycle plan n) most (x - way plan n c)) (waited (cycle plan n) most (x - way plan n c + 1)) step.0 step.1)
    ]
on_by ShortWay plan n c x limited = go (is_slower_way (cycle plan n) c.ahead)
  where
    m : ℕ
    m = cycle plan n

    limit : ℕ
    limit = correction_limit plan

    up : x ≤ x + 1
    up = omega arith

    go : (b : Bool) → IsOn ShortWay m (if b then slower c.ahead (lost limit x) else faster m c.ahead (gained limit x))
        (if b then slower c.ahead (lost limit (x + 1)) else faster m c.ahead (gained limit (x + 1)))
    go true =
        on_slower ShortWay m c.ahead (lost limit x) (lost limit (x + 1)) (share_grows limit (100 + limit) x (x + 1) up)
        (share_by_one limit (100 + limit) x (omega arith) (omega arith))
    go false = record {
      is = elim (faster_by_one m c.ahead (gained limit x) (gained limit (x + 1)) (share_grows limit (100 - limit) x (x + 1) up)
          (share_by_one limit (100 - limit) x (omega (arith, limited)) (omega (arith, limited)))) [
            | inl same ↦ inr (inl same)
            | inr more ↦ inr (inr (refl, more))
          ];
    }
on_by AddOnly plan n c x limited =
    let limit : ℕ = correction_limit plan in
    on_slower AddOnly (cycle plan n) c.ahead (lost limit x) (lost limit (x + 1)) (share_grows limit (100 + limit) x (x + 1) (omega arith))
    (share_by_one limit (100 + limit) x (omega arith) (omega arith))

-- after so many ticks it is not ahead any more
pub arrives_by : (mode : CorrectionMode) (plan : Plan) (n : ℕ) (c : Correction) (x : ℕ) → correction_limit plan ≤ 50 → c.ahead < cycle plan n →
    IsLongEnough mode plan n c x → ahead_by mode plan n c x ≡ 0
arrives_by AtOnce plan n c x limited low long = refl
arrives_by Dwell plan n c x limited low long =
    let m : ℕ = cycle plan n in
    let most : ℕ = longest_wait (correction_limit plan) m in
    let some : 0 < m = some_cycle c.ahead m low in
    let all : c.ahead ≤ waited m most (waits m most c.ahead) = waited_for m most c.ahead some (some_wait (correction_limit plan) m some) in
    let past : waits m most c.ahead ≤ x - way plan n c = rest_of (way plan n c) (waits m most c.ahead) x long in
    let more : waited m most (waits m most c.ahead) ≤ waited m most (x - way plan n c) = waited_grows m most (waits m most c.ahead) (x - way plan n c) past in
    all_lost c.ahead (waited m most (x - way plan n c))
    (le_trans all more)
arrives_by ShortWay plan n c x limited low long = go (is_slower_way (cycle plan n) c.ahead) refl
  where
    m : ℕ
    m = cycle plan n

    limit : ℕ
    limit = correction_limit plan

    go : (b : Bool) → is_slower_way m c.ahead ≡ b → (if b then slower c.ahead (lost limit x) else faster m c.ahead (gained limit x)) ≡ 0
    go true is =
        all_lost c.ahead (lost limit x) (le-div c.ahead (x * limit) (100 + limit) (omega arith) (long.0 is))
    go false is =
        let all : m - c.ahead ≤ gained limit x = le-div (m - c.ahead) (x * limit) (100 - limit) (omega (arith, limited)) (long.1 is) in
        faster_there m c.ahead (gained limit x) (omega (arith, low)) all
arrives_by AddOnly plan n c x limited low long =
    let limit : ℕ = correction_limit plan in
    all_lost c.ahead (lost limit x) (le-div c.ahead (x * limit) (100 + limit) (omega arith) long)
