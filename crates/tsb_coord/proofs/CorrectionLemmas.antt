-- How far the local counter is ahead from tick to tick: by less than a cycle, by a tick less or more at most, and by
-- none for good once it is in step. So what is asked of the rings then is what the counter in step asks.
use Rattle.std.proofs.Common.{◌≡◌, ◌≢◌, ℕ, ◌+◌, ◌-◌, ◌*◌, ◌%◌, ◌<◌, ◌≤◌, ◌==◌, Bool, true, false, ◌&&◌, ◌||◌, if◌then◌else◌, Option, Some, None, refl, sym, ap, subst, ◌∙◌, arith, inl, inr}
use Rattle.std.proofs.Math.Bool.{or-false}
use Rattle.std.proofs.Math.Nat.{mod-lt, mod-eq_of_lt, mod-add-mod, mod-zero, mod-le, add-mul-mod_self_right}
use Rattle.std.proofs.lemmas.Bool.{cases_lt, cases_eq, ne_eqb, eq-eqb, eqb-true}
use Rattle.tsb_objects.specs.tsb_plan.declared.plan.patterns.CorrectionMode.{CorrectionMode}
use Rattle.tsb_objects.specs.tsb_plan.declared.plan.patterns.CorrectionMode.TheVariants.{AtOnce, Dwell, ShortWay, AddOnly}
use Rattle.tsb_objects.specs.tsb_plan.Plan.{Plan}
use Rattle.tsb_objects.specs.tsb_plan.Parts.{is_used, cycle, correction_mode, correction_limit}
use Rattle.tsb_objects.specs.tsb_plan.Running.{running}
use Rattle.tsb_objects.specs.tsb_rules.Rules.{first_broken}
use Rattle.tsb_objects.proofs.InstantLemmas.{offset-below}
use Rattle.tsb_coord.specs.Coordinated.{counter, offset_in_effect, local, local_in, residue_of_difference, is_at_force_off, asks_force_off, asks_recycle, is_pattern, forces_off, recycles}
use Rattle.tsb_coord.specs.Correction.{Correction, ahead_by, within_cycle, ahead_in, counted_tick, local_now, steps_twice_in, steps_twice, forces, comes_to_force_off, is_in_step, lets_walk_again, ahead_with, ahead_from, begun, selected_correction, in_step_from, shift_of, shift_in, clocked}
use Rattle.tsb_coord.specs.Clock.{shift}
use Rattle.tsb_coord.specs.Laws.{IsAtMostBehind, most_steps, CountsInStep, IsLongEnough}
use Rattle.tsb_coord.proofs.LocalLemmas.{counter_moves_on, difference_moves_on, in_range, its_parts, runs_now}
use Rattle.tsb_coord.proofs.AheadLemmas.{rest_grows, rest_stays, rest_goes_on, once_by, none_by, some_cycle, start_by, IsOn, on_by, arrives_by}

-- ## How far it is ahead in a tick

pub once_in_step : (plan : Plan) (runs : Option ℕ) (c : Correction) (t u : ℕ) → ahead_in plan runs c t ≡ 0 → t ≤ u → ahead_in plan runs c u ≡ 0
once_in_step plan None c t u there later = refl
once_in_step plan (Some n) c t u there later =
    once_by (correction_mode plan) plan n (within_cycle plan n c) (t - c.since) (u - c.since) (rest_grows t u c.since later) there

-- one that is not ahead at the selection never is, in each pattern
pub never_ahead : (plan : Plan) (runs : Option ℕ) (c : Correction) (t : ℕ) → c.ahead ≡ 0 → ahead_in plan runs c t ≡ 0
never_ahead plan None c t none = refl
never_ahead plan (Some n) c t none =
    none_by (correction_mode plan) plan n (within_cycle plan n c) (t - c.since) (ap (λ a. a % cycle plan n) none ∙ no_rest (cycle plan n))
  where
    no_rest : (m : ℕ) → 0 % m ≡ 0
    no_rest m = let low : 0 % m ≤ 0 = mod-le 0 m in omega arith

-- nor with mode 0
pub at_once : (plan : Plan) (runs : Option ℕ) (c : Correction) (t : ℕ) → correction_mode plan ≡ AtOnce → ahead_in plan runs c t ≡ 0
at_once plan None c t mode = refl
at_once plan (Some n) c t mode = ap (λ o. ahead_by o plan n (within_cycle plan n c) (t - c.since)) mode

-- ## What is asked once it is in step

-- it takes no two steps
pub no_second_step : (plan : Plan) (runs : Option ℕ) (c : Correction) (t : ℕ) → ahead_in plan runs c (t - 1) ≡ 0 → steps_twice_in plan runs c t ≡ false
no_second_step plan None c t before = refl
no_second_step plan (Some n) c t before =
    let now : ahead_in plan (Some n) c t ≡ 0 = once_in_step plan (Some n) c (t - 1) t before (omega arith) in
    ap (λ x. x == (ahead_in plan (Some n) c (t - 1) + 1) % cycle plan n) now
    ∙ ap (λ x. 0 == (x + 1) % cycle plan n) before
    ∙ ne_eqb 0 (1 % cycle plan n) (apart (cycle plan n) (λ e. omega (arith, e)))
  where
    apart : (m : ℕ) → m ≢ 1 → 0 ≡ 1 % m → ⊥
    apart m other e =
        elim (cases_lt 1 m) [
          | inl more ↦ omega (arith, mod-eq_of_lt more, e)
          | inr few ↦
              let none : m ≡ 0 = omega (arith, few, other) in
              let at : 0 ≡ 1 % 0 = subst (λ (x : ℕ). 0 ≡ 1 % x) none e in
              omega (arith, mod-zero 1, at)
        ]

pub stays_in_step : (plan : Plan) (selected : Option ℕ) (c : Correction) (t u : ℕ) → is_in_step plan selected c t ≡ true → t ≤ u → is_in_step plan selected c u ≡ true
stays_in_step plan selected c t u there later =
    eq-eqb (ahead_in plan (running plan selected) c u) 0
    (once_in_step plan (running plan selected) c t u (eqb-true (ahead_in plan (running plan selected) c t) 0 there) later)

pub always_in_step : (plan : Plan) (selected : Option ℕ) (c : Correction) (t : ℕ) → c.ahead ≡ 0 → is_in_step plan selected c t ≡ true
always_in_step plan selected c t none = eq-eqb (ahead_in plan (running plan selected) c t) 0 (never_ahead plan (running plan selected) c t none)

pub in_step_at_once : (plan : Plan) (selected : Option ℕ) (c : Correction) (t : ℕ) → correction_mode plan ≡ AtOnce → is_in_step plan selected c t ≡ true
in_step_at_once plan selected c t mode = eq-eqb (ahead_in plan (running plan selected) c t) 0 (at_once plan (running plan selected) c t mode)

counted_in_step : (plan : Plan) (selected : Option ℕ) (c : Correction) (t : ℕ) → is_in_step plan selected c t ≡ true →
    counted_tick plan selected c t ≡ clocked plan selected c t
counted_in_step plan selected c t there =
    let none : ahead_in plan (running plan selected) c t ≡ 0 = eqb-true (ahead_in plan (running plan selected) c t) 0 there in
    ap (λ a. clocked plan selected c t + a) none ∙ no_more (clocked plan selected c t)
  where
    no_more : (t : ℕ) → t + 0 ≡ t
    no_more t = omega arith

pub local_in_step : (plan : Plan) (selected : Option ℕ) (c : Correction) (t : ℕ) → is_in_step plan selected c t ≡ true →
    local_now plan selected c t ≡ local plan (clocked plan selected c t) selected
local_in_step plan selected c t there = ap (λ x. local plan x selected) (counted_in_step plan selected c t there)

-- what is asked in tick t, or at the first of two steps, is what the counter in step asks, if it was in step before
at_step : (plan : Plan) (selected : Option ℕ) (c : Correction) (t : ℕ) (asks : ℕ → Bool) → is_in_step plan selected c (t - 1) ≡ true →
    (asks (counted_tick plan selected c t) || (steps_twice plan selected c t && asks (counted_tick plan selected c t - 1))) ≡ asks (clocked plan selected c t)
at_step plan selected c t asks before =
    let now : is_in_step plan selected c t ≡ true = stays_in_step plan selected c (t - 1) t before (omega arith) in
    let none : steps_twice plan selected c t ≡ false =
    no_second_step plan (running plan selected) c t (eqb-true (ahead_in plan (running plan selected) c (t - 1)) 0 before) in
    ap (λ b. asks (counted_tick plan selected c t) || (b && asks (counted_tick plan selected c t - 1))) none
    ∙ or-false (asks (counted_tick plan selected c t)) ∙ ap asks (counted_in_step plan selected c t now)

pub forces_in_step : (plan : Plan) (selected : Option ℕ) (c : Correction) (t p : ℕ) → is_in_step plan selected c (t - 1) ≡ true →
    forces plan selected c t p ≡ asks_force_off plan (clocked plan selected c t) selected p
forces_in_step plan selected c t p before = at_step plan selected c t (λ x. asks_force_off plan x selected p) before

pub comes_in_step : (plan : Plan) (selected : Option ℕ) (c : Correction) (t p : ℕ) → is_in_step plan selected c (t - 1) ≡ true →
    comes_to_force_off plan selected c t p ≡ is_at_force_off plan (clocked plan selected c t) selected p
comes_in_step plan selected c t p before = at_step plan selected c t (λ x. is_at_force_off plan x selected p) before

pub walks_in_step : (plan : Plan) (selected : Option ℕ) (c : Correction) (t p : ℕ) → is_in_step plan selected c (t - 1) ≡ true →
    lets_walk_again plan selected c t p ≡ asks_recycle plan (clocked plan selected c t) selected p
walks_in_step plan selected c t p before = ap (λ b. b && asks_recycle plan (clocked plan selected c t) selected p) before

pub counts_in_step : (plan : Plan) (selected : Option ℕ) (c : Correction) (t u : ℕ) → is_in_step plan selected c t ≡ true → t ≤ u → CountsInStep plan selected c u
counts_in_step plan selected c t u there later =
    let still : is_in_step plan selected c u ≡ true = stays_in_step plan selected c t u there later in
    record { there = still; counts = local_in_step plan selected c u still }

-- ## A pattern that runs

-- it is the one that is selected
pub selected_runs : (plan : Plan) (selected : Option ℕ) (n : ℕ) → running plan selected ≡ Some n → selected ≡ Some n
selected_runs plan None n runs = cc
selected_runs plan (Some m) n runs = go (is_used plan m) runs
  where
    go : (b : Bool) → (if b then Some m else None) ≡ Some n → Some m ≡ Some n
    go true e = e
    go false e = cc

local_then : (plan : Plan) (n : ℕ) (c : Correction) (t : ℕ) → is_used plan n ≡ true →
    local_now plan (Some n) c t ≡ Some (counter plan n (t + shift_of plan n c + ahead_in plan (Some n) c t))
local_then plan n c t used = ap (λ o. local_in plan (t + shift_in plan o c + ahead_in plan o c t) o) (runs_now plan n used)

in_step_then : (plan : Plan) (n : ℕ) (c : Correction) (t : ℕ) → is_used plan n ≡ true → (ahead_in plan (Some n) c t == 0) ≡ true → is_in_step plan (Some n) c t ≡ true
in_step_then plan n c t used there = ap (λ o. ahead_in plan o c t == 0) (runs_now plan n used) ∙ there

-- what it asks where it was in step before, by the counter in step
pub forces_then : (plan : Plan) (n : ℕ) (c : Correction) (t p : ℕ) → is_used plan n ≡ true → (ahead_in plan (Some n) c (t - 1) == 0) ≡ true →
    forces plan (Some n) c t p ≡ forces_off plan (Some n) (Some (counter plan n (t + shift_of plan n c))) p
forces_then plan n c t p used before =
    forces_in_step plan (Some n) c t p (in_step_then plan n c (t - 1) used before) ∙ ap (λ o. forces_off plan o (local_in plan (t + shift_in plan o c) o) p) (runs_now plan n used)

pub walks_then : (plan : Plan) (n : ℕ) (c : Correction) (t p : ℕ) → is_used plan n ≡ true → (ahead_in plan (Some n) c (t - 1) == 0) ≡ true →
    lets_walk_again plan (Some n) c t p ≡ recycles plan (Some n) (Some (counter plan n (t + shift_of plan n c))) p
walks_then plan n c t p used before =
    walks_in_step plan (Some n) c t p (in_step_then plan n c (t - 1) used before) ∙ ap (λ o. recycles plan o (local_in plan (t + shift_in plan o c) o) p) (runs_now plan n used)

step_then : (plan : Plan) (n : ℕ) (c : Correction) (t : ℕ) → correction_limit plan ≤ 50 →
    IsOn (correction_mode plan) (cycle plan n) (ahead_in plan (Some n) c t) (ahead_in plan (Some n) c (t + 1))
step_then plan n c t limited =
    elim (cases_lt t c.since) [
      | inl early ↦
          let same : t + 1 - c.since ≡ t - c.since = rest_stays t c.since early in
          record { is = inr (inl (ap (ahead_by (correction_mode plan) plan n (within_cycle plan n c)) same)) }
      | inr on ↦
          let next : t + 1 - c.since ≡ t - c.since + 1 = rest_goes_on t c.since on in
          subst (λ (y : ℕ). IsOn (correction_mode plan) (cycle plan n) (ahead_in plan (Some n) c t) (ahead_by (correction_mode plan) plan n (within_cycle plan n c) y)) (sym next)
          (on_by (correction_mode plan) plan n (within_cycle plan n c) (t - c.since) limited)
    ]

-- where the counter then is, by so many steps
by_none : (plan : Plan) (n t a b : ℕ) → offset_in_effect plan n < cycle plan n → a ≡ b + 1 → counter plan n (t + 1 + b) ≡ (counter plan n (t + a) + 0) % cycle plan n
by_none plan n t a b below less =
    let at : t + 1 + b ≡ t + a + 0 = omega arith in
    ap (counter plan n) at ∙ counter_moves_on plan n (t + a) 0 below

by_one : (plan : Plan) (n t a b : ℕ) → offset_in_effect plan n < cycle plan n → b ≡ a → counter plan n (t + 1 + b) ≡ (counter plan n (t + a) + 1) % cycle plan n
by_one plan n t a b below same =
    let at : t + 1 + b ≡ t + a + 1 = omega arith in
    ap (counter plan n) at ∙ counter_moves_on plan n (t + a) 1 below

by_two : (plan : Plan) (n t a b : ℕ) → offset_in_effect plan n < cycle plan n → b ≡ (a + 1) % cycle plan n → counter plan n (t + 1 + b) ≡ (counter plan n (t + a) + 2) % cycle plan n
by_two plan n t a b below more =
    let m : ℕ = cycle plan n in
    let at : t + 1 + (a + 1) ≡ t + a + 2 = omega arith in
    counter_moves_on plan n (t + 1) b below
    ∙ ap (λ x. (counter plan n (t + 1) + x) % m) more
    ∙ ap (λ x. x % m) (turned (counter plan n (t + 1)) ((a + 1) % m))
    ∙ mod-add-mod (a + 1) m (counter plan n (t + 1))
    ∙ ap (λ x. x % m) (turned (a + 1) (counter plan n (t + 1)))
    ∙ sym (counter_moves_on plan n (t + 1) (a + 1) below)
    ∙ ap (counter plan n) at
    ∙ counter_moves_on plan n (t + a) 2 below
  where
    turned : (x y : ℕ) → x + y ≡ y + x
    turned x y = omega arith

one_at_least : (mode : CorrectionMode) → 1 ≤ most_steps mode
one_at_least AtOnce = omega arith
one_at_least Dwell = omega arith
one_at_least ShortWay = omega arith
one_at_least AddOnly = omega arith

pub takes_few_steps : (plan : Plan) → first_broken plan ≡ None → (n : ℕ) (c : Correction) (t l : ℕ) → is_pattern plan n ≡ true → correction_limit plan ≤ 50 →
    local_now plan (Some n) c t ≡ Some l → IsAtMostBehind plan n l (most_steps (correction_mode plan)) (local_now plan (Some n) c (t + 1))
takes_few_steps plan none n c t l is limited here =
    let below : offset_in_effect plan n < cycle plan n = offset-below plan n (its_parts plan none n is).below in
    let used : is_used plan n ≡ true = (in_range plan n is).2 in
    let a : ℕ = ahead_in plan (Some n) c t in
    let b : ℕ = ahead_in plan (Some n) c (t + 1) in
    let k : ℕ = t + shift_of plan n c in
    let same : Some (counter plan n (k + a)) ≡ Some l = sym (local_then plan n c t used) ∙ here in
    let at : counter plan n (k + a) ≡ l = cc in
    let on : t + 1 + shift_of plan n c + b ≡ k + 1 + b = omega arith in
    let next : local_now plan (Some n) c (t + 1) ≡ Some (counter plan n (k + 1 + b)) = local_then plan n c (t + 1) used ∙ ap (λ x. Some (counter plan n x)) on in
    let few : 1 ≤ most_steps (correction_mode plan) = one_at_least (correction_mode plan) in
    elim ((step_then plan n c t limited).is) [
      | inl less ↦ (0, (omega (arith, few), next ∙ ap Some (by_none plan n k a b below less ∙ ap (λ x. (x + 0) % cycle plan n) at)))
      | inr on ↦ elim on [
        | inl level ↦ (1, (few, next ∙ ap Some (by_one plan n k a b below level ∙ ap (λ x. (x + 1) % cycle plan n) at)))
        | inr more ↦ (
          2,
          (
            subst (λ (mode : CorrectionMode). 2 ≤ most_steps mode) (sym more.0) (omega arith),
            next ∙ ap Some (by_two plan n k a b below more.1 ∙ ap (λ x. (x + 2) % cycle plan n) at),
          ),
        )
      ]
    ]

pub comes_into_step : (plan : Plan) → first_broken plan ≡ None → (n : ℕ) (c : Correction) (t : ℕ) → is_pattern plan n ≡ true → correction_limit plan ≤ 50 →
    c.ahead < cycle plan n → IsLongEnough (correction_mode plan) plan n c (t - c.since) → is_in_step plan (Some n) c t ≡ true
comes_into_step plan none n c t is limited low long =
    let used : is_used plan n ≡ true = (in_range plan n is).2 in
    let whole : ahead_in plan (Some n) c t ≡ ahead_by (correction_mode plan) plan n c (t - c.since) =
    ap (λ a. ahead_by (correction_mode plan) plan n (record c { ahead = a }) (t - c.since)) (mod-eq_of_lt low) in
    let arrived : ahead_in plan (Some n) c t ≡ 0 = whole ∙ arrives_by (correction_mode plan) plan n c (t - c.since) limited low long in
    eq-eqb (ahead_in plan (running plan (Some n)) c t) 0 (ap (λ o. ahead_in plan o c t) (runs_now plan n used) ∙ arrived)

-- ## The selection

keeps : (mode : CorrectionMode) (a : ℕ) → mode ≢ AtOnce → ahead_with mode a ≡ a
keeps AtOnce a other = absurd (other refl)
keeps Dwell a other = refl
keeps ShortWay a other = refl
keeps AddOnly a other = refl

-- what the code finds
pub ahead_found : (plan : Plan) (n t l m k r : ℕ) (mode : CorrectionMode) → m ≡ cycle plan n → k ≡ counter plan n t → k < cycle plan n →
    mode ≡ correction_mode plan → r ≡ ahead_with mode ((l % m + (m - k)) % m) → r ≡ ahead_from plan n t (Some l)
ahead_found plan n t l m k r mode is_cycle is_counter below is_mode found =
    let low : counter plan n t < cycle plan n = subst (λ (x : ℕ). x < cycle plan n) is_counter below in
    found
    ∙ ap (λ o. ahead_with o ((l % m + (m - k)) % m)) is_mode
    ∙ ap (λ x. ahead_with (correction_mode plan) ((l % x + (x - k)) % x)) is_cycle
    ∙ ap (λ x. ahead_with (correction_mode plan) ((l % cycle plan n + (cycle plan n - x)) % cycle plan n)) (is_counter ∙ sym (mod-eq_of_lt low))

pub begun_none : (now midnight a : ℕ) → a ≡ 0 → begun now midnight a ≡ in_step_from midnight
begun_none now midnight a none = ap (λ (b : Bool). if b then in_step_from midnight else record { since = now; ahead = a; midnight = midnight }) (eq-eqb a 0 none)

pub begun_some : (now midnight a : ℕ) → a ≢ 0 → begun now midnight a ≡ record { since = now; ahead = a; midnight = midnight }
begun_some now midnight a some = ap (λ (b : Bool). if b then in_step_from midnight else record { since = now; ahead = a; midnight = midnight }) (ne_eqb a 0 some)

-- it counts from this midnight
pub begun_from : (now midnight a : ℕ) → (begun now midnight a).midnight ≡ midnight
begun_from now midnight a = go (a == 0)
  where
    go : (b : Bool) → (if b then in_step_from midnight else record { since = now; ahead = a; midnight = midnight }).midnight ≡ midnight
    go true = refl
    go false = refl

-- in the tick of the selection it is ahead by what the selection found
ahead_at : (plan : Plan) (n now midnight a : ℕ) → correction_mode plan ≢ AtOnce → a < cycle plan n → ahead_in plan (Some n) (begun now midnight a) now ≡ a
ahead_at plan n now midnight a other low =
    elim (cases_eq a 0) [
      | inl none ↦
          ap (λ (b : Bool). ahead_in plan (Some n) (if b then in_step_from midnight else record { since = now; ahead = a; midnight = midnight }) now) (eq-eqb a 0 none)
          ∙ never_ahead plan (Some n) (in_step_from midnight) now refl ∙ sym none
      | inr some ↦
          let its : Correction = record { since = now; ahead = a; midnight = midnight } in
          let first : now - now ≡ 0 = omega arith in
          let within : a % cycle plan n ≡ a = mod-eq_of_lt low in
          ap (λ (b : Bool). ahead_in plan (Some n) (if b then in_step_from midnight else its) now) (ne_eqb a 0 some)
          ∙ start_by (correction_mode plan) plan n (within_cycle plan n its) (now - now) first other (mod-lt a (some_cycle a (cycle plan n) low))
          ∙ within
    ]

pub goes_on : (plan : Plan) → first_broken plan ≡ None → (n now midnight l : ℕ) → is_pattern plan n ≡ true → correction_mode plan ≢ AtOnce →
    local_now plan (Some n) (selected_correction plan (Some n) now midnight (Some l)) now ≡ Some (l % cycle plan n)
goes_on plan none n now midnight l is other =
    let m : ℕ = cycle plan n in
    let t : ℕ = now + shift m midnight in
    let k : ℕ = counter plan n t in
    let below : offset_in_effect plan n < m = offset-below plan n (its_parts plan none n is).below in
    let some : 0 < m = omega (arith, below) in
    let used : is_used plan n ≡ true = (in_range plan n is).2 in
    let a : ℕ = residue_of_difference m (l % m) k in
    let low : a < m = mod-lt (l % m + (m - k % m)) some in
    let its : Correction = selected_correction plan (Some n) now midnight (Some l) in
    let kept : its ≡ begun now midnight a = ap (begun now midnight) (keeps (correction_mode plan) a other) in
    let shifted : now + shift_of plan n its ≡ t = ap (λ x. now + shift m x) (ap (λ c. c.midnight) kept ∙ begun_from now midnight a) in
    let ahead : ahead_in plan (Some n) its now ≡ a =
    ap (λ c. ahead_in plan (Some n) c now) kept ∙ ahead_at plan n now midnight a other low in
    local_then plan n its now used
    ∙ ap (λ x. Some (counter plan n (x + ahead_in plan (Some n) its now))) shifted
    ∙ ap (λ x. Some (counter plan n (t + x))) ahead
    ∙ ap Some (counter_moves_on plan n t a below ∙ ap (λ x. x % m) (turned k a) ∙ ap (λ x. (residue_of_difference m (l % m) x + k) % m) (from_none k)
    ∙ difference_moves_on m (l % m) 0 k some ∙ no_turn m (l % m) some (mod-lt l some))
  where
    turned : (x y : ℕ) → x + y ≡ y + x
    turned x y = omega arith

    from_none : (k : ℕ) → k ≡ 0 + k
    from_none k = omega arith

    no_turn : (m r : ℕ) → 0 < m → r < m → residue_of_difference m r 0 ≡ r
    no_turn m r some low =
        let none : 0 % m ≡ 0 = mod-eq_of_lt some in
        let whole : r + (m - 0 % m) ≡ r + 1 * m = omega (arith, none) in
        ap (λ x. x % m) whole ∙ add-mul-mod_self_right r 1 m ∙ mod-eq_of_lt low
