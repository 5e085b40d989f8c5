-- A local counter with a clock: it counts from the midnight at or before its selection, and without a clock from tick
-- number 0.
use Rattle.std.proofs.Common.{◌≡◌, ◌≢◌, ℕ, ◌+◌, ◌-◌, ◌*◌, ◌/◌, ◌%◌, ◌<◌, ◌≤◌, true, Bool, if◌then◌else◌, Option, Some, None, ap, ◌∙◌, arith}
use Rattle.std.proofs.Math.Nat.{div-add-mod', mod-lt, mod-add-mod}
use Rattle.std.proofs.lemmas.Bool.{ne_eqb}
use Rattle.std.proofs.lemmas.Nat.{mod-mul-add}
use Rattle.tsb_objects.specs.tsb_types.declared.clock_time.TheConstants.{DAY}
use Rattle.tsb_objects.specs.tsb_types.declared.limits.TheConstants.{TICKS}
use Rattle.tsb_objects.specs.tsb_plan.Plan.{Plan}
use Rattle.tsb_objects.specs.tsb_plan.Parts.{cycle}
use Rattle.tsb_objects.specs.tsb_plan.Running.{running}
use Rattle.tsb_objects.specs.tsb_rules.Rules.{first_broken}
use Rattle.tsb_coord.specs.Clock.{midnight_at, shift, spare}
use Rattle.tsb_objects.proofs.InstantLemmas.{offset-below}
use Rattle.tsb_coord.specs.Coordinated.{counter, offset_in_effect, residue_of_difference, is_pattern}
use Rattle.tsb_coord.specs.Correction.{Correction, shift_in, clocked}
use Rattle.tsb_coord.specs.Laws.{since_midnight}
use Rattle.tsb_coord.proofs.LocalLemmas.{same_residue, its_parts}

pub counts_from_tick_0 : (plan : Plan) (selected : Option ℕ) (c : Correction) (now t : ℕ) → c.midnight ≡ midnight_at None now → clocked plan selected c t ≡ t
counts_from_tick_0 plan selected c now t none = go (running plan selected)
  where
    no_more : (t : ℕ) → t + 0 ≡ t
    no_more t = omega arith

    go : (runs : Option ℕ) → t + shift_in plan runs c ≡ t
    go None = no_more t
    go (Some n) = ap (λ (x : ℕ). t + shift (cycle plan n) x) none ∙ no_more t

-- the shift of a midnight that there is
shift_is : (m midnight : ℕ) → midnight ≢ 0 → shift m midnight ≡ residue_of_difference m midnight spare
shift_is m midnight some = ap (λ (b : Bool). if b then 0 else residue_of_difference m midnight spare) (ne_eqb midnight 0 some)

-- where x is the time of day in tick `now`
counted : (m o x now t : ℕ) → o < m → now ≤ TICKS → now ≤ t →
    (t + shift m (spare + x - now) + m - o) % m ≡ (x + (t - now) + m - o) % m
counted m o x now t below in_time later =
    let midnight : ℕ = spare + x - now in
    let whole : ℕ = midnight + (m - spare % m) in
    let some : 0 < m = omega (arith, below) in
    let there : midnight ≢ 0 = (λ e. omega (arith, e, in_time)) in
    let turned : t + whole % m + m - o ≡ whole % m + (t + (m - o)) = omega (arith, below) in
    let parts : spare / m * m + spare % m ≡ spare = div-add-mod' spare m in
    let rest : spare % m < m = mod-lt spare some in
    let level : whole + (t + (m - o)) + 0 * m ≡ x + (t - now) + m - o + (spare / m + 1) * m = balanced m o x now t (spare / m) (spare % m) parts rest below in_time later in
    ap (λ (s : ℕ). (t + s + m - o) % m) (shift_is m midnight there)
    ∙ ap (λ (s : ℕ). s % m) turned
    ∙ mod-add-mod whole m (t + (m - o))
    ∙ same_residue m (whole + (t + (m - o))) (x + (t - now) + m - o) 0 (spare / m + 1) level
  where
    balanced : (m o x now t q r : ℕ) → q * m + r ≡ spare → r < m → o < m → now ≤ TICKS → now ≤ t →
        spare + x - now + (m - r) + (t + (m - o)) + 0 * m ≡ x + (t - now) + m - o + (q + 1) * m
    balanced m o x now t q r parts rest below in_time later = omega (arith, parts, rest, below, in_time, later)

pub counts_from_midnight : (plan : Plan) → first_broken plan ≡ None → (n start now t : ℕ) → is_pattern plan n ≡ true → now ≤ TICKS → now ≤ t →
    counter plan n (t + shift (cycle plan n) (midnight_at (Some start) now)) ≡ counter plan n (since_midnight start now t)
counts_from_midnight plan none n start now t is in_time later =
    counted (cycle plan n) (offset_in_effect plan n) ((start + now) % DAY) now t (offset-below plan n (its_parts plan none n is).below) in_time later

pub counts_alike : (plan : Plan) → first_broken plan ≡ None → (n day now t : ℕ) → is_pattern plan n ≡ true → now < DAY → now ≤ t →
    counter plan n (t + shift (cycle plan n) (midnight_at (Some (day * DAY)) now)) ≡ counter plan n t
counts_alike plan none n day now t is today later =
    let time : (day * DAY + now) % DAY ≡ now = mod-mul-add day DAY now today in
    let all : now + (t - now) ≡ t = omega (arith, later) in
    counts_from_midnight plan none n (day * DAY) now t is (omega (arith, today)) later
    ∙ ap (λ (x : ℕ). counter plan n (x + (t - now))) time ∙ ap (counter plan n) all
