-- The days before a day: the first of them, and the rest; and what is the same of two moments of one minute.
use Rattle.std.proofs.Common.{◌≡◌, ℕ, suc, ◌+◌, ◌-◌, ◌/◌, ◌<◌, ap, ap₂, ◌∙◌, arith}
use Rattle.tsb_types.specs.Lists.{or_else, or_number}
use Rattle.tsb_types.specs.declared.clock_time.TheConstants.{DAY}
use Rattle.tsb_plan.specs.Plan.{Plan}
use Rattle.tsb_plan.specs.Acting.{action_at, action_on, action_before, days_earlier, day_at, in_force, last_minute, minute_at, searched}

pub before-first : (plan : Plan) (all n day : ℕ) → n < all →
    action_before plan (all - n) (day - n) ≡ or_else (action_on plan (day - (n + 1)) last_minute) (action_before plan (all - (n + 1)) (day - (n + 1)))
before-first plan all n day less =
    let one : all - n ≡ suc (all - (n + 1)) = omega arith in
    let back : day - n - 1 ≡ day - (n + 1) = omega arith in
    ap (λ (k : ℕ). action_before plan k (day - n)) one
    ∙ ap (λ (d : ℕ). or_else (action_on plan d last_minute) (action_before plan (all - (n + 1)) d)) back

-- ## Moments of one minute

same-day : (m n : ℕ) → m / 600 ≡ n / 600 → day_at m ≡ day_at n
same-day m n same = let day : m / DAY ≡ n / DAY = omega arith in ap (λ (d : ℕ). d + days_earlier) day

same-minute : (m n : ℕ) → m / 600 ≡ n / 600 → minute_at m ≡ minute_at n
same-minute m n same = omega arith

-- the same action is in force
pub minute-in-force : (plan : Plan) (m n : ℕ) → m / 600 ≡ n / 600 → in_force plan m ≡ in_force plan n
unfolding action_at
minute-in-force plan m n same =
    ap₂ (λ (d t : ℕ). or_number (or_else (action_on plan d t) (action_before plan searched d)) 0) (same-day m n same) (same-minute m n same)
