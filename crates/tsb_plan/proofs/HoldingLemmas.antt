-- The entry that holds of a day matches it, so it names a day plan.
use Rattle.std.proofs.Common.{◌≡◌, ℕ, Bool, true, false, not, ◌==◌, ◌&&◌, if◌then◌else◌, List, [], ◌∷◌, Option, Some, None, refl}
use Rattle.std.specs.Prelude.{IfSome, nat_lt}
use Rattle.std.proofs.lemmas.Bool.{and_parts}
use Rattle.tsb_types.specs.Lists.{run_from}
use Rattle.tsb_plan.specs.Plan.{Plan}
use Rattle.tsb_plan.specs.Schedule.{entry_count, day_plan_of, names_month, names_weekday, names_date}
use Rattle.tsb_plan.specs.Holding.{matches, date_of, weekday_of, sevenths, better, best, holding}

better-matches : (plan : Plan) (day : ℕ) (b : Option ℕ) (e : ℕ) → IfSome b (λ k. matches plan k day ≡ true) → IfSome (better plan day b e) (λ k. matches plan k day ≡ true)
better-matches plan day None e is = go (matches plan e day) refl
  where
    go : (t : Bool) → matches plan e day ≡ t → IfSome (if t then Some e else None) (λ k. matches plan k day ≡ true)
    go true h = h
    go false h = tt
better-matches plan day (Some x) e is = go (matches plan e day) (nat_lt (sevenths plan e) (sevenths plan x)) refl
  where
    go : (t u : Bool) → matches plan e day ≡ t → IfSome (if t && u then Some e else Some x) (λ k. matches plan k day ≡ true)
    go true true h = h
    go true false h = is
    go false u h = is

best-matches : (plan : Plan) (day : ℕ) (b : Option ℕ) (es : List ℕ) → IfSome b (λ k. matches plan k day ≡ true) → IfSome (best plan day b es) (λ k. matches plan k day ≡ true)
best-matches plan day b [] is = is
best-matches plan day b (e ∷ es) is = best-matches plan day (better plan day b e) es (better-matches plan day b e is)

pub holding-matches : (plan : Plan) (day : ℕ) → IfSome (holding plan day) (λ k. matches plan k day ≡ true)
unfolding holding
holding-matches plan day = best-matches plan day None (run_from 1 entry_count) tt

pub names-plan : (plan : Plan) (day e : ℕ) → matches plan e day ≡ true → not (day_plan_of plan e == 0) ≡ true
names-plan plan day e is =
    (and_parts (not (day_plan_of plan e == 0)) (names_month plan e (date_of day).month && (names_weekday plan e (weekday_of day) && names_date plan e (date_of day).day)) is).0
