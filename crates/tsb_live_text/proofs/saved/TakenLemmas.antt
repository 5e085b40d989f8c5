-- The saved commands, over the saved log, leave the inputs that were kept.
use Rattle.std.proofs.Common.{zero, suc, ◌≡◌, ◌∙◌, ℕ, ◌+◌, ◌-◌, ◌≤◌, ◌==◌, Bool, true, false, List, [], ◌∷◌, ◌++◌, if◌then◌else◌, None, refl, sym, ap, subst, arith}
use Rattle.std.proofs.lemmas.Bool.{eqb-true}
use Rattle.tsb_text.specs.tsb_step.tsb_plan.Plan.{Plan}
use Rattle.tsb_step.specs.declared.inputs.Input.{Input}
use Rattle.tsb_step.specs.declared.inputs.Input.TheVariants.{Tick}
use Rattle.tsb_step.specs.Runs.{AreTaken, replay}
use Rattle.tsb_step.specs.Step.{verdict}
use Rattle.tsb_step.proofs.ClearLemmas.{one_later}
use Rattle.tsb_command_text.specs.declared.command.Command.{Command}
use Rattle.tsb_command_text.specs.declared.command.Command.TheVariants.{Step}
use Rattle.tsb_log_text.specs.Logs.{row_at}
use Rattle.tsb_log_text.specs.declared.log.LogRow.{LogRow}
use Rattle.tsb_text.specs.declared.kept.Other.{Other}
use Rattle.tsb_text.specs.kept.Kept.{IsNoTick, kept_of}
use Rattle.tsb_text.specs.kept.Laws.{given_from, with_ticks}
use Rattle.tsb_text.proofs.BackLemmas.{same-now}
use Rattle.tsb_text.proofs.kept.LawLemmas.{gives-again}
use Rattle.tsb_live_text.specs.saved.Laws.{command_of, commands_at, steps}
use Rattle.tsb_live_text.specs.saved.Taken.{RunsEndAlike, TakeAll, TakesTicks, saved_commands, tick_after}

-- ## Inputs that are no ticks come in the order of their ticks

-- none before tick t, none after `now`, and none a tick
abbrev AreOthers : ℕ → ℕ → List Other → Type 0
AreOthers t now [] = t ≤ now
AreOthers t now (o ∷ os) = (t ≤ o.tick) × IsNoTick o.input × AreOthers o.tick now os

others-later : (t n m : ℕ) (os : List Other) → n ≤ m → AreOthers t n os → AreOthers t m os
others-later t n m [] le h = omega (arith, le, h)
others-later t n m (o ∷ os) le h = (h.0, h.1, others-later o.tick n m os le h.2)

others-more : (t n : ℕ) (os : List Other) (i : Input) → IsNoTick i → AreOthers t n os → AreOthers t n (os ++ record { tick = n; input = i } ∷ [])
others-more t n [] i none h = (h, none, omega arith)
others-more t n (o ∷ os) i none h = (h.0, h.1, others-more o.tick n os i none h.2)

kept-others : (plan : Plan) (is : List Input) → AreOthers 0 (replay plan is).now (kept_of plan is).others
kept-others plan [] = omega arith
kept-others plan (Tick row ∷ is) =
    let next : (replay plan (Tick row ∷ is)).now ≡ (replay plan is).now + 1 = one_later (replay plan is) row in
    others-later 0 (replay plan is).now (replay plan (Tick row ∷ is)).now (kept_of plan is).others (omega (arith, next)) (kept-others plan is)
kept-others plan (i ∷ is) =
    let same : (replay plan (i ∷ is)).now ≡ (replay plan is).now = same-now (replay plan is) i tt in
    others-later 0 (replay plan is).now (replay plan (i ∷ is)).now (kept_of plan (i ∷ is)).others (omega (arith, same))
    (others-more 0 (replay plan is).now (kept_of plan is).others i tt (kept-others plan is))

-- ## Ticks

ticks-front : (log : List LogRow) (n t : ℕ) (is : List Input) → with_ticks log n (t + 1) (Tick (row_at log (t + 1)) ∷ is) ≡ with_ticks log (suc n) t is
ticks-front log zero t is = let e : t + 1 ≡ t + 0 + 1 = omega arith in ap (λ (k : ℕ). Tick (row_at log k) ∷ is) e
ticks-front log (suc n) t is =
    let e : t + 1 + n + 1 ≡ t + suc n + 1 = omega arith in
    let rest : with_ticks log n (t + 1) (Tick (row_at log (t + 1)) ∷ is) ≡ with_ticks log (suc n) t is = ticks-front log n t is in
    λ j. Tick (row_at log (e j)) ∷ rest j

now-ticks : (plan : Plan) (log : List LogRow) (n t : ℕ) (is : List Input) → (replay plan (with_ticks log n t is)).now ≡ (replay plan is).now + n
now-ticks plan log zero t is = omega arith
now-ticks plan log (suc n) t is =
    let next : (replay plan (with_ticks log (suc n) t is)).now ≡ (replay plan (with_ticks log n t is)).now + 1 = one_later (replay plan (with_ticks log n t is)) (row_at log (t + n + 1)) in
    let rest : (replay plan (with_ticks log n t is)).now ≡ (replay plan is).now + n = now-ticks plan log n t is in
    omega (arith, next, rest)

-- after the next tick
next-now : (plan : Plan) (log : List LogRow) (t : ℕ) (is : List Input) → (replay plan is).now ≡ t → (replay plan (tick_after plan log is ∷ is)).now ≡ t + 1
next-now plan log t is at =
    let next : (replay plan (tick_after plan log is ∷ is)).now ≡ (replay plan is).now + 1 = one_later (replay plan is) (row_at log ((replay plan is).now + 1)) in
    omega (arith, next, at)

tick-there : (plan : Plan) (log : List LogRow) (t : ℕ) (is : List Input) → (replay plan is).now ≡ t → tick_after plan log is ≡ Tick (row_at log (t + 1))
tick-there plan log t is at = ap (λ (k : ℕ). Tick (row_at log (k + 1))) at

ticks-left : (plan : Plan) (log : List LogRow) (n t : ℕ) (is left : List Input) → (replay plan is).now ≡ t → TakesTicks plan log n is left → left ≡ with_ticks log n t is
ticks-left plan log zero t is left at h = h
ticks-left plan log (suc n) t is left at h =
    ticks-left plan log n (t + 1) (tick_after plan log is ∷ is) left (next-now plan log t is at) h.1
    ∙ ap (λ (i : Input). with_ticks log n (t + 1) (i ∷ is)) (tick-there plan log t is at)
    ∙ ticks-front log n t is

-- what was taken begins with what was taken
ticks-start : (plan : Plan) (log : List LogRow) (n t : ℕ) (is : List Input) → AreTaken plan (with_ticks log n t is) → AreTaken plan is
ticks-start plan log zero t is h = h
ticks-start plan log (suc n) t is h = ticks-start plan log n t is h.0

ticks-take : (plan : Plan) (log : List LogRow) (n t : ℕ) (is : List Input) → (replay plan is).now ≡ t → AreTaken plan (with_ticks log n t is) → TakesTicks plan log n is (with_ticks log n t is)
ticks-take plan log zero t is at h = refl
ticks-take plan log (suc n) t is at h =
    let same : with_ticks log n (t + 1) (tick_after plan log is ∷ is) ≡ with_ticks log (suc n) t is =
    ap (λ (i : Input). with_ticks log n (t + 1) (i ∷ is)) (tick-there plan log t is at) ∙ ticks-front log n t is in
    let taken : AreTaken plan (with_ticks log n (t + 1) (tick_after plan log is ∷ is)) = subst (AreTaken plan) (sym same) h in
    let first : AreTaken plan (tick_after plan log is ∷ is) = ticks-start plan log n (t + 1) (tick_after plan log is ∷ is) taken in (
      first.1,
      subst (λ (left : List Input). TakesTicks plan log n (tick_after plan log is ∷ is) left) same
          (ticks-take plan log n (t + 1) (tick_after plan log is ∷ is) (next-now plan log t is at) taken),
    )

steps-left : (plan : Plan) (log : List LogRow) (n t : ℕ) (is left : List Input) → (replay plan is).now ≡ t → TakeAll plan log (steps n) is left → left ≡ with_ticks log n t is
steps-left plan log n t is left at h = go (n == 0) refl h
  where
    go : (b : Bool) → (n == 0) ≡ b → TakeAll plan log (if b then [] else Step n ∷ []) is left → left ≡ with_ticks log n t is
    go true e h = h ∙ ap (λ (k : ℕ). with_ticks log k t is) (sym (eqb-true n 0 e))
    go false e h = h.2 ∙ ticks-left plan log n t is h.0 at h.1

steps-take : (plan : Plan) (log : List LogRow) (n t : ℕ) (is : List Input) → (replay plan is).now ≡ t → AreTaken plan (with_ticks log n t is) → TakeAll plan log (steps n) is (with_ticks log n t is)
steps-take plan log n t is at h = go (n == 0) refl
  where
    go : (b : Bool) → (n == 0) ≡ b → TakeAll plan log (if b then [] else Step n ∷ []) is (with_ticks log n t is)
    go true e = ap (λ (k : ℕ). with_ticks log k t is) (eqb-true n 0 e)
    go false e = (with_ticks log n t is, ticks-take plan log n t is at h, refl)

-- ## Other inputs

input-left : (plan : Plan) (log : List LogRow) (i : Input) (is left : List Input) → IsNoTick i → TakeAll plan log (command_of i) is left → left ≡ i ∷ is
input-left plan log (Tick row) is left none h = absurd none
input-left plan log i is left none h = h.2 ∙ h.1.1

input-take : (plan : Plan) (log : List LogRow) (i : Input) (is : List Input) → IsNoTick i → verdict (replay plan is) i ≡ None → TakeAll plan log (command_of i) is (i ∷ is)
input-take plan log (Tick row) is none h = absurd none
input-take plan log i is none h = (i ∷ is, (h, refl), refl)

-- ## All of them

take-split : (plan : Plan) (log : List LogRow) (cs ds : List Command) (is left : List Input) → TakeAll plan log (cs ++ ds) is left → (mid : List Input) × TakeAll plan log cs is mid × TakeAll plan log ds mid left
take-split plan log [] ds is left h = (is, refl, h)
take-split plan log (c ∷ cs) ds is left h =
    let rest : (mid : List Input) × TakeAll plan log cs h.0 mid × TakeAll plan log ds mid left = take-split plan log cs ds h.0 left h.2 in
    (rest.0, (h.0, h.1, rest.1), rest.2)

take-join : (plan : Plan) (log : List LogRow) (cs ds : List Command) (is mid left : List Input) → TakeAll plan log cs is mid → TakeAll plan log ds mid left → TakeAll plan log (cs ++ ds) is left
take-join plan log [] ds is mid left h k = subst (λ (x : List Input). TakeAll plan log ds x left) h k
take-join plan log (c ∷ cs) ds is mid left h k = (h.0, h.1, take-join plan log cs ds h.0 mid left h.2 k)

-- the tick in force after an input that is no tick, and ticks before it
there : (plan : Plan) (log : List LogRow) (o : Other) (t : ℕ) (is : List Input) → (replay plan is).now ≡ t → t ≤ o.tick → IsNoTick o.input
    → (replay plan (o.input ∷ with_ticks log (o.tick - t) t is)).now ≡ o.tick
there plan log o t is at le none =
    let same : (replay plan (o.input ∷ with_ticks log (o.tick - t) t is)).now ≡ (replay plan (with_ticks log (o.tick - t) t is)).now = same-now (replay plan (with_ticks log (o.tick - t) t is)) o.input none in
    let ticks : (replay plan (with_ticks log (o.tick - t) t is)).now ≡ (replay plan is).now + (o.tick - t) = now-ticks plan log (o.tick - t) t is in
    omega (arith, same, ticks, at, le)

all-left : (plan : Plan) (log : List LogRow) (now : ℕ) (os : List Other) (t : ℕ) (is left : List Input) → AreOthers t now os → (replay plan is).now ≡ t
    → TakeAll plan log (commands_at now os t) is left → left ≡ given_from log now os t is
all-left plan log now [] t is left are at h = steps-left plan log (now - t) t is left at h
all-left plan log now (o ∷ os) t is left are at h =
    let first = take-split plan log (steps (o.tick - t)) (command_of o.input ++ commands_at now os o.tick) is left h in
    let second = take-split plan log (command_of o.input) (commands_at now os o.tick) first.0 left first.2 in
    let ticks : first.0 ≡ with_ticks log (o.tick - t) t is = steps-left plan log (o.tick - t) t is first.0 at first.1 in
    let come : second.0 ≡ o.input ∷ with_ticks log (o.tick - t) t is = input-left plan log o.input first.0 second.0 are.1 second.1 ∙ ap (λ (x : List Input). o.input ∷ x) ticks in
    let now_is : (replay plan second.0).now ≡ o.tick = ap (λ (x : List Input). (replay plan x).now) come ∙ there plan log o t is at are.0 are.1 in
    all-left plan log now os o.tick second.0 left are.2 now_is second.2 ∙ ap (given_from log now os o.tick) come

all-start : (plan : Plan) (log : List LogRow) (now : ℕ) (os : List Other) (t : ℕ) (is : List Input) → AreTaken plan (given_from log now os t is) → AreTaken plan is
all-start plan log now [] t is h = ticks-start plan log (now - t) t is h
all-start plan log now (o ∷ os) t is h =
    let both : AreTaken plan (o.input ∷ with_ticks log (o.tick - t) t is) = all-start plan log now os o.tick (o.input ∷ with_ticks log (o.tick - t) t is) h in
    ticks-start plan log (o.tick - t) t is both.0

all-take : (plan : Plan) (log : List LogRow) (now : ℕ) (os : List Other) (t : ℕ) (is : List Input) → AreOthers t now os → (replay plan is).now ≡ t
    → AreTaken plan (given_from log now os t is) → TakeAll plan log (commands_at now os t) is (given_from log now os t is)
all-take plan log now [] t is are at h = steps-take plan log (now - t) t is at h
all-take plan log now (o ∷ os) t is are at h =
    let both : AreTaken plan (o.input ∷ with_ticks log (o.tick - t) t is) = all-start plan log now os o.tick (o.input ∷ with_ticks log (o.tick - t) t is) h in
    take-join plan log (steps (o.tick - t)) (command_of o.input ++ commands_at now os o.tick) is (with_ticks log (o.tick - t) t is) (given_from log now (o ∷ os) t is)
    (steps-take plan log (o.tick - t) t is at both.0)
    (take-join plan log (command_of o.input) (commands_at now os o.tick) (with_ticks log (o.tick - t) t is) (o.input ∷ with_ticks log (o.tick - t) t is) (given_from log now (o ∷ os) t is)
    (input-take plan log o.input (with_ticks log (o.tick - t) t is) are.1 both.1)
    (all-take plan log now os o.tick (o.input ∷ with_ticks log (o.tick - t) t is) are.2 (there plan log o t is at are.0 are.1) h))

pub ends-alike : RunsEndAlike
ends-alike plan is taken =
    let same : given_from (kept_of plan is).rows (replay plan is).now (kept_of plan is).others 0 [] ≡ is = gives-again plan is in (
      subst (λ (left : List Input). TakeAll plan (kept_of plan is).rows (saved_commands plan is) [] left) same
          (all-take plan (kept_of plan is).rows (replay plan is).now (kept_of plan is).others 0 [] (kept-others plan is) refl (subst (AreTaken plan) (sym same) taken)),
      λ left h. all-left plan (kept_of plan is).rows (replay plan is).now (kept_of plan is).others 0 [] left (kept-others plan is) refl h ∙ same,
    )
