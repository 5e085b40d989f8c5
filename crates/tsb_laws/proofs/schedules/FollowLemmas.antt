-- What follows an input: a pattern and a list of arrows, and nothing without a clock or without a schedule.
use Rattle.std.proofs.Common.{◌≡◌, ℕ, ◌+◌, ◌==◌, Bool, true, false, if◌then◌else◌, List, [], ◌∷◌, Option, Some, None, refl, sym, ap, ◌∙◌, inl, inr, ◌⊎◌}
use Rattle.tsb_step.specs.tsb_plan.Acting.{in_force}
use Rattle.tsb_step.specs.tsb_plan.Plan.{Plan}
use Rattle.tsb_step.specs.tsb_plan.Schedule.{has_schedule, omitted_by, selected_by}
use Rattle.tsb_step.specs.State.{State}
use Rattle.tsb_types.specs.Sets.{list_of}
use Rattle.tsb_types.specs.declared.limits.TheConstants.{OVERLAPS}
use Rattle.tsb_text.proofs.FollowLemmas.{followers-alone}
use Rattle.tsb_laws.specs.Schedules.{PatternsFollowAlone}
use Rattle.tsb_step.specs.declared.inputs.Input.{Input}
use Rattle.tsb_step.specs.declared.inputs.Input.TheVariants.{Omit, Pattern}
use Rattle.tsb_step.specs.Following.{action, action_from, followers as all_followers, following, omits, one_or_none, selects, with_omits}
use Rattle.tsb_step.specs.Runs.{replay}
use Rattle.tsb_text.specs.Answers.{Setup, followers}

-- ## Nothing

selects-none : (plan : Plan) (before : Option ℕ) → selects plan before None ≡ None
selects-none plan None = refl
selects-none plan (Some b) = refl

-- where no action is in force after an input, nothing follows it
follows-none : (given : Setup) (is : List Input) (i : Input) → action (replay given.plan (i ∷ is)) ≡ None → followers given is i ≡ []
follows-none given is i none = at given.acts
  where
    at : (acts : Bool) → (if acts then all_followers (replay given.plan is) (replay given.plan (i ∷ is)) else []) ≡ []
    at true =
        ap (with_omits (replay given.plan (i ∷ is)))
        (ap (λ (a : Option ℕ). selects (replay given.plan (i ∷ is)).plan (action (replay given.plan is)) a) none
        ∙ selects-none (replay given.plan (i ∷ is)).plan (action (replay given.plan is)))
    at false = refl

pub no-clock : (given : Setup) (is : List Input) (i : Input) → (replay given.plan (i ∷ is)).start_moment ≡ None → followers given is i ≡ []
no-clock given is i none =
    follows-none given is i (ap (λ (start : Option ℕ). action_from (replay given.plan (i ∷ is)).plan start (replay given.plan (i ∷ is)).now) none)

none-acts : (plan : Plan) (start : Option ℕ) (now : ℕ) → has_schedule plan ≡ false → action_from plan start now ≡ None
none-acts plan None now none = refl
none-acts plan (Some start) now none = ap (λ (has : Bool). if has then Some (in_force plan (start + now)) else None) none

pub no-schedule : (given : Setup) (is : List Input) (i : Input) → has_schedule (replay given.plan (i ∷ is)).plan ≡ false → followers given is i ≡ []
no-schedule given is i none =
    follows-none given is i (none-acts (replay given.plan (i ∷ is)).plan (replay given.plan (i ∷ is)).start_moment (replay given.plan (i ∷ is)).now none)

-- ## A pattern, and arrows

-- it is a pattern, or a list of arrows that are omitted
abbrev pub IsSelection : Input → Type 0
IsSelection i = ((n : ℕ) × (i ≡ Pattern n)) ⊎ ((list : ℕ) × (i ≡ Omit list))

-- so each of these
abbrev pub AreSelections : List Input → Type 0
AreSelections [] = Unit {0}
AreSelections (i ∷ is) = IsSelection i × AreSelections is

omits-selection : (plan : Plan) (a : Option ℕ) (omitted : ℕ → Bool) → AreSelections (one_or_none (omits plan a omitted))
omits-selection plan None omitted = tt
omits-selection plan (Some a) omitted = at (omitted_by plan a == list_of OVERLAPS omitted)
  where
    at : (same : Bool) → AreSelections (one_or_none (if same then None else Some (Omit (omitted_by plan a))))
    at true = tt
    at false = (inr (omitted_by plan a, refl), tt)

-- an input, if there is one, and what is omitted behind it
with-selection : (after : State) (next : Option Input) → ((i : Input) → next ≡ Some i → IsSelection i) → AreSelections (with_omits after next)
with-selection after None is = tt
with-selection after (Some i) is = (is i refl, omits-selection after.plan (action after) after.omitted)

selects-pattern : (plan : Plan) (before after : Option ℕ) (i : Input) → selects plan before after ≡ Some i → IsSelection i
selects-pattern plan None None i is = absurd (cc)
selects-pattern plan (Some b) None i is = absurd (cc)
selects-pattern plan None (Some a) i is = inl (selected_by plan a, let same : Pattern (selected_by plan a) ≡ i = cc in sym same)
selects-pattern plan (Some b) (Some a) i is = at (b == a) is
  where
    at : (same : Bool) → (if same then None else Some (Pattern (selected_by plan a))) ≡ Some i → IsSelection i
    at true e = absurd (cc)
    at false e = inl (selected_by plan a, let same : Pattern (selected_by plan a) ≡ i = cc in sym same)

pub follows-selections : (given : Setup) (is : List Input) (i : Input) → AreSelections (followers given is i)
follows-selections given is i = at given.acts
  where
    at : (acts : Bool) → AreSelections (if acts then all_followers (replay given.plan is) (replay given.plan (i ∷ is)) else [])
    at true =
        with-selection (replay given.plan (i ∷ is)) (following (replay given.plan is) (replay given.plan (i ∷ is)))
        (selects-pattern (replay given.plan (i ∷ is)).plan (action (replay given.plan is)) (action (replay given.plan (i ∷ is))))
    at false = tt

-- ## A pattern alone

pub patterns-alone : PatternsFollowAlone
patterns-alone given is i same = at given.acts
  where
    at : (acts : Bool) → (if acts then all_followers (replay given.plan is) (replay given.plan (i ∷ is)) else [])
        ≡ (if acts then one_or_none (following (replay given.plan is) (replay given.plan (i ∷ is))) else [])
    at true = followers-alone (replay given.plan (i ∷ is)) (following (replay given.plan is) (replay given.plan (i ∷ is))) same
    at false = refl
