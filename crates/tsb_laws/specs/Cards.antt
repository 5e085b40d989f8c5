-- The card of a plan permits what its runs light: the channels of a conflict monitor beside the heads. The law here is the
-- contract of a function in src/arrows.rt, and proved there.
use Rattle.std.specs.Prelude.{◌≡◌, ℕ, ◌==◌, Bool, true, false, if◌then◌else◌}
use Rattle.tsb_step.specs.tsb_heads.Monitoring.{lets_walk}
use Rattle.tsb_step.specs.tsb_plan.Plan.{Plan, walk}
use Rattle.tsb_step.specs.State.{State}
use Rattle.tsb_step.specs.Signs.{display}
use Rattle.tsb_step.specs.Laws.{OfEveryRun}
use Rattle.tsb_card.specs.declared.channels.Control.{Control}
use Rattle.tsb_card.specs.Pairs.{channel, is_pair}
use Rattle.tsb_laws.specs.LitHeads.{is_lit}

-- what a channel shows is lit: green, yellow or flashing yellow, walk or clearance
abbrev pub is_channel_lit : State → Control → Bool
is_channel_lit s x =
    if x.kind == 2 then is_lit ((display s).vehicle x.source) else
    (if x.kind == 3 then lets_walk ((display s).pedestrian x.source) else
    (if x.kind == 4 then is_lit ((display s).overlap x.source) else false))

-- where it shows a crosswalk, the plan has a walk for it
abbrev pub HasItsWalk : Plan → Control → Type 0
HasItsWalk plan x = x.kind ≡ 3 → (walk plan x.source == 0) ≡ false

-- Two channels that are lit at once are a pair of the card of the plan in effect. A commit may take a walk from the plan
-- while it is shown: such a crosswalk is on no card.
abbrev pub PermitsWhatIsLit : State → Type 0
PermitsWhatIsLit s = (a b : ℕ) → HasItsWalk s.plan (channel s.plan a) → HasItsWalk s.plan (channel s.plan b) →
    is_channel_lit s (channel s.plan a) ≡ true → is_channel_lit s (channel s.plan b) ≡ true → is_pair s.plan a b ≡ true

-- So it is after every run.
abbrev pub CardsPermitWhatIsLit : Type 0
CardsPermitWhatIsLit = OfEveryRun PermitsWhatIsLit
