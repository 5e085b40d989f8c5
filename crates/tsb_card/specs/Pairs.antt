-- The program card of a conflict monitor: the channels of a plan, the phases by which each is lit, and the pairs that have
-- to be permissive. Channel control source and type are those of NTCIP 1202; which channels are usual where a plan names
-- none, and which are paired, is the profile's own.
use Rattle.std.specs.Prelude.{◌≡◌, ℕ, ◌-◌, ◌*◌, ◌==◌, nat_le, nat_lt, Bool, true, false, not, ◌&&◌, ◌||◌, if◌then◌else◌}
use Rattle.std.specs.List.{list_all, list_any}
use Rattle.tsb_types.specs.Lists.{run_from}
use Rattle.tsb_plan.specs.declared.object.Object.TheVariants.{ChannelControlSource, ChannelControlType}
use Rattle.tsb_plan.specs.Parts.{is_arrow, is_included, is_modifier}
use Rattle.tsb_plan.specs.Plan.{Plan, phases, is_concurrent, is_enabled, walk}
use Rattle.tsb_card.specs.declared.channels.Control.{Control}

-- ## Channels. What one shows is its type, 2 vehicles of a phase, 3 pedestrians of a phase, 4 an overlap, and its source

-- a plan does not name channel c
abbrev pub is_unnamed : Plan → ℕ → Bool
is_unnamed plan c = plan.value ChannelControlType c == 0 && plan.value ChannelControlSource c == 0

-- a plan names no channel
unfoldable pub names_none : Plan → Bool
names_none plan = list_all (is_unnamed plan) (run_from 1 16)

-- channels 1 to 8 are those phases, 9 to 12 overlaps 1 to 4, 13 to 16 the crosswalks of phases 2, 4, 6 and 8
abbrev pub usual : ℕ → Control
usual c =
    if nat_le c 8 then record { kind = 2; source = c } else
    (if nat_le c 12 then record { kind = 4; source = c - 8 } else record { kind = 3; source = 2 * (c - 12) })

-- channel c of a plan
abbrev pub channel : Plan → ℕ → Control
channel plan c =
    if names_none plan then usual c
    else record { kind = plan.value ChannelControlType c; source = plan.value ChannelControlSource c }

-- ## The phases that light a channel, each by itself

-- an overlap: those that it includes, and the turn of an arrow
abbrev pub lights_overlap : Plan → ℕ → ℕ → Bool
lights_overlap plan o p = is_included plan o p || (is_arrow plan o && is_modifier plan o p)

-- a channel: an enabled phase, an enabled phase with a walk, or those of an overlap that there is
abbrev pub lights : Plan → Control → ℕ → Bool
lights plan x p =
    if x.kind == 2 then x.source == p && is_enabled plan p else
    (if x.kind == 3 then x.source == p && (is_enabled plan p && not (walk plan p == 0)) else
    (if x.kind == 4 then (nat_le 1 x.source && nat_le x.source plan.counts.overlaps) && lights_overlap plan x.source p else false))

-- ## Pairs

-- two phases are equal or concurrent
abbrev pub agree : Plan → ℕ → ℕ → Bool
agree plan p q = p == q || is_concurrent plan p q

-- phase q lights a channel and agrees with phase p
abbrev pub is_lit_beside : Plan → Control → ℕ → ℕ → Bool
is_lit_beside plan x p q = lights plan x q && agree plan p q

-- phase p lights one channel, and one that agrees with it the other
abbrev pub meets : Plan → Control → Control → ℕ → Bool
meets plan x y p = lights plan x p && list_any (is_lit_beside plan y p) (phases plan)

-- two channels of a monitor, 1 to 16, the lower one first
abbrev pub is_listed : ℕ → ℕ → Bool
is_listed a b = nat_le 1 a && (nat_lt a b && nat_le b 16)

-- channels a and b may be lit together
unfoldable pub is_pair : Plan → ℕ → ℕ → Bool
is_pair plan a b = list_any (meets plan (channel plan a) (channel plan b)) (phases plan)

-- they are permissive on the card of a plan
abbrev pub is_permissive : Plan → ℕ → ℕ → Bool
is_permissive plan a b = is_listed a b && is_pair plan a b

-- ## Laws

-- each pair is of phases that the plan lets go together
pub record IsByPhases (plan : Plan) (a b : ℕ) : Type 0 where
  pub one : ℕ
  pub other : ℕ
  pub lights_one : lights plan (channel plan a) one ≡ true
  pub lights_other : lights plan (channel plan b) other ≡ true
  pub together : agree plan one other ≡ true

-- of each plan
abbrev pub PairsAreByPhases : Type 0
PairsAreByPhases = (plan : Plan) (a b : ℕ) → is_pair plan a b ≡ true → IsByPhases plan a b
