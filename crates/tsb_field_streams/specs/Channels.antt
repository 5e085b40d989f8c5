-- Which channels lead to no input, and how they are named.
use Rattle.std.specs.Prelude.{ℕ, zero, suc, ◌+◌, ◌==◌, ◌&&◌, min, nat_le, Bool, true, List, [], ◌++◌, set, take, if◌then◌else◌, Option, Some, None, codes, decimal, slice_get}
use Rattle.std.specs.List.{list_any}
use Rattle.tsb_field_log.specs.Inputs.{is_same_kind}
use Rattle.tsb_field_log.specs.declared.inputs.InputKind.{InputKind}
use Rattle.tsb_field_log.specs.declared.inputs.InputKind.TheVariants.{Vehicle, Pedestrian, Preempt}
use Rattle.tsb_field_streams.specs.declared.filter.channels.Channel.{Channel}
use Rattle.tsb_field_streams.specs.declared.filter.channels.Channels.{Channels}
use Rattle.tsb_field_streams.specs.declared.filter.devices.TheConstants.{MOST_NAMED}

-- both are the same channel
abbrev pub is_same_channel : Channel → Channel → Bool
is_same_channel b a = is_same_kind a.kind b.kind && a.number == b.number

-- a channel is one of those that are named
abbrev pub is_listed : Channels → Channel → Bool
is_listed channels channel = list_any (is_same_channel channel) (take (min channels.count MOST_NAMED) channels.first)

-- channels, and one that is not named: it is, while there is room
abbrev pub with_new_channel : Channels → Channel → Channels
with_new_channel channels channel =
    if nat_le MOST_NAMED channels.count then record { first = channels.first; count = channels.count; more = true }
    else record { first = set channels.first channels.count channel; count = channels.count + 1; more = channels.more }

-- channels, and one more event, which is of this one
abbrev pub with_channel : Channels → Channel → Channels
with_channel channels channel = if is_listed channels channel then channels else with_new_channel channels channel

-- ## Their names

-- the name of a kind of input, as options have it
abbrev pub kind_name : InputKind → List ℕ
kind_name Vehicle = codes "vehicle"
kind_name Pedestrian = codes "pedestrian"
kind_name Preempt = codes "preempt"

-- what parts the name in this place from the one before it
abbrev pub part_before : ℕ → List ℕ
part_before place = if place == 0 then [] else codes ", "

-- the name of the channel in this place
abbrev pub channel_name : ℕ → Option Channel → List ℕ
channel_name place None = []
channel_name place (Some channel) = part_before place ++ (kind_name channel.kind ++ (codes " " ++ decimal channel.number))

-- the name of the channel in this place, where there is one
abbrev pub channel_text : Channels → ℕ → List ℕ
channel_text channels place = if nat_le channels.count place then [] else channel_name place (slice_get channels.first place)

-- the names of the channels in so many places, from this one on
unfoldable pub channels_from : Channels → ℕ → ℕ → List ℕ
channels_from channels place zero = []
channels_from channels place (suc count) = channel_text channels place ++ channels_from channels (suc place) count

-- what follows the names where there are more channels
abbrev pub more_channels : Bool → List ℕ
more_channels more = if more then codes ", .." else []

-- the names of channels, in parentheses
abbrev pub channels_listed : Channels → List ℕ
channels_listed channels = codes " (" ++ (channels_from channels 0 MOST_NAMED ++ (more_channels channels.more ++ codes ")"))

-- they are listed where there are any
abbrev pub channels_text : Channels → List ℕ
channels_text channels = if channels.count == 0 then [] else channels_listed channels
