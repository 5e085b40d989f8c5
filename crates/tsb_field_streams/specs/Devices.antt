-- Which devices rows are of, and the line that names them, with its end.
use Rattle.std.specs.Prelude.{ℕ, zero, suc, ◌+◌, ◌==◌, ◌&&◌, min, nat_le, nat_lt, Bool, true, List, [], ◌++◌, set, take, if◌then◌else◌, Option, Some, None, codes, decimal, slice_get}
use Rattle.std.specs.List.{list_any}
use Rattle.std.specs.Str.{bytes_eq}
use Rattle.tsb_event_text.specs.Faults.{device_of}
use Rattle.tsb_event_text.specs.declared.columns.Columns.{Columns}
use Rattle.tsb_event_text.specs.declared.faults.ShownField.{ShownField}
use Rattle.tsb_field_streams.specs.declared.filter.devices.Devices.{Devices}
use Rattle.tsb_field_streams.specs.declared.filter.devices.TheConstants.{MOST_NAMED}
use Rattle.tsb_field_streams.specs.FaultLines.{shown_text}

-- both are the same device
abbrev pub is_same_device : ShownField → ShownField → Bool
is_same_device b a = a.count == b.count && bytes_eq a.bytes b.bytes

-- a device is one of those that are named
abbrev pub is_named : Devices → ShownField → Bool
is_named devices name = list_any (is_same_device name) (take (min devices.count MOST_NAMED) devices.names)

-- devices, and one that is not named: it is, while there is room
abbrev pub with_new_device : Devices → ShownField → Devices
with_new_device devices name =
    if nat_le MOST_NAMED devices.count then record { names = devices.names; count = devices.count; more = true }
    else record { names = set devices.names devices.count name; count = devices.count + 1; more = devices.more }

-- devices, and one more row, which is of this one
abbrev pub with_device : Devices → ShownField → Devices
with_device devices name = if is_named devices name then devices else with_new_device devices name

-- devices, and one more row, on this line with its columns in these places, where no device is asked for
abbrev pub with_some_device : Option (List ℕ) → Devices → Columns → List ℕ → Devices
with_some_device None devices columns text = with_device devices (device_of columns text)
with_some_device (Some asked) devices columns text = devices

-- ## The line

-- there are two devices or more
abbrev pub are_several : Devices → Bool
are_several devices = nat_lt 1 devices.count

-- there are more than are named
abbrev pub more_devices : List ℕ
more_devices = decimal (MOST_NAMED + 1) ++ codes " or more"

-- how many there are
abbrev pub how_many_devices : Devices → List ℕ
how_many_devices devices = if devices.more then more_devices else decimal devices.count

-- the name of a device, in double quotes
abbrev pub named_device : Option ShownField → List ℕ
named_device None = []
named_device (Some name) = codes " \"" ++ (shown_text name ++ codes "\"")

-- the name of the device in this place, where there is one
abbrev pub device_text : Devices → ℕ → List ℕ
device_text devices place = if nat_le devices.count place then [] else named_device (slice_get devices.names place)

-- the names of the devices in so many places, from this one on
unfoldable pub devices_from : Devices → ℕ → ℕ → List ℕ
devices_from devices place zero = []
devices_from devices place (suc count) = device_text devices place ++ devices_from devices (suc place) count

-- the line of devices
abbrev pub devices_line : Devices → List ℕ
devices_line devices =
    codes "devices: " ++ (how_many_devices devices ++ (codes " in these rows:" ++ (devices_from devices 0 MOST_NAMED
    ++ codes " (name one by --device)\n")))

-- it is written where there are two or more
abbrev pub devices_text : Devices → List ℕ
devices_text devices = if are_several devices then devices_line devices else []
