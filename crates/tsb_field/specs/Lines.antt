-- The lines that the program writes of faults, each with its end.
use Rattle.std.specs.Prelude.{◌≡◌, ℕ, List, Option, Some, None, codes}
use Rattle.tsb_program.specs.tsb_lines.Seen.{Seen, Tells}
use Rattle.tsb_words.specs.Wrong.{Wrong, wrong_line}

-- how the program is used
abbrev pub usage : List ℕ
usage =
    codes "usage: tsb_field log --from TIME [--device ID] [--time-form FORM] [--zone OFFSET] [--count] [--allow-empty]\n          [--sort] [--sort-within SECONDS] [--as-outputs PLAN]\n          [--vehicle CHANNEL=DETECTOR].. [--pedestrian CHANNEL=DETECTOR].. [--preempt CHANNEL=INPUT]..\n    or tsb_field record --from TIME --device ID [--go-on] [--recalls] [--outputs] [--no-clock] PLAN LOG\n    or tsb_field events --from TIME --device ID [--log LOG]\n    or tsb_field diagram [--log LOG] [--title TEXT] [--seconds-per-line N] [--from TIME [--events FILE]]\n    or tsb_field review PLAN\n    or tsb_field schedule [--svg] --week DATE PLAN\n    or tsb_field worksheet PLAN\n    or tsb_field card [--against FILE] PLAN\n"

-- what is said of bad words that are near no right word: what is wrong with them, or else how the program is used
abbrev pub usage_for : Option Wrong → List ℕ
usage_for (Some wrong) = wrong_line wrong
usage_for None = usage

-- a tick that has no time is reported, as a fault of the words: with 2
abbrev pub TellsLate : ℕ → Seen → Seen → Type 0
TellsLate status told tells = (status ≡ 2) × Tells told tells (codes "events: past the year 9999\n")

-- a clock can't be set to the moment of `--from`, which is reported as a fault of the words: with 2
abbrev pub TellsNoClock : ℕ → Seen → Seen → Type 0
TellsNoClock status told tells =
    (status ≡ 2) × Tells told tells (codes "--from: a clock has the years 2000 to 2099 (give --no-clock for others)\n")
