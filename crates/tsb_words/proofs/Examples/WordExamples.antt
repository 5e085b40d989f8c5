-- Words and what they ask for, computed.
use Rattle.std.proofs.Common.{◌≡◌, true, false, List, [], ◌∷◌, Option, Some, None, option_map, refl, codes}
use Rattle.clap.specs.Walk.{Text}
use Rattle.clap.proofs.OnLiterals.{clap_on_literals}
use Rattle.tsb_words.specs.FieldProgram.{wish_of}
use Rattle.tsb_event_text.specs.Times.{moment_of}
use Rattle.tsb_words.specs.declared.field_files.RecordManner.{RecordManner}
use Rattle.tsb_words.specs.FieldWords.{Wish, card, diagram, recording, reviewing, weekly, worksheet}

-- these words after the program's name
abbrev given : List Text → List Text
given words = codes "tsb_field" ∷ words

-- `diagram --title=A --seconds-per-line 60`
diagram-words : wish_of (given (codes "diagram" ∷ codes "--title=A" ∷ codes "--seconds-per-line" ∷ codes "60" ∷ [])) ≡ Some (diagram None false (Some (codes "A")) (Some 60) None None)
unfolding clap_on_literals
diagram-words = refl

-- of wide display lines
wide-words : wish_of (given (codes "diagram" ∷ codes "--wide" ∷ [])) ≡ Some (diagram None true None None None None)
unfolding clap_on_literals
wide-words = refl

-- events of a diagram need a moment
no-moment : wish_of (given (codes "diagram" ∷ codes "--events=a.csv" ∷ [])) ≡ None
unfolding clap_on_literals
no-moment = refl

-- a line of no seconds
no-seconds : wish_of (given (codes "diagram" ∷ codes "--seconds-per-line=0" ∷ [])) ≡ None
unfolding clap_on_literals
no-seconds = refl

-- `events` needs a device
no-device : wish_of (given (codes "events" ∷ codes "--from=2026-11-22T07:00:00" ∷ [])) ≡ None
unfolding clap_on_literals
no-device = refl

-- a value that begins with a hyphen stands after `=`
with-hyphen : wish_of (given (codes "diagram" ∷ codes "--title=-A" ∷ [])) ≡ Some (diagram None false (Some (codes "-A")) None None None)
unfolding clap_on_literals
with-hyphen = refl

apart : wish_of (given (codes "diagram" ∷ codes "--title" ∷ codes "-A" ∷ [])) ≡ None
unfolding clap_on_literals
apart = refl

-- `review` has a plan, and no log
review-words : wish_of (given (codes "review" ∷ codes "a.plan" ∷ [])) ≡ Some (reviewing (codes "a.plan"))
unfolding clap_on_literals
review-words = refl

no-plan : wish_of (given (codes "review" ∷ [])) ≡ None
unfolding clap_on_literals
no-plan = refl

two-files : wish_of (given (codes "review" ∷ codes "a.plan" ∷ codes "a.log" ∷ [])) ≡ None
unfolding clap_on_literals
two-files = refl

-- `schedule` has a plan and the first day of a week, which is one that there is
schedule-words : wish_of (given (codes "schedule" ∷ codes "--week=2026-11-22" ∷ codes "a.plan" ∷ [])) ≡ Some (weekly (codes "a.plan") 8493120000 false)
unfolding clap_on_literals
schedule-words = refl

-- a flag asks for a picture of it
picture-words : wish_of (given (codes "schedule" ∷ codes "--week=2026-11-22" ∷ codes "--svg" ∷ codes "a.plan" ∷ [])) ≡ Some (weekly (codes "a.plan") 8493120000 true)
unfolding clap_on_literals
picture-words = refl

no-week : wish_of (given (codes "schedule" ∷ codes "a.plan" ∷ [])) ≡ None
unfolding clap_on_literals
no-week = refl

no-such-day : wish_of (given (codes "schedule" ∷ codes "--week=2026-02-29" ∷ codes "a.plan" ∷ [])) ≡ None
unfolding clap_on_literals
no-such-day = refl

-- `worksheet` has a plan
worksheet-words : wish_of (given (codes "worksheet" ∷ codes "a.plan" ∷ [])) ≡ Some (worksheet (codes "a.plan"))
unfolding clap_on_literals
worksheet-words = refl

no-worksheet : wish_of (given (codes "worksheet" ∷ [])) ≡ None
unfolding clap_on_literals
no-worksheet = refl

-- `card` has a plan, and may have a card to compare with its own
card-words : wish_of (given (codes "card" ∷ codes "a.plan" ∷ [])) ≡ Some (card (codes "a.plan") None)
unfolding clap_on_literals
card-words = refl

card-against : wish_of (given (codes "card" ∷ codes "--against=b.txt" ∷ codes "a.plan" ∷ [])) ≡ Some (card (codes "a.plan") (Some (codes "b.txt")))
unfolding clap_on_literals
card-against = refl

no-card : wish_of (given (codes "card" ∷ [])) ≡ None
unfolding clap_on_literals
no-card = refl

-- `record` needs a plan and a log
no-log : wish_of (given (codes "record" ∷ codes "--from=2026-11-22T07:00:00" ∷ codes "--device=7" ∷ codes "a.plan" ∷ [])) ≡ None
unfolding clap_on_literals
no-log = refl

-- and is strict, unless a flag says that it goes on
abbrev record_of : List Text → Option Wish
record_of more = wish_of (given (codes "record" ∷ codes "--from=2026-11-22T07:00:00" ∷ codes "--device=7" ∷ codes "a.plan" ∷ codes "a.log" ∷ more))

abbrev record_wished : RecordManner → Option Wish
record_wished manner = option_map (λ from. recording from (codes "7") (codes "a.plan") (codes "a.log") manner) (moment_of (codes "2026-11-22T07:00:00"))

abbrev usual : RecordManner
usual = record { goes_on = false; recalls = false; outputs = false; no_clock = false }

strict : record_of [] ≡ record_wished usual
unfolding clap_on_literals moment_of
strict = refl

goes-on : record_of (codes "--go-on" ∷ []) ≡ record_wished (record usual { goes_on = true })
unfolding clap_on_literals moment_of
goes-on = refl

-- two flags more say what its events are
of-recalls : record_of (codes "--recalls" ∷ []) ≡ record_wished (record usual { recalls = true })
unfolding clap_on_literals moment_of
of-recalls = refl

of-outputs : record_of (codes "--outputs" ∷ []) ≡ record_wished (record usual { outputs = true })
unfolding clap_on_literals moment_of
of-outputs = refl

-- and one that no clock is set
without-clock : record_of (codes "--no-clock" ∷ []) ≡ record_wished (record usual { no_clock = true })
unfolding clap_on_literals moment_of
without-clock = refl

-- it has no value, and comes once
with-value : record_of (codes "--go-on=true" ∷ []) ≡ None
unfolding clap_on_literals
with-value = refl

twice : record_of (codes "--go-on" ∷ codes "--go-on" ∷ []) ≡ None
unfolding clap_on_literals
twice = refl
