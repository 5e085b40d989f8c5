-- What options say, by what the getters of `clap` answer.
use Rattle.std.proofs.Common.{◌≡◌, ◌∙◌, ℕ, Bool, List, Option, Some, None, [], ap, sym, codes, option_and_then, option_map, unwrap_or}
use Rattle.clap.specs.Matches.{first_value, matched_of, raw_values}
use Rattle.clap.specs.Walk.{Text, first_of, rows_of}
use Rattle.clap.specs.declared.parser.matches.Found.{Found}
use Rattle.clap.proofs.WalkLemmas.{first_value-rows, raw_values-rows}
use Rattle.tsb_event_text.specs.Times.{moment_of}
use Rattle.tsb_event_text.specs.declared.time_forms.TimeForm.{TimeForm}
use Rattle.tsb_event_text.specs.declared.times.Moment.{Moment}
use Rattle.tsb_event_text.specs.declared.zones.Zone.{Zone}
use Rattle.tsb_words.specs.declared.field_files.Manner.{Manner}
use Rattle.tsb_words.specs.declared.field_files.RecordManner.{RecordManner}
use Rattle.tsb_words.specs.FieldProgram.{card_in, card_with, diagram_in, diagram_with, events_in, events_with, form_said, from_said, is_set, log_in, log_with, manner_in, manner_with, moment_in, record_in, record_manner_in, record_with, review_in, review_with, schedule_in, schedule_with, seconds_said, texts_in, window_in, window_said, wires_in, worksheet_in, worksheet_with, zone_said}
use Rattle.tsb_field_log.specs.declared.inputs.Wire.{Wire}
use Rattle.tsb_words.specs.FieldWords.{Wish, log}

-- the first value of an option, as a getter answers it
pub first_is : (f : Found) (id : Text) (o : Option Text) → o ≡ first_value f id → first_of id (rows_of f) ≡ o
first_is f id o e = sym (first_value-rows f id) ∙ sym e

pub moment_none : (f : Found) → None ≡ first_value f (codes "from") → moment_in (rows_of f) ≡ None
moment_none f e = ap (option_and_then moment_of) (first_is f (codes "from") None e)

pub moment_some : (f : Found) (text : Text) → Some text ≡ first_value f (codes "from") → moment_in (rows_of f) ≡ moment_of text
moment_some f text e = ap (option_and_then moment_of) (first_is f (codes "from") (Some text) e)

-- what `record` asks for, by what the getters answer
pub getters_record : (f : Found) (asked : Option Wish) (from : Option Moment) (device plan file : Option Text) (manner : RecordManner)
    → from ≡ moment_in (rows_of f) → device ≡ first_value f (codes "device") → plan ≡ first_value f (codes "PLAN") → file ≡ first_value f (codes "LOG")
    → manner ≡ record_manner_in (rows_of f) → asked ≡ record_with from device plan file manner → asked ≡ record_in (rows_of f)
getters_record f asked from device plan file manner from-is device-is plan-is file-is manner-is is =
    let device-there : device ≡ first_of (codes "device") (rows_of f) = sym (first_is f (codes "device") device device-is) in
    let plan-there : plan ≡ first_of (codes "PLAN") (rows_of f) = sym (first_is f (codes "PLAN") plan plan-is) in
    let file-there : file ≡ first_of (codes "LOG") (rows_of f) = sym (first_is f (codes "LOG") file file-is) in
    is ∙ (λ j. record_with (from-is j) (device-there j) (plan-there j) (file-there j) (manner-is j))

-- a flag, as a getter answers it
pub flag_is : (f : Found) (id : Text) (o : Option Text) (b : Bool) → o ≡ first_value f id → b ≡ is_set o → b ≡ is_set (first_of id (rows_of f))
flag_is f id o b e set = set ∙ ap is_set (sym (first_is f id o e))

-- what `events` asks for
pub getters_events : (f : Found) (asked : Option Wish) (from : Option Moment) (device file flag : Option Text) (is_wide : Bool)
    → from ≡ moment_in (rows_of f) → device ≡ first_value f (codes "device") → file ≡ first_value f (codes "log") → flag ≡ first_value f (codes "wide") → is_wide ≡ is_set flag
    → asked ≡ events_with from device file is_wide → asked ≡ events_in (rows_of f)
getters_events f asked from device file flag is_wide from-is device-is file-is flag-is wide-is is =
    let device-there : device ≡ first_of (codes "device") (rows_of f) = sym (first_is f (codes "device") device device-is) in
    let file-there : file ≡ first_of (codes "log") (rows_of f) = sym (first_is f (codes "log") file file-is) in
    let wide-there : is_wide ≡ is_set (first_of (codes "wide") (rows_of f)) = flag_is f (codes "wide") flag is_wide flag-is wide-is in
    is ∙ (λ j. events_with (from-is j) (device-there j) (file-there j) (wide-there j))

-- and what `diagram` asks for
pub getters_diagram : (f : Found) (asked : Option Wish) (file flag title seconds from events : Option Text) (is_wide : Bool) (said : Option (Option ℕ)) (begun : Option (Option Moment))
    → file ≡ first_value f (codes "log") → flag ≡ first_value f (codes "wide") → is_wide ≡ is_set flag → title ≡ first_value f (codes "title") → seconds ≡ first_value f (codes "seconds-per-line")
    → from ≡ first_value f (codes "from") → events ≡ first_value f (codes "events") → said ≡ seconds_said seconds → begun ≡ from_said from
    → asked ≡ diagram_with file is_wide title said begun events → asked ≡ diagram_in (rows_of f)
getters_diagram f asked file flag title seconds from events is_wide said begun file-is flag-is wide-is title-is seconds-is from-is events-is said-is begun-is is =
    let file-there : file ≡ first_of (codes "log") (rows_of f) = sym (first_is f (codes "log") file file-is) in
    let wide-there : is_wide ≡ is_set (first_of (codes "wide") (rows_of f)) = flag_is f (codes "wide") flag is_wide flag-is wide-is in
    let title-there : title ≡ first_of (codes "title") (rows_of f) = sym (first_is f (codes "title") title title-is) in
    let said-there : said ≡ seconds_said (first_of (codes "seconds-per-line") (rows_of f)) =
    said-is ∙ ap seconds_said (sym (first_is f (codes "seconds-per-line") seconds seconds-is)) in
    let begun-there : begun ≡ from_said (first_of (codes "from") (rows_of f)) = begun-is ∙ ap from_said (sym (first_is f (codes "from") from from-is)) in
    let events-there : events ≡ first_of (codes "events") (rows_of f) = sym (first_is f (codes "events") events events-is) in
    is ∙ (λ j. diagram_with (file-there j) (wide-there j) (title-there j) (said-there j) (begun-there j) (events-there j))

-- and what `review` asks for
pub getters_review : (f : Found) (asked : Option Wish) (plan : Option Text) → plan ≡ first_value f (codes "PLAN") → asked ≡ review_with plan
    → asked ≡ review_in (rows_of f)
getters_review f asked plan plan-is is = is ∙ ap review_with (sym (first_is f (codes "PLAN") plan plan-is))

-- and what `schedule` asks for
pub getters_schedule : (f : Found) (asked : Option Wish) (plan week flag : Option Text) (svg : Bool) → plan ≡ first_value f (codes "PLAN")
    → week ≡ first_value f (codes "week") → flag ≡ first_value f (codes "svg") → svg ≡ is_set flag → asked ≡ schedule_with plan week svg → asked ≡ schedule_in (rows_of f)
getters_schedule f asked plan week flag svg plan-is week-is flag-is svg-is is =
    let plan-there : plan ≡ first_of (codes "PLAN") (rows_of f) = sym (first_is f (codes "PLAN") plan plan-is) in
    let week-there : week ≡ first_of (codes "week") (rows_of f) = sym (first_is f (codes "week") week week-is) in
    let svg-there : svg ≡ is_set (first_of (codes "svg") (rows_of f)) = flag_is f (codes "svg") flag svg flag-is svg-is in
    is ∙ (λ j. schedule_with (plan-there j) (week-there j) (svg-there j))

-- and what `worksheet` asks for
pub getters_worksheet : (f : Found) (asked : Option Wish) (plan : Option Text) → plan ≡ first_value f (codes "PLAN") → asked ≡ worksheet_with plan
    → asked ≡ worksheet_in (rows_of f)
getters_worksheet f asked plan plan-is is = is ∙ ap worksheet_with (sym (first_is f (codes "PLAN") plan plan-is))

-- and what `card` asks for
pub getters_card : (f : Found) (asked : Option Wish) (plan against : Option Text) → plan ≡ first_value f (codes "PLAN") → against ≡ first_value f (codes "against") → asked ≡ card_with plan against
    → asked ≡ card_in (rows_of f)
getters_card f asked plan against plan-is against-is is =
    let plan-there : plan ≡ first_of (codes "PLAN") (rows_of f) = sym (first_is f (codes "PLAN") plan plan-is) in
    let against-there : against ≡ first_of (codes "against") (rows_of f) = sym (first_is f (codes "against") against against-is) in
    is ∙ (λ j. card_with (plan-there j) (against-there j))

-- the values of an option, as a getter answers them
pub texts_is : (f : Found) (id : Text) (o : Option (List Text)) → o ≡ option_map raw_values (matched_of f id) → unwrap_or o [] ≡ texts_in id (rows_of f)
texts_is f id o e = ap (λ (p : Option (List Text)). unwrap_or p []) (e ∙ raw_values-rows f id)

-- how events are read and what is told of them, by what the getters answer
pub getters_manner : (f : Found) (found : Option Manner) (form zone sort within count empty : Option Text) (times : Option (Option TimeForm)) (zones : Option (Option Zone)) (sorts : Bool)
    (window : Option (Option ℕ)) (counts may_be_empty : Bool) → form ≡ first_value f (codes "time-form") → times ≡ form_said form → zone ≡ first_value f (codes "zone") → zones ≡ zone_said zone
    → sort ≡ first_value f (codes "sort") → sorts ≡ is_set sort → within ≡ first_value f (codes "sort-within") → window ≡ window_said sorts within
    → count ≡ first_value f (codes "count") → counts ≡ is_set count → empty ≡ first_value f (codes "allow-empty") → may_be_empty ≡ is_set empty
    → found ≡ manner_with times zones window counts may_be_empty → found ≡ manner_in (rows_of f)
getters_manner f found form zone sort within count empty times zones sorts window counts may_be_empty form-is times-is zone-is zones-is sort-is sorts-is within-is window-is count-is counts-is empty-is may-is is =
    let times-there : times ≡ form_said (first_of (codes "time-form") (rows_of f)) = times-is ∙ ap form_said (sym (first_is f (codes "time-form") form form-is)) in
    let zones-there : zones ≡ zone_said (first_of (codes "zone") (rows_of f)) = zones-is ∙ ap zone_said (sym (first_is f (codes "zone") zone zone-is)) in
    let sorts-there : sorts ≡ is_set (first_of (codes "sort") (rows_of f)) = sorts-is ∙ ap is_set (sym (first_is f (codes "sort") sort sort-is)) in
    let within-there : within ≡ first_of (codes "sort-within") (rows_of f) = sym (first_is f (codes "sort-within") within within-is) in
    let window-there : window ≡ window_in (rows_of f) = window-is ∙ (λ j. window_said (sorts-there j) (within-there j)) in
    let counts-there : counts ≡ is_set (first_of (codes "count") (rows_of f)) = counts-is ∙ ap is_set (sym (first_is f (codes "count") count count-is)) in
    let may-there : may_be_empty ≡ is_set (first_of (codes "allow-empty") (rows_of f)) = may-is ∙ ap is_set (sym (first_is f (codes "allow-empty") empty empty-is)) in
    is ∙ (λ j. manner_with (times-there j) (zones-there j) (window-there j) (counts-there j) (may-there j))

-- what `log` asks for
pub getters_log : (f : Found) (from : Moment) (device plan : Option Text) (manner : Manner) (wires : List Wire)
    → Some from ≡ moment_in (rows_of f) → device ≡ first_value f (codes "device") → Some manner ≡ manner_in (rows_of f) → wires_in (rows_of f) ≡ Some wires
    → plan ≡ first_value f (codes "as-outputs")
    → log_in (rows_of f) ≡ Some (log (record { from = from; device = device; wires = wires; manner = manner; as_outputs = plan }))
getters_log f from device plan manner wires from-is device-is manner-is wires-is plan-is =
    λ j. log_with (sym from-is j) (first_is f (codes "device") device device-is j) (sym manner-is j) (wires-is j) (first_is f (codes "as-outputs") plan plan-is j)
