-- The pages that words ask for: the version of a program, or how it or a subcommand is used.
use Rattle.std.specs.Prelude.{ℕ, List, [], ◌∷◌, drop, Option, Some, None, if◌then◌else◌, codes, bytes_eq}
use Rattle.clap.specs.Walk.{Text}
use Rattle.tsb_words.specs.declared.pages.texts.TheConstants as texts

-- the version of `tsb_live`
abbrev pub live_version : List ℕ
live_version = codes "tsb_live 1.0.0\n"

-- the version of `tsb_field`
abbrev pub field_version : List ℕ
field_version = codes "tsb_field 1.0.0\n"

-- the version, or how the program is used, where this word asks for one of them
abbrev pub general_page : List ℕ → List ℕ → Text → Option (List ℕ)
general_page version help word =
    if bytes_eq word (codes "--version") then Some version
    else (if bytes_eq word (codes "--help") then Some help else None)

-- how the subcommand of this name is used, if there is one
abbrev pub subcommand_page : Text → Option (List ℕ)
subcommand_page name =
    if bytes_eq name (codes "log") then Some texts.LOG_HELP.now
    else (if bytes_eq name (codes "record") then Some texts.RECORD_HELP.now
    else (if bytes_eq name (codes "events") then Some texts.EVENTS_HELP.now
    else (if bytes_eq name (codes "diagram") then Some texts.DIAGRAM_HELP.now
    else (if bytes_eq name (codes "review") then Some texts.REVIEW_HELP.now
    else (if bytes_eq name (codes "schedule") then Some texts.SCHEDULE_HELP.now
    else (if bytes_eq name (codes "worksheet") then Some texts.WORKSHEET_HELP.now
    else (if bytes_eq name (codes "card") then Some texts.CARD_HELP.now else None)))))))

-- the same, where this option asks for it
abbrev pub help_page : Text → Text → Option (List ℕ)
help_page name option = if bytes_eq option (codes "--help") then subcommand_page name else None

-- the page that words of `tsb_live` after its name ask for
abbrev pub live_asked : List Text → Option (List ℕ)
live_asked (word ∷ []) = general_page live_version texts.LIVE_HELP.now word
live_asked words = None

-- the page that words of `tsb_live` ask for
abbrev pub live_page : List Text → Option (List ℕ)
live_page words = live_asked (drop 1 words)

-- the page that words of `tsb_field` after its name ask for
abbrev pub field_asked : List Text → Option (List ℕ)
field_asked (word ∷ []) = general_page field_version texts.FIELD_HELP.now word
field_asked (word ∷ option ∷ []) = help_page word option
field_asked words = None

-- the page that words of `tsb_field` ask for
abbrev pub field_page : List Text → Option (List ℕ)
field_page words = field_asked (drop 1 words)
