-- NAMES THAT A LATER VERSION OF PLAN TEXTS HAS, and the one that a text says it is of has not.
use Rattle.std.specs.Prelude.{ℕ, ◌==◌, if◌then◌else◌, List, [], ◌++◌, Option, Some, None, codes, bytes_eq, option_and_then}
use Rattle.json.specs.Find.{get}
use Rattle.json.specs.Json.{Json}
use Rattle.tsb_plan.specs.declared.object.Object.{Object}
use Rattle.tsb_plan.specs.declared.version.Version.{Version}
use Rattle.tsb_plan.specs.declared.version.Version.TheVariants.{One, Two, Three}
use Rattle.tsb_plan.specs.Objects.{indices, since}
use Rattle.tsb_plan.specs.Versions.{range_in}
use Rattle.tsb_plan.specs.declared.object.Range.{Range}
use Rattle.tsb_plan_notes.specs.Parts.{whole_of}

-- the version that has a number
abbrev pub numbered : ℕ → Option Version
numbered n = if n == 1 then Some One else if n == 2 then Some Two else if n == 3 then Some Three else None

-- the version that a text says it is of: by its last member `version`
abbrev pub version_of : Json → Option Version
version_of d = option_and_then numbered (option_and_then whole_of (get (codes "version") d))

-- since which version there is a name: since that of its object, where it has one; notes since the third
abbrev pub since_of : Option Object → List ℕ → Version
since_of (Some o) name = since o
since_of None name = if bytes_eq name (codes "notes") then Three else One

-- what a line says of a name that there is since a version, where the text is of an earlier one
abbrev pub newer_end : Option Version → Version → Option (List ℕ)
newer_end (Some One) Two = Some (codes ": version 2 has it, and this text is of version 1\n")
newer_end (Some One) Three = Some (codes ": version 3 has it, and this text is of version 1\n")
newer_end (Some Two) Three = Some (codes ": version 3 has it, and this text is of version 2\n")
newer_end v since = None

-- how many indices a range has, or else so many
abbrev pub indices_or : Option Range → ℕ → ℕ
indices_or None n = n
indices_or (Some range) n = range.indices

-- how many indices an object has in a text of this version: where the version has no such object, as many as in the newest
abbrev pub indices_noted : Option Version → Object → ℕ
indices_noted None o = indices o
indices_noted (Some Three) o = indices o
indices_noted (Some v) o = indices_or (range_in Two o) (indices o)

-- the line of a name with this end, where it has one
abbrev pub newer_line : List ℕ → Option (List ℕ) → List ℕ
newer_line name None = []
newer_line name (Some end) = name ++ end

-- of a member of a text of this version, with the object that it names
abbrev pub newer_note : Option Version → Option Object → List ℕ → List ℕ
newer_note v o name = newer_line name (newer_end v (since_of o name))
