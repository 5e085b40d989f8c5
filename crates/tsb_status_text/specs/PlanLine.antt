-- The line of a plan: one plan text, without spaces and without a line feed, of version 2 or, where that has not all its
-- objects, indices and values, of version 3. `version` comes first, then each object that is not all zeros, in the order of the
-- table of objects, and of each object the indices at which it is not 0, in ascending order. So what differs between two
-- plans is all that differs between their lines.
use Rattle.std.specs.List.{list_all}
use Rattle.std.specs.Prelude.{ℕ, ◌==◌, Bool, ◌&&◌, ◌||◌, nat_le, if◌then◌else◌, List, [], ◌∷◌, codes, decimal}
use Rattle.json.specs.Json.{Json, number, object, Members, no_members, member}
use Rattle.json.specs.Print.{print}
use Rattle.json.specs.Tree.{json_tokens}
use Rattle.tsb_plan.specs.declared.object.Object.{Object}
use Rattle.tsb_plan.specs.declared.version.Version.{Version}
use Rattle.tsb_plan.specs.declared.version.Version.TheVariants.{Two, Three}
use Rattle.tsb_plan.specs.Names.{name_of}
use Rattle.tsb_plan.specs.Objects.{objects, indices}
use Rattle.tsb_plan.specs.Plan.{Plan}
use Rattle.tsb_plan.specs.Versions.{greatest_in, has_index_in, number_of}
use Rattle.tsb_objects.specs.tsb_types.Lists.{run_from}

-- the value at an index before other members, unless it is 0
abbrev pub with_entry : ℕ → ℕ → Members → Members
with_entry i v rest = if v == 0 then rest else member (decimal i) (number (decimal v)) rest

-- the values of an object at these indices
abbrev pub entries : Plan → Object → List ℕ → Members
entries plan o [] = no_members
entries plan o (i ∷ is) = with_entry i (plan.value o i) (entries plan o is)

-- the table of an object
unfoldable pub table : Plan → Object → Members
table plan o = entries plan o (run_from 1 (indices o))

-- the object is 0 at each of its indices
unfoldable pub is_all_zeros : Plan → Object → Bool
is_all_zeros plan o = list_all (λ i. plan.value o i == 0) (run_from 1 (indices o))

-- an object with its table before other members, unless it is all zeros
unfoldable pub with_object : Plan → Object → Members → Members
with_object plan o rest = if is_all_zeros plan o then rest else member (name_of o) (object (table plan o)) rest

-- these objects
abbrev pub members_of : Plan → List Object → Members
members_of plan [] = no_members
members_of plan (o ∷ os) = with_object plan o (members_of plan os)

-- version 2 has the object at the index, up to its value there
abbrev pub is_of_version_2 : Plan → Object → ℕ → Bool
is_of_version_2 plan o i = has_index_in Two o i && nat_le (plan.value o i) (greatest_in Two o)

-- version 2 has each index at which the object is not 0, up to its value there
unfoldable pub fits_version_2 : Plan → Object → Bool
fits_version_2 plan o = list_all (λ i. plan.value o i == 0 || is_of_version_2 plan o i) (run_from 1 (indices o))

-- the version of the text: version 2, unless this has not the index of a value that is not 0, or not the value
unfoldable pub version_for : Plan → Version
version_for plan = if list_all (fits_version_2 plan) objects then Two else Three

-- the plan as JSON
unfoldable pub plan_json : Plan → Json
plan_json plan = object (member (codes "version") (number (decimal (number_of (version_for plan)))) (members_of plan objects))

-- the line of a plan, without its end
unfoldable pub plan_text : Plan → List ℕ
plan_text plan = print (json_tokens (plan_json plan))
