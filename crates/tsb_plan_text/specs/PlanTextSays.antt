-- What a plan that was read says, in words that look each number up and do not retrace how a text is read.
use Rattle.std.specs.Prelude.{◌≡◌, ◌≢◌, ℕ, true, List, Option, Some, option_and_then}
use Rattle.std.specs.Fmt.{decimal}
use Rattle.serde_json.specs.Data.{Data, Members}
use Rattle.serde_json.specs.Find.{get_member, as_object}
use Rattle.tsb_plan.specs.declared.object.Object.{Object}
use Rattle.tsb_plan.specs.declared.version.Version.{Version}
use Rattle.tsb_plan.specs.Names.{name_of}
use Rattle.tsb_plan.specs.Plan.{Plan}
use Rattle.tsb_plan.specs.Versions.{has_index_in, translated}
use Rattle.tsb_objects.specs.tsb_types.Lists.{or_number}
use Rattle.tsb_plan_text.specs.PlanText.{data_of, version_in, whole_number}

-- the number that a table has at an index, if it has one
abbrev pub number_at : ℕ → Members → Option ℕ
number_at i table = option_and_then whole_number (get_member (decimal i) table)

-- and that a text has for an object at an index
abbrev pub number_for : Members → Object → ℕ → Option ℕ
number_for members o i = option_and_then (number_at i) (option_and_then as_object (get_member (name_of o) members))

-- what the plan has at each index, by the members of a text of version v
pub record SaysThese (v : Version) (members : Members) (plan : Plan) : Type 0 where
  -- at an index of the version stands the number that the text has under the object's name and the index, or 0
  pub there : (o : Object) (i : ℕ) → has_index_in v o i ≡ true → plan.value o (translated v o i) ≡ or_number (number_for members o i) 0
  -- and anywhere else 0
  pub elsewhere : (o : Object) (k : ℕ) → ((i : ℕ) → has_index_in v o i ≡ true → translated v o i ≢ k) → plan.value o k ≡ 0

-- the text is a JSON object that tells a version, and the plan says what its members say
pub record Says (text : List ℕ) (plan : Plan) : Type 0 where
  pub value : Data
  pub members : Members
  pub version : Version
  pub is_json : data_of text ≡ Some value
  pub is_table : as_object value ≡ Some members
  pub tells : version_in members ≡ Some version
  pub these : SaysThese version members plan
