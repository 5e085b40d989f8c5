-- No text is too large but by its length.
use Rattle.std.proofs.Common.{nat_le, ltb-true, subst, if◌then◌else◌, ◌≡◌, ℕ, ◌<◌, Bool, true, false, List, length, Option, Some, None, Result, Ok, Err, nat_lt, arith, refl, codes, bytes_eq}
use Rattle.serde_json.specs.Data.{Data, Members, no_members, member}
use Rattle.tsb_objects.specs.Checked.{checked_plan}
use Rattle.tsb_objects.specs.declared.checked.Checked.{Checked}
use Rattle.tsb_objects.specs.tsb_rules.Rules.{first_broken}
use Rattle.tsb_objects.specs.tsb_rules.declared.rules.Rule.{Rule}
use Rattle.tsb_plan.specs.declared.object.Object.{Object}
use Rattle.tsb_plan.specs.declared.version.Version.{Version}
use Rattle.serde_json.specs.Find.{as_object, as_str}
use Rattle.tsb_plan.specs.Names.{object_named}
use Rattle.tsb_plan.specs.Versions.{greatest_in, indices_in, translated}
use Rattle.tsb_plan.specs.Plan.{Plan, empty, with_value}
use Rattle.tsb_plan_text.specs.declared.error.PlanError.{PlanError}
use Rattle.tsb_plan_text.specs.declared.error.PlanError.TheVariants.{TooLarge}
use Rattle.tsb_plan_text.specs.PlanErrors.{Gives, Error, too_large, not_json, not_a_table, no_version, no_such_object, object_not_a_table, no_such_index, not_a_whole_number, out_of_range, notes_not_a_table, note_not_a_text, broken}
use Rattle.tsb_plan_text.specs.PlanText.{limit, or_fault, then_on, data_of, index_named, whole_number, version_in, with_entry, with_table, with_object, is_notes, noted, with_notes, with_member, with_members, data_plan, unless_broken, checked, reading}

-- it is not the fault of a text that is too large
abbrev is_later : Error → Bool
is_later too_large = false
is_later f = true

Later : Result Plan Error → Type 0
Later r = r ≡ Err too_large → ⊥

later_err : (f : Error) → is_later f ≡ true → Later (Err f)
unfolding Later
later_err f l e = grind (arith, l, e)

later_or : {A : Type 0} (o : Option A) (f : Error) (next : A → Result Plan Error) → is_later f ≡ true → ((x : A) → Later (next x)) → Later (or_fault o f next)
later_or None f next l h = later_err f l
later_or (Some x) f next l h = h x

later_then : (r : Result Plan Error) (next : Plan → Result Plan Error) → Later r → ((p : Plan) → Later (next p)) → Later (then_on r next)
unfolding Later
later_then (Ok p) next l h = h p
later_then (Err f) next l h = λ e. l (grind (arith, e))

later_ok : (p : Plan) → Later (Ok p)
unfolding Later
later_ok p e = absurd (grind (arith, e))

within : (p : Plan) (f : Error) → is_later f ≡ true → (b : Bool) → Later (if b then Ok p else Err f)
within p f l true = later_ok p
within p f l false = later_err f l

entry_later : (v : Version) (o : Object) (text : List ℕ) (d : Data) (p : Plan) → Later (with_entry v o text d p)
unfolding with_entry
entry_later v o text d p =
    later_or (index_named (indices_in v o) text) (no_such_index o text) _ refl
    (λ i. later_or (whole_number d) (not_a_whole_number o text) _ refl
    (λ n. within (with_value p o (translated v o i) n) (out_of_range o text) refl (nat_le n (greatest_in v o))))

table_later : (v : Version) (o : Object) (ms : Members) (p : Plan) → Later (with_table v o ms p)
table_later v o no_members p = later_ok p
table_later v o (member text d rest) p = later_then _ _ (entry_later v o text d p) (λ q. table_later v o rest q)

either : (r s : Result Plan Error) → Later r → Later s → (b : Bool) → Later (if b then r else s)
either r s one other true = one
either r s one other false = other

object_later : (v : Version) (name : List ℕ) (d : Data) (p : Plan) → Later (with_object v name d p)
unfolding with_object
object_later v name d p =
    later_or (object_named v name) (no_such_object name) _ refl
    (λ o. later_or (as_object d) (object_not_a_table o) _ refl (λ table. table_later v o table p))

texts_later : (ms : Members) (p : Plan) → Later (noted ms p)
texts_later no_members p = later_ok p
texts_later (member name d rest) p = later_or (as_str d) (note_not_a_text name) _ refl (λ text. texts_later rest p)

notes_later : (d : Data) (p : Plan) → Later (with_notes d p)
unfolding with_notes
notes_later d p = later_or (as_object d) notes_not_a_table _ refl (λ table. texts_later table p)

member_later : (v : Version) (name : List ℕ) (d : Data) (p : Plan) → Later (with_member v name d p)
unfolding with_member
member_later v name d p =
    either (Ok p) _ (later_ok p) (either (with_notes d p) (with_object v name d p) (notes_later d p) (object_later v name d p) (is_notes v name))
    (bytes_eq name (codes "version"))

members_later : (v : Version) (ms : Members) (p : Plan) → Later (with_members v ms p)
members_later v no_members p = later_ok p
members_later v (member name d rest) p = later_then _ _ (member_later v name d p) (λ q. members_later v rest q)

data_later : (d : Data) → Later (data_plan d)
unfolding data_plan
data_later d = later_or (as_object d) not_a_table _ refl (λ ms. later_or (version_in ms) no_version _ refl (λ v. members_later v ms empty))

unbroken : (p : Plan) (r : Option Rule) → Later (unless_broken r p)
unbroken p None = later_ok p
unbroken p (Some r) = later_err (broken r) refl

checked_later : (p : Plan) → Later (checked p)
unfolding checked
checked_later p = unbroken p (first_broken p)

long : (b : Bool) (r : Result Plan Error) → Later r → (if b then Err too_large else r) ≡ Err too_large → b ≡ true
unfolding Later
long true r l e = refl
long false r l e = absurd (l e)

-- the one text that is too large is one over the limit
pub too_large_is_long : (text : List ℕ) → reading text ≡ Err too_large → limit < length text
unfolding reading
too_large_is_long text e =
    let later = later_or (data_of text) not_json (λ d. then_on (data_plan d) checked) refl (λ d. later_then _ _ (data_later d) checked_later) in
    ltb-true _ _ (long (nat_lt limit (length text)) _ later e)

-- and so is what was answered to it
pub answered_too_large : (r : Result Checked PlanError) (text : List ℕ) → Gives checked_plan r (reading text) → r ≡ Err TooLarge → limit < length text
answered_too_large r text h e = too_large_is_long text (subst (λ (s : Result Checked PlanError). Gives checked_plan s (reading text)) e h)
