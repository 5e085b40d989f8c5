-- What holds of the versions of plan texts and of the names in them, in words that do not retrace how an index is
-- translated or a name is found. Each law here is the contract of a function in src/version_laws.rt.
use Rattle.std.specs.Prelude.{◌≡◌, ◌≢◌, ℕ, ◌+◌, ◌-◌, ◌*◌, ◌≤◌, true}
use Rattle.tsb_plan.specs.declared.object.Object.{Object}
use Rattle.tsb_plan.specs.declared.object.Object.TheVariants.{SequenceData, OverlapType}
use Rattle.tsb_plan.specs.declared.version.Version.{Version}
use Rattle.tsb_plan.specs.declared.version.TheConstants.Version.{NEWEST}
use Rattle.tsb_plan.specs.declared.version.Version.TheVariants.{One, Two}
use Rattle.tsb_plan.specs.Names.{name_of}
use Rattle.tsb_plan.specs.Objects.{has_index, greatest}
use Rattle.tsb_plan.specs.Plan.{all_counts, narrow_counts}
use Rattle.tsb_plan.specs.Versions.{has_object, has_index_in, is_split, number_of, indices_by, indices_in, greatest_in, translated}

-- a translated index is one that the object has
abbrev pub TranslateWithin : Type 0
TranslateWithin = (v : Version) (o : Object) (i : ℕ) → has_index_in v o i ≡ true → has_index o (translated v o i) ≡ true

-- no two indices of an object are translated to one
abbrev pub TranslateApart : Type 0
TranslateApart = (v : Version) (o : Object) (i k : ℕ) → has_index_in v o i ≡ true → has_index_in v o k ≡ true →
    translated v o i ≡ translated v o k → i ≡ k

-- a value that the version lets the object take is one that it takes
abbrev pub TakeNoOther : Type 0
TakeNoOther = (v : Version) (o : Object) (x : ℕ) → has_object v o ≡ true → x ≤ greatest_in v o → x ≤ greatest o

-- version 1 has the object at index i, which becomes index k
pub record Becomes (o : Object) (i k : ℕ) : Type 0 where
  pub has : has_index_in One o i ≡ true
  pub at : translated One o i ≡ k

-- phase p of split table t, of 8 tables with 8 phases each
abbrev pub KeepSplits : Type 0
KeepSplits = (o : Object) (t p : ℕ) → is_split o ≡ true → 1 ≤ t → t ≤ 8 → 1 ≤ p → p ≤ 8 →
    Becomes o (8 * (t - 1) + p) (16 * (t - 1) + p)

-- place k of ring r in sequence s, of 4 sequences of 2 rings with 8 places each
abbrev pub KeepPlaces : Type 0
KeepPlaces = (s r k : ℕ) → 1 ≤ s → s ≤ 4 → 1 ≤ r → r ≤ 2 → 1 ≤ k → k ≤ 8 →
    Becomes SequenceData (16 * (s - 1) + 8 * (r - 1) + k) (32 * (s - 1) + 16 * (r - 1) + k)

-- an object of one version that has its indices and its values in another, each index at the same one of a plan
pub record StaysAsIn (v w : Version) (o : Object) : Type 0 where
  pub there : has_object w o ≡ true
  pub indices : indices_in v o ≤ indices_in w o
  pub values : greatest_in v o ≤ greatest_in w o
  pub at : (i : ℕ) → translated w o i ≡ translated v o i

-- version 3 has what version 2 has, as it has it
abbrev pub KeepVersion2 : Type 0
KeepVersion2 = (o : Object) → has_object Two o ≡ true → StaysAsIn Two NEWEST o

-- the two give each object the same values, but that overlaps are of no type 2 in version 2
pub record DifferInTypes : Type 0 where
  pub others : (o : Object) → o ≢ OverlapType → greatest_in NEWEST o ≡ greatest_in Two o
  pub two : greatest_in Two OverlapType ≡ 1
  pub newest : greatest_in NEWEST OverlapType ≡ 2

-- the two have the same indices, except that version 2 has 16 and 8 detectors, 4 overlaps and 4 preempts
pub record GoByCounts (o : Object) : Type 0 where
  pub two : indices_in Two o ≡ indices_by narrow_counts o
  pub newest : indices_in NEWEST o ≡ indices_by all_counts o

-- versions 2 and 3 have the same indices, except for the counts of detectors, overlaps and preempts
abbrev pub DifferInCounts : Type 0
DifferInCounts = (o : Object) → GoByCounts o

-- no version has an object that a later one has not
abbrev pub LoseNoObject : Type 0
LoseNoObject = (v w : Version) (o : Object) → number_of v ≤ number_of w → has_object v o ≡ true → has_object w o ≡ true

-- two objects of one name are one
abbrev pub AreToldByName : Type 0
AreToldByName = (o p : Object) → name_of o ≡ name_of p → o ≡ p
