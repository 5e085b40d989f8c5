-- The tables of a checked plan that are of a pattern that runs, or of free operation.
use Rattle.std.specs.Prelude.{◌≡◌, ℕ, ◌+◌, ◌-◌, ◌*◌, ◌%◌, ◌<◌, ◌≤◌, ◌==◌, nat_lt, max, Bool, true, if◌then◌else◌, List, Option, Some, None, slice_index}
use Rattle.tsb_plan.specs.Parts.{cycle, is_used, unless_zero}
use Rattle.tsb_plan.specs.Plan.{Plan}
use Rattle.tsb_plan.specs.Running.{is_coordinated_now, is_omitted_now, is_on_minimum_recall, is_on_maximum_recall, is_on_pedestrian_recall}
use Rattle.tsb_objects.specs.declared.pattern_tables.PatternQuestion.{PatternQuestion}
use Rattle.tsb_objects.specs.declared.pattern_tables.PatternQuestion.TheVariants.{Coordinated, Omitted, MinimumRecall, MaximumRecall, PedestrianRecall, PedestrianRecycle}
use Rattle.tsb_objects.specs.declared.pattern_tables.PatternTables.{PatternTables}
use Rattle.tsb_objects.specs.Instants.{force_off, late_end, counted_on, yields_for, may_recycle, waiting_point, offset_in_effect}
use Rattle.tsb_types.specs.Sets.{names}

-- what is asked of phase p while a pattern runs, or in free operation
abbrev pub is_so : PatternQuestion → Plan → Option ℕ → ℕ → Bool
is_so Coordinated plan runs p = is_coordinated_now plan runs p
is_so Omitted plan runs p = is_omitted_now plan runs p
is_so MinimumRecall plan runs p = is_on_minimum_recall plan runs p
is_so MaximumRecall plan runs p = is_on_maximum_recall plan runs p
is_so PedestrianRecall plan runs p = is_on_pedestrian_recall plan runs p
is_so PedestrianRecycle plan runs p = may_recycle plan runs p

-- word 0 is of free operation, word n of pattern n; each is the list of the phases that pass
abbrev pub AreInEffect : Plan → PatternQuestion → List ℕ → Type 0
AreInEffect plan asked words =
    (k p : ℕ) → k < 17 → 1 ≤ p → p ≤ 16 → names (slice_index words k) p ≡ is_so asked plan (unless_zero k) p

-- an instant as a word has it: one that is no local counter means none
abbrev pub never : ℕ
never = 65535

-- any other word is the instant itself, in tenths of a second on the local counter
abbrev pub instant_in : ℕ → Option ℕ
instant_in word = if word == never then None else Some word

-- words 16 (n - 1) to 16 (n - 1) + 15 are of pattern n, one for each phase
abbrev pub AreInstants : Plan → List ℕ → Type 0
AreInstants plan words =
    (n p : ℕ) → 1 ≤ n → n ≤ 16 → 1 ≤ p → p ≤ 16 → is_used plan n ≡ true →
    instant_in (slice_index words (16 * (n - 1) + (p - 1))) ≡ force_off plan (Some n) p

-- a late end in a cycle of m, counted on from instant i; 0 where there is none
abbrev pub late_until : ℕ → ℕ → Option ℕ → ℕ
late_until m i None = 0
late_until m i (Some e) = counted_on m i e

-- the tick of the local counter after the last one at which a cycle of m forces a phase off, counted on past the cycle.
-- The phase has this instant, this late end and this permissive time; 0 without an instant, as none is below it
abbrev pub end_behind : ℕ → Option ℕ → Option ℕ → ℕ → ℕ
end_behind m None late time = 0
end_behind m (Some i) late time = max (i + time + 1) (late_until m i late)

-- the end of a permissive time, as the words of a coordinated phase have it in a cycle of m: the end is more than a
-- tick after the instant
abbrev pub permissive_end_in : ℕ → ℕ → ℕ → Option ℕ
permissive_end_in m word end = if nat_lt (word + 1) end then Some (end % m) else None

-- words in the order of the instants
abbrev pub AreEnds : Plan → List ℕ → Type 0
AreEnds plan words =
    (n p : ℕ) → 1 ≤ n → n ≤ 16 → 1 ≤ p → p ≤ 16 → is_used plan n ≡ true →
    slice_index words (16 * (n - 1) + (p - 1)) ≡ end_behind (cycle plan n) (force_off plan (Some n) p) (late_end plan (Some n) p) (yields_for plan n p)

-- a word for each pattern: where it waits
abbrev pub AreWaitingPoints : Plan → List ℕ → Type 0
AreWaitingPoints plan words =
    (n : ℕ) → 1 ≤ n → n ≤ 16 → is_used plan n ≡ true → slice_index words (n - 1) ≡ waiting_point plan n

-- a word for each pattern: the offset at which its local counter is 0
abbrev pub AreOffsets : Plan → List ℕ → Type 0
AreOffsets plan words =
    (n : ℕ) → 1 ≤ n → n ≤ 16 → is_used plan n ≡ true → slice_index words (n - 1) ≡ offset_in_effect plan n

-- six tables of lists and four of ticks, so that no tick has to search the plan for them
pub record ArePatternTables (plan : Plan) (tables : PatternTables) : Type 0 where
  pub coordinated : AreInEffect plan Coordinated tables.coordinated
  pub omitted : AreInEffect plan Omitted tables.omitted
  pub minimum_recall : AreInEffect plan MinimumRecall tables.minimum_recall
  pub maximum_recall : AreInEffect plan MaximumRecall tables.maximum_recall
  pub pedestrian_recall : AreInEffect plan PedestrianRecall tables.pedestrian_recall
  pub pedestrian_recycle : AreInEffect plan PedestrianRecycle tables.pedestrian_recycle
  pub instants : AreInstants plan tables.instants
  pub ends : AreEnds plan tables.ends
  pub waiting_points : AreWaitingPoints plan tables.waiting_points
  pub offsets : AreOffsets plan tables.offsets
