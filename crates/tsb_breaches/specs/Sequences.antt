-- What of a sequence breaks a rule (profile): K6 and K7. The numbers are those of a sequence, of a ring, and of one of the
-- 16 places that a sequence has for a ring. What a place lists is 0 for no phase.
use Rattle.std.specs.Prelude.{ℕ, ◌+◌, ◌-◌, ◌==◌, nat_lt, Bool, not, ◌&&◌, List, Option, drop, if◌then◌else◌, is_some, slice_index}
use Rattle.tsb_types.specs.Lists.{among, first}
use Rattle.tsb_plan.specs.Plan.{Plan, is_enabled, ring_of, side_of, sequence}
use Rattle.tsb_rules.specs.SequenceRules.{is_blank}

-- what sequence s lists for ring r at place k
abbrev pub listed : Plan → ℕ → ℕ → ℕ → ℕ
listed plan s r k = slice_index (sequence plan s r) (k - 1)

-- what it lists behind that place
abbrev pub behind : Plan → ℕ → ℕ → ℕ → List ℕ
behind plan s r k = drop k (sequence plan s r)

-- a phase is listed that is not enabled
abbrev pub lists_unused : Plan → ℕ → ℕ → ℕ → Bool
lists_unused plan s r k = not (listed plan s r k == 0) && not (is_enabled plan (listed plan s r k))

-- an enabled phase is listed that is not of the ring
abbrev pub lists_other_ring : Plan → ℕ → ℕ → ℕ → Bool
lists_other_ring plan s r k =
    not (listed plan s r k == 0) && (is_enabled plan (listed plan s r k) && not (ring_of plan (listed plan s r k) == r))

-- the phase that is listed comes again behind it
abbrev pub lists_again : Plan → ℕ → ℕ → ℕ → Bool
lists_again plan s r k = not (listed plan s r k == 0) && among (listed plan s r k) (behind plan s r k)

-- q is a phase of a lower side
abbrev pub is_lower : Plan → ℕ → ℕ → Bool
is_lower plan side q = not (q == 0) && nat_lt (side_of plan q) side

-- the first phase behind it that is of a lower side than what is listed
abbrev pub lower_behind : Plan → ℕ → ℕ → ℕ → Option ℕ
lower_behind plan s r k = first (is_lower plan (side_of plan (listed plan s r k))) (behind plan s r k)

-- there is one
abbrev pub falls : Plan → ℕ → ℕ → ℕ → Bool
falls plan s r k = is_some (lower_behind plan s r k)

-- what is listed at the next place; 0 behind the last
abbrev pub listed_next : Plan → ℕ → ℕ → ℕ → ℕ
listed_next plan s r k = if nat_lt k 16 then listed plan s r (k + 1) else 0

-- no phase is listed, and one is at the next place
abbrev pub leaves_gap : Plan → ℕ → ℕ → ℕ → Bool
leaves_gap plan s r k = listed plan s r k == 0 && not (listed_next plan s r k == 0)

-- p is an enabled phase of the ring, and is not listed
abbrev pub is_missing : Plan → ℕ → ℕ → ℕ → Bool
is_missing plan s r p = is_enabled plan p && (ring_of plan p == r && not (among p (sequence plan s r)))

-- K6 asks that of sequence 1
abbrev pub is_first : ℕ → Bool
is_first s = s == 1

-- K7 asks it of each other sequence that is not all zeros
abbrev pub is_other : Plan → ℕ → Bool
is_other plan s = nat_lt 1 s && not (is_blank plan s)
