-- The lines of a worksheet: the longest entry of each preempt, and what each used pattern gives the phases that it serves.
use Rattle.std.specs.Prelude.{ℕ, ◌-◌, ◌/◌, ◌%◌, nat_le, if◌then◌else◌, List, [], ◌∷◌, ◌++◌, codes, decimal, flat_map, Option, Some, None}
use Rattle.tsb_types.specs.Lists.{run_from}
use Rattle.tsb_plan.specs.Parts.{preempt_delay}
use Rattle.tsb_plan.specs.Plan.{Plan}
use Rattle.tsb_review.specs.Worksheet.{entry_of, share_of}
use Rattle.tsb_review.specs.declared.worksheet.SplitShare.{SplitShare}

-- a time in tenths of a second, as seconds with their tenth: 28.0
abbrev pub time_text : ℕ → List ℕ
time_text tenths = decimal (tenths / 10) ++ 46 ∷ decimal (tenths % 10)

-- ## Preempts

-- the line of preempt n with this delay and this longest entry, with its line feed
abbrev pub entry_line : ℕ → ℕ → ℕ → List ℕ
entry_line n delay entry =
    codes "preempt " ++ (decimal n ++ (codes ": delay " ++ (time_text delay ++ (codes " s, longest entry " ++ (time_text entry ++ codes " s\n")))))

-- where there is one
abbrev pub entry_line_in : Plan → ℕ → Option ℕ → List ℕ
entry_line_in plan n None = []
entry_line_in plan n (Some entry) = entry_line n (preempt_delay plan n) entry

-- the line of preempt n, and nothing where it is never served
abbrev pub preempt_text : Plan → ℕ → List ℕ
preempt_text plan n = entry_line_in plan n (entry_of plan n)

-- ## Patterns

-- what a green has over a time, with a minus where it has less
abbrev pub margin_text : ℕ → ℕ → List ℕ
margin_text green time = if nat_le time green then time_text (green - time) else 45 ∷ time_text (time - green)

-- the force-off instant, where there is one
abbrev pub force_off_text : Option ℕ → List ℕ
force_off_text None = []
force_off_text (Some instant) = codes " s, force-off at " ++ time_text instant

-- walk and clearance, where there is a crossing, and what this green has over them
abbrev pub crossing_text : ℕ → Option ℕ → List ℕ
crossing_text green None = []
crossing_text green (Some time) = codes " s, walk and clearance " ++ (time_text time ++ (codes " s, margin " ++ margin_text green time))

-- the line of phase p in pattern n, which has this share, with its line feed
abbrev pub share_line : ℕ → ℕ → SplitShare → List ℕ
share_line n p share =
    codes "pattern " ++ (decimal n ++ (codes ", phase " ++ (decimal p ++ (codes ": split " ++ (time_text share.split ++ (codes " s, green " ++ (time_text share.green
    ++ (force_off_text share.force_off ++ (crossing_text share.green share.crossing ++ codes " s\n")))))))))

-- where there is one
abbrev pub share_line_in : ℕ → ℕ → Option SplitShare → List ℕ
share_line_in n p None = []
share_line_in n p (Some share) = share_line n p share

-- the line of phase p in pattern n, and nothing where this does not serve it
abbrev pub share_text : Plan → ℕ → ℕ → List ℕ
share_text plan n p = share_line_in n p (share_of plan n p)

-- those of all phases of pattern n
unfoldable pub pattern_text : Plan → ℕ → List ℕ
pattern_text plan n = flat_map (share_text plan n) (run_from 1 16)

-- ## The whole

-- the lines of preempts
unfoldable pub preempts_text : Plan → List ℕ
preempts_text plan = flat_map (preempt_text plan) (run_from 1 plan.counts.preempts)

-- those of patterns
unfoldable pub patterns_text : Plan → List ℕ
patterns_text plan = flat_map (pattern_text plan) (run_from 1 16)

-- THE WORKSHEET of a plan
unfoldable pub worksheet_text : Plan → List ℕ
worksheet_text plan = preempts_text plan ++ patterns_text plan
