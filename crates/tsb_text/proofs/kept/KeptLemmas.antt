-- What is kept of inputs is taken back with them.
use Rattle.std.proofs.Common.{◌≡◌, ◌∙◌, ℕ, ◌+◌, ◌<◌, ◌≤◌, Bool, true, false, List, [], ◌∷◌, ◌++◌, if◌then◌else◌, refl, sym, ap, arith, append-nil}
use Rattle.tsb_types.specs.Sets.{all_off, is_same_row}
use Rattle.tsb_types.specs.declared.row.Row.{Row}
use Rattle.tsb_log_text.specs.declared.log.LogRow.{LogRow}
use Rattle.tsb_step.specs.tsb_plan.Plan.{Plan}
use Rattle.tsb_step.specs.declared.inputs.Input.{Input}
use Rattle.tsb_step.specs.declared.inputs.Input.TheVariants.{Tick}
use Rattle.tsb_step.specs.Play.{back_to}
use Rattle.tsb_step.specs.Runs.{replay}
use Rattle.tsb_types.proofs.SetLemmas.{same-row}
use Rattle.tsb_step.proofs.ClearLemmas.{one_later}
use Rattle.tsb_text.specs.declared.kept.Other.{Other}
use Rattle.tsb_text.specs.kept.Kept.{DropsOther, IsNoTick, Keeping, gone_back, keeping, kept_of, last_row, new_rows, other_tick, row_behind, row_kept, with_row}
use Rattle.tsb_text.specs.Later.{row_tick, without_later}
use Rattle.tsb_text.proofs.BackLemmas.{back-at, no-less, same-now, undone-tick}
use Rattle.tsb_text.proofs.LaterLemmas.{AreBy, AreLater, by-none, by-more, later-none, later-more, by-append, by-stays, later-gone}

-- ## The last row

pub behind-last : (before : Row) (rows : List LogRow) (r : LogRow) → row_behind before (rows ++ r ∷ []) ≡ r.row
behind-last before [] r = refl
behind-last before (x ∷ xs) r = behind-last x.row xs r

pub row-added : (tick : ℕ) (row : Row) (kept : Keeping) → row_kept (with_row tick row kept) ≡ row
row-added tick row kept = go (is_same_row row (row_kept kept)) refl
  where
    go : (b : Bool) → is_same_row row (row_kept kept) ≡ b → row_behind all_off (kept.rows ++ (if b then [] else record { tick = tick; row = row } ∷ [])) ≡ row
    go true e = ap (row_behind all_off) (append-nil kept.rows) ∙ sym (same-row row (row_kept kept) e)
    go false e = behind-last all_off kept.rows (record { tick = tick; row = row })

pub kept-row : (plan : Plan) (is : List Input) → row_kept (kept_of plan is) ≡ last_row is
kept-row plan [] = refl
kept-row plan (Tick row ∷ is) = row-added ((replay plan is).now + 1) row (kept_of plan is)
kept-row plan (i ∷ is) = kept-row plan is

-- ## What came up to now

pub new-by : (t tick : ℕ) (row : Row) (kept : Keeping) → tick ≤ t → AreBy row_tick t (new_rows tick row kept)
new-by t tick row kept le = go (is_same_row row (row_kept kept))
  where
    go : (b : Bool) → AreBy row_tick t (if b then [] else record { tick = tick; row = row } ∷ [])
    go true = by-none
    go false = by-more (record { tick = tick; row = row }) [] le by-none

pub new-later : (t tick : ℕ) (row : Row) (kept : Keeping) → t < tick → AreLater row_tick t (new_rows tick row kept)
new-later t tick row kept lt = go (is_same_row row (row_kept kept))
  where
    go : (b : Bool) → AreLater row_tick t (if b then [] else record { tick = tick; row = row } ∷ [])
    go true = later-none
    go false = later-more (record { tick = tick; row = row }) [] lt later-none

-- an input that came with this tick in force
abbrev pub other : Plan → Input → List Input → Other
other plan i is = record { tick = (replay plan is).now; input = i }

-- nothing that is kept came later than the last tick
pub record IsBy (t : ℕ) (kept : Keeping) : Type 0 where
  pub rows : AreBy row_tick t kept.rows
  pub others : AreBy other_tick t kept.others

pub kept-by : (plan : Plan) (is : List Input) (t : ℕ) → (replay plan is).now ≤ t → IsBy t (kept_of plan is)
kept-by plan [] t le = record { rows = by-none; others = by-none }
kept-by plan (Tick row ∷ is) t le =
    let next : (replay plan (Tick row ∷ is)).now ≡ (replay plan is).now + 1 = one_later (replay plan is) row in
    let before : IsBy t (kept_of plan is) = kept-by plan is t (omega (arith, le, next)) in
    record {
      rows = by-append row_tick t (kept_of plan is).rows (new_rows ((replay plan is).now + 1) row (kept_of plan is)) before.rows (new-by t ((replay plan is).now + 1) row (kept_of plan is) (omega (arith, le, next)));
      others = before.others;
    }
kept-by plan (i ∷ is) t le =
    let less : (replay plan is).now ≤ (replay plan (i ∷ is)).now = no-less plan i is in
    let here : (replay plan is).now ≤ t = omega (arith, le, less) in
    let before : IsBy t (kept_of plan is) = kept-by plan is t here in
    record { rows = before.rows; others = by-append other_tick t (kept_of plan is).others (other plan i is ∷ []) before.others (by-more (other plan i is) [] here by-none) }

-- ## Taken back

kept-stays : (plan : Plan) (is : List Input) (t : ℕ) → (replay plan is).now ≤ t → gone_back t (kept_of plan is) ≡ kept_of plan is
kept-stays plan is t le =
    let all : IsBy t (kept_of plan is) = kept-by plan is t le in
    λ j. keeping (by-stays row_tick t (kept_of plan is).rows all.rows j) (by-stays other_tick t (kept_of plan is).others all.others j)

-- the newest input is later than a tick before it
newest-later : (plan : Plan) (t : ℕ) (i : Input) (is : List Input) → t ≤ (replay plan is).now → t < (replay plan (i ∷ is)).now → gone_back t (kept_of plan (i ∷ is)) ≡ gone_back t (kept_of plan is)
newest-later plan t (Tick row) is le lt =
    let rows : without_later row_tick t (kept_of plan (Tick row ∷ is)).rows ≡ without_later row_tick t (kept_of plan is).rows =
    later-gone row_tick t (kept_of plan is).rows (new_rows ((replay plan is).now + 1) row (kept_of plan is)) (new-later t ((replay plan is).now + 1) row (kept_of plan is) (omega (arith, le))) in
    λ j. keeping (rows j) (without_later other_tick t (kept_of plan is).others)
newest-later plan t i is le lt =
    let same : (replay plan (i ∷ is)).now ≡ (replay plan is).now = same-now (replay plan is) i tt in
    let here : t < (replay plan is).now = omega (arith, lt, same) in
    let others : without_later other_tick t (kept_of plan (i ∷ is)).others ≡ without_later other_tick t (kept_of plan is).others =
    later-gone other_tick t (kept_of plan is).others (other plan i is ∷ []) (later-more (other plan i is) [] here later-none) in
    λ j. keeping (without_later row_tick t (kept_of plan is).rows) (others j)

-- a tick is taken back by going back to the tick before it
pub tick-undone : (plan : Plan) (row : Row) (is : List Input) → gone_back (replay plan is).now (kept_of plan (Tick row ∷ is)) ≡ kept_of plan is
tick-undone plan row is = undone-tick plan (kept_of plan) gone_back (kept-stays plan) (newest-later plan) row is

pub gone-back : (plan : Plan) (t : ℕ) (is : List Input) → t ≤ (replay plan is).now → kept_of plan (back_to plan t is) ≡ gone_back t (kept_of plan is)
gone-back plan t is le = back-at plan (kept_of plan) gone_back (kept-stays plan) (newest-later plan) t is le

-- any other input as the last of them
pub record HasOther (plan : Plan) (i : Input) (is : List Input) : Type 0 where
  pub others : List Other
  pub o : Other
  pub last : (kept_of plan (i ∷ is)).others ≡ others ++ o ∷ []
  pub before : keeping (kept_of plan (i ∷ is)).rows others ≡ kept_of plan is

pub other-undone : (plan : Plan) (i : Input) (is : List Input) → IsNoTick i → HasOther plan i is
other-undone plan (Tick row) is none = absurd none
other-undone plan i is none = record { others = (kept_of plan is).others; o = other plan i is; last = refl; before = refl }

pub other-dropped : (plan : Plan) (i : Input) (is : List Input) (new : Keeping) → IsNoTick i → DropsOther (kept_of plan (i ∷ is)) new → new ≡ kept_of plan is
other-dropped plan i is new none drops =
    let has : HasOther plan i is = other-undone plan i is none in
    drops has.others has.o has.last ∙ has.before
