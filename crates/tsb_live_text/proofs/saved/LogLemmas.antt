-- The saved log is read as the rows that are kept.
use Rattle.std.proofs.Common.{◌≡◌, ◌+◌, ◌≤◌, Bool, true, false, List, [], ◌∷◌, ◌++◌, if◌then◌else◌, sym, subst, arith, append-nil}
use Rattle.json.proofs.Printed.Trees.{document-print}
use Rattle.tsb_text.specs.tsb_types.Sets.{is_same_row}
use Rattle.tsb_text.specs.tsb_types.declared.limits.TheConstants.{TICKS}
use Rattle.tsb_text.specs.tsb_step.tsb_plan.Plan.{Plan}
use Rattle.tsb_step.specs.declared.inputs.Input.{Input}
use Rattle.tsb_step.specs.declared.inputs.Input.TheVariants.{Tick}
use Rattle.tsb_step.specs.Runs.{replay}
use Rattle.tsb_step.proofs.ClearLemmas.{one_later}
use Rattle.tsb_log_text.specs.ListText.{AreListed, IsListed}
use Rattle.tsb_log_text.specs.declared.log.LogRow.{LogRow}
use Rattle.tsb_log_text.proofs.WrittenLemmas.{form-read-back}
use Rattle.tsb_text.specs.kept.Kept.{kept_of, row_kept}
use Rattle.tsb_text.proofs.BackLemmas.{no-less}
use Rattle.tsb_text.proofs.kept.LawLemmas.{kept-rise}
use Rattle.tsb_live_text.specs.saved.Laws.{AreFit, SavedTextsAreJson, LogsAreRead}
use Rattle.tsb_live_text.specs.saved.Saved.{saved_json, saved_text}

pub saved-are-json : SavedTextsAreJson
unfolding saved_text
saved-are-json kept now = document-print (saved_json kept now) (tt, (tt, tt)) (omega arith)

one-more : (rs : List LogRow) (r : LogRow) → AreListed rs → IsListed r → AreListed (rs ++ r ∷ [])
one-more [] r all is = (is, tt)
one-more (x ∷ xs) r all is = (all.0, one-more xs r all.1 is)

kept-rows : (plan : Plan) (is : List Input) → AreFit is → (replay plan is).now ≤ TICKS → AreListed (kept_of plan is).rows
kept-rows plan [] fit le = tt
kept-rows plan (Tick row ∷ is) fit le =
    let next : (replay plan (Tick row ∷ is)).now ≡ (replay plan is).now + 1 = one_later (replay plan is) row in
    go (is_same_row row (row_kept (kept_of plan is))) (kept-rows plan is fit.1 (omega (arith, le, next)))
  where
    go : (b : Bool) → AreListed (kept_of plan is).rows → AreListed ((kept_of plan is).rows ++ (if b then [] else record { tick = (replay plan is).now + 1; row = row } ∷ []))
    go true before = subst AreListed (sym (append-nil (kept_of plan is).rows)) before
    go false before =
        let next : (replay plan (Tick row ∷ is)).now ≡ (replay plan is).now + 1 = one_later (replay plan is) row in
        one-more (kept_of plan is).rows (record { tick = (replay plan is).now + 1; row = row }) before (record { from_one = omega arith; within = omega (arith, le, next); vehicles = fit.0.vehicles; pedestrians = fit.0.pedestrians; preempts = fit.0.preempts })
kept-rows plan (i ∷ is) fit le =
    let less : (replay plan is).now ≤ (replay plan (i ∷ is)).now = no-less plan i is in
    kept-rows plan is fit (omega (arith, le, less))

pub logs-read : LogsAreRead
logs-read plan is fit le short = form-read-back (kept_of plan is).rows (kept-rows plan is fit le) (kept-rise plan is) short
