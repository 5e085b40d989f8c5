use Rattle.std.proofs.Common.{◌≡◌, ℕ, ◌+◌, ◌-◌, ◌<◌, List, length, get_or, arith, ap, sym, ◌∙◌}
use Rattle.std.proofs.lemmas.List.{ext_get_or}
use Rattle.std.proofs.lemmas.List.Edits.{get_or-between, length-between}
use Rattle.std.specs.List.{between}
use Rattle.tsb_plan.specs.declared.object.TheConstants.{PLAN_CELLS}
use Rattle.tsb_controller.proofs.plan_changes.are_same.Goals as goal

pub returns : goal.returns
returns c =
    let first : ℕ = c.args.first in
    let end : ℕ = c.args.end in
    let own : List ℕ = c.args.before.now.values in
    let others : List ℕ = c.args.after.now.values in
    let long : (xs : List ℕ) → length xs ≡ PLAN_CELLS → length (between first end xs) ≡ end - first =
    λ xs full. length-between xs first end (let to = c.requires.to in omega (arith, full, to)) in
    let read : (xs : List ℕ) (k : ℕ) → first + k < end → get_or (between first end xs) k 0 ≡ get_or xs (first + k) 0 =
    λ xs k short. get_or-between xs first end k 0 short in (
      (λ same j since below.
          let k : ℕ = j - first in
          let place : first + k ≡ j = omega (arith, since) in
          let short : first + k < end = omega (arith, place, below) in
          ap (λ (n : ℕ). get_or own n 0) (sym place)
          ∙ sym (read own k short) ∙ ap (λ (xs : List ℕ). get_or xs k 0) (c.has_same_cells.ensures.0 same) ∙ read others k short
          ∙ ap (λ (n : ℕ). get_or others n 0) place),
      (λ each. c.has_same_cells.ensures.1
          (ext_get_or 0 (between first end own) (between first end others)
          (long own c.args.before.now.full ∙ sym (long others c.args.after.now.full))
          (λ k below.
          let size = long own c.args.before.now.full in
          let short : first + k < end = omega (arith, below, size) in
          read own k short ∙ each (first + k) (omega arith) short ∙ sym (read others k short)))),
    )
