use Rattle.std.proofs.Common.{◌∙◌, ◌++◌, List, ℕ, ap, ap₂, sym, subst, append-nil, Bool}
use Rattle.tsb_controller.specs.Layer.{rows_of as rows_of_layers}
use Rattle.tsb_controller.specs.Rows.{Rows, AreBy, state_of}
use Rattle.tsb_bench.specs.Cabinet.{forgotten_if}
use Rattle.tsb_bench.proofs.InputLemmas.{no-changes}
use Rattle.tsb_bench.proofs.desk_inputs.forget_if.Goals as goal

pub returns-then-not-forgets-clause-changes : goal.returns-then-not-forgets-clause-changes
returns-then-not-forgets-clause-changes c =
    sym (append-nil c.args.out.now.items) ∙ ap (λ (es : List (ℕ × ℕ)). c.args.out.now.items ++ es) (sym (no-changes (rows_of_layers c.args.controller.now)))

pub returns-clause-state : goal.returns-clause-state
returns-clause-state c now b =
    ap (state_of now b) c.close_onto.ensures.rows
    ∙ c.forget.ensures.state now b
    ∙ ap₂ (λ (f : Bool) (r : Rows). forgotten_if f (state_of now b r)) (sym c.if-not-forgets.false) c.open.ensures.rows

pub returns-clause-by : goal.returns-clause-by
returns-clause-by c now by =
    subst (AreBy now) (sym c.close_onto.ensures.rows) (c.forget.ensures.by now (subst (AreBy now) (sym c.open.ensures.rows) by))
