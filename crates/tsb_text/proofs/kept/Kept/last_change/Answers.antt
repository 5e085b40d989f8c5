use Rattle.std.proofs.Common.{◌∙◌, ap}
use Rattle.tsb_types.specs.Sets.{all_off}
use Rattle.tsb_text.specs.kept.Changed.{change_in}
use Rattle.tsb_log_text.specs.RowInputs.{value_of}
use Rattle.tsb_text.specs.kept.Kept.{Keeping}
use Rattle.tsb_text.proofs.kept.ChangeLemmas.{kept-change}
use Rattle.tsb_text.proofs.kept.Kept.last_change.Goals as goal

-- src/kept/changed.rt:40:5
pub returns : goal.returns
returns c plan inputs is =
    c.change_in.ensures
    ∙ ap (change_in (value_of c.args.which) all_off) (c.rows.ensures ∙ ap (λ (k : Keeping). k.rows) is)
    ∙ kept-change (value_of c.args.which) plan inputs
