use Rattle.std.proofs.Common.{◌≡◌, true, Bool, not, ◌&&◌, sym, ◌∙◌, ap, rules}
use Rattle.tsb_types.specs.Sets.{has_number}
use Rattle.tsb_preempt.proofs.preempts.Preempts.is_settled.Goals as goal

pub returns : goal.returns
returns c = λ inside now.
    let following : c.has_delays.result ≡ true = search rules in
    record {
      delays = c.has_delays.ensures following now;
      spent = λ n. ap (λ (b : Bool). b && not (has_number c.args.inputs n)) (sym (c.list.ensures n)) ∙ c.is_within.ensures inside n;
    }
