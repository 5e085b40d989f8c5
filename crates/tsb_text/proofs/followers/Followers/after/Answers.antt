use Rattle.std.proofs.Common.{◌∙◌, ◌∷◌, Option, ap}
use Rattle.tsb_bench.specs.Held.{state_of}
use Rattle.tsb_bench.specs.tsb_step.Following.{one_or_none, with_omits}
use Rattle.tsb_bench.specs.tsb_step.declared.inputs.Input.{Input}
use Rattle.tsb_bench.specs.tsb_step.declared.inputs.Input.TheVariants.{Pattern}
use Rattle.tsb_text.proofs.FollowLemmas.{next-some}
use Rattle.tsb_text.proofs.followers.Followers.after.Goals as goal

pub returns-in-None : goal.returns-in-None
returns-in-None c = c.none.ensures ∙ ap (with_omits (state_of c.args.bench.now)) c.in-None.ensures

pub returns-in-Some : goal.returns-in-Some
returns-in-Some c =
    next-some c.in-Some.pattern c.omitted.result ∙ ap (λ (i : Option Input). Pattern c.in-Some.pattern ∷ one_or_none i) c.omitted.ensures
    ∙ ap (with_omits (state_of c.args.bench.now)) c.in-Some.ensures
