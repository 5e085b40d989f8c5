use Rattle.std.proofs.Common.{◌≡◌, ◌∙◌, ◌<◌, ℕ, ◌+◌, ap, arith, length, refl, suc}
use Rattle.std.proofs.lemmas.List.{length-set}
use Rattle.tsb_plan.specs.PlanOf.{plan_of}
use Rattle.tsb_card.specs.Pairs.{is_permissive}
use Rattle.tsb_card.proofs.ChannelLemmas.{blank-rows, rows-all, rows-done, rows-left}
use Rattle.tsb_card.proofs.channels.card_of.Goals as goal

pub loop-place-init : goal.loop-place-init
loop-place-init c = record { full = refl; done = λ k below b. absurd (omega arith); left = λ k from b. blank-rows c.empty-rows.result c.empty-rows.ensures.none k b }

pub loop-place-preserved : goal.loop-place-preserved
loop-place-preserved c =
    let next : c.loop-place.place + 1 ≡ suc c.loop-place.place = omega arith in
    let within : c.loop-place.place < length c.loop-place.rows = omega (arith, c.loop-place.invariant.full) in
    record {
      full = length-set c.loop-place.rows c.from.result c.row_of.result ∙ c.loop-place.invariant.full;
      done = rows-done c.loop-place.rows c.loop-place.place c.from.result c.row_of.result c.from.ensures within (λ k b. is_permissive (plan_of c.args.plan.now) (suc k) b)
          (λ b. c.row_of.ensures b ∙ ap (λ (n : ℕ). is_permissive (plan_of c.args.plan.now) n b) next) c.loop-place.invariant.done;
      left = rows-left c.loop-place.rows c.loop-place.place c.from.result c.row_of.result c.from.ensures within c.loop-place.invariant.left;
    }

pub returns : goal.returns
returns c = rows-all (plan_of c.args.plan.now) _ c.loop-place.place (omega arith) c.loop-place.invariant.done c.loop-place.invariant.left
