use Rattle.std.proofs.Common.{◌∙◌, ◌&&◌, sym}
use Rattle.std.proofs.lemmas.Bool.{and_from}
use Rattle.tsb_heads.specs.Overlaps.{is_kept_green}
use Rattle.tsb_overlap.specs.declared.parts.OverlapInterval.TheVariants.{Green}
use Rattle.tsb_overlap.specs.Overlap.{standing, may_be_kept}
use Rattle.tsb_overlap.proofs.PartLemmas.{then-part}
use Rattle.tsb_overlap.proofs.trail.settled.Goals as goal

pub returns-then-is_kept : goal.returns-then-is_kept
returns-then-is_kept c = λ plan given o kept preempted.
    then-part (may_be_kept c.args.part.now.interval && is_kept_green plan given.shown o) c.args.now (standing Green) _ c.standing.result
    (and_from _ _ (sym c.may_be_kept.ensures ∙ c.if-may_be_kept.true) (sym kept ∙ c.if-is_kept.true)) (c.standing.ensures c.args.now)
