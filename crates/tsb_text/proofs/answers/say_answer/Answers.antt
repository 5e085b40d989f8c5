use Rattle.std.proofs.Common.{◌≡◌, ◌∙◌, ℕ, List, subst}
use Rattle.tsb_bench.specs.Held.{state_of}
use Rattle.tsb_dialog.specs.Said.{SaidUntilFault, with_feed}
use Rattle.tsb_dialog.proofs.SaidLemmas.{until-line}
use Rattle.tsb_text.specs.Answers.{line_in}
use Rattle.tsb_text.proofs.answers.say_answer.Goals as goal

pub returns-in-Moved-clause-said : goal.returns-in-Moved-clause-said
returns-in-Moved-clause-said g c =
    let shown : c.as_bytes.result.now ≡ line_in c.args.course.now.is_wide (state_of c.args.course.now.bench) =
    c.as_bytes.ensures ∙ c.line_text-line.ensures.line ∙ (λ j. line_in (c.is_wide.ensures j) (state_of (c.bench-in-Moved.ensures j))) in
    rw c.in-Moved.is (subst (λ (l : List ℕ). SaidUntilFault c.say-in-Moved.result (g.W.Write.contents c.args.writer.now.device) (g.W.Write.contents c.say-in-Moved.new.writer.device) c.args.pending.now c.say-in-Moved.new.self (with_feed l)) shown
    (until-line c.say-in-Moved.result _ _ _ _ (with_feed c.as_bytes.result.now) c.say-in-Moved.ensures.ok c.say-in-Moved.ensures.fault))
