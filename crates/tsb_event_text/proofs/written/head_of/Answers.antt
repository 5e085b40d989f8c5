use Rattle.std.proofs.Common.{◌∙◌, List, ℕ, ◌++◌, ap, subst, sym}
use Rattle.tsb_event_text.specs.Times.{moment_of}
use Rattle.tsb_event_text.specs.Events.{IsPlain}
use Rattle.tsb_event_text.proofs.EventLemmas.{head-plain}
use Rattle.tsb_event_text.proofs.WrittenLemmas.{head-read}
use Rattle.tsb_event_text.proofs.written.head_of.Goals as goal

pub returns-clause-plain : goal.returns-clause-plain
returns-clause-plain c = subst IsPlain (sym c.time_head.ensures) (head-plain c.date_of-year.result.0 c.date_of-year.result.1 c.date_of-year.result.2 c.args.second)

pub returns-clause-read : goal.returns-clause-read
returns-clause-read c = λ ds.
    let b = c.date_of-year.ensures in
    ap (λ (head : List ℕ). moment_of (head ++ ds)) c.time_head.ensures
    ∙ head-read c.date_of-year.result.0 c.date_of-year.result.1 c.date_of-year.result.2 c.args.second c.args.days ds b.small.0 b.small.1 b.small.2 c.requires.second b.day b.number
