use Rattle.std.proofs.Common.{◌≡◌, None, subst}
use Rattle.tsb_bench.specs.Held.{state_of}
use Rattle.tsb_bench.specs.tsb_step.Following.{following}
use Rattle.tsb_bench.specs.tsb_step.Step.{step}
use Rattle.tsb_text.specs.Obeyed.{OnCourse}
use Rattle.tsb_text.proofs.FollowLemmas.{none-by-other, none-by-tick}
use Rattle.tsb_text.proofs.course.Course.may_follow.Goals as goal

pub returns-in-Tick-clause-none : goal.returns-in-Tick-clause-none
returns-in-Tick-clause-none c is on =
    subst (λ (v : OnCourse). following (state_of v.bench) (step (state_of v.bench) c.args.input.now) ≡ None) c.self.view_is
    (none-by-tick (state_of c.self.inside.bench) c.args.input.now _ c.in-Tick.is (c.ends_minute.ensures is))

pub returns-in_default : goal.returns-in_default
returns-in_default c = record {
  none = λ is on. none-by-other (state_of c.args.self.now.bench) c.args.input.now c.in_default.not-Tick c.in_default.not-Clock c.in_default.not-Commit;
  acts = λ is. absurd (cc);
}
