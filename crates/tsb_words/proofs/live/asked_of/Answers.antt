use Rattle.std.proofs.Common.{None, Option, ap, codes, sym}
use Rattle.clap.specs.Matches.{found_of}
use Rattle.clap.specs.Walk.{Text}
use Rattle.tsb_words.specs.LiveProgram.{wish_with}
use Rattle.tsb_words.proofs.LiveLemmas.{asks-live}
use Rattle.tsb_words.proofs.OptionLemmas.{first_is}
use Rattle.tsb_words.proofs.live.asked_of.Goals as goal

pub returns-in_default : goal.returns-in_default
returns-in_default c = λ is_strict set.
    sym (ap (λ (o : Option Text). wish_with o is_strict) (first_is (found_of c.args.matches.now) (codes "PLAN") None c.in_default.ensures))

pub returns : goal.returns
returns c = λ is_strict set.
    sym (asks-live (found_of c.args.matches.now) c.in-Some.plan.now c.get_flag-is_strict.result is_strict c.in-Some.ensures
    c.get_flag-is_strict.ensures.value c.get_flag-is_strict.ensures.other set)
