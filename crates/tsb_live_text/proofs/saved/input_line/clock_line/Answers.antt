use Rattle.std.proofs.Common.{rules, ◌≡◌, ◌∷◌, ◌++◌, ◌%◌, true, codes, List, ℕ, refl, subst, sym}
use Rattle.tsb_types.specs.declared.clock_time.TheConstants.{DAY}
use Rattle.tsb_text.specs.tsb_step.declared.inputs.Input.TheVariants as inputs
use Rattle.tsb_command_text.specs.clock.ClockText.{date_of, date_text, time_text}
use Rattle.tsb_live_text.specs.saved.Saved.{input_line}
use Rattle.tsb_live_text.specs.saved.Says.{are_plain}
use Rattle.tsb_live_text.proofs.saved.PlainLemmas.{date-plain, plain-join, time-plain}
use Rattle.tsb_live_text.proofs.saved.input_line.clock_line.Goals as goal

pub returns-clause-plain : goal.returns-clause-plain
returns-clause-plain c =
    let same : c.try_extend_from_slice-3.new.self.items ≡ input_line (inputs.Clock c.args.time) = search rules in
    subst (λ (v : List ℕ). are_plain v ≡ true) (sym same)
    (plain-join (codes "clock ") (date_text (date_of c.args.time) ++ 32 ∷ time_text (c.args.time % DAY)) refl (plain-join (date_text (date_of c.args.time)) (32 ∷ time_text (c.args.time % DAY)) (date-plain (date_of c.args.time)) (time-plain (c.args.time % DAY))))
