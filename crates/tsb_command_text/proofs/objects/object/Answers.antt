use Rattle.std.proofs.Common.{◌∙◌, ◌==◌, ◌&&◌, nat_le, sym, arith}
use Rattle.tsb_command_text.proofs.ObjectLemmas.{among}
use Rattle.tsb_command_text.proofs.objects.object.Goals as goal

pub returns-in-14 : goal.returns-in-14
returns-in-14 c = c.of_14.ensures ∙ sym (among (λ n. n == 14) c.args.word.now (grind (arith, c.in-14.is)))

pub returns-in-17 : goal.returns-in-17
returns-in-17 c = c.of_17.ensures ∙ sym (among (λ n. n == 17) c.args.word.now (grind (arith, c.in-17.is)))

pub returns-in-20 : goal.returns-in-20
returns-in-20 c = c.of_20.ensures ∙ sym (among (λ n. n == 20) c.args.word.now (grind (arith, c.in-20.is)))

pub returns-in-0-to-11 : goal.returns-in-0-to-11
returns-in-0-to-11 c = c.up_to_11.ensures ∙ sym (among (λ n. nat_le n 11) c.args.word.now (grind (arith, c.in-0-to-11)))

pub returns-in-12-to-13 : goal.returns-in-12-to-13
returns-in-12-to-13 c = c.of_12_or_13.ensures ∙ sym (among (λ n. nat_le 12 n && nat_le n 13) c.args.word.now (grind (arith, c.in-12-to-13)))

pub returns-in-15-to-16 : goal.returns-in-15-to-16
returns-in-15-to-16 c = c.of_15_or_16.ensures ∙ sym (among (λ n. nat_le 15 n && nat_le n 16) c.args.word.now (grind (arith, c.in-15-to-16)))

pub returns-in-18-to-19 : goal.returns-in-18-to-19
returns-in-18-to-19 c = c.of_18_or_19.ensures ∙ sym (among (λ n. nat_le 18 n && nat_le n 19) c.args.word.now (grind (arith, c.in-18-to-19)))

pub returns-in-21-to-22 : goal.returns-in-21-to-22
returns-in-21-to-22 c = c.of_21_or_22.ensures ∙ sym (among (λ n. nat_le 21 n && nat_le n 22) c.args.word.now (grind (arith, c.in-21-to-22)))

pub returns-in_default : goal.returns-in_default
returns-in_default c = c.from_23.ensures ∙ sym (among (λ n. nat_le 23 n) c.args.word.now (grind (arith, c.in_default)))
