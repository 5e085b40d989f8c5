use Rattle.std.proofs.Common.{codes}
use Rattle.clap.specs.Matches.{found_of}
use Rattle.tsb_words.proofs.OptionLemmas.{flag_is}
use Rattle.tsb_words.proofs.field_files.record_manner.Goals as goal

pub returns : goal.returns
returns c j = record {
  goes_on = flag_is (found_of c.args.options.now) (codes "go-on") _ _ c.get_str.ensures c.is_set.ensures j;
  recalls = flag_is (found_of c.args.options.now) (codes "recalls") _ _ c.get_str-2.ensures c.is_set-2.ensures j;
  outputs = flag_is (found_of c.args.options.now) (codes "outputs") _ _ c.get_str-3.ensures c.is_set-3.ensures j;
  no_clock = flag_is (found_of c.args.options.now) (codes "no-clock") _ _ c.get_str-4.ensures c.is_set-4.ensures j;
}
