use Rattle.tsb_field_display.proofs.StreamLemmas.{end_wanting, read_end}
use Rattle.tsb_field_display.proofs.stream.DisplayStream.finish.Goals as goal

pub returns-in_default : goal.returns-in_default
returns-in_default c is_wide failed input left reads going end = end_wanting is_wide failed input left c.args.self reads going

pub returns : goal.returns
returns c is_wide failed input left reads going end = read_end is_wide failed input left c.args.self c.end_line.new.self reads going end c.in-Ok.ensures
