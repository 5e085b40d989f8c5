use Rattle.std.proofs.Common.{rules, take}
use Rattle.tsb_field_display.proofs.StreamLemmas.{going_on, read_failed, read_wanting}
use Rattle.tsb_field_display.proofs.stream.DisplayStream.take_read.Goals as goal

pub returns-in-Err : goal.returns-in-Err
returns-in-Err g c is_wide input reads going = read_failed is_wide _ _ input _ _ c.args.self.now reads going c.in-Err.ensures.bytes c.in-Err.ensures.blame

pub returns-in_default : goal.returns-in_default
returns-in_default g c is_wide input reads going = read_wanting is_wide _ _ input _ _ c.args.self.now reads (take c.in-Ok.count c.read_once.new.room) going c.in-Ok.ensures.bytes.0 c.in-Ok.ensures.well

pub returns : goal.returns
returns g c is_wide input reads going =
    going_on is_wide _ _ input _ _ c.args.self.now c.feed_all.new.self reads c.in-Ok.count (take c.in-Ok.count c.read_once.new.room) going c.in-Ok.ensures.well c.in-Ok.ensures.bytes.0
    c.in-Ok-feed_all.ensures (search rules) (λ none. c.in-Ok.ensures.bytes.1 none (search rules))
