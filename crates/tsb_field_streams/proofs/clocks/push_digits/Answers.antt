use Rattle.std.proofs.Common.{refl}
use Rattle.tsb_field_streams.proofs.RoomLemmas.{part}
use Rattle.tsb_field_streams.proofs.clocks.push_digits.Goals as goal

pub returns : goal.returns
returns c =
    part refl c.requires c.push.ensures.line
