use Rattle.std.proofs.Common.{arith, refl}
use Rattle.tsb_field_streams.proofs.RoomLemmas.{part}
use Rattle.tsb_field_streams.proofs.fault_lines.push_words.Goals as goal

pub returns : goal.returns
returns c = record {
  few = part refl c.requires c.push.ensures.line;
  some = part refl (omega (arith, c.requires)) c.push.ensures.line;
  many = part refl (omega (arith, c.requires)) c.push.ensures.line;
}
