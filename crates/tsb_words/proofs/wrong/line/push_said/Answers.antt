use Rattle.std.proofs.Common.{arith, refl}
use Rattle.tsb_words.proofs.RoomLemmas.{part}
use Rattle.tsb_words.proofs.wrong.line.push_said.Goals as goal

pub returns : goal.returns
returns c = record {
  some = part refl c.requires c.push.ensures.line;
  many = part refl (omega (arith, c.requires)) c.push.ensures.line;
}
