use Rattle.std.proofs.Common.{◌≡◌, ◌<◌, ◌≤◌, ◌^◌, drop, length}
use Rattle.tsb_lines.specs.Words.{number_from}
use Rattle.tsb_lines.proofs.words.number.Given as goal

abbrev pub invariant-loop-byte : goal.invariant-loop-byte
invariant-loop-byte l = record {
  rest : number_from l.number (drop l.byte-index l.word) ≡ number_from 0 l.word;
  bound : l.number < 10 ^ l.byte-index;
  short : length l.word ≤ 10;
}
