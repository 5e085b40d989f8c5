use Rattle.std.proofs.Common.{◌≡◌, ◌+◌, ◌*◌, ◌<◌, ◌≤◌, ◌^◌, drop, length}
use Rattle.tsb_field_display.specs.Reading.{list_with}
use Rattle.tsb_field_display.proofs.reading.heads_with.Given as goal

-- what is read so far, and what the further letters make
abbrev pub invariant-loop-found : goal.invariant-loop-found
invariant-loop-found l = record {
  rest : l.list + l.weight * list_with l.letter (drop l.found-index l.letters) ≡ list_with l.letter l.letters;
  power : l.weight ≡ 2 ^ l.found-index;
  bound : l.list < l.weight;
  short : length l.letters ≤ 16;
}
