use Rattle.std.proofs.Common.{◌≡◌, ◌<◌, ◌≤◌, ◌^◌, drop, length}
use Rattle.tsb_log_text.specs.Rows.{list_in_digits}
use Rattle.tsb_log_text.proofs.DigitLemmas.{onto_list}
use Rattle.tsb_log_text.proofs.row_text.list.Given as goal

abbrev pub invariant-loop-digit : goal.invariant-loop-digit
invariant-loop-digit l = record {
  rest : onto_list l.list l.weight (list_in_digits (drop l.digit-index l.digits)) ≡ list_in_digits l.digits;
  power : l.weight ≡ 2 ^ l.digit-index;
  bound : l.list < l.weight;
  short : length l.digits ≤ 16;
}
