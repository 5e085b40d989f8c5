use Rattle.std.proofs.Common.{◌≡◌, ℕ, ◌+◌, ◌-◌, ◌*◌, ◌<◌, ◌≤◌, false, get_or}
use Rattle.tsb_types.specs.Sets.{has}
use Rattle.tsb_objects.specs.Instants.{is_from_to}
use Rattle.tsb_objects.proofs.pattern_tables.forced_in.Given as goal

-- the phases so far are told, and no other is in the set
abbrev pub invariant-loop-number : goal.invariant-loop-number
invariant-loop-number l = record {
  from_one : 1 ≤ l.number;
  first : l.first ≡ 16 * (l.fn.n - 1);
  told : (p : ℕ) → 1 ≤ p → p < l.number →
      has l.set p ≡ is_from_to l.cycle l.local (get_or l.instants (16 * (l.fn.n - 1) + (p - 1)) 0) (get_or l.ends (16 * (l.fn.n - 1) + (p - 1)) 0);
  rest : (p : ℕ) → l.number ≤ p → has l.set p ≡ false;
}
