-- A text stops at its place, whatever follows the byte there.
use Rattle.std.proofs.Common.{◌≡◌, ◌<◌, ◌∙◌, ℕ, ◌+◌, Bool, true, false, List, [], ◌∷◌, ◌++◌, length, drop, get_or, ap, sym, arith, if◌then◌else◌}
use Rattle.std.proofs.lemmas.List.{drop_more}
use Rattle.std.specs.Prelude.{Some, None}
use Rattle.std.specs.declared.option.Option.{Option}
use Rattle.tsb_plan_notes.specs.declared.machine.Machine.{Machine}
use Rattle.tsb_plan_notes.specs.declared.machine.JsonStop.{JsonStop}
use Rattle.tsb_plan_notes.specs.Places.{Takes, behind, is_end, or_stop, stop, stop_here}

-- a stop at the end of a text is there
at-end : (here s : JsonStop) (b : Bool) → (if b then None else Some here) ≡ Some s → s.at ≡ here.at
at-end here s true is = cc
at-end here s false is = cc

-- a text that stops at once stops so, and one that goes on stops where the rest does
on : (here s : JsonStop) (next : Option Machine) (go more : Machine → Option JsonStop) → ((n : Machine) → go n ≡ Some s → more n ≡ Some s) → or_stop next here go ≡ Some s → or_stop next here more ≡ Some s
on here s None go more further is = is
on here s (Some n) go more further is = further n is

pub stops : (m : Machine) (at : ℕ) (text more : List ℕ) (s : JsonStop) → stop m at text ≡ Some s → s.at < at + length text → stop m at (text ++ more) ≡ Some s
stops m at [] more s is lt = absurd (let same : s.at ≡ at = at-end (stop_here m at) s (is_end (stop_here m at).next) is in omega (arith, same, lt))
stops m at (byte ∷ text) more s is lt =
    on (stop_here m at) s (behind m byte) (λ n. stop n (at + 1) text) (λ n. stop n (at + 1) (text ++ more)) (λ n k. stops n (at + 1) text more s k (omega (arith, lt))) is

-- a byte that can't stand there: what is left stops here
pub taken-here : (m new : Machine) (at : ℕ) (text : List ℕ) → at < length text → Takes false (behind m (get_or text at 0)) m new → stop m at (drop at text) ≡ Some (stop_here new at)
taken-here m new at text lt takes = ap (stop m at) (drop_more text at 0 lt) ∙ goes (behind m (get_or text at 0)) takes
  where
    goes : (next : Option Machine) → Takes false next m new → or_stop next (stop_here m at) (λ n. stop n (at + 1) (drop (at + 1) text)) ≡ Some (stop_here new at)
    goes None same = ap (λ (n : Machine). Some (stop_here n at)) (sym same)
    goes (Some n) none = absurd none

-- and one that can: it stops where what is left behind it does
pub taken-on : (m new : Machine) (at : ℕ) (text : List ℕ) → at < length text → Takes true (behind m (get_or text at 0)) m new → stop m at (drop at text) ≡ stop new (at + 1) (drop (at + 1) text)
taken-on m new at text lt takes = ap (stop m at) (drop_more text at 0 lt) ∙ goes (behind m (get_or text at 0)) takes
  where
    goes : (next : Option Machine) → Takes true next m new → or_stop next (stop_here m at) (λ n. stop n (at + 1) (drop (at + 1) text)) ≡ stop new (at + 1) (drop (at + 1) text)
    goes None none = absurd none
    goes (Some n) same = ap (λ (k : Machine). stop k (at + 1) (drop (at + 1) text)) (sym same)
