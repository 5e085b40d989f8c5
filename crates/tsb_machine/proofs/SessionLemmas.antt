-- After any commands a bench is where a replay of the inputs that remain leads, and its answers were right.
use Rattle.std.proofs.Common.{◌≡◌, ℕ, ◌-◌, ◌==◌, Bool, true, false, if◌then◌else◌, List, [], ◌∷◌, refl, sym, ap, subst, ◌∙◌}
use Rattle.tsb_history.specs.declared.kinds.Kind.{Kind}
use Rattle.tsb_machine.specs.declared.commands.MachineCommand.{MachineCommand}
use Rattle.tsb_machine.specs.declared.commands.MachineCommand.TheVariants.{Apply, Undo, Back, Seek, When}
use Rattle.tsb_machine.specs.declared.commands.Answer.{Answer}
use Rattle.tsb_machine.specs.declared.commands.Answer.TheVariants.{Took, Refused, Undone, Moved, Nothing, Changed}
use Rattle.tsb_machine.specs.Machine.{Machine, replay, AreTaken, records_of, back_to, without_newest}
use Rattle.tsb_machine.specs.Past.{Whole, after, taken_back, earlier}
use Rattle.tsb_machine.specs.Watches.{TellsLastChange}
use Rattle.tsb_machine.specs.Play.{remaining_after, remaining_from, IsNewest, IsNewestKind, IsRight, AreRightFrom, Does, DoAll}
use Rattle.tsb_machine.specs.Laws.{GiveBack, TellsKinds, IsReplayed}
use Rattle.tsb_machine.proofs.PastLemmas.{taken-after, pasts_are_the_run, seeks_are_replays}

module _ {State Input Change : Type 0} (m : Machine State Input Change) (start : State) where
  -- what holds of a list of inputs that were taken, and that can all be taken back
  pub record IsKept (is : List Input) : Type 0 where
    pub back : GiveBack m start is
    pub taken : AreTaken m start is

  kept-before : (is : List Input) → IsKept is → IsKept (without_newest is)
  kept-before [] kept = kept
  kept-before (i ∷ is) kept = record { back = kept.back.0; taken = kept.taken.0 }

  kept-back : (t : ℕ) (is : List Input) → IsKept is → IsKept (back_to m start t is)
  kept-back t [] kept = kept
  kept-back t (i ∷ is) kept = go (m.now (replay m start (i ∷ is)) == t) (kept-back t is (kept-before (i ∷ is) kept))
    where
      go : (b : Bool) → IsKept (back_to m start t is) → IsKept (if b then i ∷ is else back_to m start t is)
      go true later = kept
      go false later = later

  -- the newest record is of the newest input's kind
  newest-kind : (is : List Input) (k : Kind) → TellsKinds m →
      IsNewest m (records_of m start is) k → IsNewestKind m is k
  newest-kind [] k kinds h = h
  newest-kind (i ∷ is) k kinds h = h ∙ kinds i (replay m start is) (replay m start (i ∷ is))

  no-input : (is : List Input) → records_of m start is ≡ [] → is ≡ []
  no-input [] h = refl
  no-input (i ∷ is) h = absurd cc

  undone-there : (is : List Input) → GiveBack m start is → taken_back m (replay m start is) (records_of m start is) ≡ after m start (without_newest is)
  undone-there [] back = refl
  undone-there (i ∷ is) back = taken-after m start i is back

module _ {State Input Change Watch Value : Type 0} (m : Machine State Input Change) (start : State) (watched : Watch → State → Value) where
  -- one command more
  record IsThere (is : List Input) (c : MachineCommand Input Watch) (a : Answer) (new : Whole State Change) : Type 0 where
    right : IsRight m start watched is c a
    there : new ≡ after m start (remaining_after m start is c a)
    kept : IsKept m start (remaining_after m start is c a)

  one-more : TellsKinds m → (is : List Input) (c : MachineCommand Input Watch) (a : Answer) (new : Whole State Change) → IsKept m start is →
      Does m watched (after m start is) c a new → IsThere is c a new
  one-more kinds is (Apply i) Took new kept h = record {
    right = h.0;
    there = h.1;
    kept = record {
      back = (kept.back, ap (λ (w : Whole State Change). w.state) (ap (λ (w : Whole State Change). earlier m w 1) (sym h.1) ∙ h.2));
      taken = (kept.taken, h.0);
    };
  }
  one-more kinds is (Apply i) (Refused e) new kept h = record { right = h.0; there = h.1; kept = kept }
  one-more kinds is Undo (Undone k) new kept h = record {
    right = newest-kind m start is k kinds h.0;
    there = h.1 ∙ undone-there m start is kept.back;
    kept = kept-before m start is kept;
  }
  one-more kinds is Undo Nothing new kept h = record { right = no-input m start is h.0; there = h.1; kept = kept }
  one-more kinds is (Back n) Moved new kept h = record {
    right = h.0;
    there = h.1 ∙ seeks_are_replays m start is kept.back (m.now (replay m start is) - n);
    kept = kept-back m start (m.now (replay m start is) - n) is kept;
  }
  one-more kinds is (Back n) Nothing new kept h = record { right = h.0; there = h.1; kept = kept }
  one-more kinds is (Seek t) Moved new kept h = record {
    right = h.0;
    there = h.1 ∙ seeks_are_replays m start is kept.back t;
    kept = kept-back m start t is kept;
  }
  one-more kinds is (Seek t) Nothing new kept h = record { right = h.0; there = h.1; kept = kept }
  one-more kinds is (When w) (Changed t) new kept h = record {
    right = subst (λ (ss : List State). TellsLastChange m (watched w) ss t) (pasts_are_the_run m start is kept.back) h.0;
    there = h.1;
    kept = kept;
  }
  one-more kinds is c a new kept h = absurd h

  record IsThereAfter (is : List Input) (cs : List (MachineCommand Input Watch)) (ans : List Answer) (w : Whole State Change) : Type 0 where
    right : AreRightFrom m start watched is cs ans
    there : w ≡ after m start (remaining_from m start is cs ans)
    kept : IsKept m start (remaining_from m start is cs ans)

  all-more : TellsKinds m → (is : List Input) (cs : List (MachineCommand Input Watch)) (ans : List Answer) (w : Whole State Change) → IsKept m start is →
      DoAll m watched (after m start is) cs ans w → IsThereAfter is cs ans w
  all-more kinds is [] [] w kept h = record { right = tt; there = h; kept = kept }
  all-more kinds is [] (a ∷ ans) w kept h = absurd h
  all-more kinds is (c ∷ cs) [] w kept h = absurd h
  all-more kinds is (c ∷ cs) (a ∷ ans) w kept h =
      let one : IsThere is c a h.0 = one-more kinds is c a h.0 kept h.1 in
      let rest : IsThereAfter (remaining_after m start is c a) cs ans w =
      all-more kinds (remaining_after m start is c a) cs ans w one.kept (subst (λ (v : Whole State Change). DoAll m watched v cs ans w) one.there h.2) in
      record { right = (one.right, rest.right); there = rest.there; kept = rest.kept }

  pub sessions_are_replays : TellsKinds m → (cs : List (MachineCommand Input Watch)) (ans : List Answer) (w : Whole State Change) →
      DoAll m watched (after m start []) cs ans w → IsReplayed m start watched cs ans w
  sessions_are_replays kinds cs ans w h =
      let all : IsThereAfter [] cs ans w = all-more kinds [] cs ans w (record { back = tt; taken = tt }) h in
      record { right = all.right; replayed = all.there; back = all.kept.back; taken = all.kept.taken }
