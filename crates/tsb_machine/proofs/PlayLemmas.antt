-- A run of commands keeps pace with the list of inputs that remain: what each answer of a bench needs, and one command more.
use Rattle.std.proofs.Common.{reverse, ◌≡◌, ℕ, ◌+◌, ◌-◌, ◌<◌, ◌≤◌, List, [], ◌∷◌, ◌++◌, length, refl, sym, ap, subst, arith, ◌∙◌, zero, suc, true, false, cond, eqb, Option, None, take, drop, get_or, take_all}
use Rattle.std.specs.List.{fold}
use Rattle.std.proofs.lemmas.List.Sums.{fold-append}
use Rattle.std.proofs.lemmas.List.{reverse-append, take_more}
use Rattle.tsb_history.specs.declared.kinds.Kind.{Kind}
use Rattle.tsb_types.specs.declared.refusal.Refusal.{Refusal}
use Rattle.tsb_machine.specs.declared.commands.MachineCommand.{MachineCommand}
use Rattle.tsb_machine.specs.declared.commands.MachineCommand.TheVariants.{Apply, Undo, Back, Seek, When}
use Rattle.tsb_machine.specs.declared.commands.Answer.{Answer}
use Rattle.tsb_machine.specs.declared.commands.Answer.TheVariants.{Took, Refused, Undone, Moved, Nothing, Changed}
use Rattle.tsb_machine.specs.Machine.{Machine, replay, run, records_of, back_to, without_newest}
use Rattle.tsb_machine.specs.Past.{Whole, taken_back, earlier, pasts, sought}
use Rattle.tsb_machine.specs.Watches.{TellsLastChange}
use Rattle.tsb_machine.specs.Play.{remaining_after, remaining_from, remaining, IsRefusal, IsNewest, IsNewestKind, Follows, IsRight, AreRightFrom, AreRight, Answers, Does}
use Rattle.tsb_machine.specs.Laws.{TellsKinds}

module _ {State Input Change : Type 0} (m : Machine State Input Change) (start : State) where
  -- the newest state of a run
  state_of-pasts : (s : State) (rs : List Change) (is : List Input) → pasts m s rs ≡ run m start is → s ≡ replay m start is
  state_of-pasts s [] [] h = cc
  state_of-pasts s [] (i ∷ is) h = cc
  state_of-pasts s (r ∷ rs) [] h = cc
  state_of-pasts s (r ∷ rs) (i ∷ is) h = cc

  pub follows-state : (w : Whole State Change) (is : List Input) → Follows m start w is → w.state ≡ replay m start is
  follows-state w is f = state_of-pasts w.state w.records is f.pasts

  pub follows-start : (w : Whole State Change) → w ≡ record { state = start; records = [] } → Follows m start w []
  follows-start w is = subst (λ (v : Whole State Change). Follows m start v []) (sym is) (record { pasts = refl; records = refl })

  -- one input more
  follows-took : (w new : Whole State Change) (is : List Input) (i : Input) → Follows m start w is → new.state ≡ m.step w.state i
      → new.records ≡ m.record_of i w.state new.state ∷ w.records → earlier m new 1 ≡ w → Follows m start new (i ∷ is)
  follows-took w new is i f steps told undoes =
      let at : w.state ≡ replay m start is = follows-state w is f in
      let now : new.state ≡ replay m start (i ∷ is) = steps ∙ ap (λ (s : State). m.step s i) at in
      let back : m.undone (m.record_of i w.state new.state) new.state ≡ w.state =
      ap (λ (v : Whole State Change). v.state) (sym (ap (taken_back m new.state) told) ∙ undoes) in
      record {
        pasts = ap (pasts m new.state) told ∙ ap (λ (s : State). new.state ∷ pasts m s w.records) back ∙ ap (λ (ps : List State). new.state ∷ ps) f.pasts ∙ ap (λ (s : State). s ∷ run m start is) now;
        records = told ∙ ap (λ (rs : List Change). m.record_of i w.state new.state ∷ rs) f.records
            ∙ ap (λ (s : State). m.record_of i w.state s ∷ records_of m start is) now ∙ ap (λ (s : State). m.record_of i s (replay m start (i ∷ is)) ∷ records_of m start is) at;
      }

  -- one input less
  pub follows-back : (s : State) (rs : List Change) (is : List Input) → Follows m start (record { state = s; records = rs }) is → Follows m start (taken_back m s rs) (without_newest is)
  follows-back s [] [] f = f
  follows-back s [] (i ∷ is) f = let no : [] ≡ records_of m start (i ∷ is) = f.records in absurd (cc)
  follows-back s (r ∷ rs) [] f = let no : r ∷ rs ≡ records_of m start [] = f.records in absurd (cc)
  follows-back s (r ∷ rs) (i ∷ is) f =
      let states : s ∷ pasts m (m.undone r s) rs ≡ run m start (i ∷ is) = f.pasts in
      let records : r ∷ rs ≡ records_of m start (i ∷ is) = f.records in
      record { pasts = cc; records = cc }

  follows-sought : (t : ℕ) (s : State) (rs : List Change) (is : List Input) → Follows m start (record { state = s; records = rs }) is → Follows m start (sought m t s rs) (back_to m start t is)
  follows-sought t s [] [] f = f
  follows-sought t s [] (i ∷ is) f = let no : [] ≡ records_of m start (i ∷ is) = f.records in absurd (cc)
  follows-sought t s (r ∷ rs) [] f = let no : r ∷ rs ≡ records_of m start [] = f.records in absurd (cc)
  follows-sought t s (r ∷ rs) (i ∷ is) f =
      let rest : Follows m start (sought m t (m.undone r s) rs) (back_to m start t is) = follows-sought t (m.undone r s) rs is (follows-back s (r ∷ rs) (i ∷ is) f) in
      let same : s ≡ replay m start (i ∷ is) = state_of-pasts s (r ∷ rs) (i ∷ is) f.pasts in
      subst (λ (q : State). Follows m start (cond (eqb (m.now s) t) (record { state = s; records = r ∷ rs }) (sought m t (m.undone r s) rs)) (cond (eqb (m.now q) t) (i ∷ is) (back_to m start t is))) same
      (elim (eqb (m.now s) t) as (λ b. Follows m start (cond b (record { state = s; records = r ∷ rs }) (sought m t (m.undone r s) rs)) (cond b (i ∷ is) (back_to m start t is))) [ true ↦ f | false ↦ rest ])

  -- the newest kind of the inputs is that of the records
  follows-kind : (w : Whole State Change) (is : List Input) (k : Kind) → TellsKinds m → Follows m start w is → IsNewest m w.records k → IsNewestKind m is k
  follows-kind w is k kinds f h = at is (subst (λ (rs : List Change). IsNewest m rs k) f.records h)
    where
      at : (is : List Input) → IsNewest m (records_of m start is) k → IsNewestKind m is k
      at [] h = h
      at (i ∷ is) h = h ∙ kinds i (replay m start is) (replay m start (i ∷ is))

  -- no record remains only where no input does
  follows-nothing : (w : Whole State Change) (is : List Input) → Follows m start w is → w.records ≡ [] → is ≡ []
  follows-nothing w [] f h = refl
  follows-nothing w (i ∷ is) f h = let no : w.records ≡ records_of m start (i ∷ is) = f.records in absurd (cc)

  -- each earlier state is the replay without the newest inputs
  pub earlier-drop : (k : ℕ) (w : Whole State Change) (is : List Input) → Follows m start w is → k ≤ length is → (earlier m w k).state ≡ replay m start (drop k is)
  earlier-drop zero w is f h = follows-state w is f
  earlier-drop (suc k) w [] f h = absurd (omega arith)
  earlier-drop (suc k) w (i ∷ is) f h = earlier-drop k (taken_back m w.state w.records) is (follows-back w.state w.records (i ∷ is) f) (omega arith)

  sought-there : (t : ℕ) (w new : Whole State Change) (is : List Input) → Follows m start w is → new ≡ sought m t w.state w.records → Follows m start new (back_to m start t is)
  sought-there t w new is f moved = subst (λ (v : Whole State Change). Follows m start v (back_to m start t is)) (sym moved) (follows-sought t w.state w.records is f)

  now-there : (w : Whole State Change) (is : List Input) → Follows m start w is → m.now w.state ≡ m.now (replay m start is)
  now-there w is f = ap (λ (s : State). m.now s) (follows-state w is f)

  -- the replay of a list is the steps of its inputs, the oldest first
  pub replay-fold : (is : List Input) → replay m start is ≡ fold m.step start (reverse is)
  replay-fold [] = refl
  replay-fold (i ∷ is) =
      ap (λ (s : State). m.step s i) (replay-fold is) ∙ sym (fold-append m.step start (reverse is) (i ∷ []))
      ∙ ap (fold m.step start) (sym (reverse-append (i ∷ []) is))

module _ {State Input Change Watch Value : Type 0} (m : Machine State Input Change) (start : State) (watched : Watch → State → Value) where
  -- one command more
  remaining-more : (is : List Input) (cs : List (MachineCommand Input Watch)) (ans : List Answer) (c : MachineCommand Input Watch) (a : Answer) → AreRightFrom m start watched is cs ans
      → remaining_from m start is (cs ++ c ∷ []) (ans ++ a ∷ []) ≡ remaining_after m start (remaining_from m start is cs ans) c a
  remaining-more is [] [] c a h = refl
  remaining-more is [] (b ∷ ans) c a h = absurd h
  remaining-more is (d ∷ cs) [] c a h = absurd h
  remaining-more is (d ∷ cs) (b ∷ ans) c a h = remaining-more (remaining_after m start is d b) cs ans c a h.1

  right-more : (is : List Input) (cs : List (MachineCommand Input Watch)) (ans : List Answer) (c : MachineCommand Input Watch) (a : Answer) → AreRightFrom m start watched is cs ans → IsRight m start watched (remaining_from m start is cs ans) c a
      → AreRightFrom m start watched is (cs ++ c ∷ []) (ans ++ a ∷ [])
  right-more is [] [] c a h here = (here, tt)
  right-more is [] (b ∷ ans) c a h here = absurd h
  right-more is (d ∷ cs) [] c a h here = absurd h
  right-more is (d ∷ cs) (b ∷ ans) c a h here = (h.0, right-more (remaining_after m start is d b) cs ans c a h.1 here)

  -- what each command's answer needs of the bench
  pub answers-took : (w new : Whole State Change) (i : Input) → m.verdict w.state i ≡ None → new.state ≡ m.step w.state i → new.records ≡ m.record_of i w.state new.state ∷ w.records
      → earlier m new 1 ≡ w → Answers m start watched w (Apply i) Took new
  answers-took w new i allowed steps told undoes is f =
      (subst (λ (s : State). m.verdict s i ≡ None) (follows-state m start w is f) allowed, follows-took m start w new is i f steps told undoes)

  pub answers-refused : (w new : Whole State Change) (i : Input) (e : Refusal) → IsRefusal (m.verdict w.state i) e → new ≡ w → Answers m start watched w (Apply i) (Refused e) new
  answers-refused w new i e refused same is f =
      (subst (λ (s : State). IsRefusal (m.verdict s i) e) (follows-state m start w is f) refused, subst (λ (v : Whole State Change). Follows m start v is) (sym same) f)

  pub answers-undone : (w new : Whole State Change) (k : Kind) → TellsKinds m → IsNewest m w.records k → new ≡ taken_back m w.state w.records → Answers m start watched w Undo (Undone k) new
  answers-undone w new k kinds kind back is f =
      (follows-kind m start w is k kinds f kind, subst (λ (v : Whole State Change). Follows m start v (without_newest is)) (sym back) (follows-back m start w.state w.records is f))

  pub answers-no_undo : (w new : Whole State Change) → w.records ≡ [] → new ≡ w → Answers m start watched w Undo Nothing new
  answers-no_undo w new none same is f = (follows-nothing m start w is f none, subst (λ (v : Whole State Change). Follows m start v is) (sym same) f)

  pub answers-changed : (w new : Whole State Change) (x : Watch) (t : Option ℕ) → TellsLastChange m (watched x) (pasts m w.state w.records) t → new ≡ w →
      Answers m start watched w (When x) (Changed t) new
  answers-changed w new x t told same is f =
      (subst (λ (ss : List State). TellsLastChange m (watched x) ss t) f.pasts told, subst (λ (v : Whole State Change). Follows m start v is) (sym same) f)

  pub answers-sought : (w new : Whole State Change) (t : ℕ) → t ≤ m.now w.state → new ≡ sought m t w.state w.records → Answers m start watched w (Seek t) Moved new
  answers-sought w new t possible moved is f = (subst (λ (n : ℕ). t ≤ n) (now-there m start w is f) possible, sought-there m start t w new is f moved)

  pub answers-not_sought : (w new : Whole State Change) (t : ℕ) → m.now w.state < t → new ≡ w → Answers m start watched w (Seek t) Nothing new
  answers-not_sought w new t ahead same is f = (subst (λ (n : ℕ). n < t) (now-there m start w is f) ahead, subst (λ (v : Whole State Change). Follows m start v is) (sym same) f)

  pub answers-back : (w new : Whole State Change) (n : ℕ) → n ≤ m.now w.state → new ≡ sought m (m.now w.state - n) w.state w.records → Answers m start watched w (Back n) Moved new
  answers-back w new n possible moved is f = (
    subst (λ (k : ℕ). n ≤ k) (now-there m start w is f) possible,
    subst (λ (k : ℕ). Follows m start new (back_to m start (k - n) is)) (now-there m start w is f) (sought-there m start (m.now w.state - n) w new is f moved),
  )

  pub answers-no_back : (w new : Whole State Change) (n : ℕ) → m.now w.state < n → new ≡ w → Answers m start watched w (Back n) Nothing new
  answers-no_back w new n ahead same is f = (subst (λ (k : ℕ). k < n) (now-there m start w is f) ahead, subst (λ (v : Whole State Change). Follows m start v is) (sym same) f)

  -- a run goes on by one command
  pub played-more : (w new : Whole State Change) (cs : List (MachineCommand Input Watch)) (ans grown : List Answer) (i : ℕ) (d : MachineCommand Input Watch) (a : Answer) → i < length cs → AreRight m start watched (take i cs) ans
      → Follows m start w (remaining m start (take i cs) ans) → Answers m start watched w (get_or cs i d) a new → grown ≡ ans ++ a ∷ []
      → AreRight m start watched (take (i + 1) cs) grown × Follows m start new (remaining m start (take (i + 1) cs) grown)
  played-more w new cs ans grown i d a here right follows answers grows =
      let now = answers (remaining m start (take i cs) ans) follows in
      let longer : take (i + 1) cs ≡ take i cs ++ get_or cs i d ∷ [] = take_more cs i d here in
      let there : remaining m start (take i cs ++ get_or cs i d ∷ []) (ans ++ a ∷ []) ≡ remaining_after m start (remaining m start (take i cs) ans) (get_or cs i d) a =
      remaining-more [] (take i cs) ans (get_or cs i d) a right in
      let goal : AreRight m start watched (take i cs ++ get_or cs i d ∷ []) (ans ++ a ∷ []) × Follows m start new (remaining m start (take i cs ++ get_or cs i d ∷ []) (ans ++ a ∷ [])) =
      (right-more [] (take i cs) ans (get_or cs i d) a right now.0, subst (Follows m start new) (sym there) now.1) in
      subst (λ (bs : List Answer). AreRight m start watched (take (i + 1) cs) bs × Follows m start new (remaining m start (take (i + 1) cs) bs)) (sym grows)
      (subst (λ (ds : List (MachineCommand Input Watch)). AreRight m start watched ds (ans ++ a ∷ []) × Follows m start new (remaining m start ds (ans ++ a ∷ []))) (sym longer) goal)

-- all of the commands
pub played-all : {A : Type 0} (cs : List A) (i : ℕ) → length cs ≤ i → take i cs ≡ cs
played-all cs i h = take_all i cs h

module _ {State Input Change Watch Value : Type 0} (m : Machine State Input Change) (start : State) (watched : Watch → State → Value) where
  -- a bench that does what it says answers right, and goes on to the inputs that remain
  pub benches_answer : TellsKinds m → (old new : Whole State Change) (c : MachineCommand Input Watch) (a : Answer) → Does m watched old c a new →
      Answers m start watched old c a new
  benches_answer kinds old new (Apply i) Took h =
      let steps : new.state ≡ m.step old.state i = ap (λ (w : Whole State Change). w.state) h.1 in
      answers-took m start watched old new i h.0 steps
      (ap (λ (w : Whole State Change). w.records) h.1 ∙ ap (λ (s : State). m.record_of i old.state s ∷ old.records) (sym steps)) h.2
  benches_answer kinds old new (Apply i) (Refused e) h = answers-refused m start watched old new i e h.0 h.1
  benches_answer kinds old new Undo (Undone k) h = answers-undone m start watched old new k kinds h.0 h.1
  benches_answer kinds old new Undo Nothing h = answers-no_undo m start watched old new h.0 h.1
  benches_answer kinds old new (Back n) Moved h = answers-back m start watched old new n h.0 h.1
  benches_answer kinds old new (Back n) Nothing h = answers-no_back m start watched old new n h.0 h.1
  benches_answer kinds old new (Seek t) Moved h = answers-sought m start watched old new t h.0 h.1
  benches_answer kinds old new (Seek t) Nothing h = answers-not_sought m start watched old new t h.0 h.1
  benches_answer kinds old new (When x) (Changed t) h = answers-changed m start watched old new x t h.0 h.1
  benches_answer kinds old new c a h = absurd h
