-- A dialog from its first read to its end.
use Rattle.std.proofs.Common.{◌≡◌, ℕ, ◌+◌, ◌-◌, ◌<◌, ◌≤◌, List, [], ◌∷◌, ◌++◌, length, refl, sym, ap, ◌∙◌, append_assoc, length-append, take_all, Ok, Err, arith, subst, OnOk, take, zero, suc, inl, inr, Bool, false, true}
use Rattle.std.proofs.lemmas.List.{append-nil}
use Rattle.std.specs.declared.option.Option.{Option}
use Rattle.std.specs.declared.result.Result.{Result}
use Rattle.std.specs.Result.{is_err}
use Rattle.std.specs.Io.KnownBytes.{Appends, Consumes, Keeps, IsAtEnd}
use Rattle.tsb_lines.proofs.StreamLemmas.{consumes-kept, consumes-more, consumes-nothing}
use Rattle.tsb_lines.specs.declared.writes.WriteError.{WriteError}
use Rattle.tsb_dialog.specs.declared.answers.Flow.{Flow}
use Rattle.tsb_dialog.specs.declared.answers.Flow.TheVariants.{On, Over}
use Rattle.tsb_dialog.specs.declared.error.DialogError.TheVariants.{Read, Write, TooLarge}
use Rattle.tsb_dialog.specs.Ended.{Ended, EndedSo, ReadsOn}
use Rattle.tsb_dialog.specs.Going.{Fed, Finished, Going, as_dialog}
use Rattle.tsb_dialog.specs.Heard.{Heard, IsAnswered, IsOver, IsSaid}
use Rattle.tsb_dialog.specs.Blame.{AfterCalls, Blames}
use Rattle.tsb_dialog.specs.Said.{Said}
use Rattle.tsb_dialog.specs.Says.{Saying}
use Rattle.tsb_dialog.proofs.HeardLemmas.{heard-start}
use Rattle.tsb_dialog.proofs.SaidLemmas.{said-more, said-nothing}

pub going-start : {A S : Type 0} (most limit : ℕ) (stands : A → S → Type 0) (says : Saying S) (from : S) (answers : A) (held : List ℕ) (i o : Option (List ℕ)) (n : ℕ) (waits : List ℕ)
    → n ≡ 1 → held ≡ [] → waits ≡ [] → stands answers from → Going most limit stands says from answers n held limit i i o o waits
going-start most limit stands says from answers held i o n waits first empty none here = record {
  now = from;
  here = here;
  read = [];
  taken = consumes-nothing i;
  wrote = record {
    text = [];
    said = subst (λ (v : List ℕ). Said o o [] v []) (sym none) (said-nothing o []);
    so = subst (λ (k : ℕ). Heard most says from [] [] k from held) (sym first) (heard-start most says from held empty);
  };
  fits = omega arith;
}

-- ## How it ends

take-front : (n : ℕ) (xs ys : List ℕ) → length xs ≡ n → take n (xs ++ ys) ≡ xs
take-front zero [] ys e = refl
take-front zero (x ∷ xs) ys e = absurd (omega (arith, e))
take-front (suc n) [] ys e = absurd (omega (arith, e))
take-front (suc n) (x ∷ xs) ys e = ap (λ (v : List ℕ). x ∷ v) (take-front n xs ys (omega (arith, e)))

-- where nothing waits, what went out is what was said
all-gone : (text gone waits : List ℕ) → text ≡ gone ++ waits → waits ≡ [] → text ≡ gone
all-gone text gone waits e none = e ∙ ap (λ (v : List ℕ). gone ++ v) none ∙ append-nil gone

-- what waits stands between what went out and what was not said
waits-between : (text gone waits rest : List ℕ) → text ≡ gone ++ waits → text ++ rest ≡ gone ++ (waits ++ rest)
waits-between text gone waits rest e = ap (λ (v : List ℕ). v ++ rest) e ∙ append_assoc gone waits rest

-- the bytes before the last read end no dialog
reads-on : {A S : Type 0} (most limit : ℕ) (stands : A → S → Type 0) (says : Saying S) (from : S) (answers : A) (n : ℕ) (held : List ℕ) (budget : ℕ) (i l o t : Option (List ℕ)) (waits piece : List ℕ)
    → (g : Going most limit stands says from answers n held budget i l o t waits) → length piece ≤ 4096 → ReadsOn most says from (g.read ++ piece)
reads-on most limit stands says from answers n held budget i l o t waits piece g short =
    record { before = g.read; last = piece; whole = refl; short = short; text = g.wrote.text; number = n; now = g.now; held = held; heard = g.wrote.so }

reads-so-far : {A S : Type 0} (most limit : ℕ) (stands : A → S → Type 0) (says : Saying S) (from : S) (answers : A) (n : ℕ) (held : List ℕ) (budget : ℕ) (i l o t : Option (List ℕ)) (waits : List ℕ)
    → (g : Going most limit stands says from answers n held budget i l o t waits) → ReadsOn most says from g.read
reads-so-far most limit stands says from answers n held budget i l o t waits g =
    subst (λ (v : List ℕ). ReadsOn most says from v) (append-nil g.read) (reads-on most limit stands says from answers n held budget i l o t waits [] g (omega arith))

-- a read failed
pub ended-read : {A S : Type 0} (most limit : ℕ) (stands : A → S → Type 0) (says : Saying S) (from : S) (answers : A) (n : ℕ) (held : List ℕ) (budget : ℕ) (i l l2 o t : Option (List ℕ)) (waits : List ℕ)
    → Going most limit stands says from answers n held budget i l o t waits → waits ≡ [] → Keeps l l2 → Ended most limit stands says from (Err Read) answers i l2 o t
ended-read most limit stands says from answers n held budget i l l2 o t waits g none k =
    let f : length g.read + budget ≡ limit = g.fits in
    let all : take limit g.read ≡ g.read = take_all limit g.read (omega (arith, f)) in
    record {
      read = g.read;
      taken = consumes-kept i l l2 g.read g.taken k;
      written = g.wrote.said.gone;
      grown = g.wrote.said.grown;
      so = (
        n,
        g.now,
        held,
        g.here,
        subst (λ (v : List ℕ). Heard most says from v g.wrote.said.gone n g.now held) (sym all)
            (subst (λ (v : List ℕ). Heard most says from g.read v n g.now held) (all-gone g.wrote.text g.wrote.said.gone waits g.wrote.said.kept none) g.wrote.so),
      );
      large = (λ e. absurd (cc), λ h. absurd (omega (arith, h, f)));
      limited = omega (arith, f);
      reads = reads-so-far most limit stands says from answers n held budget i l o t waits g;
    }

-- a byte stands after those that may be read
pub ended-large : {A S : Type 0} (most limit : ℕ) (stands : A → S → Type 0) (says : Saying S) (from : S) (answers : A) (n : ℕ) (held : List ℕ) (budget : ℕ) (i l l2 o t : Option (List ℕ)) (waits : List ℕ) (count room : ℕ) (piece : List ℕ)
    → Going most limit stands says from answers n held budget i l o t waits → waits ≡ [] → Consumes l l2 piece → budget < count → count ≡ length piece → count ≤ room → (budget < room → room ≤ 1)
    → Ended most limit stands says from (Err TooLarge) answers i l2 o t
ended-large most limit stands says from answers n held budget i l l2 o t waits count room piece g none k over long within one =
    let f : length g.read + budget ≡ limit = g.fits in
    let all : length (g.read ++ piece) ≡ length g.read + length piece = length-append g.read piece in
    let single : room ≤ 1 = one (omega (arith, over, within)) in
    let full : length g.read ≡ limit = omega (arith, f, over, within, single) in
    record {
      read = g.read ++ piece;
      taken = consumes-more i l l2 g.read piece g.taken k;
      written = g.wrote.said.gone;
      grown = g.wrote.said.grown;
      so = (
        n,
        g.now,
        held,
        g.here,
        subst (λ (v : List ℕ). Heard most says from v g.wrote.said.gone n g.now held) (sym (take-front limit g.read piece full))
            (subst (λ (v : List ℕ). Heard most says from g.read v n g.now held) (all-gone g.wrote.text g.wrote.said.gone waits g.wrote.said.kept none) g.wrote.so),
      );
      large = (λ e. omega (arith, f, all, over, long), λ h. refl);
      limited = omega (arith, f, all, over, long, within, single);
      reads = reads-on most limit stands says from answers n held budget i l o t waits piece g (omega (arith, long, within, single));
    }

never-large : (r : Result (Unit {0}) WriteError) → as_dialog r ≡ Err TooLarge → ⊥
never-large (Ok u) h = cc
never-large (Err e) h = cc

-- an end at which no more bytes were read than may be
ended : {A S : Type 0} (r : Result (Unit {0}) WriteError) (most limit : ℕ) (stands : A → S → Type 0) (says : Saying S) (from : S) (answers : A) (i l o t : Option (List ℕ)) (read written : List ℕ)
    → Consumes i l read → Appends o t written → EndedSo most limit stands says from (as_dialog r) answers l read written → length read ≤ limit → ReadsOn most says from read
    → Ended most limit stands says from (as_dialog r) answers i l o t
ended r most limit stands says from answers i l o t read written taken grown so fits reads = record {
  read = read;
  taken = taken;
  written = written;
  grown = grown;
  so = so;
  large = (λ e. absurd (never-large r e), λ h. absurd (omega (arith, h, fits)));
  limited = omega (arith, fits);
  reads = reads;
}

-- the end of what is read
pub ended-end : {A S : Type 0} (r : Result (Unit {0}) WriteError) (most limit : ℕ) (stands : A → S → Type 0) (says : Saying S) (from : S) (answers new : A) (n : ℕ) (held : List ℕ) (budget : ℕ) (i l l2 o t v : Option (List ℕ)) (waits after : List ℕ) (count : ℕ) (buf : List ℕ)
    → Going most limit stands says from answers n held budget i l o t waits → count ≡ 0 → Consumes l l2 (take count buf) → IsAtEnd l2
    → ((from now : S) (bytes text : List ℕ) → stands answers now → Heard most says from bytes text n now held → Finished most stands says from bytes text r new t v waits after)
    → Ended most limit stands says from (as_dialog r) new i l2 o v
ended-end {S = S} r most limit stands says from answers new n held budget i l l2 o t v waits after count buf g none k end finish =
    at r (finish from g.now g.read g.wrote.text g.here g.wrote.so)
  where
    taken : Consumes i l2 g.read
    taken = subst (λ (x : List ℕ). Consumes i l2 x) (append-nil g.read) (consumes-more i l l2 g.read [] g.taken (subst (λ (m : ℕ). Consumes l l2 (take m buf)) none k))

    fits : length g.read ≤ limit
    fits = let f : length g.read + budget ≡ limit = g.fits in omega (arith, f)

    reads : ReadsOn most says from g.read
    reads = reads-so-far most limit stands says from answers n held budget i l o t waits g

    at : (r : Result (Unit {0}) WriteError) → Finished most stands says from g.read g.wrote.text r new t v waits after → Ended most limit stands says from (as_dialog r) new i l2 o v
    at (Ok u) f =
        let said : Said o v [] after (g.wrote.text ++ f.3.text) = said-more o t v [] waits after g.wrote.text f.3.text g.wrote.said f.3.said in
        ended (Ok u) most limit stands says from new i l2 o v g.read said.gone taken said.grown
        (f.0, f.1, inl (end, subst (λ (x : List ℕ). IsAnswered most says from g.read x f.0) (all-gone (g.wrote.text ++ f.3.text) said.gone after said.kept f.2) f.3.so)) fits reads
    at (Err e) f =
        let said : Said o v [] after (g.wrote.text ++ f.text) = said-more o t v [] waits after g.wrote.text f.text g.wrote.said f.said in
        ended (Err e) most limit stands says from new i l2 o v g.read said.gone taken said.grown
        (after ++ f.so.0, inl (f.so.1, inl (end, subst (λ (x : List ℕ). IsAnswered most says from g.read x f.so.1) (waits-between (g.wrote.text ++ f.text) said.gone after f.so.0 said.kept) f.so.2))) fits reads

-- ## A piece

-- what a piece does, in any state
abbrev Takes : {A S : Type 0} → Result Flow WriteError → ℕ → (A → S → Type 0) → Saying S → List ℕ → A → A → ℕ → ℕ → List ℕ → List ℕ → Option (List ℕ) → Option (List ℕ) → List ℕ → List ℕ → Type 0
Takes {S = S} r most stands says piece mid new n m held keeps b c q w = (from now : S) (bytes text : List ℕ) → stands mid now → Heard most says from bytes text n now held
    → Fed most stands says from (bytes ++ piece) text r new m keeps b c q w

more-fits : (read piece : List ℕ) (budget limit count : ℕ) → length read + budget ≡ limit → count ≡ length piece → count ≤ budget → length (read ++ piece) + (budget - count) ≡ limit
more-fits read piece budget limit count f long fits = let all : length (read ++ piece) ≡ length read + length piece = length-append read piece in omega (arith, f, all, long, fits)

-- a fault within the answers to a piece
pub ended-fault : {A S : Type 0} (e : WriteError) (most limit : ℕ) (stands : A → S → Type 0) (says : Saying S) (from : S) (answers new : A) (n m : ℕ) (held keeps : List ℕ) (budget : ℕ) (i l l2 o t v : Option (List ℕ)) (waits after : List ℕ) (count room : ℕ) (piece : List ℕ)
    → Going most limit stands says from answers n held budget i l o t waits → Consumes l l2 piece → count ≡ length piece → count ≤ budget → count ≤ room → room ≤ 4096 → Takes (Err e) most stands says piece answers new n m held keeps t v waits after
    → Ended most limit stands says from (Err Write) new i l2 o v
ended-fault e most limit stands says from answers new n m held keeps budget i l l2 o t v waits after count room piece g k long fits within short step =
    let f : Fed most stands says from (g.read ++ piece) g.wrote.text (Err e) new m keeps t v waits after = step from g.now g.read g.wrote.text g.here g.wrote.so in
    let said : Said o v [] after (g.wrote.text ++ f.text) = said-more o t v [] waits after g.wrote.text f.text g.wrote.said f.said in
    ended (Err e) most limit stands says from new i l2 o v (g.read ++ piece) said.gone (consumes-more i l l2 g.read piece g.taken k) said.grown
    (after ++ f.so.0, inr (subst (λ (x : List ℕ). IsSaid most says from (g.read ++ piece) x) (waits-between (g.wrote.text ++ f.text) said.gone after f.so.0 said.kept) f.so.1))
    (let r : length (g.read ++ piece) + (budget - count) ≡ limit = more-fits g.read piece budget limit count g.fits long fits in omega (arith, r))
    (reads-on most limit stands says from answers n held budget i l o t waits piece g (omega (arith, long, within, short)))

-- a line ended it, and what waited then was written, or was not
pub ended-over : {A S : Type 0} (r : Result (Unit {0}) WriteError) (flow : Flow) (most limit : ℕ) (stands : A → S → Type 0) (says : Saying S) (from : S) (answers new : A) (n m : ℕ) (held keeps : List ℕ) (budget : ℕ) (i l l2 o t v z : Option (List ℕ)) (waits after last : List ℕ) (count room : ℕ) (piece : List ℕ)
    → Going most limit stands says from answers n held budget i l o t waits → Consumes l l2 piece → count ≡ length piece → count ≤ budget → count ≤ room → room ≤ 4096 → flow ≡ Over
    → Takes (Ok flow) most stands says piece answers new n m held keeps t v waits after → Said v z after last [] → OnOk r (last ≡ []) → Ended most limit stands says from (as_dialog r) new i l2 o z
ended-over {S = S} r flow most limit stands says from answers new n m held keeps budget i l l2 o t v z waits after last count room piece g k long fits within short over step sent ok =
    ended r most limit stands says from new i l2 o z (g.read ++ piece) said.gone (consumes-more i l l2 g.read piece g.taken k) said.grown (so r ok)
    (let x : length (g.read ++ piece) + (budget - count) ≡ limit = more-fits g.read piece budget limit count g.fits long fits in omega (arith, x))
    (reads-on most limit stands says from answers n held budget i l o t waits piece g (omega (arith, long, within, short)))
  where
    f : Fed most stands says from (g.read ++ piece) g.wrote.text (Ok Over) new m keeps t v waits after
    f = subst (λ (x : Flow). Fed most stands says from (g.read ++ piece) g.wrote.text (Ok x) new m keeps t v waits after) over (step from g.now g.read g.wrote.text g.here g.wrote.so)

    said : Said o z [] last ((g.wrote.text ++ f.2.text) ++ [])
    said = said-more o v z [] after last (g.wrote.text ++ f.2.text) [] (said-more o t v [] waits after g.wrote.text f.2.text g.wrote.said f.2.said) sent

    kept : g.wrote.text ++ f.2.text ≡ said.gone ++ last
    kept = sym (append-nil (g.wrote.text ++ f.2.text)) ∙ said.kept

    so : (r : Result (Unit {0}) WriteError) → OnOk r (last ≡ []) → EndedSo most limit stands says from (as_dialog r) new l2 (g.read ++ piece) said.gone
    so (Ok u) ok = (f.0, f.1, inr (subst (λ (x : List ℕ). IsOver most says from (g.read ++ piece) x f.0) (all-gone (g.wrote.text ++ f.2.text) said.gone last kept ok) f.2.so))
    so (Err e) ok = (last, inl (f.0, inr (subst (λ (x : List ℕ). IsOver most says from (g.read ++ piece) x f.0) kept f.2.so)))

-- a piece more
pub going-more : {A S : Type 0} (flow : Flow) (most limit : ℕ) (stands : A → S → Type 0) (says : Saying S) (from : S) (answers new : A) (n m : ℕ) (held keeps : List ℕ) (budget : ℕ) (i l l2 o t v z : Option (List ℕ)) (waits after last : List ℕ) (count : ℕ) (piece : List ℕ)
    → Going most limit stands says from answers n held budget i l o t waits → Consumes l l2 piece → count ≡ length piece → count ≤ budget → flow ≡ On
    → Takes (Ok flow) most stands says piece answers new n m held keeps t v waits after → Said v z after last [] → Going most limit stands says from new m keeps (budget - count) i l2 o z last
going-more flow most limit stands says from answers new n m held keeps budget i l l2 o t v z waits after last count piece g k long fits on step sent =
    let f : Fed most stands says from (g.read ++ piece) g.wrote.text (Ok On) new m keeps t v waits after =
    subst (λ (x : Flow). Fed most stands says from (g.read ++ piece) g.wrote.text (Ok x) new m keeps t v waits after) on (step from g.now g.read g.wrote.text g.here g.wrote.so) in
    record {
      now = f.0;
      here = f.1;
      read = g.read ++ piece;
      taken = consumes-more i l l2 g.read piece g.taken k;
      wrote = record {
        text = (g.wrote.text ++ f.2.text) ++ [];
        said = said-more o v z [] after last (g.wrote.text ++ f.2.text) [] (said-more o t v [] waits after g.wrote.text f.2.text g.wrote.said f.2.said) sent;
        so = subst (λ (x : List ℕ). Heard most says from (g.read ++ piece) x m f.0 keeps) (sym (append-nil (g.wrote.text ++ f.2.text))) f.2.so;
      };
      fits = more-fits g.read piece budget limit count g.fits long fits;
    }

-- a fault in writing what waited after a piece
pub ended-send : {A S : Type 0} (e : WriteError) (flow : Flow) (most limit : ℕ) (stands : A → S → Type 0) (says : Saying S) (from : S) (answers new : A) (n m : ℕ) (held keeps : List ℕ) (budget : ℕ) (i l l2 o t v z : Option (List ℕ)) (waits after last : List ℕ) (count room : ℕ) (piece : List ℕ)
    → Going most limit stands says from answers n held budget i l o t waits → Consumes l l2 piece → count ≡ length piece → count ≤ budget → count ≤ room → room ≤ 4096 → flow ≡ On
    → Takes (Ok flow) most stands says piece answers new n m held keeps t v waits after → Said v z after last [] → Ended most limit stands says from (Err Write) new i l2 o z
unfolding going-more
ended-send e flow most limit stands says from answers new n m held keeps budget i l l2 o t v z waits after last count room piece g k long fits within short on step sent =
    let x : Going most limit stands says from new m keeps (budget - count) i l2 o z last = going-more flow most limit stands says from answers new n m held keeps budget i l l2 o t v z waits after last count piece g k long fits on step sent in
    let r : length x.read + (budget - count) ≡ limit = x.fits in
    ended (Err e) most limit stands says from new i l2 o z x.read x.wrote.said.gone x.taken x.wrote.said.grown (
      last,
      inr (record {
        front = x.read;
        more = [];
        whole = sym (append-nil x.read);
        so = inl (m, x.now, keeps, subst (λ (y : List ℕ). Heard most says from x.read y m x.now keeps) x.wrote.said.kept x.wrote.so);
      }),
    ) (omega (arith, r)) (reads-on most limit stands says from answers n held budget i l o t waits piece g (omega (arith, long, within, short)))

-- the same number, the same bytes held
pub going-same : {A S : Type 0} (most limit : ℕ) (stands : A → S → Type 0) (says : Saying S) (from : S) (answers : A) (n m : ℕ) (held keeps : List ℕ) (budget : ℕ) (i l o t : Option (List ℕ)) (waits : List ℕ)
    → m ≡ n → keeps ≡ held → Going most limit stands says from answers n held budget i l o t waits → Going most limit stands says from answers m keeps budget i l o t waits
going-same most limit stands says from answers n m held keeps budget i l o t waits number bytes g =
    subst (λ (k : ℕ). Going most limit stands says from answers k keeps budget i l o t waits) (sym number)
    (subst (λ (v : List ℕ). Going most limit stands says from answers n v budget i l o t waits) (sym bytes) g)

-- after calls that did not fail no call has failed
pub well-after : {T E : Type 0} (r : Result T E) (failed : Bool) → is_err r ≡ false → AfterCalls r failed → failed ≡ false
well-after (Ok t) failed none after = after
well-after (Err e) failed none after = absurd (cc)

-- after calls of which one failed one has
pub failed-after : {T E : Type 0} (r : Result T E) (failed : Bool) → is_err r ≡ true → AfterCalls r failed → failed ≡ true
failed-after (Ok t) failed some after = absurd (cc)
failed-after (Err e) failed some after = after

-- a dialog that ends with its last write blames the writer for a fault of that
pub blames-sent : (r : Result (Unit {0}) WriteError) (read_failed write_failed flushed : Bool) → read_failed ≡ false → AfterCalls r write_failed → OnOk r (flushed ≡ true)
    → Blames (as_dialog r) read_failed write_failed flushed
blames-sent (Ok u) read_failed write_failed flushed reads writes passed = (reads, writes, passed)
blames-sent (Err e) read_failed write_failed flushed reads writes passed = (reads, writes)
