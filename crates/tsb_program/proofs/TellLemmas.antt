-- What is told of a line that was written or was not.
use Rattle.std.proofs.Common.{◌≡◌, ℕ, List, ◌++◌, OnOk, OnErr, Ok, Err, true, ap, refl, subst, sym, ◌∙◌, append_assoc}
use Rattle.std.proofs.lemmas.Bool.{true≢false}
use Rattle.std.specs.declared.result.Result.{Result}
use Rattle.std.specs.declared.option.Option.{Option}
use Rattle.std.specs.Io.KnownBytes.{Appends}
use Rattle.tsb_lines.proofs.StreamLemmas.{appends-more}
use Rattle.tsb_lines.specs.Writes.{AppendsFront}
use Rattle.tsb_plan_text.specs.declared.error.PlanError.{PlanError}
use Rattle.tsb_program.specs.Lines.{TellsEnd}
use Rattle.tsb_program.specs.Told.{RefusesAt, TellsInputEnd, TellsNoPlan, TellsWhy}
use Rattle.tsb_program.specs.declared.read.PlanFault.{PlanFault}
use Rattle.tsb_program.specs.declared.read.ReadError.{ReadError}
use Rattle.tsb_program.specs.declared.read.ReadError.TheVariants.{Refused}
use Rattle.tsb_text.specs.declared.error.SessionError.{SessionError}
use Rattle.tsb_text.specs.declared.error.SessionError.TheVariants as ends
use Rattle.tsb_lines.specs.Seen.{GoesOut, Seen, Tells}

pub line-told : {T E : Type 0} (r : Result T E) (old new : Seen) (text : List ℕ) → AppendsFront old.bytes new.bytes text → OnOk r (GoesOut old new text) → OnErr r (new.failed ≡ true) → Tells old new text
line-told (Ok t) old new text front whole blame = (front, λ well. whole)
line-told (Err e) old new text front whole blame = (front, λ well. absurd (true≢false (sym blame ∙ well)))

-- two texts, one behind the other: the first went out whole, and of the second the first bytes
pub front-behind : (a b c : Option (List ℕ)) (x y : List ℕ) → Appends a b x → AppendsFront b c y → AppendsFront a c (x ++ y)
front-behind a b c x y first second =
    (x ++ second.0, second.1, appends-more a b c x second.0 first second.2, ap (λ (v : List ℕ). x ++ v) second.3 ∙ sym (append_assoc x second.0 second.1))

-- of the first the first bytes went out
pub front-before : (a b : Option (List ℕ)) (x y : List ℕ) → AppendsFront a b x → AppendsFront a b (x ++ y)
front-before a b x y first = (first.0, first.1 ++ y, first.2, ap (λ (v : List ℕ). v ++ y) first.3 ∙ append_assoc first.0 first.1 y)

-- both went out whole
pub both-whole : {T E : Type 0} (r : Result T E) (old mid new : Seen) (x y : List ℕ) → Appends old.bytes mid.bytes x → OnOk r (GoesOut mid new y) → OnOk r (GoesOut old new (x ++ y))
both-whole (Ok t) old mid new x y first second = (appends-more old.bytes mid.bytes new.bytes x y first second.0, second.1)
both-whole (Err e) old mid new x y first second = tt

-- a plan that is refused is told as one that there is not
pub refused-so : (fault : PlanFault) (name : List ℕ) (why : PlanError) (status : ℕ) (told tells : Seen) → fault.why ≡ Refused why → RefusesAt why fault.clue status told tells
    → TellsNoPlan name fault status told tells
refused-so fault name why status told tells is so = subst (λ (w : ReadError PlanError). TellsWhy name w fault.clue status told tells) (sym is) so

-- but for a read, standard input or a file is all one
pub input-told : (fault : SessionError) (status : ℕ) (told tells : Seen) → (fault ≡ ends.Read → ⊥) → TellsEnd fault status told tells → TellsInputEnd fault status told tells
input-told ends.Memory status told tells other end = end
input-told ends.Read status told tells other end = absurd (other refl)
input-told ends.Write status told tells other end = end
input-told ends.TooLarge status told tells other end = end
