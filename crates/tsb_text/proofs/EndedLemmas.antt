-- A session ends as its dialog does.
use Rattle.std.proofs.Common.{◌≡◌, ℕ, Bool, List, [], ◌++◌, refl, subst, inl, inr, ◌⊎◌, Ok, Err, take, drop, arith}
use Rattle.std.proofs.lemmas.List.{take-append-drop}
use Rattle.std.specs.declared.option.Option.{Option}
use Rattle.std.specs.declared.result.Result.{Result}
use Rattle.tsb_lines.proofs.StreamLemmas.{appends-nothing, consumes-nothing}
use Rattle.tsb_dialog.specs.declared.error.DialogError.{DialogError}
use Rattle.tsb_dialog.specs.declared.error.DialogError.TheVariants as dialogs
use Rattle.tsb_dialog.specs.Blame as dialog_blame
use Rattle.tsb_dialog.specs.Ended as dialog
use Rattle.tsb_dialog.specs.Heard.{Heard}
use Rattle.tsb_text.specs.declared.error.SessionError.TheVariants.{Memory, Read, TooLarge}
use Rattle.tsb_text.specs.Answers.{Setup}
use Rattle.tsb_text.specs.Ended.{AnswersWhole, Ended, EndedSo, IsBegun, ReadsOn}
use Rattle.tsb_text.specs.Blame.{Blames}
use Rattle.tsb_text.specs.Replies.{Stand, as_session, says}
use Rattle.tsb_text.proofs.HeardLemmas.{answered-text, begun-front, begun-more, heard-begun, heard-whole, over-begun, over-quits, over-whole, said-begun}

-- at power-up
abbrev pub from_power_up : Setup → Stand
from_power_up given = record { given = given; inputs = [] }

-- before the first byte all whole lines were answered
nothing-read : (given : Setup) → ReadsOn given []
nothing-read given = record {
  before = [];
  last = [];
  whole = refl;
  short = omega arith;
  said = [];
  going = record { is_wide = given.is_wide; left = []; held = []; unfinished = tt; carries = record { on = λ more text t. t } };
}

-- there was no memory for the bench
pub ended-memory : (given : Setup) (i o : Option (List ℕ)) → Ended (Err Memory) given i i o o
ended-memory given i o = record {
  read = [];
  taken = consumes-nothing i;
  written = [];
  grown = appends-nothing o;
  so = (refl, refl);
  large = (λ e. absurd (cc), λ h. absurd (omega (arith, h)));
  most = omega arith;
  answered = λ x. elim x [ inl e ↦ absurd (cc) | inr e ↦ absurd (cc) ];
  reads = nothing-read given;
}

-- what was said to the first 16 MiB begins a text of all
begun-first : (given : Setup) (read written : List ℕ) (n : ℕ) (now : Stand) (held : List ℕ) → Heard 202 says (from_power_up given) (take 16777216 read) written n now held → IsBegun given [] read written
begun-first given read written n now held h =
    subst (λ (v : List ℕ). IsBegun given [] v written) (take-append-drop 16777216 read)
    (begun-more given [] (take 16777216 read) (drop 16777216 read) written (heard-begun (from_power_up given) (take 16777216 read) written n now held h))

ended-so : {A : Type 0} (r : Result (Unit {0}) DialogError) (stands : A → Stand → Type 0) (given : Setup) (new : A) (left : Option (List ℕ)) (read written : List ℕ)
    → dialog.EndedSo 202 16777216 stands says (from_power_up given) r new left read written → EndedSo (as_session r) given left read written
ended-so (Ok u) stands given new left read written so = elim so.2 [
  | inl all ↦ inl (all.0, answered-text (from_power_up given) read written so.0 all.1)
  | inr over ↦ inr (over-quits (from_power_up given) read written so.0 over, over-whole (from_power_up given) read written so.0 over)
]
ended-so (Err dialogs.Write) stands given new left read written so = elim so.1 [
  | inl whole ↦ elim whole.1 [
    | inl all ↦ inl (all.0, so.0, answered-text (from_power_up given) read (written ++ so.0) whole.0 all.1)
    | inr over ↦ inr (begun-front given [] read written so.0 (over-begun (from_power_up given) read (written ++ so.0) whole.0 over))
  ]
  | inr said ↦ inr (begun-front given [] read written so.0 (said-begun (from_power_up given) read (written ++ so.0) said))
]
ended-so (Err dialogs.Read) stands given new left read written so = inr (begun-first given read written so.0 so.1 so.2 so.4)
ended-so (Err dialogs.TooLarge) stands given new left read written so = inr (begun-first given read written so.0 so.1 so.2 so.4)

-- no answer to a whole line is missing
answered : {A : Type 0} (r : Result (Unit {0}) DialogError) (stands : A → Stand → Type 0) (given : Setup) (new : A) (left : Option (List ℕ)) (read written : List ℕ)
    → dialog.EndedSo 202 16777216 stands says (from_power_up given) r new left read written → (as_session r ≡ Err Read) ⊎ (as_session r ≡ Err TooLarge) → AnswersWhole given (take 16777216 read) written
answered (Ok u) stands given new left read written so x = elim x [ inl e ↦ absurd (cc) | inr e ↦ absurd (cc) ]
answered (Err dialogs.Write) stands given new left read written so x = elim x [ inl e ↦ absurd (cc) | inr e ↦ absurd (cc) ]
answered (Err dialogs.Read) stands given new left read written so x = heard-whole given (take 16777216 read) written so.0 so.1 so.2 so.4
answered (Err dialogs.TooLarge) stands given new left read written so x = heard-whole given (take 16777216 read) written so.0 so.1 so.2 so.4

too-large : (r : Result (Unit {0}) DialogError) → as_session r ≡ Err TooLarge → r ≡ Err dialogs.TooLarge
too-large (Ok u) e = absurd (cc)
too-large (Err dialogs.Write) e = absurd (cc)
too-large (Err dialogs.Read) e = absurd (cc)
too-large (Err dialogs.TooLarge) e = refl

of-large : (r : Result (Unit {0}) DialogError) → r ≡ Err dialogs.TooLarge → as_session r ≡ Err TooLarge
of-large (Ok u) e = absurd (cc)
of-large (Err dialogs.Write) e = absurd (cc)
of-large (Err dialogs.Read) e = absurd (cc)
of-large (Err dialogs.TooLarge) e = refl

pub ended : {A : Type 0} (r : Result (Unit {0}) DialogError) (stands : A → Stand → Type 0) (given : Setup) (new : A) (i l o n : Option (List ℕ))
    → dialog.Ended 202 16777216 stands says (from_power_up given) r new i l o n → Ended (as_session r) given i l o n
ended r stands given new i l o n e = record {
  read = e.read;
  taken = e.taken;
  written = e.written;
  grown = e.grown;
  so = ended-so r stands given new l e.read e.written e.so;
  large = (λ x. e.large.0 (too-large r x), λ h. of-large r (e.large.1 h));
  most = e.limited;
  answered = answered r stands given new l e.read e.written e.so;
  reads = record {
    before = e.reads.before;
    last = e.reads.last;
    whole = e.reads.whole;
    short = e.reads.short;
    said = e.reads.text;
    going = heard-whole given e.reads.before e.reads.text e.reads.number e.reads.now e.reads.held e.reads.heard;
  };
}

-- the device that a dialog blames for its fault is the one to blame for that of the session
pub blames : (r : Result (Unit {0}) DialogError) (read_failed write_failed flushed : Bool) → dialog_blame.Blames r read_failed write_failed flushed → Blames (as_session r) read_failed write_failed flushed
blames (Ok u) read_failed write_failed flushed so = so
blames (Err dialogs.Read) read_failed write_failed flushed so = so
blames (Err dialogs.Write) read_failed write_failed flushed so = so
blames (Err dialogs.TooLarge) read_failed write_failed flushed so = so
