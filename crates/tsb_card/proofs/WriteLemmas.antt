-- What a writer has taken of the lines of pairs, piece by piece.
use Rattle.std.proofs.Common.{◌≡◌, ◌∙◌, ℕ, ◌+◌, ◌-◌, ◌<◌, ◌≤◌, true, List, [], ◌++◌, append_assoc, flat_map, refl, sym, ap, subst}
use Rattle.std.specs.declared.result.Result.TheVariants.{Ok, Err}
use Rattle.std.proofs.lemmas.List.{append-nil}
use Rattle.std.specs.Io.KnownBytes.{Appends}
use Rattle.tsb_lines.proofs.StreamLemmas.{Went, appends-more, appends-nothing, went-as, went-piece}
use Rattle.tsb_lines.specs.Writes.{AppendsFront}
use Rattle.tsb_lines.specs.declared.writes.WriteError.{WriteError}
use Rattle.tsb_lines.specs.Seen.{Seen}
use Rattle.tsb_types.specs.Lists.{run_from}
use Rattle.tsb_types.proofs.RunLemmas.{flat-run_from, flat-run_past}
use Rattle.tsb_card.specs.Lines.{Wrote}

-- all
wrote-all : (a b : Seen) (text : List ℕ) → Went a b text [] → Wrote (Ok tt) a b text
wrote-all a b text so =
    let same : text ≡ so.gone.gone = so.gone.whole ∙ append-nil so.gone.gone in
    record {
      whole = subst (λ (ts : List ℕ). Appends a.bytes b.bytes ts) (sym same) so.gone.grown;
      front = (so.gone.gone, [], so.gone.grown, so.gone.whole);
      blame = tt;
      well = so.well;
    }

-- the writer failed within a piece
wrote-front : (a b c : Seen) (text piece left : List ℕ) (e : WriteError) → Went a b text (piece ++ left) → AppendsFront b.bytes c.bytes piece → c.failed ≡ true → Wrote (Err e) a c text
wrote-front a b c text piece left e so front failed = record {
  whole = tt;
  front = (
    so.gone.gone ++ front.0,
    front.1 ++ left,
    appends-more a.bytes b.bytes c.bytes so.gone.gone front.0 so.gone.grown front.2,
    so.gone.whole ∙ ap (λ (ts : List ℕ). so.gone.gone ++ (ts ++ left)) front.3 ∙ ap (λ (ts : List ℕ). so.gone.gone ++ ts) (append_assoc front.0 front.1 left)
        ∙ sym (append_assoc so.gone.gone front.0 (front.1 ++ left)),
  );
  blame = failed;
  well = tt;
}

-- nothing has gone out yet
pub start : (a : Seen) (text left : List ℕ) → text ≡ left → Went a a text left
start a text left is = record { gone = record { gone = []; grown = appends-nothing a.bytes; whole = is }; well = refl }

-- one channel more
pub next : (f : ℕ → List ℕ) (a b c : Seen) (text : List ℕ) (k : ℕ) → k < 17 → Went a b text (flat_map f (run_from k (17 - k)))
    → Appends b.bytes c.bytes (f k) → c.failed ≡ b.failed → Went a c text (flat_map f (run_from (k + 1) (17 - (k + 1))))
next f a b c text k below so added well =
    went-piece a b c text (f k) (flat_map f (run_from (k + 1) (17 - (k + 1)))) (went-as a b text _ _ (flat-run_from f k 17 below) so) added well

-- the writer failed at one
pub cut : (f : ℕ → List ℕ) (a b c : Seen) (text : List ℕ) (k end : ℕ) (e : WriteError) → k < end → Went a b text (flat_map f (run_from k (end - k)))
    → AppendsFront b.bytes c.bytes (f k) → c.failed ≡ true → Wrote (Err e) a c text
cut f a b c text k end e below so front blamed =
    wrote-front a b c text (f k) (flat_map f (run_from (k + 1) (end - (k + 1)))) e (went-as a b text _ _ (flat-run_from f k end below) so) front blamed

-- all is written
pub done : (f : ℕ → List ℕ) (a b : Seen) (text : List ℕ) (k end : ℕ) → end ≤ k →
    Went a b text (flat_map f (run_from k (end - k))) → Wrote (Ok tt) a b text
done f a b text k end over so = wrote-all a b text (went-as a b text _ _ (flat-run_past f k end over) so)
