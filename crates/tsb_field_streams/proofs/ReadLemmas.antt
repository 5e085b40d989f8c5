-- What a stream has read, line after line.
use Rattle.std.proofs.Common.{◌≡◌, ℕ, ◌+◌, ◌<◌, ◌≤◌, List, [], ◌∷◌, ◌++◌, length, refl, sym, ap, ◌∙◌, append_assoc, arith, inl, inr, Result, Ok, Err}
use Rattle.std.proofs.lemmas.List.{append-nil}
use Rattle.std.proofs.lemmas.Bool.{lt-ltb}
use Rattle.std.proofs.lemmas.Bool.Decides.{eqb_tells}
use Rattle.tsb_lines.specs.Lines.{HasNoFeed, kept, lines_of, without_return}
use Rattle.tsb_lines.proofs.KeptLemmas.{kept-tells}
use Rattle.tsb_lines.proofs.LineLemmas.{feedless-both, length-return, lines-alone, lines-joined}
use Rattle.tsb_field_streams.specs.declared.error.FilterError.{FilterError}
use Rattle.tsb_field_streams.specs.declared.error.FilterError.TheVariants.{LongLine}
use Rattle.tsb_field_streams.specs.Filtering.{Given, Stand, one_more, start, with_line}
use Rattle.tsb_field_streams.specs.Lines.{HasRead, filtered, lines_behind}
use Rattle.tsb_field_streams.specs.Streaming.{Sticks}

-- ## Lines of which the first bytes are kept

too-long : (g : Given) (n : ℕ) (s : Stand) (line : List ℕ) → 1000 < length line → with_line g n s line ≡ Err (LongLine n)
unfolding with_line
too-long g n s line lt = rw (lt-ltb 1000 (length line) lt) refl

-- it is enough to keep so many bytes of a line that ends
pub kept-line : (g : Given) (n : ℕ) (s : Stand) (held : List ℕ) → with_line g n s (without_return (kept 1002 held)) ≡ with_line g n s (without_return held)
kept-line g n s held = kept-tells (λ (v : List ℕ). with_line g n s (without_return v)) 1002 (Err (LongLine n)) long held
  where
    long : (line : List ℕ) → 1002 ≤ length line → with_line g n s (without_return line) ≡ Err (LongLine n)
    long line le = let all : length line ≤ length (without_return line) + 1 = length-return line in too-long g n s (without_return line) (omega (arith, all, le))

-- and of the last one
pub kept-last : (g : Given) (n : ℕ) (s : Stand) (held : List ℕ) → with_line g n s (kept 1002 held) ≡ with_line g n s held
kept-last g n s held = kept-tells (λ (v : List ℕ). with_line g n s v) 1002 (Err (LongLine n)) (λ line le. too-long g n s line (omega (arith, le))) held

-- ## Lines

-- an empty line is skipped
empty-line : (g : Given) (n : ℕ) (s : Stand) → with_line g n s [] ≡ Ok s
unfolding with_line
empty-line g n s = elim (eqb_tells n 1) [ inl z ↦ rw z.0 refl | inr off ↦ rw off.0 refl ]

-- before the first byte
pub read-start : (g : Given) → HasRead g [] 1 (start g) []
read-start g = record { front = []; whole = refl; unfinished = tt; comes = λ more. refl }

-- a piece that ends no line
pub read-piece : (g : Given) (bytes : List ℕ) (n : ℕ) (s : Stand) (held piece : List ℕ) → HasRead g bytes n s held → HasNoFeed piece → HasRead g (bytes ++ piece) n s (held ++ piece)
read-piece g bytes n s held piece r none = record {
  front = r.front;
  whole = ap (λ (v : List ℕ). v ++ piece) r.whole ∙ append_assoc r.front held piece;
  unfinished = feedless-both held piece r.unfinished none;
  comes = r.comes;
}

-- what the bytes and a line feed come to, whatever follows
feed-comes : (g : Given) (bytes : List ℕ) (n : ℕ) (s : Stand) (held more : List ℕ) → HasRead g bytes n s held
    → filtered g ((bytes ++ 10 ∷ []) ++ more) ≡ lines_behind g (one_more n) (with_line g n s (without_return held)) (lines_of more)
feed-comes g bytes n s held more r =
    let is : (bytes ++ 10 ∷ []) ++ more ≡ r.front ++ (held ++ 10 ∷ more) =
    append_assoc bytes (10 ∷ []) more ∙ ap (λ (v : List ℕ). v ++ 10 ∷ more) r.whole ∙ append_assoc r.front held (10 ∷ more) in
    ap (filtered g) is ∙ r.comes (held ++ 10 ∷ more) ∙ ap (lines_behind g n (Ok s)) (lines-joined held more r.unfinished)

-- a line that is taken
pub read-line : (g : Given) (bytes : List ℕ) (n : ℕ) (s t : Stand) (held : List ℕ) → HasRead g bytes n s held → with_line g n s (without_return held) ≡ Ok t
    → HasRead g (bytes ++ 10 ∷ []) (one_more n) t []
read-line g bytes n s t held r ok = record {
  front = bytes ++ 10 ∷ [];
  whole = sym (append-nil (bytes ++ 10 ∷ []));
  unfinished = tt;
  comes = λ more. feed-comes g bytes n s held more r ∙ ap (λ (x : Result Stand FilterError). lines_behind g (one_more n) x (lines_of more)) ok;
}

-- and one that has a fault
pub read-fault : (g : Given) (bytes : List ℕ) (n : ℕ) (s : Stand) (held : List ℕ) (e : FilterError) → HasRead g bytes n s held → with_line g n s (without_return held) ≡ Err e
    → Sticks g (bytes ++ 10 ∷ []) e
read-fault g bytes n s held e r fault more =
    feed-comes g bytes n s held more r ∙ ap (λ (x : Result Stand FilterError). lines_behind g (one_more n) x (lines_of more)) fault

-- what the whole lines come to
pub front-comes : (g : Given) (bytes : List ℕ) (n : ℕ) (s : Stand) (held : List ℕ) → (r : HasRead g bytes n s held) → filtered g r.front ≡ Ok s
front-comes g bytes n s held r =
    ap (filtered g) (sym (append-nil r.front)) ∙ r.comes [] ∙ ap (λ (x : Result Stand FilterError). lines_behind g (one_more n) x []) (empty-line g n s)

-- what all comes to, where no byte follows
pub all-comes : (g : Given) (bytes : List ℕ) (n : ℕ) (s : Stand) (held : List ℕ) (x : Result Stand FilterError) → HasRead g bytes n s held → with_line g n s held ≡ x → filtered g bytes ≡ x
all-comes g bytes n s held x r is =
    ap (filtered g) r.whole ∙ r.comes held ∙ ap (lines_behind g n (Ok s)) (lines-alone held r.unfinished)
    ∙ ap (λ (y : Result Stand FilterError). lines_behind g (one_more n) y []) is ∙ ends x
  where
    ends : (y : Result Stand FilterError) → lines_behind g (one_more n) y [] ≡ y
    ends (Ok t) = refl
    ends (Err e) = refl

-- a fault sticks, whatever follows
pub sticks-more : (g : Given) (bytes more : List ℕ) (e : FilterError) → Sticks g bytes e → Sticks g (bytes ++ more) e
sticks-more g bytes more e s rest = ap (filtered g) (append_assoc bytes more rest) ∙ s (more ++ rest)
