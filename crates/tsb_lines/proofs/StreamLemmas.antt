-- Known bytes of readers and writers grow and shrink a piece at a time.
use Rattle.std.proofs.Common.{◌≡◌, ◌∙◌, ℕ, ◌+◌, ◌-◌, List, [], ◌++◌, length, take, drop, get_or, ◌<◌, ◌∷◌, Some, None, refl, sym, ap, subst, append_assoc, arith, take_all, length-drop}
use Rattle.std.proofs.lemmas.List.{append-nil, take-append-drop, take_more, drop-drop}
use Rattle.std.specs.declared.option.Option.{Option}
use Rattle.std.specs.Io.KnownBytes.{Appends, Consumes, Keeps}
use Rattle.tsb_lines.specs.Seen.{Seen}

-- ## Writers

pub appends-nothing : (a : Option (List ℕ)) → Appends a a []
appends-nothing None = tt
appends-nothing (Some xs) = sym (append-nil xs)

pub appends-more : (a b c : Option (List ℕ)) (x y : List ℕ) → Appends a b x → Appends b c y → Appends a c (x ++ y)
appends-more None b c x y h k = tt
appends-more (Some xs) None c x y h k = absurd h
appends-more (Some xs) (Some ys) None x y h k = absurd k
appends-more (Some xs) (Some ys) (Some zs) x y h k = k ∙ ap (λ (v : List ℕ). v ++ y) h ∙ append_assoc xs x y

pub appends-kept : (a b c : Option (List ℕ)) (x : List ℕ) → Appends a b x → Keeps b c → Appends a c x
appends-kept None b c x h k = tt
appends-kept (Some xs) None c x h k = absurd h
appends-kept (Some xs) (Some ys) None x h k = absurd k
appends-kept (Some xs) (Some ys) (Some zs) x h k = k ∙ h

-- of a text all but what is left has gone out
pub record Gone (old new : Option (List ℕ)) (text left : List ℕ) : Type 0 where
  pub gone : List ℕ
  pub grown : Appends old new gone
  pub whole : text ≡ gone ++ left

-- n bytes more have gone
pub gone-more : (a b c : Option (List ℕ)) (text : List ℕ) (g n : ℕ) → Gone a b text (drop g text)
    → Appends b c (take n (take (length text - g) (drop g text))) → Gone a c text (drop (g + n) text)
gone-more a b c text g n s k =
    let all : take (length text - g) (drop g text) ≡ drop g text = take_all (length text - g) (drop g text) (let e : length (drop g text) ≡ length text - g = length-drop g text in omega (arith, e)) in
    let sent : Appends b c (take n (drop g text)) = subst (λ (l : List ℕ). Appends b c (take n l)) all k in
    let cut : drop g text ≡ take n (drop g text) ++ drop (g + n) text = sym (take-append-drop n (drop g text)) ∙ ap (λ (l : List ℕ). take n (drop g text) ++ l) (drop-drop n g text) in
    record {
      gone = s.gone ++ take n (drop g text);
      grown = appends-more a b c s.gone (take n (drop g text)) s.grown sent;
      whole = s.whole ∙ ap (λ (l : List ℕ). s.gone ++ l) cut ∙ sym (append_assoc s.gone (take n (drop g text)) (drop (g + n) text));
    }

-- what has gone out to a writer that has not failed since, and what is left
pub record Went (a b : Seen) (text left : List ℕ) : Type 0 where
  pub gone : Gone a.bytes b.bytes text left
  pub well : b.failed ≡ a.failed

-- what is left, in other words
pub went-as : (a b : Seen) (text left other : List ℕ) → left ≡ other → Went a b text left → Went a b text other
went-as a b text left other same so = subst (λ (ts : List ℕ). Went a b text ts) same so

-- a piece more
pub went-piece : (a b c : Seen) (text piece left : List ℕ) → Went a b text (piece ++ left) → Appends b.bytes c.bytes piece → c.failed ≡ b.failed → Went a c text left
went-piece a b c text piece left so added well = record {
  gone = record {
    gone = so.gone.gone ++ piece;
    grown = appends-more a.bytes b.bytes c.bytes so.gone.gone piece so.gone.grown added;
    whole = so.gone.whole ∙ sym (append_assoc so.gone.gone piece left);
  };
  well = well ∙ so.well;
}

-- ## Readers

pub consumes-nothing : (a : Option (List ℕ)) → Consumes a a []
consumes-nothing None = tt
consumes-nothing (Some xs) = refl

pub consumes-more : (a b c : Option (List ℕ)) (x y : List ℕ) → Consumes a b x → Consumes b c y → Consumes a c (x ++ y)
consumes-more None b c x y h k = tt
consumes-more (Some xs) None c x y h k = absurd h
consumes-more (Some xs) (Some ys) None x y h k = absurd k
consumes-more (Some xs) (Some ys) (Some zs) x y h k = h ∙ ap (λ (v : List ℕ). x ++ v) k ∙ sym (append_assoc x y zs)

pub consumes-kept : (a b c : Option (List ℕ)) (x : List ℕ) → Consumes a b x → Keeps b c → Consumes a c x
consumes-kept None b c x h k = tt
consumes-kept (Some xs) None c x h k = absurd h
consumes-kept (Some xs) (Some ys) None x h k = absurd k
consumes-kept (Some xs) (Some ys) (Some zs) x h k = h ∙ ap (λ (v : List ℕ). x ++ v) (sym k)

-- of a piece one byte more has been taken
pub front-more : (h bytes : List ℕ) (i x : ℕ) → i < length bytes → x ≡ get_or bytes i 0 → (h ++ take i bytes) ++ x ∷ [] ≡ h ++ take (i + 1) bytes
front-more h bytes i x lt is =
    append_assoc h (take i bytes) (x ∷ []) ∙ ap (λ (v : List ℕ). h ++ v) (ap (λ (y : ℕ). take i bytes ++ y ∷ []) is ∙ sym (take_more bytes i 0 lt))
