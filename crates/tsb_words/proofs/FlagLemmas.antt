-- Words that are flags fail, and words that are none are values, in a command whose one flag is `help`.
use Rattle.std.proofs.Common.{◌≡◌, ◌∙◌, ◌⊎◌, ℕ, Bool, true, false, cond, ◌==◌, ◌&&◌, List, [], ◌∷◌, Option, Some, None, if◌then◌else◌, refl, sym, ap, subst, inl, inr, codes, bytes_eq, drop, encode_utf8, option_and_then, slice_get, length, eqb-true}
use Rattle.std.specs.Option.{option_map_or}
use Rattle.std.specs.Str.{chars}
use Rattle.clap.specs.Lexer.{long_of, long_of_rest, name_and_value, short_of, short_of_rest, strip_byte}
use Rattle.clap.specs.Walk.{Held, Outcome, Row, Rule, Text, after_flag, arg_by_long, arg_by_short, bundle_met, bundle_step, idle, long_or_other, plain, reacted, settled, short_or_plain, value}
use Rattle.clap.specs.Simple.{filled, help_rule}
use Rattle.clap.specs.Faults.{bundle_fault, bundle_step_fault, flag_word_fault, flags_fault, long_fault, react_fault, settle_fault, short_fault, use_fault}
use Rattle.clap.specs.Kinds.{Kinds, or_else}
use Rattle.clap.specs.declared.error.kind.ErrorKind.{ErrorKind}
use Rattle.clap.specs.declared.error.kind.ErrorKind.TheVariants.{DisplayHelp, TooManyValues, UnknownArgument}
use Rattle.clap.proofs.OnLiterals.{clap_on_literals}
use Rattle.tsb_words.specs.BenchWords.{has_some, is_flag}

-- ## What fails

abbrev pub Fails : Kinds → Type 0
Fails kinds = (kind : ErrorKind) × (rest : Kinds) × (kinds ≡ kind ∷ rest)

pub fails-first : (a b : Kinds) → Fails a → Fails (or_else a b)
fails-first [] b f = let no : [] ≡ f.0 ∷ f.1 = f.2 in absurd (let bad : ⊥ = cc in bad)
fails-first (k ∷ ks) b f = (k, ks, refl)

pub fails-last : (a b : Kinds) → Fails b → Fails (or_else a b)
fails-last [] b f = f
fails-last (k ∷ ks) b f = (k, ks, refl)

pub or-nothing : (a : Kinds) → or_else a [] ≡ a
or-nothing [] = refl
or-nothing (k ∷ ks) = refl

-- ## Which words are flags

-- the word begins with one hyphen and a character
abbrev pub IsShort : Text → Type 0
IsShort word = (long_of word ≡ None) × (y : ℕ) × (ys : Text) × (short_of word ≡ Some (y ∷ ys)) × (has_some (chars (y ∷ ys)) ≡ true)

-- the word begins with a name after two hyphens, or with a character after one
abbrev pub IsFlag : Text → Type 0
IsFlag word = ((text : Text) × (word ≡ 45 ∷ 45 ∷ text) × (long_of word ≡ Some (name_and_value text)))
    ⊎ IsShort word

-- it begins with none; what no character begins is none
abbrev pub IsNoFlag : Text → Type 0
IsNoFlag word = (long_of word ≡ None)
    × ((short_of word ≡ None) ⊎ ((y : ℕ) × (ys : Text) × (short_of word ≡ Some (y ∷ ys)) × (has_some (chars (y ∷ ys)) ≡ false)))

abbrev pub Sorted : Text → Type 0
Sorted word = ((is_flag word ≡ true) × IsFlag word) ⊎ ((is_flag word ≡ false) × IsNoFlag word)

abbrev IsDash : Text → Bool
IsDash word = bytes_eq word (codes "--")

sorted-two : (ys : Text) → IsDash (45 ∷ 45 ∷ ys) ≡ false → Sorted (45 ∷ 45 ∷ ys)
unfolding chars
sorted-two [] dash = absurd (let bad : ⊥ = cc in bad)
sorted-two (z ∷ zs) dash = inl (refl, inl (z ∷ zs, refl, refl))

sorted-by-characters : (y : ℕ) (ys : Text) (b : Bool) → has_some (chars (y ∷ ys)) ≡ b
    → long_of (45 ∷ y ∷ ys) ≡ None → short_of (45 ∷ y ∷ ys) ≡ Some (y ∷ ys) → Sorted (45 ∷ y ∷ ys)
sorted-by-characters y ys true is long short = inl (is, inr (long, y, ys, short, is))
sorted-by-characters y ys false is long short = inr (is, (long, inr (y, ys, short, is)))

sorted-by-second : (y : ℕ) (ys : Text) (b : Bool) → (y == 45) ≡ b → IsDash (45 ∷ y ∷ ys) ≡ false → Sorted (45 ∷ y ∷ ys)
sorted-by-second y ys true is dash =
    subst (λ (v : ℕ). IsDash (45 ∷ v ∷ ys) ≡ false → Sorted (45 ∷ v ∷ ys)) (sym (eqb-true y 45 is)) (sorted-two ys) dash
sorted-by-second y ys false is dash =
    sorted-by-characters y ys (has_some (chars (y ∷ ys))) refl
    (ap (λ (b : Bool). option_and_then long_of_rest (if b then Some ys else None)) is)
    (ap (λ (b : Bool). if b then None else Some (y ∷ ys)) is)

sorted-one : (xs : Text) → IsDash (45 ∷ xs) ≡ false → Sorted (45 ∷ xs)
unfolding chars
sorted-one [] dash = inr (refl, (refl, inl refl))
sorted-one (y ∷ ys) dash = sorted-by-second y ys (y == 45) refl dash

sorted-by-first : (x : ℕ) (xs : Text) (b : Bool) → (x == 45) ≡ b → IsDash (x ∷ xs) ≡ false → Sorted (x ∷ xs)
sorted-by-first x xs true is dash =
    subst (λ (v : ℕ). IsDash (v ∷ xs) ≡ false → Sorted (v ∷ xs)) (sym (eqb-true x 45 is)) (sorted-one xs) dash
sorted-by-first x xs false is dash = inr (
  ap (λ (b : Bool). b && has_some (chars xs)) is,
  (
    ap (λ (b : Bool). option_and_then long_of_rest (option_and_then (strip_byte 45) (if b then Some xs else None))) is,
    inl (ap (λ (b : Bool). option_and_then short_of_rest (if b then Some xs else None)) is),
  ),
)

-- each word but `--` is a flag or none
pub sorted : (word : Text) → IsDash word ≡ false → Sorted word
sorted [] dash = inr (refl, (refl, inl refl))
sorted (x ∷ xs) dash = sorted-by-first x xs (x == 45) refl dash

-- ## Flags fail

-- the flag that each command has
abbrev pub help : Rule
help = filled help_rule

-- a flag names it, or nothing
abbrev pub NamesHelp : Option Rule → Type 0
NamesHelp found = (found ≡ None) ⊎ (found ≡ Some help)

-- each flag does so
pub record HasHelpAlone (c : List Rule) : Type 0 where
  pub long : (name : Text) → NamesHelp (arg_by_long c name)
  pub short : (x : ℕ) → NamesHelp (arg_by_short c x)

pub one-found : (b : Bool) (r : Rule) → (cond b (Some r) None ≡ None) ⊎ (cond b (Some r) None ≡ Some r)
one-found true r = inr refl
one-found false r = inl refl

-- nothing is skipped in a bundle
abbrev pub held_with : List Row → Option (Text × List Text) → Held
held_with rows pending = record { rows = rows; pending = pending; skip = 0 }

help-fails : (c : List Rule) (again : Bool) (h : Held) → Fails (react_fault c again help [] h)
help-fails c again h =
    fails-last (settle_fault c again h) (use_fault again help [] (settled c h).rows) (DisplayHelp, [], refl)

long-help : (c : List Rule) (again : Bool) (given : Option Text) (h : Held) → Fails (long_fault c again (Some help) given h)
long-help c again None h = help-fails c again h
long-help c again (Some v) h = (TooManyValues, [], refl)

pub long-fails : (c : List Rule) {found : Option Rule} → NamesHelp found → (again : Bool) (given : Option Text) (h : Held)
    → Fails (long_fault c again found given h)
long-fails c (inl none) again given h = subst (λ (o : Option Rule). Fails (long_fault c again o given h)) (sym none) (UnknownArgument, [], refl)
long-fails c (inr some) again given h = subst (λ (o : Option Rule). Fails (long_fault c again o given h)) (sym some) (long-help c again given h)

short-help : (c : List Rule) (again : Bool) (rest : Text) (h : Held) (next : Held → Kinds) → Fails (short_fault c again (Some help) rest h next)
short-help c again rest h next = fails-first (react_fault c again help [] h) (next (reacted c help [] h)) (help-fails c again h)

short-fails : (c : List Rule) {found : Option Rule} → NamesHelp found → (again : Bool) (rest : Text) (h : Held) (next : Held → Kinds)
    → Fails (short_fault c again found rest h next)
short-fails c (inl none) again rest h next = subst (λ (o : Option Rule). Fails (short_fault c again o rest h next)) (sym none) (UnknownArgument, [], refl)
short-fails c (inr some) again rest h next = subst (λ (o : Option Rule). Fails (short_fault c again o rest h next)) (sym some) (short-help c again rest h next)

bundle-step-fails : (c : List Rule) → ((x : ℕ) → NamesHelp (arg_by_short c x)) → (again : Bool) (cs flags : Text) (h : Held) (next : Text → ℕ → Held → Kinds)
    → has_some cs ≡ true → Fails (bundle_step_fault c again (slice_get cs 0) flags 0 h next)
bundle-step-fails c alone again [] flags h next has = absurd (let bad : ⊥ = cc in bad)
bundle-step-fails c alone again (x ∷ xs) flags h next has =
    short-fails c (alone x) again (drop (length (encode_utf8 x)) flags) h (next (drop (length (encode_utf8 x)) flags) 0)

bundle-fails : (c : List Rule) → ((x : ℕ) → NamesHelp (arg_by_short c x)) → (again : Bool) (y : ℕ) (ys : Text) (rows : List Row) (p : Option (Text × List Text))
    → has_some (chars (y ∷ ys)) ≡ true → Fails (bundle_fault c again (y ∷ ys) (held_with rows p))
unfolding clap_on_literals
bundle-fails c alone again y ys rows p has = bundle-step-fails c alone again (chars (y ∷ ys)) (y ∷ ys) (held_with rows p) (flags_fault c again (length ys)) has

-- a character after one hyphen, where characters name help alone
pub short-flag-fails : (c : List Rule) → ((x : ℕ) → NamesHelp (arg_by_short c x)) → (again : Bool) (word : Text) (rows : List Row) (p : Option (Text × List Text))
    → IsShort word → Fails (flag_word_fault c again (long_of word) word (held_with rows p))
short-flag-fails c alone again word rows p short =
    subst (λ (l : Option (Text × Option Text)). Fails (flag_word_fault c again l word (held_with rows p))) (sym short.0)
    (subst (λ (s : Option Text). Fails (option_map_or (λ flags. bundle_fault c again flags (held_with rows p)) s [])) (sym short.3)
    (bundle-fails c alone again short.1 short.2 rows p short.4))

pub flag-fails : (c : List Rule) → HasHelpAlone c → (again : Bool) (word : Text) (rows : List Row) (p : Option (Text × List Text))
    → IsFlag word → Fails (flag_word_fault c again (long_of word) word (held_with rows p))
flag-fails c alone again word rows p (inl long) =
    subst (λ (l : Option (Text × Option Text)). Fails (flag_word_fault c again l word (held_with rows p))) (sym long.2)
    (long-fails c (alone.long (name_and_value long.0).0) again (name_and_value long.0).1 (held_with rows p))
flag-fails c alone again word rows p (inr short) = short-flag-fails c alone.short again word rows p short

-- ## Other words are values

bundle-step-none : (c : List Rule) (again : Bool) (cs flags : Text) (h : Held) (next : Text → ℕ → Held → Kinds)
    → has_some cs ≡ false → bundle_step_fault c again (slice_get cs 0) flags 0 h next ≡ []
bundle-step-none c again [] flags h next none = refl
bundle-step-none c again (x ∷ xs) flags h next none = absurd (let bad : ⊥ = cc in bad)

bundle-none : (c : List Rule) (again : Bool) (y : ℕ) (ys : Text) (rows : List Row) (p : Option (Text × List Text))
    → has_some (chars (y ∷ ys)) ≡ false → bundle_fault c again (y ∷ ys) (held_with rows p) ≡ []
unfolding clap_on_literals
bundle-none c again y ys rows p none = bundle-step-none c again (chars (y ∷ ys)) (y ∷ ys) (held_with rows p) (flags_fault c again (length ys)) none

value-passes-short : (c : List Rule) (again : Bool) (word : Text) (rows : List Row) (p : Option (Text × List Text))
    → (short_of word ≡ None) ⊎ ((y : ℕ) × (ys : Text) × (short_of word ≡ Some (y ∷ ys)) × (has_some (chars (y ∷ ys)) ≡ false))
    → flag_word_fault c again None word (held_with rows p) ≡ []
value-passes-short c again word rows p (inl none) =
    ap (λ (s : Option Text). option_map_or (λ flags. bundle_fault c again flags (held_with rows p)) s []) none
value-passes-short c again word rows p (inr some) =
    ap (λ (s : Option Text). option_map_or (λ flags. bundle_fault c again flags (held_with rows p)) s []) some.2
    ∙ bundle-none c again some.0 some.1 rows p some.3

pub value-passes : (c : List Rule) (again : Bool) (word : Text) (rows : List Row) (p : Option (Text × List Text))
    → IsNoFlag word → flag_word_fault c again (long_of word) word (held_with rows p) ≡ []
value-passes c again word rows p free =
    ap (λ (l : Option (Text × Option Text)). flag_word_fault c again l word (held_with rows p)) free.0
    ∙ value-passes-short c again word rows p free.1

bundle-step-plain : (c : List Rule) (cs flags : Text) (h : Held) (next : Text → ℕ → Outcome → Held → Held × Outcome)
    → has_some cs ≡ false → bundle_step c (slice_get cs 0) flags 0 plain h next ≡ (h, plain)
bundle-step-plain c [] flags h next none = refl
bundle-step-plain c (x ∷ xs) flags h next none = absurd (let bad : ⊥ = cc in bad)

short-plain : (c : List Rule) (word : Text) (y : ℕ) (ys : Text) (rows : List Row) (p : Option (Text × List Text))
    → has_some (chars (y ∷ ys)) ≡ false → short_or_plain c idle word (Some (y ∷ ys)) (held_with rows p) ≡ (held_with rows p, value)
unfolding clap_on_literals
short-plain c word y ys rows p none =
    ap (λ (m : Held × Outcome). after_flag c idle word m.0 m.1)
    (bundle-step-plain c (chars (y ∷ ys)) (y ∷ ys) (held_with rows p) (bundle_met c (length ys)) none)

value-met-short : (c : List Rule) (word : Text) (rows : List Row) (p : Option (Text × List Text))
    → (short_of word ≡ None) ⊎ ((y : ℕ) × (ys : Text) × (short_of word ≡ Some (y ∷ ys)) × (has_some (chars (y ∷ ys)) ≡ false))
    → long_or_other c idle word None (held_with rows p) ≡ (held_with rows p, value)
value-met-short c word rows p (inl none) = ap (λ (s : Option Text). short_or_plain c idle word s (held_with rows p)) none
value-met-short c word rows p (inr some) =
    ap (λ (s : Option Text). short_or_plain c idle word s (held_with rows p)) some.2
    ∙ short-plain c word some.0 some.1 rows p some.3

pub value-met : (c : List Rule) (word : Text) (rows : List Row) (p : Option (Text × List Text))
    → IsNoFlag word → long_or_other c idle word (long_of word) (held_with rows p) ≡ (held_with rows p, value)
value-met c word rows p free =
    ap (λ (l : Option (Text × Option Text)). long_or_other c idle word l (held_with rows p)) free.0
    ∙ value-met-short c word rows p free.1
