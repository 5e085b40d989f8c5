-- What holds of lines and words, in words that do not retrace how they are found. Each law here is the contract of a
-- function in src/laws.rt.
use Rattle.std.specs.Prelude.{◌≡◌, ◌≢◌, ℕ, List, [], ◌∷◌, ◌++◌, All}
use Rattle.tsb_lines.specs.Lines.{split, HasNoFeed}
use Rattle.tsb_lines.specs.Words.{words_of}

-- lines with line feeds between them
abbrev pub joined : List (List ℕ) → List ℕ
joined [] = []
joined (l ∷ []) = l
joined (l ∷ m ∷ ms) = l ++ 10 ∷ joined (m ∷ ms)

-- with line feeds between them, what a text is split into is the text
abbrev pub MakeUpTheText : Type 0
MakeUpTheText = (text : List ℕ) → joined (split text) ≡ text

-- none of it has a line feed
abbrev pub HaveNoFeed : Type 0
HaveNoFeed = (text : List ℕ) → All HasNoFeed (split text)

-- some bytes, and none is a space
abbrev pub IsWord : List ℕ → Type 0
IsWord [] = ⊥
IsWord (b ∷ []) = b ≢ 32
IsWord (b ∷ c ∷ bs) = (b ≢ 32) × IsWord (c ∷ bs)

-- a leading space changes no word
abbrev pub IgnoreSpaces : Type 0
IgnoreSpaces = (rest : List ℕ) → words_of (32 ∷ rest) ≡ words_of rest

-- a word that begins a line, with a space after it, is the first of its words
abbrev pub EndAtSpaces : Type 0
EndAtSpaces = (word rest : List ℕ) → IsWord word → words_of (word ++ 32 ∷ rest) ≡ word ∷ words_of rest

-- a word alone is the one word
abbrev pub EndAtTheEnd : Type 0
EndAtTheEnd = (word : List ℕ) → IsWord word → words_of word ≡ word ∷ []
