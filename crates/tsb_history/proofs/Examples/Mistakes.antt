-- A mistake in how records are spelled, with an example that tells it from the definition.
use Rattle.std.proofs.Common.{◌≡◌, ℕ, List, [], ◌∷◌, ◌++◌, All, replicate, refl, arith}
use Rattle.std.proofs.lemmas.List.Elements.{All-cons, All-nil, All-replicate}
use Rattle.tsb_history.specs.declared.kinds.Kind.TheVariants.{Tick}
use Rattle.tsb_history.specs.Bytes.{code_of, entries_bytes, bytes_of}
use Rattle.tsb_history.specs.History.{Change, FitsEntry, FitsRecord}

-- a tick that changed these cells
abbrev pub tick : List (ℕ × ℕ) → Change
tick entries = record { kind = Tick; entries = entries }

-- one tick that changed cell 0, which was 0; and seven that changed nothing
abbrev pub one : List Change
one = tick ((0, 0) ∷ []) ∷ []

abbrev pub seven : List Change
seven = replicate 7 (tick [])

-- both fit their places
one_fits : All FitsRecord one
one_fits =
    All-cons FitsRecord _ [] (record {
      few = omega arith;
      entries = All-cons FitsEntry _ [] (record { cell = omega arith; old = omega arith }) (All-nil FitsEntry);
    }) (All-nil FitsRecord)

tick_fits : FitsRecord (tick [])
tick_fits = record { few = omega arith; entries = All-nil FitsEntry }

seven_fit : All FitsRecord seven
seven_fit = All-replicate FitsRecord 7 (tick []) tick_fits

-- ## A record does not say how many entries it has

abbrev pub bytes_without_count : List Change → List ℕ
bytes_without_count [] = []
bytes_without_count (r ∷ rs) = bytes_without_count rs ++ entries_bytes r.entries ++ code_of r.kind ∷ []

one_tick : bytes_of one ≡ 0 ∷ 0 ∷ 0 ∷ 0 ∷ 0 ∷ 0 ∷ 0 ∷ 1 ∷ 0 ∷ []
one_tick = refl

would_be_one : bytes_without_count one ≡ 0 ∷ 0 ∷ 0 ∷ 0 ∷ 0 ∷ 0 ∷ 0 ∷ []
would_be_one = refl

would_be_seven : bytes_without_count seven ≡ 0 ∷ 0 ∷ 0 ∷ 0 ∷ 0 ∷ 0 ∷ 0 ∷ []
would_be_seven = refl
