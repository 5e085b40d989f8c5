-- A card: which pairs of channels are permissive on it.
use Rattle.std.specs.Prelude.{ℕ, zero, suc, Bool, false, slice_index_or}
use Rattle.tsb_types.specs.Sets.{has_number, set_of_list}
use Rattle.tsb_card.specs.declared.card.Card.{Card}

-- two channels are permissive on a card
abbrev pub permits : Card → ℕ → ℕ → Bool
permits card zero b = false
permits card (suc k) b = has_number (slice_index_or card.rows k (set_of_list 0)) b
