-- A line asks one thing: rows, commands of `tsb run` and commands that are asked live alone are apart.
use Rattle.std.proofs.Common.{◌≡◌, ◌∙◌, ℕ, ◌==◌, Bool, true, false, List, [], ◌∷◌, refl, sym, subst, inl, inr, ◌⊎◌, Option, Some, None, codes}
use Rattle.std.specs.Prelude.{bytes_eq}
use Rattle.std.specs.Option.{option_map}
use Rattle.std.proofs.lemmas.Slice.Eq.{bytes_eq-Decides}
use Rattle.tsb_lines.specs.Words.{words_of, onto_word, number_of}
use Rattle.tsb_command_text.specs.clock.ClockText.{clock_of, time_in_word}
use Rattle.tsb_command_text.specs.Commands.{command_in, command_of_one, command_of_two, command_of_three, command_of_five, on_or_off, watch_of_two}
use Rattle.tsb_command_text.specs.Readings.{lines_in, lines_of_two}
use Rattle.tsb_command_text.specs.declared.command.Command.{Command}
use Rattle.tsb_command_text.specs.declared.command.Command.TheVariants as session
use Rattle.tsb_log_text.specs.declared.row_input.RowInput.{RowInput}
use Rattle.tsb_log_text.specs.declared.row_input.RowInput.TheVariants.{Vehicle, Pedestrian, Preempt}
use Rattle.tsb_log_text.specs.Forms.{inputs_in}
use Rattle.tsb_log_text.specs.RowLists.{lists_of}
use Rattle.tsb_log_text.specs.Rows.{inputs_of}
use Rattle.tsb_log_text.specs.tsb_types.declared.row.Row.{Row}
use Rattle.tsb_types.specs.declared.limits.TheConstants.{VEHICLE_DETECTORS, PEDESTRIAN_DETECTORS, PREEMPTS}
use Rattle.tsb_command_text.specs.LiveCommands.{input_of_two, number_to, own_in, own_of_one, own_of_three, own_of_two}
use Rattle.tsb_command_text.specs.declared.live_command.Aim.TheVariants.{Time, Moment}
use Rattle.tsb_command_text.specs.declared.live_command.LiveCommand.{LiveCommand}
use Rattle.tsb_command_text.specs.declared.live_command.LiveCommand.TheVariants.{Session, Changes, GoTo, TickAt, Events, Echo, Lines, When}
use Rattle.tsb_command_text.proofs.RowLemmas.{IsNone, BeginsRows, first-byte}

-- it is asked live alone
abbrev pub IsOwn : LiveCommand → Type 0
IsOwn (Session c) = ⊥
IsOwn (Lines is_wide) = ⊥
IsOwn c = Unit {0}

-- a row, a command that is asked live alone or lays out lines, a layout of lines, a command of `tsb run`: at most one is
-- there, but that a layout of lines is asked live as well
abbrev pub AreApart : Option Row → Option LiveCommand → Option Bool → Option Command → Type 0
AreApart (Some r) (Some x) l c = ⊥
AreApart (Some r) None (Some is_wide) c = ⊥
AreApart (Some r) None None (Some c) = ⊥
AreApart (Some r) None None None = Unit {0}
AreApart None (Some x) l (Some c) = ⊥
AreApart None (Some x) (Some is_wide) None = x ≡ Lines is_wide
AreApart None (Some x) None None = IsOwn x
AreApart None None (Some is_wide) c = ⊥
AreApart None None None c = Unit {0}

-- ## Words of commands that are asked live alone

mapped : {A : Type 0} → (f : A → LiveCommand) → ((a : A) → IsOwn (f a)) → (o : Option A) → AreApart None (option_map f o) None None
mapped f own None = tt
mapped f own (Some a) = own a

of-input : (f : ℕ → RowInput) (o : Option ℕ) → AreApart None (option_map When (option_map f o)) None None
of-input f None = tt
of-input f (Some n) = tt

-- a word is one of these, or another
named : (w name : List ℕ) → (w ≡ name) ⊎ (bytes_eq w name ≡ false)
named w name = at (bytes_eq w name) refl
  where
    at : (b : Bool) → bytes_eq w name ≡ b → (w ≡ name) ⊎ (bytes_eq w name ≡ false)
    at true e = inl ((bytes_eq-Decides w name).0 e)
    at false e = inr e

one-apart : (w : List ℕ) → AreApart None (own_of_one w) None (command_of_one w)
unfolding own_of_one command_of_one
one-apart w = elim (named w (codes "status")) [
  | inl is ↦ subst (λ (v : List ℕ). AreApart None (own_of_one v) None (command_of_one v)) (sym is) tt
  | inr no-status ↦ elim (named w (codes "plan")) [
    | inl is ↦ subst (λ (v : List ℕ). AreApart None (own_of_one v) None (command_of_one v)) (sym is) tt
    | inr no-plan ↦ elim (named w (codes "edits")) [
      | inl is ↦ subst (λ (v : List ℕ). AreApart None (own_of_one v) None (command_of_one v)) (sym is) tt
      | inr no-edits ↦ elim (named w (codes "save")) [
        | inl is ↦ subst (λ (v : List ℕ). AreApart None (own_of_one v) None (command_of_one v)) (sym is) tt
        | inr no-save ↦ elim (named w (codes "help")) [
          | inl is ↦ subst (λ (v : List ℕ). AreApart None (own_of_one v) None (command_of_one v)) (sym is) tt
          | inr no-help ↦ rw (no-status, no-plan, no-edits, no-save, no-help) tt
        ]
      ]
    ]
  ]
]

-- a layout of lines
laid-out : (x : List ℕ) → AreApart None (own_of_two (codes "lines") x) (lines_of_two (codes "lines") x) (command_of_two (codes "lines") x)
unfolding own_of_two command_of_two
laid-out x = at (lines_of_two (codes "lines") x)
  where
    at : (o : Option Bool) → AreApart None (option_map Lines o) o None
    at None = tt
    at (Some is_wide) = refl

two-apart : (w x : List ℕ) → AreApart None (own_of_two w x) (lines_of_two w x) (command_of_two w x)
unfolding own_of_two command_of_two lines_of_two
two-apart w x = elim (named w (codes "changes")) [
  | inl is ↦ subst (λ (v : List ℕ). AreApart None (own_of_two v x) (lines_of_two v x) (command_of_two v x)) (sym is) (mapped Changes (λ n. tt) (number_of x))
  | inr no-changes ↦ elim (named w (codes "goto")) [
    | inl is ↦ subst (λ (v : List ℕ). AreApart None (own_of_two v x) (lines_of_two v x) (command_of_two v x)) (sym is) (mapped (λ t. GoTo (Time t)) (λ t. tt) (time_in_word x))
    | inr no-goto ↦ elim (named w (codes "tick")) [
      | inl is ↦ subst (λ (v : List ℕ). AreApart None (own_of_two v x) (lines_of_two v x) (command_of_two v x)) (sym is) (mapped (λ t. TickAt (Time t)) (λ t. tt) (time_in_word x))
      | inr no-tick ↦ elim (named w (codes "events")) [
        | inl is ↦ subst (λ (v : List ℕ). AreApart None (own_of_two v x) (lines_of_two v x) (command_of_two v x)) (sym is) (mapped Events (λ b. tt) (on_or_off x))
        | inr no-events ↦ elim (named w (codes "echo")) [
          | inl is ↦ subst (λ (v : List ℕ). AreApart None (own_of_two v x) (lines_of_two v x) (command_of_two v x)) (sym is) (mapped Echo (λ b. tt) (on_or_off x))
          | inr no-echo ↦ elim (named w (codes "lines")) [
            | inl is ↦ subst (λ (v : List ℕ). AreApart None (own_of_two v x) (lines_of_two v x) (command_of_two v x)) (sym is) (laid-out x)
            | inr no-lines ↦ rw (no-changes, no-goto, no-tick, no-events, no-echo, no-lines) tt
          ]
        ]
      ]
    ]
  ]
]

-- ticks at which an input of rows changed, and a value of the controller
watches-apart : (x y : List ℕ) → AreApart None (option_map When (input_of_two x y)) None (option_map session.When (watch_of_two x y))
watches-apart x y = elim (named x (codes "input")) [
  | inl is ↦ subst (λ (v : List ℕ). AreApart None (option_map When (input_of_two v y)) None (option_map session.When (watch_of_two v y))) (sym is)
      (of-input Vehicle (number_to VEHICLE_DETECTORS y))
  | inr no-input ↦ elim (named x (codes "button")) [
    | inl is ↦ subst (λ (v : List ℕ). AreApart None (option_map When (input_of_two v y)) None (option_map session.When (watch_of_two v y))) (sym is)
        (of-input Pedestrian (number_to PEDESTRIAN_DETECTORS y))
    | inr no-button ↦ elim (named x (codes "preempt")) [
      | inl is ↦ subst (λ (v : List ℕ). AreApart None (option_map When (input_of_two v y)) None (option_map session.When (watch_of_two v y))) (sym is)
          (of-input Preempt (number_to PREEMPTS y))
      | inr no-preempt ↦ rw (no-input, no-button, no-preempt) tt
    ]
  ]
]

three-apart : (w x y : List ℕ) → AreApart None (own_of_three w x y) None (command_of_three w x y)
unfolding own_of_three command_of_three
three-apart w x y = elim (named w (codes "when")) [
  | inl is ↦ subst (λ (v : List ℕ). AreApart None (own_of_three v x y) None (command_of_three v x y)) (sym is) (watches-apart x y)
  | inr no-when ↦ elim (named w (codes "goto")) [
    | inl is ↦ subst (λ (v : List ℕ). AreApart None (own_of_three v x y) None (command_of_three v x y)) (sym is) (mapped (λ m. GoTo (Moment m)) (λ m. tt) (clock_of x y))
    | inr no-goto ↦ elim (named w (codes "tick")) [
      | inl is ↦ subst (λ (v : List ℕ). AreApart None (own_of_three v x y) None (command_of_three v x y)) (sym is) (mapped (λ m. TickAt (Moment m)) (λ m. tt) (clock_of x y))
      | inr no-tick ↦ rw (no-when, no-goto, no-tick) tt
    ]
  ]
]

words-apart : (ws : List (List ℕ)) → AreApart None (own_in ws) (lines_in ws) (command_in ws)
words-apart [] = tt
words-apart (w ∷ []) = one-apart w
words-apart (w ∷ x ∷ []) = two-apart w x
words-apart (w ∷ x ∷ y ∷ []) = three-apart w x y
words-apart (w ∷ x ∷ y ∷ z ∷ ws) = tt

-- ## Rows

-- words whose first begins with this byte are no commands
abbrev NoneBegin : ℕ → Type 0
NoneBegin d = (r : Row) (w : List ℕ) (ws : List (List ℕ)) → AreApart (Some r) (own_in ((d ∷ w) ∷ ws)) (lines_in ((d ∷ w) ∷ ws)) (command_in ((d ∷ w) ∷ ws))

none-48 : NoneBegin 48
unfolding own_of_one own_of_two own_of_three lines_of_two command_of_one command_of_two command_of_three command_of_five
none-48 r w [] = tt
none-48 r w (x ∷ []) = tt
none-48 r w (x ∷ y ∷ []) = tt
none-48 r w (x ∷ y ∷ z ∷ []) = tt
none-48 r w (x ∷ y ∷ z ∷ v ∷ []) = tt
none-48 r w (x ∷ y ∷ z ∷ v ∷ u ∷ ws) = tt

none-49 : NoneBegin 49
unfolding own_of_one own_of_two own_of_three lines_of_two command_of_one command_of_two command_of_three command_of_five
none-49 r w [] = tt
none-49 r w (x ∷ []) = tt
none-49 r w (x ∷ y ∷ []) = tt
none-49 r w (x ∷ y ∷ z ∷ []) = tt
none-49 r w (x ∷ y ∷ z ∷ v ∷ []) = tt
none-49 r w (x ∷ y ∷ z ∷ v ∷ u ∷ ws) = tt

none-69 : NoneBegin 69
unfolding own_of_one own_of_two own_of_three lines_of_two command_of_one command_of_two command_of_three command_of_five
none-69 r w [] = tt
none-69 r w (x ∷ []) = tt
none-69 r w (x ∷ y ∷ []) = tt
none-69 r w (x ∷ y ∷ z ∷ []) = tt
none-69 r w (x ∷ y ∷ z ∷ v ∷ []) = tt
none-69 r w (x ∷ y ∷ z ∷ v ∷ u ∷ ws) = tt

none-80 : NoneBegin 80
unfolding own_of_one own_of_two own_of_three lines_of_two command_of_one command_of_two command_of_three command_of_five
none-80 r w [] = tt
none-80 r w (x ∷ []) = tt
none-80 r w (x ∷ y ∷ []) = tt
none-80 r w (x ∷ y ∷ z ∷ []) = tt
none-80 r w (x ∷ y ∷ z ∷ v ∷ []) = tt
none-80 r w (x ∷ y ∷ z ∷ v ∷ u ∷ ws) = tt

none-86 : NoneBegin 86
unfolding own_of_one own_of_two own_of_three lines_of_two command_of_one command_of_two command_of_three command_of_five
none-86 r w [] = tt
none-86 r w (x ∷ []) = tt
none-86 r w (x ∷ y ∷ []) = tt
none-86 r w (x ∷ y ∷ z ∷ []) = tt
none-86 r w (x ∷ y ∷ z ∷ v ∷ []) = tt
none-86 r w (x ∷ y ∷ z ∷ v ∷ u ∷ ws) = tt

none-begin : (d : ℕ) → BeginsRows d → NoneBegin d
none-begin d (inl (inl is)) = subst NoneBegin (sym is) none-48
none-begin d (inl (inr is)) = subst NoneBegin (sym is) none-49
none-begin d (inr (inl is)) = subst NoneBegin (sym is) none-86
none-begin d (inr (inr (inl is))) = subst NoneBegin (sym is) none-80
none-begin d (inr (inr (inr is))) = subst NoneBegin (sym is) none-69

-- the first word begins as the line does
onto-first : (d : ℕ) (bs : List ℕ) (ws : List (List ℕ)) → (w : List ℕ) × (rest : List (List ℕ)) × (onto_word d bs ws ≡ (d ∷ w) ∷ rest)
onto-first d [] ws = ([], ws, refl)
onto-first d (b ∷ bs) [] = ([], [], refl)
onto-first d (b ∷ bs) (w ∷ ws) = at (b == 32) refl
  where
    at : (t : Bool) → (b == 32) ≡ t → (v : List ℕ) × (rest : List (List ℕ)) × (onto_word d (b ∷ bs) (w ∷ ws) ≡ (d ∷ v) ∷ rest)
    at true e = ([], w ∷ ws, rw e refl)
    at false e = (w, ws, rw e refl)

-- a line that begins so is no blank, so that its words are those of its first byte before the others
begun-words : (d : ℕ) (bs : List ℕ) → BeginsRows d → words_of (d ∷ bs) ≡ onto_word d bs (words_of bs)
begun-words d bs (inl (inl is)) = rw is refl
begun-words d bs (inl (inr is)) = rw is refl
begun-words d bs (inr (inl is)) = rw is refl
begun-words d bs (inr (inr (inl is))) = rw is refl
begun-words d bs (inr (inr (inr is))) = rw is refl

begun-apart : (r : Row) (d : ℕ) (bs : List ℕ) → BeginsRows d
    → AreApart (Some r) (own_in (words_of (d ∷ bs))) (lines_in (words_of (d ∷ bs))) (command_in (words_of (d ∷ bs)))
begun-apart r d bs b =
    let first : (w : List ℕ) × (rest : List (List ℕ)) × (onto_word d bs (words_of bs) ≡ (d ∷ w) ∷ rest) = onto-first d bs (words_of bs) in
    subst (λ (ws : List (List ℕ)). AreApart (Some r) (own_in ws) (lines_in ws) (command_in ws)) (sym (begun-words d bs b ∙ first.2)) (none-begin d b r first.0 first.1)

row-apart : (line : List ℕ) (r : Row) → inputs_in line ≡ Some r → AreApart (Some r) (own_in (words_of line)) (lines_in (words_of line)) (command_in (words_of line))
unfolding inputs_of lists_of
row-apart [] r e = absurd (subst (λ (o : Option Row). IsNone o) e tt)
row-apart (d ∷ bs) r e = begun-apart r d bs (first-byte d bs r e)

-- ## Lines

pub apart : (line : List ℕ) → AreApart (inputs_in line) (own_in (words_of line)) (lines_in (words_of line)) (command_in (words_of line))
apart line = at (inputs_in line) refl
  where
    at : (o : Option Row) → inputs_in line ≡ o → AreApart o (own_in (words_of line)) (lines_in (words_of line)) (command_in (words_of line))
    at None e = words-apart (words_of line)
    at (Some r) e = row-apart line r e
