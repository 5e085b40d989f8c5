-- What definitions give, by computing.
use Rattle.std.specs.Prelude.{◌≡◌, ℕ, true, false, List, [], ◌∷◌, ◌++◌, codes, Some, None, refl}
use Rattle.tsb_types.specs.Lists.{run_from}
use Rattle.tsb_types.specs.Sets.{set_of_list}
use Rattle.tsb_field_display.specs.declared.shown.Signals.{Signals}
use Rattle.tsb_field_display.specs.declared.shown.Shown.{Shown}
use Rattle.tsb_field_display.specs.Shows.{is_same, AreApart}
use Rattle.tsb_field_display.specs.Reading.{is_display, shown_of, signals_of}
use Rattle.tsb_field_display.specs.Remaining.{remaining, changes_of}
use Rattle.tsb_types.specs.Events.{event}
use Rattle.tsb_field_display.specs.Events.{events_of, events_of_lines}
use Rattle.tsb_field_display.specs.ReadBack.{read_back}
use Rattle.tsb_field_display.specs.Laws.{AreAllApart}
use Rattle.tsb_field_display.specs.Stream.{shown_lines}
use Rattle.tsb_field_display.proofs.LetterLemmas.{apart-pedestrians, apart-overlaps, apart-green_arrows, apart-yellow_arrows}

-- what a computed line opens
unfoldable pub opened : Unit {0}
unfolding run_from is_display shown_of is_same events_of
opened = tt

-- ## Reading

yellow : shown_of false (codes "0000101 -Y-R------------ -C-------------- G--- 2 0759") ≡ Some (record {
  tick = 101;
  signals = record {
    vehicles = record { greens = set_of_list 0; yellows = set_of_list 2; reds = set_of_list 8; flashing = set_of_list 0; arrows = set_of_list 0 };
    pedestrians = record { walks = set_of_list 0; clearances = set_of_list 2; dont_walks = set_of_list 0 };
    overlaps = record { greens = set_of_list 1; yellows = set_of_list 0; reds = set_of_list 0; flashing = set_of_list 0; arrows = set_of_list 0 };
    preempt = Some 2;
  };
})
unfolding opened
yellow = refl

-- a wide line has overlap 5 too, and preempt 8 is in service
wide : shown_of true (codes "0000101 -Y-R------------ -C-------------- G--- 8 0759 G---Y-----------") ≡ Some (record {
  tick = 101;
  signals = record {
    vehicles = record { greens = set_of_list 0; yellows = set_of_list 2; reds = set_of_list 8; flashing = set_of_list 0; arrows = set_of_list 0 };
    pedestrians = record { walks = set_of_list 0; clearances = set_of_list 2; dont_walks = set_of_list 0 };
    overlaps = record { greens = set_of_list 1; yellows = set_of_list 16; reds = set_of_list 0; flashing = set_of_list 0; arrows = set_of_list 0 };
    preempt = Some 8;
  };
})
unfolding opened
wide = refl

-- overlap 2 is an arrow that flashes; no phase does
arrow : shown_of false (codes "0000101 -G-R------------ -D-------------- RP-- 0 ----") ≡ Some (record {
  tick = 101;
  signals = record {
    vehicles = record { greens = set_of_list 2; yellows = set_of_list 0; reds = set_of_list 8; flashing = set_of_list 0; arrows = set_of_list 0 };
    pedestrians = record { walks = set_of_list 0; clearances = set_of_list 0; dont_walks = set_of_list 2 };
    overlaps = record { greens = set_of_list 0; yellows = set_of_list 0; reds = set_of_list 1; flashing = set_of_list 0; arrows = set_of_list 2 };
    preempt = None;
  };
})
unfolding opened
arrow = refl

no_phase_flashes : shown_of false (codes "0000101 -P-R------------ -D-------------- RP-- 0 ----") ≡ None
unfolding opened
no_phase_flashes = refl

-- where lines are wide the others are none, and where they are not the wide ones are none
not_wide : shown_of true (codes "0000101 -Y-R------------ -C-------------- G--- 8 0759") ≡ None
unfolding opened
not_wide = refl

not_narrow : shown_of false (codes "0000101 -Y-R------------ -C-------------- G--- 8 0759 G---Y-----------") ≡ None
unfolding opened
not_narrow = refl

-- other answers of a session are no display lines
an_answer : shown_of false (codes "ok") ≡ None
unfolding opened
an_answer = refl

-- nor is a line with a letter, a digit or a space out of place
wrong_letter : shown_of false (codes "0000101 -W-R------------ -D-------------- G--- 2 0759") ≡ None
unfolding opened
wrong_letter = refl

wrong_tick : shown_of false (codes "000010A -Y-R------------ -D-------------- G--- 2 0759") ≡ None
unfolding opened
wrong_tick = refl

wrong_preempt : shown_of false (codes "0000101 -Y-R------------ -D-------------- G--- 9 0759") ≡ None
unfolding opened
wrong_preempt = refl

wrong_local : shown_of false (codes "0000101 -Y-R------------ -D-------------- G--- 2 07--") ≡ None
unfolding opened
wrong_local = refl

no_space : shown_of false (codes "0000101--Y-R------------ -D-------------- G--- 2 0759") ≡ None
unfolding opened
no_space = refl

-- ## Lines of a crossing with a phase, a walk and an overlap

abbrev pub red_line : List ℕ
red_line = codes "0000000 -R-------------- -D-------------- R--- 0 ----"

abbrev pub red : Signals
red = signals_of false red_line

abbrev pub green_line : List ℕ
green_line = codes "0000000 -G-------------- -W-------------- G--- 0 ----"

abbrev pub green : Signals
green = signals_of false green_line

abbrev pub clearing_line : List ℕ
clearing_line = codes "0000000 -G-------------- -C-------------- G--- 1 ----"

abbrev pub clearing : Signals
clearing = signals_of false clearing_line

abbrev pub ending : Signals
ending = signals_of false (codes "0000000 -Y-------------- -D-------------- Y--- 1 ----")

abbrev pub flash : Signals
flash = signals_of false (codes "0000000 -F-------------- ---------------- F--- 0 ----")

abbrev pub at : ℕ → Signals → Shown
at tick signals = record { tick = tick; signals = signals }

-- back from 4 to 2, and on
abbrev pub session : List Shown
session = at 1 red ∷ at 2 green ∷ at 3 green ∷ at 4 clearing ∷ at 2 red ∷ at 3 green ∷ at 4 green ∷ []

what_remains : remaining session ≡ at 1 red ∷ at 2 red ∷ at 3 green ∷ at 4 green ∷ []
unfolding opened
what_remains = refl

what_changes : changes_of (remaining session) ≡ at 1 red ∷ at 3 green ∷ []
unfolding opened
what_changes = refl

-- ## Answers of a session

-- one line ends with a return and a feed, and the last with nothing; a longer line is none
answers : shown_lines false (codes "ok" ++ 10 ∷ red_line ++ 13 ∷ 10 ∷ green_line ++ 32 ∷ 10 ∷ clearing_line) ≡ at 0 red ∷ at 0 clearing ∷ []
unfolding opened
answers = refl

-- ## Events

whole : events_of_lines (at 1 red ∷ at 2 green ∷ at 3 clearing ∷ at 4 ending ∷ at 5 red ∷ at 6 flash ∷ at 7 red ∷ [])
    ≡ event 2 1 2 ∷ event 2 21 2 ∷ event 2 61 1 ∷ event 3 22 2 ∷ event 3 105 1 ∷ event 4 7 2 ∷ event 4 8 2 ∷ event 4 23 2
    ∷ event 4 63 1 ∷ event 5 9 2 ∷ event 5 64 1 ∷ event 6 173 6 ∷ event 7 173 2 ∷ []
unfolding opened
whole = refl

-- an arrow begins to flash as phase 2 is green, has its yellow, and flashes again; then it is red
abbrev pub arrow_at : ℕ → Signals
arrow_at letter = signals_of false (codes "0000000 -G-------------- -D-------------- -" ++ letter ∷ codes "-- 0 ----")

arrows_tell : events_of_lines (at 1 (arrow_at 82) ∷ at 2 (arrow_at 80) ∷ at 3 (arrow_at 89) ∷ at 4 (arrow_at 80) ∷ at 5 (arrow_at 71) ∷ at 6 (arrow_at 82) ∷ [])
    ≡ event 1 1 2 ∷ event 2 32 2 ∷ event 3 33 2 ∷ event 3 63 2 ∷ event 4 32 2 ∷ event 5 33 2 ∷ event 5 61 2 ∷ event 6 64 2 ∷ []
unfolding opened
arrows_tell = refl

-- ## Lines that meet the premise of the law on what events tell

are_apart : (line : List ℕ) → AreApart (signals_of false line)
are_apart line = record {
  pedestrians = apart-pedestrians _;
  overlaps = apart-overlaps _;
  green_arrows = apart-green_arrows _;
  yellow_arrows = apart-yellow_arrows _;
}

met : AreAllApart (at 1 red ∷ at 2 green ∷ at 3 clearing ∷ [])
met = (are_apart red_line, (are_apart green_line, (are_apart clearing_line, tt)))

told_clearance : (read_back (events_of_lines (at 1 red ∷ at 2 green ∷ at 3 clearing ∷ []))).clearance 2 ≡ true
unfolding opened
told_clearance = refl
