-- What a line asks, beside what `tsb run` reads in it; and the first bytes of a long line say as much as all.
use Rattle.std.proofs.Common.{◌≡◌, ◌∙◌, ℕ, ◌+◌, ◌<◌, ◌≤◌, nat_lt, Bool, true, false, List, [], ◌∷◌, length, refl, sym, ap, subst, arith, inl, inr, Option, Some, None, if◌then◌else◌}
use Rattle.std.specs.Prelude.{◌↔◌}
use Rattle.std.specs.Option.{option_map, option_or}
use Rattle.std.proofs.lemmas.Bool.{lt-ltb, le-ltb}
use Rattle.tsb_lines.specs.Lines.{is_skipped, kept, without_return}
use Rattle.tsb_lines.specs.Words.{words_of}
use Rattle.tsb_lines.proofs.KeptLemmas.{kept-tells}
use Rattle.tsb_lines.proofs.LineLemmas.{length-return}
use Rattle.tsb_command_text.specs.Commands.{command_in}
use Rattle.tsb_command_text.specs.Readings.{lines_in, reading, reading_in}
use Rattle.tsb_command_text.specs.declared.command.Command.{Command}
use Rattle.tsb_command_text.specs.declared.command.Reading.{Reading}
use Rattle.tsb_command_text.specs.declared.command.Reading.TheVariants as session
use Rattle.tsb_log_text.specs.tsb_types.declared.row.Row.{Row}
use Rattle.tsb_log_text.specs.Forms.{inputs_in}
use Rattle.tsb_log_text.specs.RowLists.{lists_of}
use Rattle.tsb_log_text.specs.Rows.{inputs_of}
use Rattle.tsb_command_text.specs.LiveCommands.{live_command_in, own_in}
use Rattle.tsb_command_text.specs.LiveReadings.{live_reading, row_or}
use Rattle.tsb_command_text.specs.declared.live_command.LiveCommand.{LiveCommand}
use Rattle.tsb_command_text.specs.declared.live_command.LiveCommand.TheVariants.{Lines, Session}
use Rattle.tsb_command_text.specs.declared.live_command.LiveReading.{LiveReading}
use Rattle.tsb_command_text.specs.declared.live_command.LiveReading.TheVariants.{Skip, Bad, Tick, Ask}
use Rattle.tsb_command_text.proofs.RowLemmas.{BeginsRows, IsNone, first-byte}
use Rattle.tsb_command_text.proofs.CommandLemmas.{AreApart, apart}

-- ## Long lines

pub live-reading-long : (line : List ℕ) → 200 < length line → live_reading line ≡ Bad
unfolding live_reading
live-reading-long line long = rw (lt-ltb 200 (length line) long) refl

pub session-reading-long : (line : List ℕ) → 200 < length line → reading line ≡ session.Bad
session-reading-long line long = rw (lt-ltb 200 (length line) long) refl

pub live-reading-returned : (raw : List ℕ) → 202 ≤ length raw → live_reading (without_return raw) ≡ Bad
live-reading-returned raw long =
    let more : length raw ≤ length (without_return raw) + 1 = length-return raw in live-reading-long (without_return raw) (omega (arith, more, long))

-- what is kept of a line asks what the line does: of one that a line feed ends, and of the last one
pub kept-asks : (line : List ℕ) → live_reading (without_return (kept 202 line)) ≡ live_reading (without_return line)
kept-asks line = kept-tells (λ (v : List ℕ). live_reading (without_return v)) 202 Bad live-reading-returned line

pub kept-asks-last : (line : List ℕ) → live_reading (kept 202 line) ≡ live_reading line
kept-asks-last line = kept-tells live_reading 202 Bad (λ v long. live-reading-long v (omega (arith, long))) line

-- ## By the tests of a line

abbrev asked : Bool → Bool → Option Row → Option LiveCommand → LiveReading
asked long skipped r c = if long then Bad else if skipped then Skip else row_or r c

abbrev said : Bool → Bool → Option Bool → Option Command → Reading
said long skipped l c = if long then session.Bad else if skipped then session.Skip else reading_in l c

abbrev one_of : Option LiveCommand → Option Command → Option LiveCommand
one_of own c = option_or own (option_map Session c)

tests : (line : List ℕ) → live_reading line ≡ asked (nat_lt 200 (length line)) (is_skipped line) (inputs_in line) (one_of (own_in (words_of line)) (command_in (words_of line)))
unfolding live_reading
tests line = refl

-- the command of `tsb run` that is asked, here and there
abbrev session_of : LiveReading → Option Command
session_of (Ask (Session c)) = Some c
session_of x = None

abbrev done_of : Reading → Option Command
done_of (session.Do c) = Some c
done_of x = None

abbrev row_asked : LiveReading → Option Row
row_asked (Tick r) = Some r
row_asked x = None

abbrev command_asked : LiveReading → Option LiveCommand
command_asked (Ask c) = Some c
command_asked x = None

abbrev value : {A : Type 0} → A → Option A → A
value a None = a
value a (Some b) = b

asks-session : (x : LiveReading) (c : Command) → session_of x ≡ Some c → x ≡ Ask (Session c)
asks-session (Ask (Session d)) c e = ap (λ (o : Option Command). Ask (Session (value c o))) e
asks-session x c e = absurd (subst IsNone e tt)

does-session : (x : Reading) (c : Command) → done_of x ≡ Some c → x ≡ session.Do c
does-session (session.Do d) c e = ap (λ (o : Option Command). session.Do (value c o)) e
does-session x c e = absurd (subst IsNone e tt)

same-session : (long skipped : Bool) (r : Option Row) (own : Option LiveCommand) (l : Option Bool) (c : Option Command) → AreApart r own l c
    → session_of (asked long skipped r (one_of own c)) ≡ done_of (said long skipped l c)
same-session true skipped r own l c a = refl
same-session false true r own l c a = refl
same-session false false (Some r) (Some x) l c a = absurd a
same-session false false (Some r) None (Some b) c a = absurd a
same-session false false (Some r) None None (Some c) a = absurd a
same-session false false (Some r) None None None a = refl
same-session false false None (Some x) l (Some c) a = absurd a
same-session false false None (Some x) (Some b) None a = rw a refl
same-session false false None (Some (Session d)) None None a = absurd a
same-session false false None (Some x) None None a = refl
same-session false false None None (Some b) c a = absurd a
same-session false false None None None (Some c) a = refl
same-session false false None None None None a = refl

pub asks-same : (line : List ℕ) (c : Command) → ((live_reading line ≡ Ask (Session c)) ↔ (reading line ≡ session.Do c))
asks-same line c =
    let same : session_of (live_reading line) ≡ done_of (reading line) = ap session_of (tests line)
    ∙ same-session (nat_lt 200 (length line)) (is_skipped line) (inputs_in line) (own_in (words_of line)) (lines_in (words_of line)) (command_in (words_of line)) (apart line) in
    (λ e. does-session (reading line) c (sym same ∙ ap session_of e), λ e. asks-session (live_reading line) c (same ∙ ap done_of e))

-- the layout of lines that is asked, here and there
abbrev layout_asked : LiveReading → Option Bool
layout_asked (Ask (Lines b)) = Some b
layout_asked x = None

abbrev layout_said : Reading → Option Bool
layout_said (session.Lines b) = Some b
layout_said x = None

asks-layout : (x : LiveReading) (b : Bool) → layout_asked x ≡ Some b → x ≡ Ask (Lines b)
asks-layout (Ask (Lines d)) b e = ap (λ (o : Option Bool). Ask (Lines (value d o))) e
asks-layout x b e = absurd (subst IsNone e tt)

says-layout : (x : Reading) (b : Bool) → layout_said x ≡ Some b → x ≡ session.Lines b
says-layout (session.Lines d) b e = ap (λ (o : Option Bool). session.Lines (value d o)) e
says-layout x b e = absurd (subst IsNone e tt)

same-layout : (long skipped : Bool) (r : Option Row) (own : Option LiveCommand) (l : Option Bool) (c : Option Command) → AreApart r own l c
    → layout_asked (asked long skipped r (one_of own c)) ≡ layout_said (said long skipped l c)
same-layout true skipped r own l c a = refl
same-layout false true r own l c a = refl
same-layout false false (Some r) (Some x) l c a = absurd a
same-layout false false (Some r) None (Some b) c a = absurd a
same-layout false false (Some r) None None (Some c) a = absurd a
same-layout false false (Some r) None None None a = refl
same-layout false false None (Some x) l (Some c) a = absurd a
same-layout false false None (Some x) (Some b) None a = rw a refl
same-layout false false None (Some (Lines d)) None None a = absurd a
same-layout false false None (Some x) None None a = refl
same-layout false false None None (Some b) c a = absurd a
same-layout false false None None None (Some c) a = refl
same-layout false false None None None None a = refl

pub lays-out-same : (line : List ℕ) (b : Bool) → ((live_reading line ≡ Ask (Lines b)) ↔ (reading line ≡ session.Lines b))
lays-out-same line b =
    let same : layout_asked (live_reading line) ≡ layout_said (reading line) = ap layout_asked (tests line)
    ∙ same-layout (nat_lt 200 (length line)) (is_skipped line) (inputs_in line) (own_in (words_of line)) (lines_in (words_of line)) (command_in (words_of line)) (apart line) in
    (λ e. says-layout (reading line) b (sym same ∙ ap layout_asked e), λ e. asks-layout (live_reading line) b (same ∙ ap layout_said e))

abbrev IsSkip : LiveReading → Type 0
IsSkip Skip = Unit {0}
IsSkip x = ⊥

abbrev IsSaidSkip : Reading → Type 0
IsSaidSkip session.Skip = Unit {0}
IsSaidSkip x = ⊥

skip-same : (long skipped : Bool) (r : Option Row) (own : Option LiveCommand) (l : Option Bool) (c : Option Command)
    → ((asked long skipped r own ≡ Skip) ↔ (said long skipped l c ≡ session.Skip))
skip-same true skipped r own l c = (λ e. absurd (subst IsSkip (sym e) tt), λ e. absurd (subst IsSaidSkip (sym e) tt))
skip-same false true r own l c = (λ e. refl, λ e. refl)
skip-same false false r own l c = (λ e. absurd (no-skip r own e), λ e. absurd (no-said-skip l c e))
  where
    no-skip : (r : Option Row) (own : Option LiveCommand) → row_or r own ≡ Skip → ⊥
    no-skip (Some r) own e = subst IsSkip (sym e) tt
    no-skip None (Some x) e = subst IsSkip (sym e) tt
    no-skip None None e = subst IsSkip (sym e) tt

    no-said-skip : (l : Option Bool) (c : Option Command) → reading_in l c ≡ session.Skip → ⊥
    no-said-skip (Some b) c e = subst IsSaidSkip (sym e) tt
    no-said-skip None (Some c) e = subst IsSaidSkip (sym e) tt
    no-said-skip None None e = subst IsSaidSkip (sym e) tt

pub skips-same : (line : List ℕ) → ((live_reading line ≡ Skip) ↔ (reading line ≡ session.Skip))
skips-same line =
    subst (λ (x : LiveReading). (x ≡ Skip) ↔ (reading line ≡ session.Skip)) (sym (tests line))
    (skip-same (nat_lt 200 (length line)) (is_skipped line) (inputs_in line) (one_of (own_in (words_of line)) (command_in (words_of line))) (lines_in (words_of line)) (command_in (words_of line)))

-- ## Rows

row-same : (long skipped : Bool) (r : Option Row) (own : Option LiveCommand) (l : Option Bool) (c : Option Command) (q : Row) → AreApart r own l c
    → row_asked (asked long skipped r (one_of own c)) ≡ Some q → (said long skipped l c ≡ session.Bad) × (one_of own c ≡ None) × (r ≡ Some q)
row-same true skipped r own l c q a e = absurd (subst IsNone e tt)
row-same false true r own l c q a e = absurd (subst IsNone e tt)
row-same false false (Some r) (Some x) l c q a e = absurd a
row-same false false (Some r) None (Some b) c q a e = absurd a
row-same false false (Some r) None None (Some c) q a e = absurd a
row-same false false (Some r) None None None q a e = (refl, refl, e)
row-same false false None (Some x) l c q a e = absurd (subst IsNone e tt)
row-same false false None None l (Some c) q a e = absurd (subst IsNone e tt)
row-same false false None None l None q a e = absurd (subst IsNone e tt)

pub row-read : (line : List ℕ) (q : Row) → live_reading line ≡ Tick q
    → (reading line ≡ session.Bad) × (live_command_in (words_of line) ≡ None) × (inputs_in line ≡ Some q)
row-read line q e =
    row-same (nat_lt 200 (length line)) (is_skipped line) (inputs_in line) (own_in (words_of line)) (lines_in (words_of line)) (command_in (words_of line)) q (apart line)
    (ap row_asked (sym (tests line) ∙ e))

row-heeded : (line : List ℕ) (q : Row) → inputs_in line ≡ Some q → is_skipped line ≡ false
unfolding inputs_of lists_of
row-heeded [] q e = absurd (subst IsNone e tt)
row-heeded (d ∷ bs) q e = byte d bs (first-byte d bs q e)
  where
    byte : (d : ℕ) (bs : List ℕ) → BeginsRows d → is_skipped (d ∷ bs) ≡ false
    byte d bs (inl (inl is)) = rw is refl
    byte d bs (inl (inr is)) = rw is refl
    byte d bs (inr (inl is)) = rw is refl
    byte d bs (inr (inr (inl is))) = rw is refl
    byte d bs (inr (inr (inr is))) = rw is refl

pub row-asks : (line : List ℕ) (q : Row) → length line ≤ 200 → inputs_in line ≡ Some q → live_reading line ≡ Tick q
unfolding live_reading
row-asks line q short e = rw (le-ltb 200 (length line) short, row-heeded line q e, e) refl

-- ## Commands that are asked live alone

new-same : (long skipped : Bool) (r : Option Row) (own : Option LiveCommand) (l : Option Bool) (c : Option Command) (x : LiveCommand) → AreApart r own l c
    → ((s : Command) → x ≡ Session s → ⊥) → ((b : Bool) → x ≡ Lines b → ⊥) → command_asked (asked long skipped r (one_of own c)) ≡ Some x
    → said long skipped l c ≡ session.Bad
new-same true skipped r own l c x a n m e = refl
new-same false true r own l c x a n m e = absurd (subst IsNone e tt)
new-same false false (Some r) own l c x a n m e = absurd (subst IsNone e tt)
new-same false false None (Some y) l (Some c) x a n m e = absurd a
new-same false false None (Some y) (Some b) None x a n m e = absurd (m b (sym (ap (value x) e) ∙ a))
new-same false false None (Some y) None None x a n m e = refl
new-same false false None None (Some b) c x a n m e = absurd a
new-same false false None None None (Some c) x a n m e = absurd (n c (sym (ap (value x) e)))
new-same false false None None None None x a n m e = refl

pub new-read : (line : List ℕ) (x : LiveCommand) → live_reading line ≡ Ask x → ((s : Command) → x ≡ Session s → ⊥) → ((b : Bool) → x ≡ Lines b → ⊥) → reading line ≡ session.Bad
new-read line x e n m =
    new-same (nat_lt 200 (length line)) (is_skipped line) (inputs_in line) (own_in (words_of line)) (lines_in (words_of line)) (command_in (words_of line)) x (apart line) n m
    (ap command_asked (sym (tests line) ∙ e))
