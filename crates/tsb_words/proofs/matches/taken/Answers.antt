use Rattle.std.proofs.Common.{◌≡◌, ◌∙◌, ◌&&◌, Bool, List, Option, Some, true, false, ap, map, refl, sym}
use Rattle.clap.specs.Faults.{fault_of, is_simple_and_free}
use Rattle.clap.specs.Simple.{App, app_of, is_simple, matches_of, subcommand_of}
use Rattle.clap.specs.Walk.{Row, Text}
use Rattle.tsb_words.proofs.WordLemmas.{meets, refused}
use Rattle.tsb_words.proofs.matches.taken.Goals as goal

first-holds : (x y : Bool) → (x && y) ≡ true → x ≡ true
first-holds true y both = refl
first-holds false y both = both

is-simple : (app : App) → is_simple_and_free app ≡ true → is_simple app ≡ true
is-simple app free = first-holds (is_simple app) _ free

pub returns-in-Err-clause-met : goal.returns-in-Err-clause-met
returns-in-Err-clause-met g c = λ free.
    let words : List Text = map g.S.AsStr.text c.args.words.now in
    let app = app_of c.args.command in
    rw c.from.ensures (refused (fault_of app words) (subcommand_of app words) c.in-Err.error (c.in-Err.ensures.kinds free))

pub returns-in-Err-clause-given : goal.returns-in-Err-clause-given
returns-in-Err-clause-given g c = λ free.
    let words : List Text = map g.S.AsStr.text c.args.words.now in
    let app = app_of c.args.command in
    rw c.from.ensures (refused (fault_of app words) (matches_of app words) c.in-Err.error (c.in-Err.ensures.kinds free))

pub returns-in-Ok-clause-met : goal.returns-in-Ok-clause-met
returns-in-Ok-clause-met g c = λ free.
    let words : List Text = map g.S.AsStr.text c.args.words.now in
    let app = app_of c.args.command in
    meets (fault_of app words) (subcommand_of app words) (c.in-Ok.ensures.kinds free)
    ∙ ap (λ (o : Option (Text × List Row)). Some o) (sym ((c.in-Ok.ensures.matches (is-simple app free)).1))

pub returns-in-Ok-clause-given : goal.returns-in-Ok-clause-given
returns-in-Ok-clause-given g c = λ free.
    let words : List Text = map g.S.AsStr.text c.args.words.now in
    let app = app_of c.args.command in
    meets (fault_of app words) (matches_of app words) (c.in-Ok.ensures.kinds free)
    ∙ ap (λ (rows : List Row). Some rows) (sym ((c.in-Ok.ensures.matches (is-simple app free)).0))
