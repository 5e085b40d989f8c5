use Rattle.std.proofs.Common.{◌≡◌, List, [], Some, subst, codes}
use Rattle.std.proofs.lemmas.Result.{err_from_is_err_and}
use Rattle.clap.specs.Matches.{found_of}
use Rattle.clap.specs.Walk.{Text, rows_of}
use Rattle.tsb_field_log.specs.declared.inputs.InputKind.TheVariants.{Vehicle, Pedestrian, Preempt}
use Rattle.tsb_field_log.specs.declared.inputs.Wire.{Wire}
use Rattle.tsb_words.specs.FieldProgram.{texts_in}
use Rattle.tsb_words.specs.Words.{IsRefused}
use Rattle.tsb_words.specs.Wires.{joined, wires_of}
use Rattle.tsb_words.proofs.OptionLemmas.{texts_is}
use Rattle.tsb_words.proofs.WireLemmas.{all-added, first-fails, second-fails, third-fails}
use Rattle.tsb_words.proofs.field_files.all_wires.Goals as goal

pub returns-in_err-add_option : goal.returns-in_err-add_option
returns-in_err-add_option c =
    let f = found_of c.args.options.now in
    let p = err_from_is_err_and c.from_residual.result c.from_residual.ensures.1 in
    rw (p.1, p.2)
    (first-fails (wires_of Vehicle (texts_in (codes "vehicle") (rows_of f))) (wires_of Pedestrian (texts_in (codes "pedestrian") (rows_of f))) (wires_of Preempt (texts_in (codes "preempt") (rows_of f))) c.in_err-add_option.field-0.0
    (subst (λ (t : List Text). IsRefused (wires_of Vehicle t) c.in_err-add_option.field-0.0) (texts_is f (codes "vehicle") _ c.get_raw.ensures) c.in_err-add_option.ensures))

pub returns-in_err-add_option-2 : goal.returns-in_err-add_option-2
returns-in_err-add_option-2 c =
    let f = found_of c.args.options.now in
    let p = err_from_is_err_and c.from_residual-in_err-add_option-2.result c.from_residual-in_err-add_option-2.ensures.1 in
    rw (p.1, p.2)
    (second-fails (wires_of Vehicle (texts_in (codes "vehicle") (rows_of f))) (wires_of Pedestrian (texts_in (codes "pedestrian") (rows_of f))) (wires_of Preempt (texts_in (codes "preempt") (rows_of f))) c.in_err-add_option-2.field-0.0
    (subst (λ (t : List Text). IsRefused (wires_of Pedestrian t) c.in_err-add_option-2.field-0.0) (texts_is f (codes "pedestrian") _ c.get_raw-2.ensures) c.in_err-add_option-2.ensures))

pub returns-in_err-add_option-3 : goal.returns-in_err-add_option-3
returns-in_err-add_option-3 c =
    let f = found_of c.args.options.now in
    let p = err_from_is_err_and c.from_residual-in_err-add_option-3.result c.from_residual-in_err-add_option-3.ensures.1 in
    rw (p.1, p.2)
    (third-fails (wires_of Vehicle (texts_in (codes "vehicle") (rows_of f))) (wires_of Pedestrian (texts_in (codes "pedestrian") (rows_of f))) (wires_of Preempt (texts_in (codes "preempt") (rows_of f))) c.in_err-add_option-3.field-0.0
    (subst (λ (t : List Text). IsRefused (wires_of Preempt t) c.in_err-add_option-3.field-0.0) (texts_is f (codes "preempt") _ c.get_raw-3.ensures) c.in_err-add_option-3.ensures))

pub returns : goal.returns
returns c =
    let f = found_of c.args.options.now in
    let first : joined (Some []) (wires_of Vehicle (texts_in (codes "vehicle") (rows_of f))) ≡ Some c.add_option.new.wires.items =
    subst (λ (ws : List Wire). joined (Some ws) (wires_of Vehicle (texts_in (codes "vehicle") (rows_of f))) ≡ Some c.add_option.new.wires.items) c.new-wires.ensures.items
    (subst (λ (t : List Text). joined (Some c.new-wires.result.items) (wires_of Vehicle t) ≡ Some c.add_option.new.wires.items) (texts_is f (codes "vehicle") _ c.get_raw.ensures) c.in_ok-add_option.ensures) in
    let second : joined (Some c.add_option.new.wires.items) (wires_of Pedestrian (texts_in (codes "pedestrian") (rows_of f))) ≡ Some c.add_option-2.new.wires.items =
    subst (λ (t : List Text). joined (Some c.add_option.new.wires.items) (wires_of Pedestrian t) ≡ Some c.add_option-2.new.wires.items) (texts_is f (codes "pedestrian") _ c.get_raw-2.ensures) c.in_ok-add_option-2.ensures in
    let third : joined (Some c.add_option-2.new.wires.items) (wires_of Preempt (texts_in (codes "preempt") (rows_of f))) ≡ Some c.add_option-3.new.wires.items =
    subst (λ (t : List Text). joined (Some c.add_option-2.new.wires.items) (wires_of Preempt t) ≡ Some c.add_option-3.new.wires.items) (texts_is f (codes "preempt") _ c.get_raw-3.ensures) c.in_ok-add_option-3.ensures in
    all-added _ _ _ _ _ _ first second third
