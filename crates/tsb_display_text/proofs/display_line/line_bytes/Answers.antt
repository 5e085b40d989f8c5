use Rattle.std.proofs.Common.{◌∙◌, ℕ, List, ap, subst, sym, take}
use Rattle.std.specs.Str.{IsUtf8}
use Rattle.tsb_heads.specs.Reading.{heads_of}
use Rattle.tsb_display_text.proofs.LineLemmas.{front-full, line-utf8, wide-front}
use Rattle.tsb_display_text.proofs.display_line.line_bytes.Goals as goal

pub returns-clause-line : goal.returns-clause-line
returns-clause-line c =
    c.copy_from_slice.ensures.after ∙ ap (take 53) (c.bytes_of-wide.ensures.line (heads_of c.args.heads.now) c.of.ensures)
    ∙ wide-front c.args.now (heads_of c.args.heads.now) c.args.preempt c.args.local

pub returns-clause-text : goal.returns-clause-text
returns-clause-text c =
    subst (λ (bytes : List ℕ). IsUtf8 bytes) (sym (returns-clause-line c))
    (line-utf8 c.args.now (heads_of c.args.heads.now) c.args.preempt c.args.local c.bytes_of-wide.ensures.known)

pub slice_bounds-copy_from_slice-end-2 : goal.slice_bounds-copy_from_slice-end-2
slice_bounds-copy_from_slice-end-2 c =
    front-full c.args.now (heads_of c.args.heads.now) c.args.preempt c.args.local c.bytes_of-wide.result (c.bytes_of-wide.ensures.line (heads_of c.args.heads.now) c.of.ensures)

pub copy_from_slice-requires : goal.copy_from_slice-requires
copy_from_slice-requires c =
    front-full c.args.now (heads_of c.args.heads.now) c.args.preempt c.args.local c.bytes_of-wide.result (c.bytes_of-wide.ensures.line (heads_of c.args.heads.now) c.of.ensures)
