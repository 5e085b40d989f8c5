-- How a stream goes on from read to read, and how it ends.
use Rattle.std.proofs.Common.{◌≡◌, ◌⊎◌, ℕ, ◌+◌, ◌-◌, ◌<◌, ◌≤◌, List, [], ◌++◌, length, min, max, refl, sym, ap, ◌∙◌, length-append, arith, subst, inl, inr}
use Rattle.std.proofs.lemmas.List.{append-nil}
use Rattle.std.specs.declared.option.Option.{Option}
use Rattle.std.specs.declared.result.Result.{Result}
use Rattle.std.specs.declared.result.Result.TheVariants.{Ok, Err}
use Rattle.std.specs.Io.KnownBytes.{Appends, Consumes, IsAtEnd, Keeps}
use Rattle.tsb_lines.proofs.StreamLemmas.{appends-nothing, consumes-kept, consumes-more, consumes-nothing}
use Rattle.tsb_field_log.specs.Changes.{changes}
use Rattle.tsb_log_text.proofs.WrittenLemmas.{none-in}
use Rattle.tsb_field_log.specs.Wires.{form_of_wires}
use Rattle.tsb_field_streams.specs.declared.error.FilterError.{FilterError}
use Rattle.tsb_field_streams.specs.declared.error.FilterError.TheVariants.{Read, Write, TooLarge}
use Rattle.tsb_field_streams.specs.declared.filter.Summary.{Summary}
use Rattle.tsb_field_streams.specs.declared.stream.Stream.{Stream}
use Rattle.tsb_field_streams.specs.Filtering.{Given, start}
use Rattle.tsb_field_streams.specs.Lines.{HasRead}
use Rattle.tsb_field_streams.specs.Standing.{StandsAt}
use Rattle.tsb_field_streams.specs.Streaming.{Follows, WroteFront, Sticks, Finished, EndedBehind, EndedSo, known_log}
use Rattle.tsb_field_streams.proofs.ReadLemmas.{read-start}
use Rattle.tsb_field_streams.proofs.StreamLemmas.{wrote-before, wrote-more}

-- a stream has read these bytes of an input, and may read so many more
pub record Going (g : Given) (stream : Stream) (left : ℕ) (input now a c : Option (List ℕ)) : Type 0 where
  pub read : List ℕ
  pub taken : Consumes input now read
  pub follows : Follows g read stream a c
  pub fits : length read + left ≡ 1073741824

pub going-start : (g : Given) (stream : Stream) (input a : Option (List ℕ)) → Follows g [] stream a a → Going g stream 1073741824 input input a a
going-start g stream input a f = record { read = []; taken = consumes-nothing input; follows = f; fits = refl }

pub going-more : (g : Given) (old new : Stream) (left count : ℕ) (bytes : List ℕ) (input now then a c d : Option (List ℕ)) → (k : Going g old left input now a c) → Consumes now then bytes
    → length bytes ≡ count → count ≤ left → Follows g (k.read ++ bytes) new a d → Going g new (left - count) input then a d
going-more g old new left count bytes input now then a c d k more long le f = record {
  read = k.read ++ bytes;
  taken = consumes-more input now then k.read bytes k.taken more;
  follows = f;
  fits = let l : length (k.read ++ bytes) ≡ length k.read + length bytes = length-append k.read bytes in let fits : length k.read + left ≡ 1073741824 = k.fits in omega (arith, l, fits, long, le);
}

pub ended-read : (g : Given) (stream : Stream) (left : ℕ) (input now then a c : Option (List ℕ)) → Going g stream left input now a c → Keeps now then → EndedBehind (Err Read) g input then a c
ended-read g stream left input now then a c k kept = record {
  read = k.read;
  taken = consumes-kept input now then k.read k.taken kept;
  so = (wrote-before g k.read stream a c k.follows, inl refl);
  most = inl (let fits : length k.read + left ≡ 1073741824 = k.fits in omega (arith, fits));
}

-- at the end of what is read
pub ended-end : (r : Result Summary FilterError) (g : Given) (stream : Stream) (left : ℕ) (bytes : List ℕ) (input now then a c d : Option (List ℕ)) → (k : Going g stream left input now a c) → Consumes now then bytes → bytes ≡ [] → IsAtEnd then
    → Finished r g k.read a d → EndedBehind r g input then a d
ended-end r g stream left bytes input now then a c d k none empty end finished = record {
  read = k.read;
  taken = subst (λ (v : List ℕ). Consumes input then v) (ap (λ (v : List ℕ). k.read ++ v) empty ∙ append-nil k.read) (consumes-more input now then k.read bytes k.taken none);
  so = ends r finished;
  most = inl (let fits : length k.read + left ≡ 1073741824 = k.fits in omega (arith, fits));
}
  where
    ends : (r : Result Summary FilterError) → Finished r g k.read a d → EndedSo r g then k.read a d
    ends (Ok summary) f = (end, f.0, f.1, f.2)
    ends (Err e) f = (f.0, elim f.1 [ inl write ↦ inr (inl write) | inr why ↦ inr (inr (inr (inr (end, why)))) ])

-- a byte too many was read
pub ended-large : (g : Given) (stream : Stream) (left count : ℕ) (bytes : List ℕ) (input now then a c : Option (List ℕ)) → Going g stream left input now a c → Consumes now then bytes → length bytes ≡ count
    → left < count → count ≤ max (min left 4096) 1 → EndedBehind (Err TooLarge) g input then a c
ended-large g stream left count bytes input now then a c k more long lt most =
    let l : length (k.read ++ bytes) ≡ length k.read + length bytes = length-append k.read bytes in
    let fits : length k.read + left ≡ 1073741824 = k.fits in
    record {
      read = k.read ++ bytes;
      taken = consumes-more input now then k.read bytes k.taken more;
      so = (wrote-more g k.read bytes a c (wrote-before g k.read stream a c k.follows), inr (inr (inl (refl, omega (arith, l, fits, long, lt)))));
      most = inr (omega (arith, l, fits, long, lt, most), refl);
    }

-- a fault of what was read, or of the writer
pub ended-fault : (e : FilterError) (g : Given) (stream : Stream) (left count : ℕ) (bytes : List ℕ) (input now then a c d : Option (List ℕ)) → (k : Going g stream left input now a c) → Consumes now then bytes → length bytes ≡ count
    → count ≤ left → WroteFront g (k.read ++ bytes) a d × ((e ≡ Write) ⊎ Sticks g (k.read ++ bytes) e) → EndedBehind (Err e) g input then a d
ended-fault e g stream left count bytes input now then a c d k more long le w = record {
  read = k.read ++ bytes;
  taken = consumes-more input now then k.read bytes k.taken more;
  so = (w.0, elim w.1 [ inl write ↦ inr (inl write) | inr sticks ↦ inr (inr (inr (inl sticks))) ]);
  most = inl (
      let l : length (k.read ++ bytes) ≡ length k.read + length bytes = length-append k.read bytes in
      let fits : length k.read + left ≡ 1073741824 = k.fits in
      omega (arith, l, fits, long, le)
      );
}

-- no row is known before the first event
nothing-known : (g : Given) → known_log g (start g) ≡ []
unfolding changes
nothing-known g = none-in (form_of_wires g.wires)

-- before the first byte
pub follows-start : (g : Given) (stream : Stream) (a : Option (List ℕ)) → StandsAt g (start g) stream.filter → stream.number ≡ 1 → stream.line ≡ [] → Follows g [] stream a a
follows-start g stream a stands number empty = record {
  stand = start g;
  held = [];
  read = subst (λ (n : ℕ). HasRead g [] n (start g) []) (sym number) (read-start g);
  kept = empty;
  stands = stands;
  grown = subst (λ (v : List ℕ). Appends a a v) (sym (nothing-known g)) (appends-nothing a);
}
