-- Bytes that are read entry by entry.
use Rattle.std.proofs.Common.{◌≡◌, ℕ, ◌≤◌, List, [], ◌∷◌, ◌++◌, All, drop, length, refl, sym, ap, ◌∙◌, arith}
use Rattle.std.specs.Prelude.{flat_map, codes}
use Rattle.std.proofs.lemmas.List.{drop_all, append_assoc, append-nil, length-append}
use Rattle.std.proofs.lemmas.Grind.{flat_map-append}
use Rattle.std.proofs.lemmas.List.Elements.{All-nil, All-push, All-head, All-tail}
use Rattle.derivation_log.specs.declared.entries.Entry.{Entry}
use Rattle.derivation_log.specs.Lines.{body_text, entry_text}
use Rattle.derivation_log.specs.Texts.{IsWritten}
use Rattle.derivation_log.specs.Readings.{IsEntryAt}
use Rattle.derivation_log.proofs.Linking.{linked}
use Rattle.derivation_log.proofs.ReadBack.{one-reading}
use Rattle.tightened_entries.specs.Readings.{ReadsTo, Reads}

pub reads-none : (bytes : List ℕ) → ReadsTo bytes 0 []
reads-none bytes = record { written = All-nil IsWritten; text = refl }

pub reads-more : (bytes : List ℕ) (at next : ℕ) (es : List Entry) (e : Entry) → ReadsTo bytes at es
    → IsEntryAt bytes at e next → ReadsTo bytes next (es ++ e ∷ [])
reads-more bytes at next es e r here = record {
  written = All-push IsWritten es e r.written here.written;
  text = r.text
      ∙ ap (λ (t : List ℕ). flat_map entry_text es ++ t) (here.text ∙ linked e (drop next bytes) here.written)
      ∙ sym (append_assoc (flat_map entry_text es) (entry_text e) (drop next bytes))
      ∙ ap (λ (t : List ℕ). flat_map entry_text es ++ t ++ drop next bytes) (sym (append-nil (entry_text e)))
      ∙ ap (λ (t : List ℕ). t ++ drop next bytes) (sym (flat_map-append entry_text es (e ∷ [])));
}

pub reads-all : (bytes : List ℕ) (at : ℕ) (es : List Entry) → ReadsTo bytes at es → length bytes ≤ at
    → Reads bytes es
reads-all bytes at es r le = record {
  written = r.written;
  text = r.text ∙ ap (λ (t : List ℕ). flat_map entry_text es ++ t) (drop_all at bytes le)
      ∙ append-nil (flat_map entry_text es);
}

-- a text has a newline at least
some : (e : Entry) (rest : List ℕ) → [] ≡ entry_text e ++ rest → ⊥
some e rest h =
    let x = ap length h in
    let y = length-append (entry_text e) rest in
    let z = length-append (body_text e) (codes "\n") in
    omega (arith, x, y, z)

same-entries : (ds es : List Entry) → All IsWritten ds → All IsWritten es
    → flat_map entry_text ds ≡ flat_map entry_text es → ds ≡ es
same-entries [] [] v w h = refl
same-entries [] (e ∷ es) v w h = absurd (some e (flat_map entry_text es) h)
same-entries (d ∷ ds) [] v w h = absurd (some d (flat_map entry_text ds) (sym h))
same-entries (d ∷ ds) (e ∷ es) v w h =
    let x = All-head IsWritten d ds v in
    let y = All-head IsWritten e es w in
    let one = one-reading d e (flat_map entry_text ds) (flat_map entry_text es) x y
    (linked d (flat_map entry_text ds) x ∙ h ∙ sym (linked e (flat_map entry_text es) y)) in
    let rest = same-entries ds es (All-tail IsWritten d ds v) (All-tail IsWritten e es w) one.1 in
    ap (λ (f : Entry). f ∷ ds) one.0 ∙ ap (λ (fs : List Entry). e ∷ fs) rest

-- bytes are read in one way at most
pub one-list : (bytes : List ℕ) (ds es : List Entry) → Reads bytes ds → Reads bytes es → ds ≡ es
one-list bytes ds es a b = same-entries ds es a.written b.written (sym a.text ∙ b.text)
