-- The text of an entry is read as that entry.
use Rattle.std.proofs.Common.{◌≡◌, ℕ, ◌+◌, ◌-◌, ◌*◌, ◌<◌, ◌≤◌, ◌^◌, true, false, List, [], ◌∷◌, ◌++◌, fold, length}
use Rattle.std.proofs.Common.{take, drop, codes, refl, sym, ap, ◌∙◌, subst, arith, eqb, leb}
use Rattle.std.specs.Prelude.{◌%◌}
use Rattle.std.specs.Fmt.{decimal}
use Rattle.std.proofs.Math.Nat.{mod-eq_of_lt}
use Rattle.std.proofs.lemmas.Bool.{ne_eqb}
use Rattle.std.proofs.lemmas.List.{take-append-drop, length-take, length-drop, length-append, drop-drop}
use Rattle.derivation_log.specs.declared.fields.Field.{Field}
use Rattle.derivation_log.specs.declared.fields.Field.TheVariants.{Letter, Plain, Minus, Infinite}
use Rattle.derivation_log.specs.declared.entries.Entry.{Entry}
use Rattle.derivation_log.specs.Lines.{body_text, entry_text}
use Rattle.derivation_log.specs.declared.entries.Entry.{Entry}
use Rattle.derivation_log.specs.Texts.{field_text, put_line, put_entry, IsWritten}
use Rattle.derivation_log.specs.Scans.{blank, digit_on, begun, grown, scan, entry_of}
use Rattle.derivation_log.specs.Readings.{IsEntryAt, NoEntryAt}
use Rattle.derivation_log.proofs.FieldTexts.{IsField, AreFields, Clean, digits, read}
use Rattle.derivation_log.proofs.ReadBack.{parted, entry-back}
use Rattle.derivation_log.proofs.Linking.{linked}

abbrev on : ℕ → ℕ → ℕ
on n b = 10 * n + (b - 48)

grows : (n : ℕ) (ds : List ℕ) → n ≤ fold on n ds
grows n [] = omega arith
grows n (d ∷ ds) = let x = grows (on n d) ds in omega (arith, x)

one-on : (n b : ℕ) → 10 * n + (b - 48) < 2 ^ 64 → digit_on n b ≡ 10 * n + (b - 48)
one-on n b h =
    let x : (n * 10) % 2 ^ 64 ≡ n * 10 = mod-eq_of_lt (omega (arith, h)) in
    let y : (10 * n + (b - 48)) % 2 ^ 64 ≡ 10 * n + (b - 48) = mod-eq_of_lt h in
    let z : n * 10 + (b - 48) ≡ 10 * n + (b - 48) = omega arith in
    ap (λ m. (m + (b - 48)) % 2 ^ 64) x ∙ ap (λ m. m % 2 ^ 64) z ∙ y

all-on : (n : ℕ) (ds : List ℕ) → fold on n ds < 2 ^ 64 → fold digit_on n ds ≡ fold on n ds
all-on n [] h = refl
all-on n (d ∷ ds) h =
    let x = grows (on n d) ds in
    let y : digit_on n d ≡ on n d = one-on n d (omega (arith, x, h)) in
    ap (λ m. fold digit_on m ds) y ∙ all-on (on n d) ds h

plain-grown : (n : ℕ) (ds : List ℕ) → fold grown (Plain n) ds ≡ Plain (fold digit_on n ds)
plain-grown n [] = refl
plain-grown n (d ∷ ds) = plain-grown (digit_on n d) ds

minus-grown : (n : ℕ) (ds : List ℕ) → fold grown (Minus n) ds ≡ Minus (fold digit_on n ds)
minus-grown n [] = refl
minus-grown n (d ∷ ds) = minus-grown (digit_on n d) ds

begun-digit : (b : ℕ) → 48 ≤ b → b ≤ 57 → begun b ≡ Plain (b - 48)
begun-digit b low high =
    let x : eqb b 45 ≡ false = ne_eqb b 45 (λ e. omega (arith, e, low)) in
    let y : eqb b 43 ≡ false = ne_eqb b 43 (λ e. omega (arith, e, low)) in
    let z : leb b 57 ≡ true = grind (arith, high) in
    rw (x, y, z) refl

begun-letter : (b : ℕ) → 58 ≤ b → begun b ≡ Letter b
begun-letter b low =
    let x : eqb b 45 ≡ false = ne_eqb b 45 (λ e. omega (arith, e, low)) in
    let y : eqb b 43 ≡ false = ne_eqb b 43 (λ e. omega (arith, e, low)) in
    let z : leb b 57 ≡ false = grind (arith, low) in
    rw (x, y, z) refl

digits-grown : (n : ℕ) → n < 2 ^ 64 → fold grown blank (decimal n) ≡ Plain n
digits-grown n h =
    let d = digits n h in
    let start : 10 * 0 + (d.first - 48) ≡ d.first - 48 = omega arith in
    let worth : fold on (d.first - 48) d.others ≡ n = ap (λ m. fold on m d.others) (sym start)
    ∙ ap (fold on 0) (sym d.is) ∙ d.worth in
    let less : fold on (d.first - 48) d.others < 2 ^ 64 = omega (arith, worth, h) in
    ap (fold grown blank) d.is ∙ ap (λ f. fold grown f d.others) (begun-digit d.first d.low d.high)
    ∙ plain-grown (d.first - 48) d.others ∙ ap Plain (all-on (d.first - 48) d.others less ∙ worth)

minus-digits : (n : ℕ) → n < 2 ^ 64 → fold grown blank (45 ∷ decimal n) ≡ Minus n
minus-digits n h =
    let d = digits n h in
    let worth : fold on 0 (decimal n) ≡ n = d.worth in
    minus-grown 0 (decimal n) ∙ ap Minus (all-on 0 (decimal n) (omega (arith, worth, h)) ∙ worth)

field-grown : (f : Field) → IsField f → fold grown blank (field_text f) ≡ f
field-grown (Letter c) h = begun-letter c h
field-grown (Plain n) h = digits-grown n h
field-grown (Minus n) h = minus-digits n h
field-grown Infinite h = refl

scan-clean : (xs ys : List ℕ) (f : Field) → Clean xs → scan f (xs ++ ys) ≡ scan (fold grown f xs) ys
scan-clean [] ys f h = refl
scan-clean (x ∷ xs) ys f h =
    let a : eqb x 10 ≡ false = ne_eqb x 10 (λ e. omega (arith, e, h.0)) in
    let b : eqb x 32 ≡ false = ne_eqb x 32 (λ e. omega (arith, e, h.0)) in
    let rest = scan-clean xs ys (grown f x) h.1 in
    rw (a, b) rest

scan-field : (f : Field) (ys : List ℕ) → IsField f → scan blank (field_text f ++ ys) ≡ scan f ys
scan-field f ys h = scan-clean (field_text f) ys blank (read f h).clean ∙ ap (λ g. scan g ys) (field-grown f h)

scan-line : (f : Field) (fs : List Field) (r : List ℕ) → AreFields (f ∷ fs) → scan blank (put_line (f ∷ fs) r) ≡ f ∷ fs
scan-line f [] r h = scan-field f (10 ∷ r) h.0
scan-line f (g ∷ fs) r h = scan-field f (32 ∷ put_line (g ∷ fs) r) h.0 ∙ ap (λ gs. f ∷ gs) (scan-line g fs r h.1)

pub forward : (e : Entry) (r : List ℕ) → IsWritten e → entry_of (scan blank (put_entry e r)) ≡ e
forward e r h =
    let x = parted e h in
    ap (λ fs. entry_of (scan blank (put_line fs r))) x.is
    ∙ ap entry_of (scan-line (Letter x.tag) x.others r x.fields ∙ sym x.is) ∙ entry-back e h

module _ (bytes : List ℕ) (at : ℕ) (found : Entry) (is : found ≡ entry_of (scan blank (drop at bytes))) where
  same : (e : Entry) (more : List ℕ) → IsWritten e → drop at bytes ≡ put_entry e more → found ≡ e
  same e more h text = is ∙ ap (λ bs. entry_of (scan blank bs)) text ∙ forward e more h

  pub unwritten : (IsWritten found → ⊥) → NoEntryAt bytes at
  unwritten never e more h text = never (subst IsWritten (sym (same e more h text)) h)

  whole : (e : Entry) (more : List ℕ) → IsWritten e → drop at bytes ≡ put_entry e more
      → drop at bytes ≡ entry_text found ++ more
  whole e more h text =
      let one = same e more h text in
      text ∙ ap (λ x. put_entry x more) (sym one) ∙ linked found more (subst IsWritten (sym one) h)

  front : (xs ys : List ℕ) → take (length xs) (xs ++ ys) ≡ xs
  front [] ys = refl
  front (x ∷ xs) ys = ap (λ zs. x ∷ zs) (front xs ys)

  pub other : (take (length (entry_text found)) (drop at bytes) ≡ entry_text found → ⊥) → NoEntryAt bytes at
  other never e more h text =
      never (ap (take (length (entry_text found))) (whole e more h text) ∙ front (entry_text found) more)

  some-text : (x : Entry) → 1 ≤ length (entry_text x)
  some-text x = let e = length-append (body_text x) (codes "\n") in omega (arith, e)

  pub there : at < length bytes → IsWritten found → take (length (entry_text found)) (drop at bytes) ≡ entry_text found
      → IsEntryAt bytes at found (at + length (entry_text found))
  there lt h front =
      let n : ℕ = length (entry_text found) in
      let some : 1 ≤ length (entry_text found) = some-text found in
      let len = ap length front in
      let a = length-take n (drop at bytes) in
      let b = length-drop at bytes in
      let text : drop at bytes ≡ entry_text found ++ drop n (drop at bytes) =
      sym (take-append-drop n (drop at bytes)) ∙ ap (λ xs. xs ++ drop n (drop at bytes)) front in
      record {
        written = h;
        text = text ∙ ap (λ xs. entry_text found ++ xs) (drop-drop n at bytes)
            ∙ sym (linked found (drop (at + n) bytes) h);
        beyond = omega (arith, some);
        inside = omega (arith, len, a, b, lt);
      }
