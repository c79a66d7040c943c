-- Where a procedure ends.
use Rattle.std.proofs.Common.{◌≡◌, ℕ, zero, suc, ◌+◌, ◌<◌, ◌≤◌, Bool, false, List, [], ◌∷◌, length, drop, Option, Some}
use Rattle.std.proofs.Common.{None, refl, sym, ap, ◌∙◌, inl, inr, eqb, arith, length-drop, codes}
use Rattle.std.specs.Prelude.{IfSome, nat_eq, ◌||◌}
use Rattle.std.specs.List.{starts_with}
use Rattle.std.proofs.lemmas.Bool.{cases_Bool}
use Rattle.std.proofs.lemmas.List.{drop-drop, nil_from_length}
use Rattle.std.proofs.lemmas.List.Sums.{prefix_len-le-length}
use Rattle.kb_text.specs.declared.procedure.Passage.{Passage}
use Rattle.kb_text.specs.declared.procedure.Passage.TheVariants.{Opening, Closing, Over, Unclosed}
use Rattle.kb_text.specs.declared.procedure.Step.TheVariants.{Last, Stop, Next}
use Rattle.kb_text.specs.Bytes.{is_line_byte}
use Rattle.kb_text.specs.Ends.{later_by, is_unescaped, close_of, quoted_of}
use Rattle.kb_text.specs.Procedures.{passed, passage_at, step_of, FitsIn, ClosesAfter, last, stops, passes}
use Rattle.kb_text.proofs.Closes.{close_found}

-- ---- texts in quotes

later_within : (o : Option ℕ) (n : ℕ) → IfSome o (λ m. m ≤ n) → IfSome (later_by 1 o) (λ m. m ≤ suc n)
later_within None n h = tt
later_within (Some m) n h = omega (arith, h)

pub quoted_within : (escaped : Bool) (quote : ℕ) (xs : List ℕ) → IfSome (quoted_of escaped quote xs)
    (λ m. m ≤ length xs)
quoted_within escaped quote [] = tt
quoted_within escaped quote (b ∷ bs) =
    elim (cases_Bool (is_unescaped escaped quote b)) [
      | inl hit ↦ rw hit (omega arith)
      | inr miss ↦ rw miss (later_within (quoted_of (is_unescaped escaped 92 b) quote bs) (length bs)
          (quoted_within (is_unescaped escaped 92 b) quote bs))
    ]

-- ---- passages

close_some : (first second : ℕ) (xs : List ℕ) (m : ℕ) → close_of first second xs ≡ Some m → (0 < m) × (m ≤ length xs)
close_some first second xs zero e = elim (close_found first second xs zero e).1 [ ]
close_some first second xs (suc m) e = (omega arith, (close_found first second xs (suc m) e).0)

-- what is passed over is something, and lies within the text
Within : List ℕ → Passage → Type 0
Within bytes (Over n) = (0 < n) × (n ≤ length bytes)
Within bytes Opening = 0 < length bytes
Within bytes Closing = 0 < length bytes
Within bytes Unclosed = Unit {0}

passed_within : (n : ℕ) (o : Option ℕ) (bytes : List ℕ) → 0 < n → ((m : ℕ) → o ≡ Some m → m + n ≤ length bytes)
    → Within bytes (passed n o)
unfolding Within
passed_within n None bytes some fits = tt
passed_within n (Some m) bytes some fits = (omega arith, fits m refl)

quoted_fits : (b : ℕ) (bs : List ℕ) (m : ℕ) → quoted_of false b bs ≡ Some m → m + 1 ≤ length (b ∷ bs)
quoted_fits b bs m e = let h : m ≤ length bs = rw e at (quoted_within false b bs) in omega arith

close_fits : (n : ℕ) (bytes : List ℕ) (m : ℕ) → close_of 93 93 (drop n bytes) ≡ Some m → m + n ≤ length bytes
close_fits n bytes m e = let h = close_some 93 93 (drop n bytes) m e in omega (arith, h.0, h.1, length-drop n bytes)

passage_within : (bytes : List ℕ) → Within bytes (passage_at bytes)
unfolding Within
passage_within [] = tt
passage_within (b ∷ bs) =
    elim (cases_Bool (eqb b 123)) [
      | inl hit ↦ rw hit (omega arith)
      | inr no_opening ↦ rw no_opening (elim (cases_Bool (eqb b 125)) [
        | inl hit ↦ rw hit (omega arith)
        | inr no_closing ↦ rw no_closing (elim (cases_Bool (eqb b 34 || eqb b 39)) [
          | inl hit ↦ rw hit (passed_within 1 (quoted_of false b bs) (b ∷ bs) (omega arith) (quoted_fits b bs))
          | inr no_quote ↦ rw no_quote (elim (cases_Bool (starts_with nat_eq (b ∷ bs) (codes "[["))) [
            | inl hit ↦ rw hit (passed_within 2 (close_of 93 93 (drop 2 (b ∷ bs))) (b ∷ bs) (omega arith)
                (close_fits 2 (b ∷ bs)))
            | inr no_long ↦ rw no_long (elim (cases_Bool (starts_with nat_eq (b ∷ bs) (codes "--[["))) [
              | inl hit ↦ rw hit (passed_within 4 (close_of 93 93 (drop 4 (b ∷ bs))) (b ∷ bs) (omega arith)
                  (close_fits 4 (b ∷ bs)))
              | inr no_block ↦ rw no_block (elim (cases_Bool (starts_with nat_eq (b ∷ bs) (codes "--"))) [
                | inl hit ↦ rw hit (omega arith, omega (arith, prefix_len-le-length is_line_byte bs))
                | inr no_line ↦ rw no_line (omega arith, omega arith)
              ])
            ])
          ])
        ])
      ])
    ]

step_within : (d : ℕ) (bytes : List ℕ) (p : Passage) → Within bytes p → FitsIn d bytes (step_of d p)
unfolding Within
step_within d bytes Opening h = (omega arith, omega arith, h)
step_within zero bytes Closing h = (omega arith, omega arith, h)
step_within (suc zero) bytes Closing h = h
step_within (suc (suc d)) bytes Closing h = (omega arith, omega arith, h)
step_within d bytes (Over n) h = (omega arith, h.0, h.1)
step_within d bytes Unclosed h = tt

pub step_fits : (d : ℕ) (bytes : List ℕ) → FitsIn d bytes (step_of d (passage_at bytes))
step_fits d bytes = step_within d bytes (passage_at bytes) (passage_within bytes)

-- ---- the end

later_fits : (n : ℕ) (bytes : List ℕ) (r : Option ℕ) → n ≤ length bytes → IfSome r (λ m. m ≤ length (drop n bytes))
    → IfSome (later_by n r) (λ m. m ≤ length bytes)
later_fits n bytes None le h = tt
later_fits n bytes (Some m) le h = omega (arith, length-drop n bytes)

-- a procedure ends within the text
pub closes_within : {d : ℕ} {bytes : List ℕ} {r : Option ℕ} → ClosesAfter d bytes r → IfSome r (λ m. m ≤ length bytes)
closes_within (last {d = d} {bytes = bytes} e) = let h : 0 < length bytes = rw e at (step_fits d bytes) in omega arith
closes_within (stops e) = tt
closes_within (passes {d = d} {bytes = bytes} {r = r} next n e rest) = let h : FitsIn d bytes (Next next n) =
    rw e at (step_fits d bytes) in later_fits n bytes r h.2 (closes_within rest)

-- at one place, or nowhere
pub only_end : {d : ℕ} {bytes : List ℕ} {r : Option ℕ} → ClosesAfter d bytes r → (s : Option ℕ)
    → ClosesAfter d bytes s → r ≡ s
only_end (last e) s (last f) = refl
only_end (last e) s (stops f) = absurd (let g = sym e ∙ f in cc)
only_end (last e) s (passes next n f rest) = absurd (let g = sym e ∙ f in cc)
only_end (stops e) s (last f) = absurd (let g = sym e ∙ f in cc)
only_end (stops e) s (stops f) = refl
only_end (stops e) s (passes next n f rest) = absurd (let g = sym e ∙ f in cc)
only_end (passes next n e rest) s (last f) = absurd (let g = sym e ∙ f in cc)
only_end (passes next n e rest) s (stops f) = absurd (let g = sym e ∙ f in cc)
only_end (passes {bytes = bytes} next n e rest) s (passes {r = t} next' n' f rest') =
    let g = sym e ∙ f in
    let same_next : next' ≡ next = cc in
    let same : n' ≡ n = cc in
    let moved : ClosesAfter next (drop n bytes) t = rw (same_next, same) at rest' in
    rw same (ap (later_by n) (only_end rest t moved))

-- with so many braces open after so many bytes, whatever the rest gives, the whole gives
pub record Reaches (bytes : List ℕ) (d i : ℕ) : Type 0 where
  pub within : i ≤ length bytes
  pub few : d ≤ i
  pub on : (r : Option ℕ) → ClosesAfter d (drop i bytes) r → ClosesAfter 0 bytes (later_by i r)

later_later : (i n : ℕ) (o : Option ℕ) → later_by i (later_by n o) ≡ later_by (i + n) o
later_later i n None = refl
later_later i n (Some m) = ap (λ (k : ℕ). Some k) (omega arith)

module _ {bytes : List ℕ} {d i : ℕ} (so_far : Reaches bytes d i) where
  pub reaches_next : (next n : ℕ) → step_of d (passage_at (drop i bytes)) ≡ Next next n → Reaches bytes next (i + n)
  reaches_next next n e =
      let room = so_far.within in
      let few = so_far.few in
      let h : FitsIn d (drop i bytes) (Next next n) = rw e at (step_fits d (drop i bytes)) in
      record {
        within = omega (arith, h.2, length-drop i bytes);
        few = omega (arith, h.0, h.1);
        on = λ r rest. rw (← later_later i n r) (so_far.on (later_by n r) (passes next n e (rw drop-drop rest)));
      }

  pub reaches_last : step_of d (passage_at (drop i bytes)) ≡ Last → ClosesAfter 0 bytes (Some (i + 1))
  reaches_last e = so_far.on (Some 1) (last e)

  pub reaches_stop : step_of d (passage_at (drop i bytes)) ≡ Stop → ClosesAfter 0 bytes None
  reaches_stop e = so_far.on None (stops e)

  pub reaches_end : length bytes ≤ i → ClosesAfter 0 bytes None
  reaches_end le =
      let nothing : drop i bytes ≡ [] = nil_from_length (drop i bytes) (omega (arith, length-drop i bytes)) in
      reaches_stop (rw nothing refl)
