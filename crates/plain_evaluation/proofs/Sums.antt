-- A sum, part by part.
use Rattle.kb_logic.specs.Arithmetic.{SummandsFit}
use Rattle.kb_logic.specs.Denotations.{number}
use Rattle.kb_logic.specs.Meaning.{signed_of, sum_of, summand_plus, value_of}
use Rattle.kb_logic.specs.Trees.{more_summands, summands_of}
use Rattle.kb_logic.specs.Views.{signed_view, term_view}
use Rattle.kb_logic.specs.declared.structures.Structure.{Structure}
use Rattle.std.proofs.Common.{◌≡◌, ℕ, ◌+◌, ◌<◌, ℤ, ◌+ℤ◌, List, ◌∷◌, map, length, get_or, drop, Option, Some, None, Bool}
use Rattle.std.proofs.Common.{refl, sym, ap, ◌∙◌, arith, rules, FitsSigned, w64, to_z, of_z}
use Rattle.std.specs.Option.{option_map}
use Rattle.std.proofs.lemmas.List.{at_drop_more}
use Rattle.std.proofs.lemmas.Int.{ints, to_z-of_z}
use Rattle.kb_logic.specs.declared.elements.Elem.{Elem}
use Rattle.kb_logic.specs.declared.syntax.Signed.{Signed}
use Rattle.kb_logic.specs.declared.syntax.Formula.{the_lemmas}

signed_view-is : (s : Signed) → signed_view s ≡ (s.minus, term_view s.term)
signed_view-is s = search (rules, the_lemmas)

parts_at : (parts : List Signed) (i : ℕ) (s : Signed) → i < length parts → s ≡ get_or parts i s
    → summands_of (map signed_view (drop i parts)) ≡ more_summands s.minus (term_view s.term)
    (summands_of (map signed_view (drop (i + 1) parts)))
parts_at parts i s h at =
    at_drop_more (λ ps. summands_of (map signed_view ps)) parts i s h
    ∙ ap (λ p. summands_of (map signed_view (p ∷ drop (i + 1) parts))) (sym at)
    ∙ ap (λ v. summands_of (v ∷ map signed_view (drop (i + 1) parts))) (signed_view-is s)

added : (minus : Bool) (n t u : ℤ) (rest : Option ℤ) → u ≡ t +ℤ signed_of minus n → option_map (λ z. u +ℤ z) rest
    ≡ option_map (λ z. t +ℤ z) (summand_plus minus (number n) rest)
added minus n t u None e = refl
added minus n t u (Some s) e = ap Some (omega (arith, ints))

pub sum_next : (w : Structure) (env : List Elem) (parts : List Signed) (i : ℕ) (s : Signed) (t n r u : ℤ)
    → i < length parts → s ≡ get_or parts i s
    → number n ≡ value_of w (term_view s.term) env → FitsSigned w64 n
    → r ≡ signed_of s.minus (to_z w64 (of_z w64 n)) → u ≡ t +ℤ r
    → option_map (λ z. u +ℤ z) (sum_of w (summands_of (map signed_view (drop (i + 1) parts))) env) ≡ option_map
    (λ z. t +ℤ z) (sum_of w (summands_of (map signed_view (drop i parts))) env)
sum_next w env parts i s t n r u h at is fits p e =
    let q : u ≡ t +ℤ signed_of s.minus n = e ∙ ap (λ z. t +ℤ z) (simp to_z-of_z at p) in
    rw (parts_at parts i s h at, ← is) (added s.minus n t u (sum_of w
    (summands_of (map signed_view (drop (i + 1) parts))) env) q)

pub fit_next : (w : Structure) (env : List Elem) (parts : List Signed) (i : ℕ) (s : Signed) → i < length parts
    → s ≡ get_or parts i s
    → SummandsFit w (summands_of (map signed_view (drop i parts))) env
    → SummandsFit w (summands_of (map signed_view (drop (i + 1) parts))) env
fit_next w env parts i s h at fits =
    let both : SummandsFit w (more_summands s.minus (term_view s.term)
    (summands_of (map signed_view (drop (i + 1) parts)))) env = rw (parts_at parts i s h at) at fits in
    both.1
