-- One term more.
use Rattle.std.proofs.Common.{◌≡◌, ◌<◌, ◌≤◌, ◌+◌, ℕ, zero, suc, Bool, List, [], ◌∷◌, ◌++◌, Option, None, drop}
use Rattle.std.proofs.Common.{get_or, length, map, refl, sym, ap, ◌∙◌, append_assoc, arith, slice_get}
use Rattle.std.proofs.Common.{Vec, rules}
use Rattle.std.specs.declared.alloc.Global.{Global}
use Rattle.kb_logic.specs.declared.syntax.Formula.{the_lemmas}
use Rattle.kb_logic.specs.declared.syntax.Term.{Term, Sum}
use Rattle.kb_logic.specs.declared.syntax.Signed.{Signed}
use Rattle.kb_logic.specs.declared.vocabularies.Symbol.{Symbol}
use Rattle.kb_logic.specs.Trees.{TermTree, variable, integer, constructed, application, summation, product, aggregate}
use Rattle.kb_logic.specs.Trees.{SummandTrees, more_summands, summands_of, terms_of}
use Rattle.kb_logic.specs.Views.{signed_view, term_view}
use Rattle.stage_definitions.specs.Demands.{later_types}
use Rattle.stage_definitions.specs.IntegerArguments.{Placed, argument_integers, first_position, integer_in}
use Rattle.stage_definitions.specs.IntegerArguments.{term_integers}
use Rattle.structure_entries.proofs.Dropped.{front}

two_parts : (m n : Bool) (t u : TermTree) (ss : SummandTrees)
    → None ≡ integer_in (summation (more_summands m t (more_summands n u ss)))
two_parts m n (variable k) u ss = refl
two_parts m n (integer z) u ss = refl
two_parts m n (constructed ty k) u ss = refl
two_parts m n (application s ts) u ss = refl
two_parts m n (summation qs) u ss = refl
two_parts m n (product ts) u ss = refl
two_parts m n (aggregate k bs f w) u ss = refl

pub term_view-Sum : (parts : Vec Signed Global) → term_view (Sum parts) ≡ summation
    (summands_of (map signed_view parts.items))
term_view-Sum parts = search (rules, the_lemmas)

pub no_sum : (parts : List Signed) → 2 ≤ length parts → None ≡ integer_in
    (summation (summands_of (map signed_view parts)))
no_sum [] h = absurd (omega (arith, h))
no_sum (x ∷ []) h = absurd (omega (arith, h))
no_sum (x ∷ y ∷ zs) h = two_parts (signed_view x).0 (signed_view y).0 (signed_view x).1 (signed_view y).1
    (summands_of (map signed_view zs))

first_of : (types : List ℕ) (i : ℕ) → first_position (drop i types) ≡ slice_get types i
first_of [] zero = refl
first_of [] (suc i) = refl
first_of (t ∷ ts) zero = refl
first_of (t ∷ ts) (suc i) = first_of ts i

later_of : (types : List ℕ) (i : ℕ) → later_types (drop i types) ≡ drop (i + 1) types
later_of [] zero = refl
later_of [] (suc i) = sym (nothing (suc i + 1))
  where
    nothing : (n : ℕ) → drop {A = ℕ} n [] ≡ []
    nothing zero = refl
    nothing (suc n) = refl
later_of (t ∷ ts) zero = refl
later_of (t ∷ ts) (suc i) = later_of ts i ∙ (let e : suc (i + 1) ≡ suc i + 1 = omega arith in
    ap (λ n. drop n (t ∷ ts)) e)

pub next_argument : (symbols : List Symbol) (types : List ℕ) (all : List Term) (i : ℕ) (x : Term) (at : Option ℕ)
    (old new whole : List (Option Placed))
    → i < length all → x ≡ get_or all i x → at ≡ slice_get types i → new ≡ old ++ term_integers symbols at (term_view x)
    → old ++ argument_integers symbols (drop i types) (terms_of (map term_view (drop i all))) ≡ whole
    → new ++ argument_integers symbols (drop (i + 1) types) (terms_of (map term_view (drop (i + 1) all))) ≡ whole
next_argument symbols types all i x at old new whole lt is place more inv =
    let rest = terms_of (map term_view (drop (i + 1) all)) in
    let own = term_integers symbols (slice_get types i) (term_view x) in
    let next = argument_integers symbols (drop (i + 1) types) rest in
    ap (λ xs. xs ++ next) (more ∙ ap (λ p. old ++ term_integers symbols p (term_view x)) place)
    ∙ append_assoc old own next
    ∙ sym (ap (λ xs. old ++ argument_integers symbols (drop i types) (terms_of (map term_view xs)))
    (front all i x lt is)
    ∙ ap (λ p. old ++ (term_integers symbols p (term_view x) ++ argument_integers symbols (later_types (drop i types))
    rest)) (first_of types i)
    ∙ ap (λ us. old ++ (own ++ argument_integers symbols us rest)) (later_of types i))
    ∙ inv
