-- Steps over the operands and the factors of a term.
use Rattle.std.proofs.Common.{◌≡◌, ℕ, ◌+◌, ◌<◌, ◌≤◌, ℤ, pos, ◌*ℤ◌, List, [], ◌∷◌, map, drop, length, Vec, Bool}
use Rattle.std.proofs.Common.{get_or, if◌then◌else◌, refl, sym, ap, ◌∙◌, arith, rules}
use Rattle.std.proofs.lemmas.List.{length-map, drop_more}
use Rattle.std.specs.declared.alloc.Global.{Global}
use Rattle.kb_logic.specs.Trees.{TermTree, summation, summands_of, more_terms, terms_of}
use Rattle.kb_logic.specs.Views.{signed_view, term_view}
use Rattle.kb_logic.specs.declared.syntax.Formula.{the_lemmas}
use Rattle.kb_logic.specs.declared.syntax.Signed.{Signed}
use Rattle.kb_logic.specs.declared.syntax.Term.{Term, Sum}
use Rattle.def_ground.proofs.Products.{times-assoc}
use Rattle.def_ground.specs.Counting.{has_aggregate, signed_integer, signed_operand, integer_factor}

term_view-Sum : (ss : Vec Signed Global) → term_view (Sum ss) ≡ summation (summands_of (map signed_view ss.items))
term_view-Sum ss = search (rules, the_lemmas)

many-operands : (ss : List (Bool × TermTree)) → 2 ≤ length ss → signed_operand (summands_of ss) ≡ pos 1
many-operands [] h = absurd (omega (arith, h))
many-operands (s ∷ []) h = absurd (omega (arith, h))
many-operands (s ∷ u ∷ ss) h = refl

-- a sum of two operands and more is no integer
pub no-integer : (t : Term) (ss : Vec Signed Global) → t ≡ Sum ss → 2 ≤ length ss.items
    → pos 1 ≡ signed_integer (term_view t)
no-integer t ss is h =
    let two : 2 ≤ length (map signed_view ss.items) = omega (arith, h, length-map ss.items signed_view) in
    sym (ap (λ u. signed_integer (term_view u)) is ∙ ap signed_integer (term_view-Sum ss)
    ∙ many-operands (map signed_view ss.items) two)

-- one factor more
pub next-product : (ts : List Term) (i : ℕ) (t : Term) → i < length ts → t ≡ get_or ts i t → (y z n : ℤ)
    → z ≡ y *ℤ (if has_aggregate (term_view t) then pos 1 else signed_integer (term_view t))
    → y *ℤ integer_factor (terms_of (map term_view (drop i ts))) ≡ n
    → z *ℤ integer_factor (terms_of (map term_view (drop (i + 1) ts))) ≡ n
next-product ts i t within is y z n product same =
    let w : ℤ = if has_aggregate (term_view t) then pos 1 else signed_integer (term_view t) in
    let rest = terms_of (map term_view (drop (i + 1) ts)) in
    ap (λ u. u *ℤ integer_factor rest) product ∙ times-assoc y w (integer_factor rest)
    ∙ sym (ap (λ us. y *ℤ integer_factor (terms_of (map term_view us))) (drop_more ts i t within)
    ∙ ap (λ u. y *ℤ integer_factor (more_terms (term_view u) rest)) (sym is)) ∙ same
