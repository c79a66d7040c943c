-- The variables of a contradiction's clause.
use Rattle.std.proofs.Common.{◌≡◌, ℕ, suc, ℤ, ◌-ℤ◌, int_le, Bool, true, false, if◌then◌else◌, Option, List, [], ◌∷◌}
use Rattle.std.proofs.Common.{All, Any, inl, inr, refl, sym, subst, arith}
use Rattle.std.proofs.lemmas.List.Elements.{All-append, All-cons, All-nil, All-weaker}
use Rattle.kb_logic.specs.declared.elements.ExtInt.{ExtInt}
use Rattle.kb_logic.specs.declared.syntax.AggKind.{AggKind}
use Rattle.lit_core.specs.declared.literals.Lit.{Lit}
use Rattle.ground_core.specs.declared.parts.Part.{Part}
use Rattle.ground_core.specs.declared.parts.AggCon.{AggCon}
use Rattle.ground_core.specs.Intervals.{known_of}
use Rattle.aggregate_propagators.specs.Reasons.{asks_high, denied}
use Rattle.aggregate_propagators.specs.Implied.{IsOfSum}
use Rattle.aggregate_propagators.specs.Spared.{forgotten, short_clause_of, spare_at, spared}
use Rattle.aggregate_propagators.proofs.Causes.{denied-var}

-- one of the parts has the literal's variable
abbrev IsOfParts : List Part → Lit → Type 0
IsOfParts ps l = Any (λ (p : Part). p.lit.var.0 ≡ l.var.0) ps

of-more : (p : Part) (ps : List Part) (l : Lit) → IsOfParts ps l → IsOfParts (p ∷ ps) l
of-more p ps l w = (suc w.0, w.1, omega (arith, w.2), w.3, w.4)

spared-case : (p : Part) (ps : List Part) (o : Option Bool) (t : Bool) (left kept : List Lit) → All (IsOfParts ps) left
    → All (IsOfParts ps) kept → All (IsOfParts (p ∷ ps)) (if t then left else denied o p.lit ∷ kept)
spared-case p ps o true left kept h g = All-weaker (IsOfParts ps) (IsOfParts (p ∷ ps)) (of-more p ps) left h
spared-case p ps o false left kept h g =
    All-cons (IsOfParts (p ∷ ps)) (denied o p.lit) kept (0, p, omega arith, refl, sym (denied-var o p.lit))
    (All-weaker (IsOfParts ps) (IsOfParts (p ∷ ps)) (of-more p ps) kept g)

spared-of : (a : ℕ → Option Bool) (high : Bool) (k : AggKind) (least : ExtInt) (spare : ℤ) (ps : List Part)
    → All (IsOfParts ps) (spared a high k least spare ps)
spared-of a high k least spare [] = All-nil (IsOfParts [])
spared-of a high k least spare (p ∷ ps) =
    let by : ℤ = forgotten high k least p.weight (known_of a p.lit) in
    spared-case p ps (known_of a p.lit) (int_le by spare) (spared a high k least (spare -ℤ by) ps)
    (spared a high k least spare ps) (spared-of a high k least (spare -ℤ by) ps) (spared-of a high k least spare ps)

pub clause-of-sum : (a : ℕ → Option Bool) (c : AggCon) → All (λ l. IsOfSum l c) (short_clause_of a c)
clause-of-sum a c =
    let high : Bool = asks_high (known_of a c.out) in
    let some : List Lit = spared a high c.kind c.least (spare_at a high c) c.parts in
    let out : Lit = denied (known_of a c.out) c.out in
    All-append (λ l. IsOfSum l c) some (out ∷ [])
    (All-weaker (IsOfParts c.parts) (λ l. IsOfSum l c) (λ l w. inr w) some
    (spared-of a high c.kind c.least (spare_at a high c) c.parts))
    (All-cons (λ l. IsOfSum l c) out [] (inl (sym (denied-var (known_of a c.out) c.out))) (All-nil (λ l. IsOfSum l c)))

pub of-sum : (a : ℕ → Option Bool) (c : AggCon) (cl : List Lit) → cl ≡ short_clause_of a c → All (λ l. IsOfSum l c) cl
of-sum a c cl e = subst (All (λ l. IsOfSum l c)) (sym e) (clause-of-sum a c)
