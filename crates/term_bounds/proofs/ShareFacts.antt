-- The least that parts may count.
use Rattle.std.proofs.Common.{◌≡◌, ◌∙◌, ℕ, zero, suc, ◌<◌, ◌-ℤ◌, length, get_or, ℤ, pos, ◌≤ℤ◌, int_lt, Bool, true}
use Rattle.std.proofs.Common.{false, if◌then◌else◌, Option, Some}
use Rattle.std.proofs.Common.{None, List, [], ◌∷◌, All, refl, sym, ap, subst, arith}
use Rattle.std.proofs.lemmas.List.Elements.{All-head, All-tail}
use Rattle.std.proofs.lemmas.Bool.Decides.{nat_tests}
use Rattle.std.proofs.lemmas.Int.{ints}
use Rattle.kb_logic.specs.declared.elements.ExtInt.{ExtInt}
use Rattle.kb_logic.specs.declared.syntax.AggKind.{AggKind}
use Rattle.lit_core.specs.Literals.{literal_value, value_in}
use Rattle.ground_core.specs.declared.parts.Part.{Part}
use Rattle.term_bounds.specs.Totals.{counted_as, where_true, total}
use Rattle.term_bounds.specs.Shares.{share, raised, opened, opened_total, least_total, IsDecidedAs}
use Rattle.term_bounds.specs.Laws.{LeastIsLeast}

-- without a value a part counts least
pub none-least : (w : ℤ) (b : Bool) → share None w ≤ℤ where_true b w
none-least w b = by (int_lt w (pos 0)) b refl
  where
    by : (t b : Bool) → int_lt w (pos 0) ≡ t → (if t then w else pos 0) ≤ℤ where_true b w
    by true true e = omega (arith, ints)
    by true false e = grind (arith, ints, nat_tests)
    by false true e = grind (arith, ints, nat_tests)
    by false false e = omega (arith, ints)

same : (x b : Bool) (w : ℤ) → b ≡ x → share (Some x) w ≤ℤ where_true b w
same x b w e = subst (λ y. where_true x w ≤ℤ where_true y w) (sym e) (omega (arith, ints))

share-least : (o : Option Bool) (b : Bool) (w : ℤ) → ((x : Bool) → o ≡ Some x → b ≡ x) → share o w ≤ℤ where_true b w
share-least None b w h = none-least w b
share-least (Some x) b w h = same x b w (h x refl)

pub least-is-least : LeastIsLeast
least-is-least a v k bound [] ex = omega (arith, ints)
least-is-least a v k bound (p ∷ ps) ex =
    let w = counted_as k bound p.weight in
    let here : share (value_in a p.lit) w ≤ℤ where_true (literal_value v p.lit) w =
    share-least (value_in a p.lit) (literal_value v p.lit) w (λ x e. ex p.lit x e) in
    let rest : least_total a k bound ps ≤ℤ total v k bound ps = least-is-least a v k bound ps ex in
    omega (arith, ints, here, rest)

-- a value raises what a part may count least
pub raised-low : (o : Option Bool) (w : ℤ) → pos 0 ≤ℤ raised o w
raised-low None w = omega (arith, ints)
raised-low (Some b) w = let least : share None w ≤ℤ where_true b w = none-least w b in omega (arith, ints, least)

-- where all parts have values they count as under any valuation that has these
pub decided-total : (a : List (Option Bool)) (v : ℕ → Bool) (k : AggKind) (bound : ExtInt) (ps : List Part)
    → All (λ (p : Part). IsDecidedAs a v p.lit) ps → least_total a k bound ps ≡ total v k bound ps
decided-total a v k bound [] all = refl
decided-total a v k bound (p ∷ ps) all =
    let w = counted_as k bound p.weight in
    let here : share (value_in a p.lit) w ≡ where_true (literal_value v p.lit) w =
    ap (λ o. share o w) (All-head (λ (q : Part). IsDecidedAs a v q.lit) p ps all) in
    let rest : least_total a k bound ps ≡ total v k bound ps =
    decided-total a v k bound ps (All-tail (λ (q : Part). IsDecidedAs a v q.lit) p ps all) in
    omega (arith, ints, here, rest)

opened-low : (o : Option Bool) (x : Bool) (w : ℤ) → pos 0 ≤ℤ opened o x w
opened-low None x w = let least : share None w ≤ℤ where_true x w = none-least w x in omega (arith, ints, least)
opened-low (Some b) x w = omega (arith, ints)

-- parts without a value count no less than the least that they may
pub opened-total-low : (a : List (Option Bool)) (v : ℕ → Bool) (k : AggKind) (bound : ExtInt) (ps : List Part)
    → pos 0 ≤ℤ opened_total a v k bound ps
opened-total-low a v k bound [] = omega (arith, ints)
opened-total-low a v k bound (p ∷ ps) =
    let w = counted_as k bound p.weight in
    let here : pos 0 ≤ℤ opened (value_in a p.lit) (literal_value v p.lit) w =
    opened-low (value_in a p.lit) (literal_value v p.lit) w in
    let rest : pos 0 ≤ℤ opened_total a v k bound ps = opened-total-low a v k bound ps in
    omega (arith, ints, here, rest)

-- one of them counts this much more
pub opened-one : (a : List (Option Bool)) (v : ℕ → Bool) (k : AggKind) (bound : ExtInt) (ps : List Part) (i : ℕ)
    (p : Part) → i < length ps → get_or ps i p ≡ p → value_in a p.lit ≡ None → (b : Bool) → literal_value v p.lit ≡ b
    → raised (Some b) (counted_as k bound p.weight) ≤ℤ opened_total a v k bound ps
opened-one a v k bound [] i p lt is none b e = absurd (omega (arith, lt))
opened-one a v k bound (q ∷ ps) zero p lt is none b e =
    let w = counted_as k bound p.weight in
    let same-one : q ≡ p = is in
    let rest : pos 0 ≤ℤ opened_total a v k bound ps = opened-total-low a v k bound ps in
    let here : opened (value_in a q.lit) (literal_value v q.lit) (counted_as k bound q.weight) ≡ raised (Some b) w =
    ap (λ (x : Part). opened (value_in a x.lit) (literal_value v x.lit) (counted_as k bound x.weight)) same-one
    ∙ (ap (λ o. opened o (literal_value v p.lit) w) none ∙ ap (λ x. where_true x w -ℤ share None w) e) in
    omega (arith, ints, here, rest)
opened-one a v k bound (q ∷ ps) (suc i) p lt is none b e =
    let here : pos 0 ≤ℤ opened (value_in a q.lit) (literal_value v q.lit) (counted_as k bound q.weight) =
    opened-low (value_in a q.lit) (literal_value v q.lit) (counted_as k bound q.weight) in
    let rest : raised (Some b) (counted_as k bound p.weight) ≤ℤ opened_total a v k bound ps =
    opened-one a v k bound ps i p (omega (arith, lt)) is none b e in
    omega (arith, ints, here, rest)
