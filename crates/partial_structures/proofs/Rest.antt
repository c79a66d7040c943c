-- Where arguments have led to no node, the same is known of all atoms that go on so.
use Rattle.std.proofs.Common.{◌≡◌, ℕ, zero, suc, ◌+◌, ◌*◌, Bool, List, [], ◌∷◌, ◌++◌, length, map, Option, None, Some}
use Rattle.std.proofs.Common.{IfSome, replicate, refl, sym, ap, subst, ◌∙◌, arith}
use Rattle.std.specs.List.{flat_map}
use Rattle.std.specs.Option.{SomeIff}
use Rattle.kb_logic.specs.declared.elements.Elem.{Elem}
use Rattle.partial_structures.specs.AtomRows.{settled}
use Rattle.partial_structures.specs.Ordered.{value_behind}
use Rattle.row_tries.specs.declared.rows.Edge.{Edge}
use Rattle.row_tries.specs.declared.rows.Mark.{Mark}
use Rattle.row_tries.specs.declared.truths.Truth.TheVariants.{Unknown}

pub replicate-sum : {X : Type 0} (m n : ℕ) (x : X) → replicate m x ++ replicate n x ≡ replicate (m + n) x
replicate-sum zero n x = let e : n ≡ 0 + n = omega arith in ap (λ k. replicate k x) e
replicate-sum (suc m) n x =
    let e : suc (m + n) ≡ suc m + n = omega arith in
    ap (λ xs. x ∷ xs) (replicate-sum m n x) ∙ ap (λ k. replicate k x) e

pub none_left : {X : Type 0} (xs : List X) → length xs ≡ 0 → xs ≡ []
none_left [] e = refl
none_left (x ∷ xs) e = absurd (omega (arith, e))

-- the same of each value of a function
pub each_value : (ws : List (List ℕ)) (es : List (Edge × Mark)) (closed : Bool) (xs : List Elem)
    → map (value_behind ws es closed None) xs ≡ replicate (length xs) (settled closed Unknown)
each_value ws es closed [] = refl
each_value ws es closed (x ∷ xs) = ap (λ ts. settled closed Unknown ∷ ts) (each_value ws es closed xs)

-- ... and of as many atoms for each element
pub each_elem : {X Y : Type 0} (n : ℕ) (y : Y) (ys : List Y) → ys ≡ replicate n y → (xs : List X)
    → flat_map (λ x. ys) xs ≡ replicate (length xs * n) y
each_elem n y ys is [] = let e : 0 ≡ 0 * n = omega arith in ap (λ k. replicate k y) e
each_elem n y ys is (x ∷ xs) =
    let e : n + length xs * n ≡ suc (length xs) * n = omega arith in
    ap (λ zs. zs ++ flat_map (λ x. ys) xs) is ∙ ap (λ zs. replicate n y ++ zs) (each_elem n y ys is xs)
    ∙ replicate-sum n (length xs * n) y ∙ ap (λ k. replicate k y) e

-- what holds of the number that fits holds of the answer
pub if_some : {X : Type 0} (o : Option X) (P : Type 0) (v : X) (Q : X → Type 0) → SomeIff o P v → Q v → IfSome o Q
if_some None P v Q is q = tt
if_some (Some x) P v Q is q = subst Q (sym is.1) q
