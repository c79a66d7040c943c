-- What the spelling of a written command determines.
use Rattle.std.proofs.Common.{◌≡◌, ℕ, List, [], ◌∷◌, Bool, true, false, refl, sym, codes, ◌<◌, arith}
use Rattle.std.specs.List.{AllByRecursion}
use Rattle.consult_text.specs.Written.{Tok, sign, WrittenElem, named, integer, put_elem, put_further, put_args, equals}
use Rattle.consult_text.specs.Written.{HasName}
use Rattle.consult_text.specs.Parse.{close, IsClosed}

-- signs whose first bytes differ
pub sign_above : (x y : ℕ) {xs ys : List ℕ} {a b : List Tok} → y < x → sign (x ∷ xs) ∷ a ≡ sign (y ∷ ys) ∷ b → ⊥
sign_above x y lt q = let e : x ≡ y = cc in omega arith

pub comma_close : {a b : List Tok} → sign (codes ",") ∷ a ≡ sign (codes ")") ∷ b → ⊥
comma_close q = sign_above 44 41 (omega arith) q

pub dot_closed : (b : List Tok) → IsClosed (sign (codes ".") ∷ b)
dot_closed b rest q = sign_above 46 40 (omega arith) q

pub equals_closed : (p : Bool) (b : List Tok) → IsClosed (sign (equals p) ∷ b)
equals_closed true b rest q = sign_above 61 40 (omega arith) q
equals_closed false b rest q = sign_above 126 40 (omega arith) q

pub elem_same : (e e' : WrittenElem) (r r' : List Tok) → put_elem e r ≡ put_elem e' r' → (e ≡ e') × (r ≡ r')
elem_same (named text) (named text') r r' q = (cc, cc)
elem_same (named text) (integer true text') r r' q = absurd (cc)
elem_same (named text) (integer false text') r r' q = absurd (cc)
elem_same (integer true text) (named text') r r' q = absurd (cc)
elem_same (integer true text) (integer true text') r r' q = (cc, cc)
elem_same (integer true text) (integer false text') r r' q = absurd (cc)
elem_same (integer false text) (named text') r r' q = absurd (cc)
elem_same (integer false text) (integer true text') r r' q = absurd (cc)
elem_same (integer false text) (integer false text') r r' q = (cc, cc)

-- the first token that is after some elements is that of a longer list or the parenthesis
pub further_front : (es es' : List WrittenElem) (cur r : List Tok) → AllByRecursion HasName es'
    → put_further es cur ≡ put_further es' (close r) → (more : List WrittenElem) × AllByRecursion HasName more
    × (cur ≡ put_further more (close r))
further_front [] es' cur r well q = (es', well, q)
further_front (e ∷ es) [] cur r well q = absurd (comma_close q)
further_front (e ∷ es) (e' ∷ es') cur r well q =
    let tails : put_elem e (put_further es cur) ≡ put_elem e' (put_further es' (close r)) = cc in
    further_front es es' cur r well.1 (elem_same e e' _ _ tails).1

pub further_same : (es es' : List WrittenElem) (r r' : List Tok) → put_further es (close r) ≡ put_further es' (close r')
    → (es ≡ es') × (r ≡ r')
further_same [] [] r r' q = (refl, cc)
further_same [] (e' ∷ es') r r' q = absurd (comma_close (sym q))
further_same (e ∷ es) [] r r' q = absurd (comma_close q)
further_same (e ∷ es) (e' ∷ es') r r' q =
    let tails : put_elem e (put_further es (close r)) ≡ put_elem e' (put_further es' (close r')) = cc in
    let same = elem_same e e' _ _ tails in
    let below = further_same es es' r r' same.1 in
    let head = same.0 in
    let tail = below.0 in
    (cc, below.1)

-- arguments in parentheses, against any
pub some_same : (e : WrittenElem) (es es' : List WrittenElem) (r r' : List Tok) → IsClosed r'
    → put_args (e ∷ es) r ≡ put_args es' r' → (e ∷ es ≡ es') × (r ≡ r')
some_same e es [] r r' closed q = absurd (closed _ (sym q))
some_same e es (e' ∷ es') r r' closed q =
    let tails : put_elem e (put_further es (close r)) ≡ put_elem e' (put_further es' (close r')) = cc in
    let same = elem_same e e' _ _ tails in
    let below = further_same es es' r r' same.1 in
    let head = same.0 in
    let tail = below.0 in
    (cc, below.1)

pub args_same : (es es' : List WrittenElem) (r r' : List Tok) → IsClosed r → IsClosed r'
    → put_args es r ≡ put_args es' r' → (es ≡ es') × (r ≡ r')
args_same [] [] r r' closed closed' q = (refl, q)
args_same [] (e' ∷ es') r r' closed closed' q = absurd (closed _ q)
args_same (e ∷ es) es' r r' closed closed' q = some_same e es es' r r' closed' q
