-- Products of integers.
use Rattle.std.proofs.Common.{◌≡◌, ℕ, zero, suc, ℤ, pos, negsuc, neg_ℤ, ◌+ℤ◌, ◌*ℤ◌, Bool, true, false, refl, sym, ap}
use Rattle.std.proofs.Common.{◌∙◌, arith}
use Rattle.std.proofs.lemmas.Int.{ints}
use Rattle.std.proofs.Math.IntN.{*ℤ_comm, zero-*ℤ, suc_ℤ-*ℤ, pred_ℤ-*ℤ}
use Rattle.kb_logic.specs.Meaning.{signed_of}

-- once more, and once less
once-more : (n : ℕ) (k : ℤ) → pos (suc n) *ℤ k ≡ pos n *ℤ k +ℤ k
once-more n k = suc_ℤ-*ℤ (pos n) k

less-one : (k : ℤ) → negsuc zero *ℤ k ≡ neg_ℤ k
less-one k = let e = pred_ℤ-*ℤ (pos zero) k in let f = zero-*ℤ k in omega (arith, ints, e, f)

once-less : (n : ℕ) (k : ℤ) → negsuc (suc n) *ℤ k +ℤ k ≡ negsuc n *ℤ k
once-less n k = let e = pred_ℤ-*ℤ (negsuc n) k in omega (arith, ints, e)

pub times-plus : (z a c : ℤ) → z *ℤ (a +ℤ c) ≡ z *ℤ a +ℤ z *ℤ c
times-plus (pos zero) a c =
    let e = zero-*ℤ (a +ℤ c) in
    let f = zero-*ℤ a in
    let g = zero-*ℤ c in omega (arith, ints, e, f, g)
times-plus (pos (suc n)) a c =
    let e = once-more n (a +ℤ c) in
    let f = once-more n a in
    let g = once-more n c in
    let h = times-plus (pos n) a c in omega (arith, ints, e, f, g, h)
times-plus (negsuc zero) a c =
    let e = less-one (a +ℤ c) in
    let f = less-one a in
    let g = less-one c in omega (arith, ints, e, f, g)
times-plus (negsuc (suc n)) a c =
    let e = once-less n (a +ℤ c) in
    let f = once-less n a in
    let g = once-less n c in
    let h = times-plus (negsuc n) a c in omega (arith, ints, e, f, g, h)

pub plus-times : (a c z : ℤ) → (a +ℤ c) *ℤ z ≡ a *ℤ z +ℤ c *ℤ z
plus-times a c z =
    let e = *ℤ_comm (a +ℤ c) z in
    let f = *ℤ_comm a z in
    let g = *ℤ_comm c z in
    let h = times-plus z a c in omega (arith, ints, e, f, g, h)

pub times-zero : (z : ℤ) → z *ℤ pos 0 ≡ pos 0
times-zero z = *ℤ_comm z (pos 0) ∙ zero-*ℤ z

pub times-one : (z : ℤ) → z *ℤ pos 1 ≡ z
times-one z =
    let e = *ℤ_comm z (pos 1) in
    let f = once-more 0 z in
    let g = zero-*ℤ z in omega (arith, ints, e, f, g)

pub one-times : (z : ℤ) → pos 1 *ℤ z ≡ z
one-times z = *ℤ_comm (pos 1) z ∙ times-one z

pub neg-times : (z c : ℤ) → neg_ℤ z *ℤ c ≡ neg_ℤ (z *ℤ c)
neg-times z c =
    let e = plus-times z (neg_ℤ z) c in
    let none : z +ℤ neg_ℤ z ≡ pos 0 = omega (arith, ints) in
    let f = ap (λ x. x *ℤ c) none ∙ zero-*ℤ c in omega (arith, ints, e, f)

pub times-neg : (z c : ℤ) → z *ℤ neg_ℤ c ≡ neg_ℤ (z *ℤ c)
times-neg z c = *ℤ_comm z (neg_ℤ c) ∙ neg-times c z ∙ ap neg_ℤ (*ℤ_comm c z)

pub times-assoc : (a c z : ℤ) → (a *ℤ c) *ℤ z ≡ a *ℤ (c *ℤ z)
times-assoc (pos zero) c z = ap (λ x. x *ℤ z) (zero-*ℤ c) ∙ zero-*ℤ z ∙ sym (zero-*ℤ (c *ℤ z))
times-assoc (pos (suc n)) c z =
    ap (λ x. x *ℤ z) (once-more n c) ∙ plus-times (pos n *ℤ c) c z
    ∙ ap (λ x. x +ℤ c *ℤ z) (times-assoc (pos n) c z) ∙ sym (once-more n (c *ℤ z))
times-assoc (negsuc zero) c z = ap (λ x. x *ℤ z) (less-one c) ∙ neg-times c z ∙ sym (less-one (c *ℤ z))
times-assoc (negsuc (suc n)) c z =
    let e = ap (λ x. x *ℤ z) (once-less n c) ∙ times-assoc (negsuc n) c z in
    let f = plus-times (negsuc (suc n) *ℤ c) c z in
    let g = once-less n (c *ℤ z) in omega (arith, ints, e, f, g)

-- the sign of a factor
pub signed-times : (minus : Bool) (z c : ℤ) → signed_of minus z *ℤ c ≡ z *ℤ signed_of minus c
signed-times true z c = neg-times z c ∙ sym (times-neg z c)
signed-times false z c = refl
