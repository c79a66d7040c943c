-- The texts of values of arithmetic.
use Rattle.std.proofs.Common.{◌≡◌, ℕ, suc, ◌<◌, ◌≤◌, ◌^◌, ℤ, pos, negsuc, List, ◌∷◌, ◌++◌, refl, sym, ap}
use Rattle.std.proofs.Common.{subst, codes, arith}
use Rattle.std.specs.List.{AllByRecursion}
use Rattle.std.specs.Fmt.{decimal}
use Rattle.std.specs.Str.Parse.{AllDigits}
use Rattle.std.proofs.lemmas.Fmt.{decimal_is_IsNumeral, signed_decimal_injective}
use Rattle.std.proofs.lemmas.Str.Parse.{digit_from_value}
use Rattle.kb_logic.specs.declared.elements.ExtInt.{ExtInt}
use Rattle.kb_logic.specs.declared.elements.ExtInt.TheVariants as ext
use Rattle.kb_logic.specs.declared.elements.ExtInt.TheVariants.{NegInf, PosInf}
use Rattle.kb_logic.specs.Decimals.{decimal_text}
use Rattle.consult_text.specs.OneText.{IsShortValue}
use Rattle.consult_text.proofs.InnerBytes.{Inner, inner_byte, decimal_inner, split_same}
use Rattle.consult_text.proofs.RowTexts.{byte_above, rest_same}
use Rattle.consult_text.proofs.LabelledTexts.{line_end, line_stops}

infinite_inner : (sign : ℕ) → Inner sign → AllByRecursion Inner (sign ∷ codes "inf")
infinite_inner sign h = (
  h,
  (
    inner_byte 105 (omega arith) (omega arith) (λ e. omega (arith, e)) (λ e. omega (arith, e)),
    (
      inner_byte 110 (omega arith) (omega arith) (λ e. omega (arith, e)) (λ e. omega (arith, e)),
      (inner_byte 102 (omega arith) (omega arith) (λ e. omega (arith, e)) (λ e. omega (arith, e)), tt),
    ),
  ),
)

plus_inner : Inner 43
plus_inner = inner_byte 43 (omega arith) (omega arith) (λ e. omega (arith, e)) (λ e. omega (arith, e))

minus_inner : Inner 45
minus_inner = inner_byte 45 (omega arith) (omega arith) (λ e. omega (arith, e)) (λ e. omega (arith, e))

value_inner : (v : ExtInt) → IsShortValue v → AllByRecursion Inner (decimal_text v)
value_inner NegInf h = infinite_inner 45 minus_inner
value_inner (ext.Num (pos n)) h = decimal_inner n (omega arith)
value_inner (ext.Num (negsuc n)) h = (minus_inner, decimal_inner (suc n) (omega arith))
value_inner PosInf h = infinite_inner 43 plus_inner

-- a number's text begins with a digit
no_digit : (n x : ℕ) (rest : List ℕ) → n < 2 ^ 64 → decimal n ≡ x ∷ rest → (48 ≤ x) × (x ≤ 57)
no_digit n x rest h e =
    let all : AllDigits 10 (x ∷ rest) = subst (AllDigits 10) e (decimal_is_IsNumeral n h).0.1 in
    let r = digit_from_value x all.0 in
    (omega arith, omega arith)

value_text_same : (v w : ExtInt) → IsShortValue v → IsShortValue w → decimal_text v ≡ decimal_text w → v ≡ w
value_text_same NegInf NegInf h k e = refl
value_text_same NegInf (ext.Num (pos n)) h k e =
    let r = no_digit n 45 (codes "inf") (omega arith) (sym e) in
    absurd (omega (arith, r.0))
value_text_same NegInf (ext.Num (negsuc n)) h k e =
    let r = no_digit (suc n) 105 (codes "nf") (omega arith) (sym (rest_same e)) in
    absurd (omega (arith, r.1))
value_text_same NegInf PosInf h k e = absurd (byte_above 45 43 (omega arith) e)
value_text_same (ext.Num (pos n)) NegInf h k e =
    let r = no_digit n 45 (codes "inf") (omega arith) e in
    absurd (omega (arith, r.0))
value_text_same (ext.Num (negsuc n)) NegInf h k e =
    let r = no_digit (suc n) 105 (codes "nf") (omega arith) (rest_same e) in
    absurd (omega (arith, r.1))
value_text_same (ext.Num (pos m)) (ext.Num (pos n)) h k e =
    ap (λ (z : ℤ). ext.Num z) (signed_decimal_injective (pos m) (pos n) h k e)
value_text_same (ext.Num (pos m)) (ext.Num (negsuc n)) h k e =
    ap (λ (z : ℤ). ext.Num z) (signed_decimal_injective (pos m) (negsuc n) h (omega arith) e)
value_text_same (ext.Num (negsuc m)) (ext.Num (pos n)) h k e =
    ap (λ (z : ℤ). ext.Num z) (signed_decimal_injective (negsuc m) (pos n) (omega arith) k e)
value_text_same (ext.Num (negsuc m)) (ext.Num (negsuc n)) h k e =
    ap (λ (z : ℤ). ext.Num z) (signed_decimal_injective (negsuc m) (negsuc n) (omega arith) (omega arith) e)
value_text_same (ext.Num (pos n)) PosInf h k e =
    let r = no_digit n 43 (codes "inf") (omega arith) e in
    absurd (omega (arith, r.0))
value_text_same (ext.Num (negsuc n)) PosInf h k e = absurd (byte_above 45 43 (omega arith) e)
value_text_same PosInf NegInf h k e = absurd (byte_above 45 43 (omega arith) (sym e))
value_text_same PosInf (ext.Num (pos n)) h k e =
    let r = no_digit n 43 (codes "inf") (omega arith) (sym e) in
    absurd (omega (arith, r.0))
value_text_same PosInf (ext.Num (negsuc n)) h k e = absurd (byte_above 45 43 (omega arith) (sym e))
value_text_same PosInf PosInf h k e = refl

-- a value up to the end of its line
pub values_same : (v w : ExtInt) (a b : List ℕ) → IsShortValue v → IsShortValue w
    → decimal_text v ++ line_end a ≡ decimal_text w ++ line_end b → (v ≡ w) × (a ≡ b)
values_same v w a b h k q =
    let cut = split_same (decimal_text v) (decimal_text w) (line_end a) (line_end b) (value_inner v h) (value_inner w k)
    (line_stops a) (line_stops b) q in
    (value_text_same v w h k cut.0, rest_same cut.1)
