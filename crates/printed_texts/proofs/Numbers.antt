-- An integer that is written in decimal is read as that integer.
use Rattle.std.proofs.Common.{◌≡◌, ℕ, zero, suc, ◌+◌, ◌-◌, ◌*◌, ◌<◌, ◌≤◌, ◌^◌, Bool, true, false, List, [], ◌∷◌, ◌++◌}
use Rattle.std.proofs.Common.{refl, arith, leb}
use Rattle.std.specs.Prelude.{◌/◌, ◌%◌}
use Rattle.std.specs.List.{list_all}
use Rattle.std.specs.Fmt.{decimal}
use Rattle.std.proofs.lemmas.Bool.{and_parts, and_from}
use Rattle.std.proofs.lemmas.List.Sums.{fold-append}
use Rattle.std.proofs.lemmas.Fmt.{decimal_by_steps}
use Rattle.std.proofs.Math.Nat.{mod-lt, div-add-mod}
use Rattle.kb_text.specs.Bytes.{class_of, is_digit_byte}
use Rattle.kb_text.specs.Tokens.{is_too_large, decimal as value_of}
use Rattle.printed_texts.specs.Written.{is_number, is_digit_class}

pub record Written (n : ℕ) (ds : List ℕ) : Type 0 where
  pub number : is_number ds ≡ true
  pub value : value_of ds ≡ n

digit_byte : (d : ℕ) → d < 10 → is_digit_byte (48 + d) ≡ true
unfolding class_of
digit_byte zero lt = refl
digit_byte (suc zero) lt = refl
digit_byte (suc (suc zero)) lt = refl
digit_byte (suc (suc (suc zero))) lt = refl
digit_byte (suc (suc (suc (suc zero)))) lt = refl
digit_byte (suc (suc (suc (suc (suc zero))))) lt = refl
digit_byte (suc (suc (suc (suc (suc (suc zero)))))) lt = refl
digit_byte (suc (suc (suc (suc (suc (suc (suc zero))))))) lt = refl
digit_byte (suc (suc (suc (suc (suc (suc (suc (suc zero)))))))) lt = refl
digit_byte (suc (suc (suc (suc (suc (suc (suc (suc (suc zero))))))))) lt = refl
digit_byte (suc (suc (suc (suc (suc (suc (suc (suc (suc (suc d)))))))))) lt = absurd (omega arith)

digit_class : (d : ℕ) → d < 10 → is_digit_class (class_of (48 + d)) ≡ true
unfolding class_of
digit_class zero lt = refl
digit_class (suc zero) lt = refl
digit_class (suc (suc zero)) lt = refl
digit_class (suc (suc (suc zero))) lt = refl
digit_class (suc (suc (suc (suc zero)))) lt = refl
digit_class (suc (suc (suc (suc (suc zero))))) lt = refl
digit_class (suc (suc (suc (suc (suc (suc zero)))))) lt = refl
digit_class (suc (suc (suc (suc (suc (suc (suc zero))))))) lt = refl
digit_class (suc (suc (suc (suc (suc (suc (suc (suc zero)))))))) lt = refl
digit_class (suc (suc (suc (suc (suc (suc (suc (suc (suc zero))))))))) lt = refl
digit_class (suc (suc (suc (suc (suc (suc (suc (suc (suc (suc d)))))))))) lt = absurd (omega arith)

all_more : (test : ℕ → Bool) (xs : List ℕ) (y : ℕ) → list_all test xs ≡ true → test y ≡ true
    → list_all test (xs ++ y ∷ []) ≡ true
all_more test [] y all last = rw last refl
all_more test (x ∷ xs) y all last = let both = and_parts (test x) (list_all test xs) all in
    and_from (test x) _ both.0 (all_more test xs y both.1 last)

number_more : (ds : List ℕ) (d : ℕ) → is_number ds ≡ true → d < 10 → is_number (ds ++ (48 + d) ∷ []) ≡ true
number_more [] d e lt = absurd (cc)
number_more (b ∷ bs) d e lt = let both = and_parts (is_digit_class (class_of b)) (list_all is_digit_byte bs) e in
    and_from (is_digit_class (class_of b)) _ both.0 (all_more is_digit_byte bs (48 + d) both.1 (digit_byte d lt))

one_digit : (n : ℕ) → n < 10 → Written n ((48 + n) ∷ [])
one_digit n lt = record {
  number = and_from (is_digit_class (class_of (48 + n))) true (digit_class n lt) refl;
  value = omega arith;
}

more_digits : (n : ℕ) (ds : List ℕ) → 10 ≤ n → Written (n / 10) ds → Written n (ds ++ (48 + n % 10) ∷ [])
more_digits n ds le w = record {
  number = number_more ds (n % 10) w.number (mod-lt n (omega arith));
  value =
      let all : value_of (ds ++ (48 + n % 10) ∷ []) ≡ 10 * value_of ds + ((48 + n % 10) - 48) =
      fold-append (λ m b. 10 * m + (b - 48)) 0 ds ((48 + n % 10) ∷ []) in
      let front = w.value in
      omega (arith, all, front, div-add-mod n 10);
}

pub written : (n : ℕ) → n < 2 ^ 64 → Written n (decimal n)
written = decimal_by_steps Written one_digit more_digits

-- such an integer may be written
pub in_range : (n : ℕ) → n < 2 ^ 63 → is_too_large (decimal n) ≡ false
in_range n lt = let value = (written n (omega arith)).value in rw value (below n lt)
  where
    below : (m : ℕ) → m < 2 ^ 63 → leb (2 ^ 63) m ≡ false
    below m lt = grind (arith, lt)
