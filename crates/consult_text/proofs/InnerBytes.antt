-- The bytes of names and elements, which none of those between them is.
use Rattle.std.proofs.Common.{◌≡◌, ◌≢◌, ℕ, zero, suc, ◌+◌, ◌-◌, ◌<◌, ◌≤◌, ◌^◌, ℤ, pos, negsuc, nat_abs, List, [], ◌∷◌}
use Rattle.std.proofs.Common.{◌++◌, length, true, false, refl, sym, ap, ◌∙◌, subst, arith}
use Rattle.std.specs.List.{AllByRecursion, list_all}
use Rattle.std.specs.Fmt.{signed_decimal, decimal}
use Rattle.std.proofs.lemmas.Bool.{and_parts}
use Rattle.std.proofs.lemmas.Fmt.{decimal_is_IsNumeral, signed_decimal_injective}
use Rattle.std.proofs.lemmas.Str.Parse.{digit_from_value}
use Rattle.std.specs.Str.Parse.{AllDigits}
use Rattle.kb_logic.specs.declared.elements.Elem.{Elem}
use Rattle.kb_logic.specs.declared.elements.Elem.TheVariants.{Named, Num}
use Rattle.kb_text.specs.declared.bytes.Class.{Class}
use Rattle.kb_text.specs.declared.bytes.Class.TheVariants.{Space, Letter, Digit, Mark}
use Rattle.kb_text.specs.Bytes.{class_of, in_word, is_word_byte}
use Rattle.kb_text.specs.Pieces.{IsPiece, WordText}
use Rattle.literal_printer.specs.Texts.{elem_text}
use Rattle.consult_text.specs.OneText.{CanBeWritten}

-- it is none of the bytes that stand between names and elements
pub record Inner (b : ℕ) : Type 0 where
  pub line : b ≢ 10
  pub blank : b ≢ 32
  pub opening : b ≢ 40
  pub closing : b ≢ 41
  pub comma : b ≢ 44
  pub semicolon : b ≢ 59
  pub brace : b ≢ 125

not_other : (b n : ℕ) (c : Class) → class_of n ≡ c → in_word c ≡ false → is_word_byte b ≡ true → b ≢ n
not_other b n c is out inside e =
    let at : in_word (class_of n) ≡ true = subst (λ (x : ℕ). in_word (class_of x) ≡ true) e inside in
    let f : false ≡ true = sym out ∙ (ap in_word (sym is) ∙ at) in
    absurd (cc)

word_byte : (b : ℕ) → is_word_byte b ≡ true → Inner b
unfolding class_of
word_byte b h = record {
  line = not_other b 10 Space refl refl h;
  blank = not_other b 32 Space refl refl h;
  opening = not_other b 40 Mark refl refl h;
  closing = not_other b 41 Mark refl refl h;
  comma = not_other b 44 Mark refl refl h;
  semicolon = not_other b 59 Mark refl refl h;
  brace = not_other b 125 Mark refl refl h;
}

-- between the least of those bytes and the greatest
pub inner_byte : (b : ℕ) → 41 < b → b < 125 → b ≢ 44 → b ≢ 59 → Inner b
inner_byte b low high comma semicolon = record {
  line = λ e. omega arith;
  blank = λ e. omega arith;
  opening = λ e. omega arith;
  closing = λ e. omega arith;
  comma = comma;
  semicolon = semicolon;
  brace = λ e. omega arith;
}

digit_byte : (b : ℕ) → 48 ≤ b → b ≤ 57 → Inner b
digit_byte b low high = inner_byte b (omega arith) (omega arith) (λ e. omega arith) (λ e. omega arith)

minus_byte : Inner 45
minus_byte = inner_byte 45 (omega arith) (omega arith) (λ e. omega arith) (λ e. omega arith)

all_word_bytes : (bs : List ℕ) → list_all is_word_byte bs ≡ true → AllByRecursion Inner bs
all_word_bytes [] h = tt
all_word_bytes (b ∷ bs) h =
    let both = and_parts (is_word_byte b) (list_all is_word_byte bs) h in
    (word_byte b both.0, all_word_bytes bs both.1)

pub word_inner : (text : List ℕ) → IsPiece WordText text → AllByRecursion Inner text
word_inner [] h = absurd h
word_inner (b ∷ bs) h = (word_byte b (ap in_word h.0), all_word_bytes bs h.1)

all_digits : (ds : List ℕ) → AllDigits 10 ds → AllByRecursion Inner ds
all_digits [] h = tt
all_digits (d ∷ ds) h = (let r = digit_from_value d h.0 in digit_byte d (omega arith) (omega arith), all_digits ds h.1)

pub decimal_inner : (n : ℕ) → n < 2 ^ 64 → AllByRecursion Inner (decimal n)
decimal_inner n h = all_digits (decimal n) (decimal_is_IsNumeral n h).0.1

pub elem_inner : (x : Elem) → CanBeWritten x → AllByRecursion Inner (elem_text x)
elem_inner (Named name) h = word_inner name h
elem_inner (Num (pos n)) h = decimal_inner n (omega arith)
elem_inner (Num (negsuc n)) h = (minus_byte, decimal_inner (suc n) (omega arith))

-- the first byte of a word is of no integer
digit_class : (k : ℕ) → k < 10 → class_of (48 + k) ≡ Digit
unfolding class_of
digit_class zero h = refl
digit_class (suc zero) h = refl
digit_class (suc (suc zero)) h = refl
digit_class (suc (suc (suc zero))) h = refl
digit_class (suc (suc (suc (suc zero)))) h = refl
digit_class (suc (suc (suc (suc (suc zero))))) h = refl
digit_class (suc (suc (suc (suc (suc (suc zero)))))) h = refl
digit_class (suc (suc (suc (suc (suc (suc (suc zero))))))) h = refl
digit_class (suc (suc (suc (suc (suc (suc (suc (suc zero)))))))) h = refl
digit_class (suc (suc (suc (suc (suc (suc (suc (suc (suc zero))))))))) h = refl
digit_class (suc (suc (suc (suc (suc (suc (suc (suc (suc (suc k)))))))))) h = absurd (omega arith)

class_minus : class_of 45 ≡ Mark
unfolding class_of
class_minus = refl

no_letter : (b : ℕ) → 48 ≤ b → b ≤ 57 → class_of b ≡ Letter → ⊥
no_letter b low high e =
    let is : 48 + (b - 48) ≡ b = omega arith in
    let d : class_of b ≡ Digit = ap class_of (sym is) ∙ digit_class (b - 48) (omega arith) in
    absurd (cc)

no_digits_word : (ds : List ℕ) → AllDigits 10 ds → IsPiece WordText ds → ⊥
no_digits_word [] h w = w
no_digits_word (d ∷ ds) h w = let r = digit_from_value d h.0 in no_letter d (omega arith) (omega arith) w.0

no_integer_word : (z : ℤ) → nat_abs z < 2 ^ 63 → IsPiece WordText (signed_decimal z) → ⊥
no_integer_word (pos n) h w = no_digits_word (decimal n) (decimal_is_IsNumeral n (omega arith)).0.1 w
no_integer_word (negsuc n) h w = let e = w.0 in let f = class_minus in absurd (cc)

pub elem_text_same : (x y : Elem) → CanBeWritten x → CanBeWritten y → elem_text x ≡ elem_text y → x ≡ y
elem_text_same (Named name) (Named other) h k e = ap (λ (t : List ℕ). Named t) e
elem_text_same (Named name) (Num z) h k e = absurd (no_integer_word z k (subst (IsPiece WordText) e h))
elem_text_same (Num z) (Named name) h k e = absurd (no_integer_word z h (subst (IsPiece WordText) (sym e) k))
elem_text_same (Num (pos m)) (Num (pos n)) h k e =
    ap (λ (x : ℤ). Num x) (signed_decimal_injective (pos m) (pos n) h k e)
elem_text_same (Num (pos m)) (Num (negsuc n)) h k e =
    ap (λ (x : ℤ). Num x) (signed_decimal_injective (pos m) (negsuc n) h (omega arith) e)
elem_text_same (Num (negsuc m)) (Num (pos n)) h k e =
    ap (λ (x : ℤ). Num x) (signed_decimal_injective (negsuc m) (pos n) (omega arith) k e)
elem_text_same (Num (negsuc m)) (Num (negsuc n)) h k e =
    ap (λ (x : ℤ). Num x) (signed_decimal_injective (negsuc m) (negsuc n) (omega arith) (omega arith) e)

-- an element is written with some byte
pub elem_some : (x : Elem) → CanBeWritten x → [] ≢ elem_text x
elem_some (Named []) h e = h
elem_some (Named (b ∷ bs)) h e = absurd (cc)
elem_some (Num (pos n)) h e = let some = (decimal_is_IsNumeral n (omega arith)).0.0 in let none = ap length e in
    absurd (omega arith)
elem_some (Num (negsuc n)) h e = absurd (cc)

-- what follows begins with a byte that is in no name
abbrev pub Stopped : List ℕ → Type 0
Stopped a = (b : ℕ) (t : List ℕ) → a ≡ b ∷ t → Inner b → ⊥

pub split_same : (xs ys a b : List ℕ) → AllByRecursion Inner xs → AllByRecursion Inner ys → Stopped a → Stopped b
    → xs ++ a ≡ ys ++ b → (xs ≡ ys) × (a ≡ b)
split_same [] [] a b all all' stop stop' q = (refl, q)
split_same [] (y ∷ ys) a b all all' stop stop' q = absurd (stop y (ys ++ b) q all'.0)
split_same (x ∷ xs) [] a b all all' stop stop' q = absurd (stop' x (xs ++ a) (sym q) all.0)
split_same (x ∷ xs) (y ∷ ys) a b all all' stop stop' q =
    let tails : xs ++ a ≡ ys ++ b = cc in
    let more = split_same xs ys a b all.1 all'.1 stop stop' tails in
    let e = more.0 in
    (cc, more.1)
