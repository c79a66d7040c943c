-- The value of an integer's digits.
use Rattle.std.proofs.Common.{◌≡◌, ℕ, zero, suc, ◌+◌, ◌-◌, ◌*◌, ◌<◌, ◌≤◌, Bool, true, false, cond, List, [], ◌∷◌}
use Rattle.std.proofs.Common.{length, get_or, take, drop, refl, sym, ap, ◌∙◌, leb, arith}
use Rattle.std.specs.List.{list_all, fold}
use Rattle.std.proofs.lemmas.Bool.{and_parts, leb-true}
use Rattle.std.proofs.lemmas.List.{take-append-drop}
use Rattle.std.proofs.lemmas.List.Sums.{fold-append}
use Rattle.kb_text.specs.declared.bytes.Class.{Class}
use Rattle.kb_text.specs.declared.bytes.Class.TheVariants.{Space, Letter, Digit, Mark, Slash, Refused, Unknown}
use Rattle.kb_text.specs.Bytes.{class_of, is_digit, is_digit_byte}
use Rattle.kb_text.specs.Pieces.{IsPiece, IntText}
use Rattle.kb_text.specs.Tokens.{decimal}

skip_to : (t : Bool) (x y : Class) → (x ≡ Digit → ⊥) → cond t x y ≡ Digit → y ≡ Digit
skip_to true x y other e = absurd (other e)
skip_to false x y other e = e

digit_test : (t : Bool) (y : Class) → (y ≡ Digit → ⊥) → cond t Digit y ≡ Digit → t ≡ true
digit_test true y other e = refl
digit_test false y other e = absurd (other e)

no_digit : (s t u : Bool) → cond s Slash (cond t Refused (cond u Mark Unknown)) ≡ Digit → ⊥
no_digit true t u e = cc
no_digit false true u e = cc
no_digit false false true e = cc
no_digit false false false e = cc

pub digit_range : (b : ℕ) → class_of b ≡ Digit → (48 ≤ b) × (b ≤ 57)
unfolding class_of
digit_range b e =
    let both = and_parts (leb 48 b) (leb b 57) (digit_test _ _ (no_digit _ _ _)
    (skip_to _ _ _ (λ (f : Letter ≡ Digit). cc) (skip_to _ _ _ (λ (f : Space ≡ Digit). cc) e))) in
    (leb-true 48 b both.0, leb-true b 57 both.1)

digit_of : (c : Class) → is_digit c ≡ true → c ≡ Digit
digit_of Digit e = refl
digit_of Space e = absurd (cc)
digit_of Letter e = absurd (cc)
digit_of Mark e = absurd (cc)
digit_of Slash e = absurd (cc)
digit_of Refused e = absurd (cc)
digit_of Unknown e = absurd (cc)

all_at : (xs : List ℕ) (i : ℕ) → i < length xs → list_all is_digit_byte xs ≡ true → class_of (get_or xs i 0) ≡ Digit
all_at [] i lt h = absurd (omega arith)
all_at (x ∷ xs) zero lt h = digit_of (class_of x) (and_parts (is_digit_byte x) (list_all is_digit_byte xs) h).0
all_at (x ∷ xs) (suc i) lt h = all_at xs i (omega arith) (and_parts (is_digit_byte x) (list_all is_digit_byte xs) h).1

pub digit_at : (text : List ℕ) (i : ℕ) → IsPiece IntText text → i < length text → (48 ≤ get_or text i 0)
    × (get_or text i 0 ≤ 57)
digit_at [] i is lt = absurd (omega arith)
digit_at (b ∷ bs) zero is lt = digit_range b is.0
digit_at (b ∷ bs) (suc i) is lt = digit_range (get_or bs i 0) (all_at bs i (omega arith) is.1)

grows : (n : ℕ) (bs : List ℕ) → n ≤ fold (λ n b. 10 * n + (b - 48)) n bs
grows n [] = omega arith
grows n (b ∷ bs) = omega (arith, grows (10 * n + (b - 48)) bs)

-- more digits make no smaller value
pub decimal_front : (i : ℕ) (text : List ℕ) → decimal (take i text) ≤ decimal text
decimal_front i text =
    let f : ℕ → ℕ → ℕ = λ n b. 10 * n + (b - 48) in
    let whole : decimal text ≡ fold f (decimal (take i text)) (drop i text) = ap decimal (sym (take-append-drop i text))
    ∙ fold-append f 0 (take i text) (drop i text) in
    rw whole (grows (decimal (take i text)) (drop i text))
