-- Each part that stands is the longest at its place.
use Rattle.std.proofs.Common.{◌≡◌, ℕ, suc, Bool, true, false, List, [], ◌∷◌, ◌++◌, length, refl, ap, subst, arith, eqb}
use Rattle.std.proofs.Common.{inl, inr}
use Rattle.std.specs.Prelude.{not, ◌&&◌, ◌||◌, if◌then◌else◌}
use Rattle.std.specs.List.{list_all, prefix_len}
use Rattle.std.proofs.Math.Numerals.{one-add}
use Rattle.std.proofs.lemmas.Bool.{cases_Bool, and_parts, eqb-true}
use Rattle.kb_text.specs.declared.bytes.Class.{Class}
use Rattle.kb_text.specs.declared.bytes.Class.TheVariants.{Space, Letter, Digit, Mark, Slash, Refused, Unknown}
use Rattle.kb_text.specs.Bytes.{class_of, is_word_byte, is_digit_byte, is_pair, is_triple}
use Rattle.kb_text.specs.Pieces.{WordText, IntText, SignText, IsLongest}
use Rattle.kb_text.proofs.Pieces.{word_opened, digits_found, one_sign, two_sign, three_sign}
use Rattle.printed_texts.specs.Written.{goes_on, is_space_class, is_letter_class, is_digit_class, is_mark_class}
use Rattle.printed_texts.specs.Written.{is_word, is_number, may_grow, sign_stands}

pub not_true : (x : Bool) → not x ≡ true → x ≡ false
not_true true e = absurd (cc)
not_true false e = refl

pub is_space : (c : Class) → is_space_class c ≡ true → c ≡ Space
is_space Space e = refl
is_space Letter e = absurd (cc)
is_space Digit e = absurd (cc)
is_space Mark e = absurd (cc)
is_space Slash e = absurd (cc)
is_space Refused e = absurd (cc)
is_space Unknown e = absurd (cc)

is_letter : (c : Class) → is_letter_class c ≡ true → c ≡ Letter
is_letter Space e = absurd (cc)
is_letter Letter e = refl
is_letter Digit e = absurd (cc)
is_letter Mark e = absurd (cc)
is_letter Slash e = absurd (cc)
is_letter Refused e = absurd (cc)
is_letter Unknown e = absurd (cc)

is_digit : (c : Class) → is_digit_class c ≡ true → c ≡ Digit
is_digit Space e = absurd (cc)
is_digit Letter e = absurd (cc)
is_digit Digit e = refl
is_digit Mark e = absurd (cc)
is_digit Slash e = absurd (cc)
is_digit Refused e = absurd (cc)
is_digit Unknown e = absurd (cc)

is_mark : (c : Class) → is_mark_class c ≡ true → c ≡ Mark
is_mark Space e = absurd (cc)
is_mark Letter e = absurd (cc)
is_mark Digit e = absurd (cc)
is_mark Mark e = refl
is_mark Slash e = absurd (cc)
is_mark Refused e = absurd (cc)
is_mark Unknown e = absurd (cc)

-- a run that is followed by none of its bytes
run_ends : (test : ℕ → Bool) (xs behind : List ℕ) → list_all test xs ≡ true → goes_on test behind ≡ false
    → prefix_len test (xs ++ behind) ≡ length xs
run_ends test [] [] all ends = refl
run_ends test [] (b ∷ bs) all ends = rw ends refl
run_ends test (x ∷ xs) behind all ends =
    let both = and_parts (test x) (list_all test xs) all in
    rw (both.0, one-add) (ap suc (run_ends test xs behind both.1 ends))

letter_in_word : (b : ℕ) → class_of b ≡ Letter → is_word_byte b ≡ true
letter_in_word b e = rw e refl

digit_in_number : (b : ℕ) → class_of b ≡ Digit → is_digit_byte b ≡ true
digit_in_number b e = rw e refl

pub word_run : (text behind : List ℕ) → is_word text ≡ true → goes_on is_word_byte behind ≡ false
    → prefix_len is_word_byte (text ++ behind) ≡ length text
word_run [] behind e ends = absurd (cc)
word_run (b ∷ bs) behind e ends =
    let both = and_parts (is_letter_class (class_of b)) (list_all is_word_byte bs) e in
    rw (letter_in_word b (is_letter (class_of b) both.0), one-add)
    (ap suc (run_ends is_word_byte bs behind both.1 ends))

pub word_longest : (text behind : List ℕ) → is_word text ≡ true → goes_on is_word_byte behind ≡ false
    → IsLongest (text ++ behind) WordText (length text)
word_longest [] behind e ends = absurd (cc)
word_longest (b ∷ bs) behind e ends =
    let both = and_parts (is_letter_class (class_of b)) (list_all is_word_byte bs) e in
    subst (λ (n : ℕ). IsLongest (b ∷ bs ++ behind) WordText n) (word_run (b ∷ bs) behind e ends)
    (word_opened (b ∷ bs ++ behind) (is_letter (class_of b) both.0))

pub number_longest : (text behind : List ℕ) → is_number text ≡ true → goes_on is_digit_byte behind ≡ false
    → IsLongest (text ++ behind) IntText (length text)
number_longest [] behind e ends = absurd (cc)
number_longest (b ∷ bs) behind e ends =
    let both = and_parts (is_digit_class (class_of b)) (list_all is_digit_byte bs) e in
    let first = is_digit (class_of b) both.0 in
    let run : prefix_len is_digit_byte (b ∷ bs ++ behind) ≡ suc (length bs) =
    rw (digit_in_number b first, one-add) (ap suc (run_ends is_digit_byte bs behind both.1 ends)) in
    subst (λ (n : ℕ). IsLongest (b ∷ bs ++ behind) IntText n) run (digits_found (b ∷ bs ++ behind) (omega arith) first)

or_parts : (x y : Bool) → (x || y) ≡ false → (x ≡ false) × (y ≡ false)
or_parts true y e = absurd (cc)
or_parts false y e = (refl, e)

and_none : (x : Bool) → (x && false) ≡ false
and_none true = refl
and_none false = refl

-- a sign that is a prefix of no longer one
no_pair : (a b : ℕ) → may_grow a ≡ false → is_pair a b ≡ false
no_pair a b e =
    let p = or_parts (eqb a 61) _ e in
    let q = or_parts (eqb a 60) _ p.1 in
    let r = or_parts (eqb a 62) _ q.1 in
    let s = or_parts (eqb a 126) _ r.1 in
    let t = or_parts (eqb a 46) _ s.1 in
    rw (p.0, q.0, r.0, s.0, t.0, t.1) (simp and_none)

alone : (a b : ℕ) (behind : List ℕ) → (if may_grow a then not (goes_on (is_pair a) (b ∷ behind)) else true) ≡ true
    → is_pair a b ≡ false
alone a b behind e =
    elim (cases_Bool (may_grow a)) [
      | inl grows ↦ not_true (is_pair a b) (rw grows at e)
      | inr lone ↦ no_pair a b lone
    ]

-- a longer sign has a shorter one in front
no_triple : (a b c : ℕ) → is_pair a b ≡ false → is_triple a b c ≡ false
no_triple a b c e =
    elim (cases_Bool (eqb a 60)) [
      | inl less ↦ elim (cases_Bool (eqb b 61)) [
        | inl equal ↦ absurd (let f = rw (eqb-true a 60 less, eqb-true b 61 equal) at e in cc)
        | inr other ↦ rw (less, other) refl
      ]
      | inr other ↦ rw other refl
    ]

paired : (a b c : ℕ) (behind : List ℕ)
    → (if eqb a 60 && eqb b 61 then not (goes_on (is_triple a b) (c ∷ behind)) else true) ≡ true
    → is_triple a b c ≡ false
paired a b c behind e =
    elim (cases_Bool (eqb a 60 && eqb b 61)) [
      | inl grows ↦ rw grows (not_true (eqb c 62) (rw grows at e))
      | inr other ↦ rw other refl
    ]

pub sign_longest : (text behind : List ℕ) → sign_stands text behind ≡ true
    → IsLongest (text ++ behind) SignText (length text)
sign_longest [] behind e = absurd (cc)
sign_longest (a ∷ []) [] e =
    let both = and_parts (is_mark_class (class_of a)) _ e in
    one_sign (a ∷ []) (is_mark (class_of a) both.0) (λ lt. absurd (omega arith)) (λ lt. absurd (omega arith))
sign_longest (a ∷ []) (b ∷ []) e =
    let both = and_parts (is_mark_class (class_of a)) _ e in
    one_sign (a ∷ b ∷ []) (is_mark (class_of a) both.0) (λ lt. alone a b [] both.1) (λ lt. absurd (omega arith))
sign_longest (a ∷ []) (b ∷ c ∷ behind) e =
    let both = and_parts (is_mark_class (class_of a)) _ e in
    let none = alone a b (c ∷ behind) both.1 in
    one_sign (a ∷ b ∷ c ∷ behind) (is_mark (class_of a) both.0) (λ lt. none) (λ lt. no_triple a b c none)
sign_longest (a ∷ b ∷ []) [] e =
    let both = and_parts (is_mark_class (class_of a)) _ e in
    let more = and_parts (is_pair a b) _ both.1 in
    two_sign (a ∷ b ∷ []) (is_mark (class_of a) both.0) (omega arith) more.0 (λ lt. absurd (omega arith))
sign_longest (a ∷ b ∷ []) (c ∷ behind) e =
    let both = and_parts (is_mark_class (class_of a)) _ e in
    let more = and_parts (is_pair a b) _ both.1 in
    two_sign (a ∷ b ∷ c ∷ behind) (is_mark (class_of a) both.0) (omega arith) more.0 (λ lt. paired a b c behind more.1)
sign_longest (a ∷ b ∷ c ∷ []) behind e =
    let both = and_parts (is_mark_class (class_of a)) _ e in
    three_sign (a ∷ b ∷ c ∷ behind) (is_mark (class_of a) both.0) (omega arith) both.1
sign_longest (a ∷ b ∷ c ∷ d ∷ ds) behind e = absurd (cc)
