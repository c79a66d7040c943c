-- The parts of what is written are apart.
use Rattle.std.proofs.Common.{◌≡◌, ℕ, suc, ◌<◌, ◌^◌, Bool, true, false, List, [], ◌∷◌, ◌++◌, Option, Some, None, refl}
use Rattle.std.proofs.Common.{sym, ◌∙◌, arith, eqb, inl, inr}
use Rattle.std.specs.Prelude.{pos, negsuc, not, if◌then◌else◌, ◌&&◌, ◌||◌, ◌==◌, codes, nat_eq}
use Rattle.std.specs.List.{AllByRecursion, starts_with}
use Rattle.std.specs.Str.{bytes_eq}
use Rattle.std.specs.Fmt.{decimal}
use Rattle.std.proofs.lemmas.Bool.{and_parts, and_from, cases_Bool, eqb-true}
use Rattle.std.proofs.lemmas.Slice.Eq.{bytes_eq-Decides}
use Rattle.kb_text.specs.declared.bytes.Class.{Class}
use Rattle.kb_text.specs.declared.bytes.Class.TheVariants.{Space, Letter, Digit, Mark, Slash, Refused, Unknown}
use Rattle.kb_text.specs.Bytes.{class_of, is_word_byte, is_digit_byte, is_pair}
use Rattle.kb_text.specs.Tokens.{is_unsupported, is_word_of, unsupported_chain_words, unsupported_call_words}
use Rattle.kb_logic.specs.declared.elements.Elem.{Elem}
use Rattle.kb_logic.specs.declared.elements.Elem.TheVariants.{Named, Num}
use Rattle.printed_texts.specs.Written.{Part, gap, text_with, goes_on, is_letter_class, is_digit_class, is_word}
use Rattle.printed_texts.specs.Written.{is_number, word_stands, number_stands, are_apart}
use Rattle.printed_texts.proofs.Numbers.{written, in_range}
use Rattle.printed_texts.specs.Entries.{truth, element, table}
use Rattle.printed_texts.specs.Texts.{truth_text}
use Rattle.printed_texts.specs.Parts.{sign, space, write_each, write_elem, write_next, write_items, write_to, write_row}
use Rattle.printed_texts.specs.Parts.{write_next_row, write_rows, write_value, write_mark, write_entry, write_block}
use Rattle.printed_texts.specs.Names.{IsName, IsElem, IsOption, IsRow, IsValue, IsEntry, IsBlock}

-- a byte that may come after a word or an integer of any kind: it goes on with neither, and opens no bracket that is
-- read otherwise
abbrev goes_on_with : ℕ → Bool
goes_on_with b = is_word_byte b || ((40 == b) || (91 == b))

abbrev pub Closes : List ℕ → Type 0
Closes bytes = goes_on goes_on_with bytes ≡ false

or_parts : (x y : Bool) → (x || y) ≡ false → (x ≡ false) × (y ≡ false)
or_parts true y e = absurd (cc)
or_parts false y e = (refl, e)

ends_word : (behind : List ℕ) → Closes behind → goes_on is_word_byte behind ≡ false
ends_word [] e = refl
ends_word (b ∷ bs) e = (or_parts (is_word_byte b) _ e).0

no_bracket : (b : ℕ) (bs : List ℕ) → Closes (b ∷ bs) → (eqb 40 b ≡ false) × (eqb 91 b ≡ false)
no_bracket b bs e = let p = or_parts (is_word_byte b) _ e in or_parts (eqb 40 b) (eqb 91 b) p.1

no_square : (behind : List ℕ) → Closes behind → starts_with nat_eq behind (codes "[") ≡ false
no_square [] e = refl
no_square (b ∷ bs) e = let n = no_bracket b bs e in rw n.1 refl

no_round : (behind : List ℕ) → Closes behind → starts_with nat_eq behind (codes "(") ≡ false
no_round [] e = refl
no_round (b ∷ bs) e = let n = no_bracket b bs e in rw n.0 refl

supported : (n behind : List ℕ) → IsName n → Closes behind → is_unsupported n behind ≡ false
supported n behind h e = rw h.read (by_kind (is_word_of unsupported_chain_words n)
    (is_word_of unsupported_call_words n))
  where
    by_kind : (x y : Bool) → (if x then starts_with nat_eq behind (codes "[") else
        (if y then starts_with nat_eq behind (codes "(") else false)) ≡ false
    by_kind true y = no_square behind e
    by_kind false true = no_round behind e
    by_kind false false = refl

pub no_procedure : (n : List ℕ) → IsName n → bytes_eq n (codes "procedure") ≡ false
no_procedure n h =
    elim (cases_Bool (bytes_eq n (codes "procedure"))) [
      | inl same ↦ absurd (let f = rw ((bytes_eq-Decides n (codes "procedure")).0 same) at h.free in cc)
      | inr other ↦ other
    ]

pub not_false : (x : Bool) → x ≡ false → not x ≡ true
not_false true e = absurd (cc)
not_false false e = refl

pub name_stands : (n behind : List ℕ) → IsName n → Closes behind → word_stands n behind ≡ true
name_stands n behind h e =
    and_from (is_word n) _ h.word
    (and_from (not (goes_on is_word_byte behind)) _ (not_false _ (ends_word behind e))
    (and_from (not (is_unsupported n behind)) _ (not_false _ (supported n behind h e))
    (not_false _ (no_procedure n h))))

no_digit : (c : Class) → (b : ℕ) → class_of b ≡ c → is_word_byte b ≡ false → is_digit_byte b ≡ false
no_digit Digit b e f = absurd (let g = rw e at f in cc)
no_digit Space b e f = rw e refl
no_digit Letter b e f = rw e refl
no_digit Mark b e f = rw e refl
no_digit Slash b e f = rw e refl
no_digit Refused b e f = rw e refl
no_digit Unknown b e f = rw e refl

ends_number : (behind : List ℕ) → Closes behind → goes_on is_digit_byte behind ≡ false
ends_number [] e = refl
ends_number (b ∷ bs) e = no_digit (class_of b) b refl ((or_parts (is_word_byte b) _ e).0)

pub integer_stands : (n : ℕ) (behind : List ℕ) → n < 2 ^ 63 → Closes behind → number_stands (decimal n) behind ≡ true
integer_stands n behind lt e =
    and_from (is_number (decimal n)) _ ((written n (omega arith)).number)
    (and_from (not (goes_on is_digit_byte behind)) _ (not_false _ (ends_number behind e)) (not_false _ (in_range n lt)))

-- ---- after a sign that may grow

and_none : (x : Bool) → (x && false) ≡ false
and_none true = refl
and_none false = refl

differs : (k b : ℕ) → is_word_byte k ≡ false → is_word_byte b ≡ true → eqb b k ≡ false
differs k b e f =
    elim (cases_Bool (eqb b k)) [
      | inl same ↦ absurd (let g = rw (eqb-true b k same) at f in let h = sym e ∙ g in cc)
      | inr other ↦ other
    ]

no_pair : (a b : ℕ) → is_word_byte b ≡ true → is_pair a b ≡ false
unfolding class_of
no_pair a b e = rw (
  differs 62 b refl e,
  differs 61 b refl e,
  differs 60 b refl e,
  differs 45 b refl e,
  differs 46 b refl e,
) (simp and_none)

letter_in_word : (c : Class) (b : ℕ) → class_of b ≡ c → is_letter_class c ≡ true → is_word_byte b ≡ true
letter_in_word Letter b e f = rw e refl
letter_in_word Space b e f = absurd (cc)
letter_in_word Digit b e f = absurd (cc)
letter_in_word Mark b e f = absurd (cc)
letter_in_word Slash b e f = absurd (cc)
letter_in_word Refused b e f = absurd (cc)
letter_in_word Unknown b e f = absurd (cc)

digit_in_word : (c : Class) (b : ℕ) → class_of b ≡ c → is_digit_class c ≡ true → is_word_byte b ≡ true
digit_in_word Digit b e f = rw e refl
digit_in_word Space b e f = absurd (cc)
digit_in_word Letter b e f = absurd (cc)
digit_in_word Mark b e f = absurd (cc)
digit_in_word Slash b e f = absurd (cc)
digit_in_word Refused b e f = absurd (cc)
digit_in_word Unknown b e f = absurd (cc)

pub before_word : (a : ℕ) (n behind : List ℕ) → is_word n ≡ true → not (goes_on (is_pair a) (n ++ behind)) ≡ true
before_word a [] behind e = absurd (cc)
before_word a (b ∷ bs) behind e = not_false _ (no_pair a b (letter_in_word (class_of b) b refl
    ((and_parts (is_letter_class (class_of b)) _ e).0)))

pub before_number : (a : ℕ) (n behind : List ℕ) → is_number n ≡ true → not (goes_on (is_pair a) (n ++ behind)) ≡ true
before_number a [] behind e = absurd (cc)
before_number a (b ∷ bs) behind e = not_false _ (no_pair a b
    (digit_in_word (class_of b) b refl ((and_parts (is_digit_class (class_of b)) _ e).0)))

-- ---- part by part

-- what is written is apart from what comes after, where this does not go on with a word
abbrev pub Parted : {X : Type 0} → (X → List Part → List Part) → (X → Type 0) → Type 0
Parted {X = X} write Is = (x : X) → Is x → (rest : List Part) (behind : List ℕ) → Closes (text_with rest behind)
    → are_apart rest behind ≡ true → are_apart (write x rest) behind ≡ true

-- what is written does not go on with a word
abbrev pub Shuts : {X : Type 0} → (X → List Part → List Part) → Type 0
Shuts {X = X} write = (x : X) (rest : List Part) (behind : List ℕ) → Closes (text_with (write x rest) behind)

elem_parted : Parted write_elem IsElem
unfolding class_of
elem_parted (Named n) h rest behind shut apart = and_from (word_stands n (text_with rest behind)) _
    (name_stands n (text_with rest behind) h shut) apart
elem_parted (Num (pos n)) h rest behind shut apart = and_from (number_stands (decimal n) (text_with rest behind)) _
    (integer_stands n (text_with rest behind) h shut) apart
elem_parted (Num (negsuc n)) h rest behind shut apart =
    and_from (not (goes_on (is_pair 45) (decimal (suc n) ++ text_with rest behind))) _
    (before_number 45 (decimal (suc n)) (text_with rest behind) (written (suc n) (omega arith)).number)
    (and_from (number_stands (decimal (suc n)) (text_with rest behind)) _
    (integer_stands (suc n) (text_with rest behind) h shut) apart)

-- many of which each shuts what is before it
module _ {X : Type 0} (write : X → List Part → List Part) (Is : X → Type 0) (shuts : Shuts write)
    (parted : Parted write Is) where
  each_shuts : (xs : List X) (rest : List Part) (behind : List ℕ) → Closes (text_with rest behind)
      → Closes (text_with (write_each write xs rest) behind)
  each_shuts [] rest behind shut = shut
  each_shuts (x ∷ xs) rest behind shut = shuts x (write_each write xs rest) behind

  each_parted : (xs : List X) → AllByRecursion Is xs → (rest : List Part) (behind : List ℕ)
      → Closes (text_with rest behind) → are_apart rest behind ≡ true
      → are_apart (write_each write xs rest) behind ≡ true
  each_parted [] h rest behind shut apart = apart
  each_parted (x ∷ xs) h rest behind shut apart = parted x h.0 (write_each write xs rest) behind
      (each_shuts xs rest behind shut) (each_parted xs h.1 rest behind shut apart)

next_shuts : Shuts write_next
unfolding class_of
next_shuts x rest behind = refl

next_parted : Parted write_next IsElem
unfolding class_of
next_parted x h rest behind shut apart = elem_parted x h rest behind shut apart

to_shuts : (o : Option Elem) (rest : List Part) (behind : List ℕ) → Closes (text_with rest behind)
    → Closes (text_with (write_to o rest) behind)
unfolding class_of
to_shuts None rest behind shut = shut
to_shuts (Some x) rest behind shut = refl

to_parted : Parted write_to (IsOption IsElem)
unfolding class_of
to_parted None h rest behind shut apart = apart
to_parted (Some x) h rest behind shut apart = elem_parted x h rest behind shut apart

items_parted : (xs : List Elem) → AllByRecursion IsElem xs → (rest : List Part) (behind : List ℕ)
    → Closes (text_with rest behind) → are_apart rest behind ≡ true → are_apart (write_items xs rest) behind ≡ true
items_parted [] h rest behind shut apart = apart
items_parted (x ∷ xs) h rest behind shut apart =
    elem_parted x h.0 (write_each write_next xs rest) behind (each_shuts write_next IsElem next_shuts next_parted xs
    rest behind shut)
    (each_parted write_next IsElem next_shuts next_parted xs h.1 rest behind shut apart)

row_parted : Parted write_row IsRow
row_parted r h rest behind shut apart =
    items_parted r.args h.args (write_to r.value rest) behind (to_shuts r.value rest behind shut)
    (to_parted r.value h.value rest behind shut apart)

next_row_shuts : Shuts write_next_row
unfolding class_of
next_row_shuts x rest behind = refl

next_row_parted : Parted write_next_row IsRow
unfolding class_of
next_row_parted r h rest behind shut apart = row_parted r h rest behind shut apart

rows_parted : Parted write_rows (AllByRecursion IsRow)
rows_parted [] h rest behind shut apart = apart
rows_parted (r ∷ rs) h rest behind shut apart =
    row_parted r h.0 (write_each write_next_row rs rest) behind
    (each_shuts write_next_row IsRow next_row_shuts next_row_parted rs rest behind shut)
    (each_parted write_next_row IsRow next_row_shuts next_row_parted rs h.1 rest behind shut apart)

pub truth_stands : (b : Bool) (behind : List ℕ) → Closes behind → word_stands (truth_text b) behind ≡ true
unfolding class_of
truth_stands true behind shut = rw (ends_word behind shut) refl
truth_stands false behind shut = rw (ends_word behind shut) refl

value_parted : Parted write_value IsValue
unfolding class_of
value_parted (truth b) h rest behind shut apart = and_from (word_stands (truth_text b) (text_with rest behind)) _
    (truth_stands b (text_with rest behind) shut) apart
value_parted (element x) h rest behind shut apart = elem_parted x h rest behind shut apart
value_parted (table rs) h rest behind shut apart = rows_parted rs h (sign (codes "}") ∷ rest) behind refl apart

mark_shuts : (m : Option (List ℕ)) (rest : List Part) (behind : List ℕ) → Closes (text_with rest behind)
    → Closes (text_with (write_mark m rest) behind)
unfolding class_of
mark_shuts None rest behind shut = shut
mark_shuts (Some m) rest behind shut = refl

-- a mark stands before a space
mark_parted : (m : Option (List ℕ)) → IsOption IsName m → (rest : List Part) (behind : List ℕ) → are_apart rest behind
    ≡ true → are_apart (write_mark m (space ∷ rest)) behind ≡ true
unfolding class_of
mark_parted None h rest behind apart = apart
mark_parted (Some m) h rest behind apart =
    let after : List ℕ = 62 ∷ 32 ∷ text_with rest behind in
    and_from (not (goes_on (is_pair 60) (m ++ after))) _ (before_word 60 m after h.word)
    (and_from (word_stands m after) _ (name_stands m after h refl) apart)

entry_shuts : Shuts write_entry
unfolding class_of
entry_shuts x rest behind = refl

entry_parted : Parted write_entry IsEntry
unfolding class_of
entry_parted e h rest behind shut apart =
    let ends : List Part = space ∷ sign (codes "=") ∷ space ∷ write_value e.value (gap 10 ∷ rest) in
    let value = value_parted e.value h.value (gap 10 ∷ rest) behind refl apart in
    and_from (word_stands e.word (text_with (write_mark e.mark ends) behind)) _
    (name_stands e.word (text_with (write_mark e.mark ends) behind) h.word (mark_shuts e.mark ends behind refl))
    (mark_parted e.mark h.mark (sign (codes "=") ∷ space ∷ write_value e.value (gap 10 ∷ rest)) behind value)

pub block_parted : Parted write_block IsBlock
unfolding class_of
block_parted b h rest behind shut apart =
    let entries = each_parted write_entry IsEntry entry_shuts entry_parted b.entries h.entries
    (sign (codes "}") ∷ gap 10 ∷ rest) behind refl apart in
    let inside : List Part = write_each write_entry b.entries (sign (codes "}") ∷ gap 10 ∷ rest) in
    let second : List ℕ = 32 ∷ 123 ∷ 10 ∷ text_with inside behind in
    let first : List ℕ = 32 ∷ 58 ∷ 32 ∷ (b.of ++ second) in
    and_from (word_stands b.name first) _ (name_stands b.name first h.name refl)
    (and_from (word_stands b.of second) _ (name_stands b.of second h.of refl) entries)
