-- What each byte begins, and the signs of two and three bytes.
use Rattle.std.specs.Prelude.{ℕ, List, [], ◌∷◌, Bool, true, false, ◌==◌, ◌&&◌, ◌||◌, nat_le, if◌then◌else◌, codes}
use Rattle.std.specs.List.{list_any, list_all}
use Rattle.kb_text.specs.declared.bytes.Class.{Class}
use Rattle.kb_text.specs.declared.bytes.Class.TheVariants.{Space, Letter, Digit, Mark, Slash, Refused, Unknown}

abbrev pub between : ℕ → ℕ → ℕ → Bool
between a b x = nat_le a x && nat_le x b

abbrev pub one_of : List ℕ → ℕ → Bool
one_of xs b = list_any (λ x. x == b) xs

-- what a piece may begin with; 37, 94, 34 and 39 are the percent sign, the caret and the two quotes
unfoldable pub class_of : ℕ → Class
class_of b =
    if one_of (9 ∷ 10 ∷ 13 ∷ 32 ∷ []) b then Space
    else (if (between 65 90 b || between 97 122 b) || b == 95 then Letter
    else (if between 48 57 b then Digit
    else (if b == 47 then Slash
    else (if one_of (37 ∷ 94 ∷ 34 ∷ 39 ∷ []) b then Refused
    else (if one_of (codes "{}()[]:;,.!?~&|=<>+-*#") b then Mark
    else Unknown)))))

abbrev pub in_word : Class → Bool
in_word Letter = true
in_word Digit = true
in_word _ = false

abbrev pub is_digit : Class → Bool
is_digit Digit = true
is_digit _ = false

abbrev pub is_space : Class → Bool
is_space Space = true
is_space _ = false

-- a letter, a digit or _
abbrev pub is_word_byte : ℕ → Bool
is_word_byte b = in_word (class_of b)

abbrev pub is_digit_byte : ℕ → Bool
is_digit_byte b = is_digit (class_of b)

abbrev pub is_space_byte : ℕ → Bool
is_space_byte b = is_space (class_of b)

-- a byte that ends no line
abbrev pub is_line_byte : ℕ → Bool
is_line_byte b = if b == 10 then false else true

-- => -> <= >= ~= =< <- ..
abbrev pub is_pair : ℕ → ℕ → Bool
is_pair a b = ((((b == 62) && ((a == 61) || (a == 45))) || ((b == 61) && (((a == 60) || (a == 62)) || (a == 126)))) ||
    ((a == 61) && (b == 60))) || (((a == 60) && (b == 45)) || ((a == 46) && (b == 46)))

-- => <=
abbrev pub is_arrow : ℕ → ℕ → Bool
is_arrow a b = ((a == 61) && (b == 62)) || ((a == 60) && (b == 61))

-- <=>
abbrev pub is_triple : ℕ → ℕ → ℕ → Bool
is_triple a b c = ((a == 60) && (b == 61)) && (c == 62)

-- only spaces, and so no comment
abbrev pub only_spaces : List ℕ → Bool
only_spaces bytes = list_all is_space_byte bytes
