-- What is scanned as a word is spelled as one.
use Rattle.std.proofs.Common.{◌≡◌, ℕ, List, [], ◌∷◌, true, ap}
use Rattle.std.specs.List.{list_all}
use Rattle.std.proofs.lemmas.Bool.{and_from}
use Rattle.kb_text.specs.Bytes.{class_of, is_word_byte}
use Rattle.kb_text.specs.Pieces.{WordText, IsPiece}
use Rattle.printed_texts.specs.Written.{is_word, is_letter_class}

pub word_of_piece : (n : List ℕ) → IsPiece WordText n → is_word n ≡ true
word_of_piece [] h = absurd h
word_of_piece (b ∷ bs) h = and_from (is_letter_class (class_of b)) (list_all is_word_byte bs)
    (ap is_letter_class h.0) h.1
