-- Laws of what is written.
use Rattle.std.specs.Prelude.{◌≡◌, ℕ, ◌+◌, List, [], ◌++◌, length, true, Ok}
use Rattle.kb_text.specs.Depth.{Around, outermost}
use Rattle.kb_text.specs.Tokens.{Lexeme, TokensFrom, AreShallow}
use Rattle.printed_texts.specs.Written.{Part, text_of, text_with, lexemes_at, are_apart, after_all, outcome_at}

-- the tokens of what is written are those of its parts, with their places
abbrev pub TokensAreTheParts : Type 0
TokensAreTheParts = (xs : List Part) → are_apart xs [] ≡ true → AreShallow outermost (lexemes_at 0 xs)
    → TokensFrom outermost 0 (text_of xs) (Ok (lexemes_at 0 xs))

-- anywhere in a text
abbrev pub TokensGoOn : Type 0
TokensGoOn = (s : Around) (p : ℕ) (xs : List Part) (behind : List ℕ) (ts : List Lexeme) → are_apart xs behind ≡ true
    → AreShallow s (lexemes_at p xs)
    → TokensFrom (after_all s (lexemes_at p xs)) (p + length (text_of xs)) behind (Ok ts)
    → TokensFrom s p (text_with xs behind) (Ok (lexemes_at p xs ++ ts))

-- whatever the depth, this is what the scan answers
abbrev pub DepthAloneRefuses : Type 0
DepthAloneRefuses = (xs : List Part) → are_apart xs [] ≡ true
    → TokensFrom outermost 0 (text_of xs) (outcome_at outermost 0 xs)

-- and where no token lies too deep it is the tokens
abbrev pub ShallowIsRead : Type 0
ShallowIsRead = (s : Around) (p : ℕ) (xs : List Part) → AreShallow s (lexemes_at p xs)
    → outcome_at s p xs ≡ Ok (lexemes_at p xs)
