use Rattle.std.proofs.Common.{◌≡◌, ◌++◌, drop}
use Rattle.std.specs.String.{string_bytes}
use Rattle.kb_text.specs.Tokens.{lexemes}
use Rattle.reading_cases.specs.Lines.{words_of}
use Rattle.reading_cases.proofs.lines.words.Given as goal

abbrev pub invariant-loop-token : goal.invariant-loop-token
invariant-loop-token l = string_bytes l.words ++ words_of (lexemes (drop l.token-index l.list))
    ≡ words_of (lexemes l.list)
