use Rattle.std.proofs.Common.{◌+◌, length, refl}
use Rattle.printed_texts.specs.Written.{text_of}
use Rattle.printed_texts.proofs.Tokens.{go_on}
use Rattle.printed_texts.proofs.token_laws.tokens_go_on.Goals as goal

pub returns : goal.returns
returns c = λ s p xs behind ts apart shallow rest. go_on s p xs behind ts apart shallow
    (p + length (text_of xs)) refl rest
