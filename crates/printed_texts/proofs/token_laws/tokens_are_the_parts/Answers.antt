use Rattle.printed_texts.proofs.Tokens.{whole}
use Rattle.printed_texts.proofs.token_laws.tokens_are_the_parts.Goals as goal

pub returns : goal.returns
returns c = whole
