use Rattle.reading_laws.proofs.AcceptedWords.{names_are_words}
use Rattle.reading_laws.proofs.word_laws.names_are_words.Goals as goal

pub returns : goal.returns
returns c = names_are_words
