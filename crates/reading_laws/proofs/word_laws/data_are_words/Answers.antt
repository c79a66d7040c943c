use Rattle.reading_laws.proofs.AcceptedWords.{data_are_words}
use Rattle.reading_laws.proofs.word_laws.data_are_words.Goals as goal

pub returns : goal.returns
returns c = data_are_words
