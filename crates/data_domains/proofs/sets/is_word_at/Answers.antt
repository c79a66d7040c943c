use Rattle.std.proofs.Common.{◌∙◌, sym}
use Rattle.data_domains.proofs.Gathering.{held_at}
use Rattle.data_domains.proofs.sets.is_word_at.Goals as goal

pub returns-in-Some : goal.returns-in-Some
returns-in-Some c = λ t. held_at c.args.words.now.keys c.args.place c.in-Some.other.now c.args.word.now
    (sym c.in-Some.ensures.key) (sym c.eq.ensures ∙ t)
