use Rattle.std.proofs.Common.{◌∙◌, ap, sym, refl}
use Rattle.std.specs.Str.{bytes_eq}
use Rattle.row_tries.proofs.WordLemmas.{own_word}
use Rattle.row_tries.proofs.words.Words.is_word.Goals as goal

pub returns-in-Some : goal.returns-in-Some
returns-in-Some c = λ t. own_word (λ k. k.items) (λ a b. bytes_eq a.items b.items) (λ a b. refl)
    c.args.self.now.words.keys c.args.number c.in-Some.there.now c.args.word.now c.len-count.ensures.unique
    (sym c.in-Some.ensures.key)
    (ap (λ w. bytes_eq w c.args.word.now) (sym c.as_slice.ensures.value) ∙ sym c.eq.ensures ∙ t)
