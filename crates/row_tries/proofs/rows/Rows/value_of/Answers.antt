use Rattle.std.proofs.Common.{◌≡◌, ◌∙◌, sym, ap, Some, None, slice_get}
use Rattle.std.proofs.lemmas.Bool.{true≢false}
use Rattle.std.specs.Option.{option_map}
use Rattle.row_tries.specs.Words.{words_in}
use Rattle.row_tries.proofs.ValueLabels.{word_is, equal_some, same_word}
use Rattle.row_tries.proofs.rows.Rows.value_of.Goals as goal

pub returns-in-None : goal.returns-in-None
returns-in-None c = λ v h.
    let r = word_is (words_in c.args.self.now.words) v c.in-Word.number (h ∙ ap Some c.in-Word.is) in
    let none : None ≡ slice_get (words_in c.args.self.now.words) c.in-Word.number =
    ap (option_map (λ w. w.now)) (sym c.in-None.is) ∙ c.word.ensures in
    let e : None ≡ Some r.0 = none ∙ r.2 in
    cc e

pub returns-else-eq : goal.returns-else-eq
returns-else-eq c = λ v h.
    let r = word_is (words_in c.args.self.now.words) v c.in-Word.number (h ∙ ap Some c.in-Word.is) in
    let some : Some c.in-Some.word.now ≡ slice_get (words_in c.args.self.now.words) c.in-Word.number =
    ap (option_map (λ w. w.now)) (sym c.in-Some.is) ∙ c.word.ensures in
    let number = c.number.ensures ∙ same_word (words_in c.args.self.now.words) c.in-Some.word.now r.0 c.in-Word.number
    (some ∙ r.2) r.1 in
    true≢false (sym (equal_some c.number.result c.in-Word.number number) ∙ sym c.eq.ensures ∙ c.if-eq.false)
