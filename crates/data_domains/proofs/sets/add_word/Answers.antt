use Rattle.std.proofs.Common.{◌≡◌, ◌∙◌, Bor, Bool, List, ℕ, true, false, not, sym, refl}
use Rattle.std.specs.Str.{bytes_eq}
use Rattle.data_domains.proofs.Keys.{list_any-map}
use Rattle.data_domains.proofs.WordSets.{word_added}
use Rattle.data_domains.proofs.sets.add_word.Goals as goal

pub returns-clause-words : goal.returns-clause-words
returns-clause-words c = λ ws. word_added c.args.words.now.keys _ c.args.word c.in_ok-place.ensures.keys ws

denied : (a b : Bool) → a ≡ not b → a ≡ false → b ≡ true
denied a true e f = refl
denied a false e f = absurd (let n : ⊥ = cc in n)

pub returns-clause-known : goal.returns-clause-known
returns-clause-known c = λ e ws s.
    let w = c.args.word.now in
    sym (s.among w) ∙ list_any-map (λ (k : Bor (List ℕ)). k.now) (bytes_eq w) (λ k. bytes_eq w k.now) (λ k. refl)
    c.args.words.now.keys ∙ denied _ _ c.in_ok-place.ensures.added e
