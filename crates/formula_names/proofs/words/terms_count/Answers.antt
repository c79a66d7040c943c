use Rattle.std.proofs.Common.{◌≡◌, arith, rules, map}
use Rattle.std.proofs.lemmas.Grind.{common_steps}
use Rattle.grammar.specs.declared.raw.RawTerms.{out-RawTerms, the_lemmas}
use Rattle.grammar.specs.View.{terms_of, terms_view, term_view, terms_tail_view}
use Rattle.formula_names.proofs.Chains.{terms_counted}
use Rattle.formula_names.proofs.words.terms_count.Goals as goal

pub returns : goal.returns
returns c =
    let seen : terms_view c.args.terms.now ≡ terms_of (term_view (out-RawTerms c.args.terms.now).first)
    (map terms_tail_view (out-RawTerms c.args.terms.now).more) = search (rules, the_lemmas) in
    rw (seen, terms_counted) (grind (arith, common_steps))
