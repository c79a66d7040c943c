use Rattle.std.proofs.Common.{List, sym, ap, ◌∙◌, subst}
use Rattle.kb_logic.specs.declared.elements.Elem.{Elem}
use Rattle.kb_logic.specs.declared.vocabularies.Vocabulary.{Vocabulary}
use Rattle.kb_logic.specs.Domains.{AreDomainsOf}
use Rattle.kb_logic.specs.KnownAtoms.{KnownAtoms}
use Rattle.term_values.proofs.TypedLaws.{domains-ground}
use Rattle.atom_numbers.specs.Numbers.{bare_base}
use Rattle.derived_claims.proofs.claims.numbers_of.Goals as goal

pub of-requires-clause-fine : goal.of-requires-clause-fine
of-requires-clause-fine c =
    domains-ground (bare_base c.vocabulary.result.now c.domains.result.now)
    (subst (λ (ds : List (List Elem)). AreDomainsOf c.vocabulary.result.now ds)
    (sym (c.domains.ensures.domains ∙ ap (λ (k : KnownAtoms). k.domains) c.«data».ensures.known))
    (subst (λ (v : Vocabulary). AreDomainsOf v c.args.kb.now.known.domains) (sym c.vocabulary.ensures.vocabulary)
    c.vocabulary.ensures.is.ground.known.domains))
