-- The lines that say claims.
use Rattle.std.specs.Prelude.{ℕ, List, [], ◌∷◌, ◌++◌, flat_map, codes, Option, Some, None, slice_get}
use Rattle.std.specs.Fmt.{decimal}
use Rattle.kb_logic.specs.declared.structures.Literal.{Literal}
use Rattle.kb_logic.specs.declared.vocabularies.Vocabulary.{Vocabulary}
use Rattle.kb_logic.specs.Bases.{Base, NamedTerm}
use Rattle.kb_logic.specs.Decimals.{decimal_text}
use Rattle.literal_printer.specs.Texts.{literal_text}
use Rattle.verified_claims.specs.declared.said.SaidClaim.{SaidClaim}
use Rattle.verified_claims.specs.declared.said.SaidClaim.TheVariants.{Inconsistent, Forced, Least}

-- nothing, or ` from a, b`
abbrev pub choices_text : Vocabulary → List Literal → List ℕ
choices_text vocab [] = []
choices_text vocab (l ∷ ls) =
    codes " from " ++ (literal_text vocab l ++ flat_map (λ k. codes ", " ++ literal_text vocab k) ls)

abbrev pub name_of : Option NamedTerm → List ℕ
name_of None = []
name_of (Some t) = t.name

-- `claim 2 `
abbrev pub claim_label : ℕ → List ℕ
claim_label line = codes "claim " ++ (decimal line ++ codes " ")

-- `claim 2 inconsistent`, `claim 2 forced P(a)` or `claim 2 least cost 5`, and the choices
abbrev pub claim_text : Base → SaidClaim → List ℕ
claim_text base (Inconsistent line choices) =
    claim_label line ++ (codes "inconsistent" ++ choices_text base.vocabulary choices)
claim_text base (Forced line l choices) =
    claim_label line ++ (codes "forced " ++ (literal_text base.vocabulary l ++ choices_text base.vocabulary choices))
claim_text base (Least line t v choices) =
    claim_label line
    ++ (codes "least " ++ (name_of (slice_get base.terms t)
    ++ (codes " " ++ (decimal_text v ++ choices_text base.vocabulary choices))))

abbrev pub claim_line : Base → SaidClaim → List ℕ
claim_line base c = claim_text base c ++ codes "\n"

-- a line for each claim, and `accepted`
abbrev pub verdict_text : Base → List SaidClaim → List ℕ
verdict_text base cs = flat_map (claim_line base) cs ++ codes "accepted\n"
