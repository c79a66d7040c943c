-- The lines of claims, one after another, and what they make up.
use Rattle.std.proofs.Common.{◌≡◌, ℕ, ◌+◌, ◌<◌, List, [], ◌∷◌, ◌++◌, length, get_or, take, flat_map, All, sym, ap}
use Rattle.std.proofs.Common.{◌∙◌, map, option_map, slice_get, subst, Option}
use Rattle.std.specs.List.{AllByRecursion}
use Rattle.std.proofs.lemmas.List.{append_assoc, append-nil, take_more}
use Rattle.std.proofs.lemmas.List.Elements.{All-head, All-tail}
use Rattle.std.proofs.lemmas.Option.{slice_get-map}
use Rattle.kb_logic.specs.declared.syntax.Term.{Term}
use Rattle.kb_logic.specs.Bases.{Base}
use Rattle.kb_logic.specs.Structures.{EachWith}
use Rattle.derivation_log.specs.declared.claims.Claim.{Claim}
use Rattle.stage_definitions.specs.FileBases.{named_term}
use Rattle.type_derivation.specs.declared.typed.Named.{Named}
use Rattle.type_derivation.specs.TypedViews.{named_term_view}
use Rattle.atom_numbers.proofs.LiteralFacts.{each-push, each-next}
use Rattle.verified_claims.specs.declared.said.SaidClaim.{SaidClaim}
use Rattle.verified_claims.specs.ClaimLines.{claim_line, name_of}
use Rattle.verified_claims.specs.RightClaims.{AreClaimsOf, HasLineOf, HasLinesOf, IsRight, IsTextOf}
use Rattle.verified_claims.specs.SaidClaims.{Says, IsTrueOf}
use Rattle.verified_claims.specs.Verdicts.{IsVerdict}

-- one more of the second list
pub each-more : {A B : Type 0} (R : A → B → Type 0) (xs : List A) (ys : List B) (i : ℕ) (x : A) (d : B)
    → i < length ys → R x (get_or ys i d) → EachWith R xs (take i ys) → EachWith R (xs ++ x ∷ []) (take (i + 1) ys)
each-more {B = B} R xs ys i x d lt r h =
    subst (λ (zs : List B). EachWith R (xs ++ x ∷ []) zs) (sym (take_more ys i d lt))
    (each-push R xs (take i ys) x (get_or ys i d) h r)

-- what was appended in three parts
pub three-parts : (a p q r x y z : List ℕ) → x ≡ a ++ p → y ≡ x ++ q → z ≡ y ++ r → z ≡ a ++ (p ++ (q ++ r))
three-parts a p q r x y z e f g =
    g ∙ ap (λ (t : List ℕ). t ++ r) (f ∙ ap (λ (t : List ℕ). t ++ q) e) ∙ append_assoc (a ++ p) q r
    ∙ append_assoc a p (q ++ r)

lines-push : (base : Base) (ss : List SaidClaim) (s : SaidClaim)
    → flat_map (claim_line base) (ss ++ s ∷ []) ≡ flat_map (claim_line base) ss ++ claim_line base s
lines-push base [] s = append-nil (claim_line base s)
lines-push base (r ∷ ss) s = ap (λ (t : List ℕ). claim_line base r ++ t) (lines-push base ss s)
    ∙ sym (append_assoc (claim_line base r) (flat_map (claim_line base) ss) (claim_line base s))

pub has-more : (base : Base) (cs : List Claim) (i : ℕ) (c : Claim) → i < length cs → c ≡ get_or cs i c
    → (old mid new : List ℕ) → HasLinesOf base (take i cs) old mid → HasLineOf base c mid new
    → HasLinesOf base (take (i + 1) cs) old new
has-more base cs i c lt is old mid new before one = (
  before.0 ++ one.0 ∷ [],
  each-next (Says base) cs before.0 i c one.0 lt is one.1 before.1,
  one.2 ∙ ap (λ (t : List ℕ). t ++ claim_line base one.0) before.2
      ∙ append_assoc old (flat_map (claim_line base) before.0) (claim_line base one.0)
      ∙ ap (λ (t : List ℕ). old ++ t) (sym (lines-push base before.0 one.0)),
)

all-right : (base : Base) (cs : List Claim) (ss : List SaidClaim) → EachWith (Says base) cs ss
    → All (IsRight base) cs → AllByRecursion (IsTrueOf base) ss
all-right base [] [] each right = tt
all-right base [] (s ∷ ss) each right = absurd each
all-right base (c ∷ cs) [] each right = absurd each
all-right base (c ∷ cs) (s ∷ ss) each right = (
  All-head (IsRight base) c cs right s each.0,
  all-right base cs ss each.1 (All-tail (IsRight base) c cs right),
)

-- the name of a block, found among the blocks
pub block-name : (blocks : List (Named Term)) (t : ℕ) (o : Option (Named Term)) → slice_get blocks t ≡ o
    → name_of (slice_get (map named_term (map named_term_view blocks)) t)
    ≡ name_of (option_map named_term (option_map named_term_view o))
block-name blocks t o is = ap name_of
    (slice_get-map named_term (map named_term_view blocks) t
    ∙ ap (option_map named_term) (slice_get-map named_term_view blocks t ∙ ap (option_map named_term_view) is))

pub is-verdict : (base : Base) (log text : List ℕ) (claims : List Claim) → AreClaimsOf base log claims
    → IsTextOf base claims text → IsVerdict base log text
is-verdict base log text claims are says = record {
  claims = claims;
  accepted = are.accepted;
  said = says.0;
  says = says.1;
  right = all-right base claims says.0 says.1 are.right;
  text_is = says.2;
}
