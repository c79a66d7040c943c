-- Cases that are open, while clauses are added.
use Rattle.std.proofs.Common.{◌≡◌, ℕ, List, [], ◌∷◌, ◌++◌, map, reverse, refl, sym, ap, ◌∙◌, subst, inl, inr, ⊎_elim}
use Rattle.std.proofs.Common.{Contains, ◌-◌, Bool, true}
use Rattle.std.specs.Prelude.{slice_get}
use Rattle.std.proofs.lemmas.List.{reverse-append, map-append, append_assoc, append-nil}
use Rattle.std.proofs.lemmas.List.Elements.{All-push, All-weaker, All-contains, All-contains_itself}
use Rattle.std.proofs.lemmas.List.Elements.{Contains-append_left}
use Rattle.lit_core.specs.declared.literals.Lit.{Lit}
use Rattle.lit_core.specs.Literals.{negated, literal_value}
use Rattle.lit_core.specs.Refutation.{IsOpenUnder}
use Rattle.lit_core.proofs.LiteralFacts.{negated-negated}
use Rattle.ground_core.specs.Problems.{IsLitOf, AreLitsOf}
use Rattle.ground_core.specs.Meaning.{MakesTrue}
use Rattle.ground_core.specs.Solving.{IsPrefix}
use Rattle.derivation_log.specs.Steps.{HasNoOpposites}
use Rattle.log_checker.specs.Growing.{Checking}
use Rattle.log_checker.specs.Refuting.{IsNamed}
use Rattle.case_derivations.specs.declared.open_cases.Case.{Case}
use Rattle.case_derivations.specs.Adding.{Adds}
use Rattle.case_derivations.specs.Looking.{IsAdmitted}
use Rattle.case_derivations.specs.OpenCases.{in_force, IsShut, IsBacked, Stands}
use Rattle.case_derivations.proofs.Lists.{get-front, push-fine, open-negated}

abbrev lit_of : Case → Lit
lit_of c = c.lit

reverse-one : (c : Case) (cs : List Case) → reverse (c ∷ cs) ≡ reverse cs ++ c ∷ []
reverse-one c cs = reverse-append (c ∷ []) cs

reverse-twice : (cs : List Case) → reverse (reverse cs) ≡ cs
reverse-twice [] = refl
reverse-twice (c ∷ cs) = ap (λ xs. reverse xs) (reverse-one c cs) ∙ reverse-append (reverse cs) (c ∷ [])
    ∙ ap (λ xs. c ∷ xs) (reverse-twice cs)

in-force-is : (lits : List Lit) (cs : List Case) → in_force lits cs ≡ lits ++ map lit_of (reverse cs)
in-force-is lits [] = sym (append-nil lits)
in-force-is lits (c ∷ cs) = ap (λ ls. ls ++ c.lit ∷ []) (in-force-is lits cs)
    ∙ append_assoc lits (map lit_of (reverse cs)) (c.lit ∷ [])
    ∙ ap (λ ls. lits ++ ls) (sym (map-append lit_of (reverse cs) (c ∷ [])) ∙ ap (map lit_of) (sym (reverse-one c cs)))

pub in-force-reversed : (lits : List Lit) (cs : List Case) → lits ++ map lit_of cs ≡ in_force lits (reverse cs)
in-force-reversed lits cs = ap (λ xs. lits ++ map lit_of xs) (sym (reverse-twice cs))
    ∙ sym (in-force-is lits (reverse cs))

pub pushed : (cs : List Case) (c : Case) → reverse (cs ++ c ∷ []) ≡ c ∷ reverse cs
pushed cs c = reverse-append cs (c ∷ [])

module _ (vars : ℕ) (clauses : List (List Lit)) (lits : List Lit) where
  pub lits-of-cases : (cs : List Case) → Stands vars clauses lits cs → AreLitsOf vars (in_force lits cs)
  lits-of-cases [] h = h.0
  lits-of-cases (c ∷ cs) h = All-push (IsLitOf vars) (in_force lits cs) c.lit (lits-of-cases cs h.3) h.0

  pub cases-fine : (cs : List Case) → Stands vars clauses lits cs → HasNoOpposites (in_force lits cs)
  cases-fine [] h = h.1
  cases-fine (c ∷ cs) h = push-fine (in_force lits cs) c.lit (cases-fine cs h.3) h.1

  -- the first of two cases
  pub case-begins : (cs : List Case) (l : Lit) → IsLitOf vars l → IsOpenUnder (in_force lits cs) l
      → Stands vars clauses lits cs → Stands vars clauses lits (record { lit = l; other = 0 } ∷ cs)
  case-begins cs l h o s = (h, o, inl refl, s)

  -- the other one
  pub case-turns : (cs : List Case) (l : Lit) (n : ℕ) → IsLitOf vars l → IsOpenUnder (in_force lits cs) l
      → IsShut clauses (in_force lits cs) l n → Stands vars clauses lits cs
      → Stands vars clauses lits (record { lit = negated l; other = n } ∷ cs)
  case-turns cs l n h o shut s = (
    h,
    open-negated (in_force lits cs) l o,
    inr (subst (λ x. IsShut clauses (in_force lits cs) x n) (sym (negated-negated l)) shut),
    s,
  )

module _ (old new : List (List Lit)) (more : IsPrefix old new) where
  named-still : (n : ℕ) (c : List Lit) → IsNamed old n c → IsNamed new n c
  named-still n c h = (h.0, ap (λ cs. slice_get cs (n - 1)) more.1 ∙ get-front old more.0 (n - 1) c h.1)

  shut-still : (ls : List Lit) (l : Lit) (n : ℕ) → IsShut old ls l n → IsShut new ls l n
  shut-still ls l n h = record {
    clause = h.clause;
    named = named-still n h.clause h.named;
    false_under = h.false_under;
    member = h.member;
  }

  backed-still : (ls : List Lit) (c : Case) → IsBacked old ls c → IsBacked new ls c
  backed-still ls c h = ⊎_elim (λ x. inl x) (λ x. inr (shut-still ls (negated c.lit) c.other x)) h

  stands-still : (vars : ℕ) (lits : List Lit) (cs : List Case) → Stands vars old lits cs → Stands vars new lits cs
  stands-still vars lits [] h = h
  stands-still vars lits (c ∷ cs) h = (h.0, h.1, backed-still (in_force lits cs) c h.2, stands-still vars lits cs h.3)

pub stands-behind : (old new : Checking) (x y : List ℕ) (lits : List Lit) (cs : List Case) → Adds old new x y
    → Stands old.state.vars old.state.clauses lits cs → Stands new.state.vars new.state.clauses lits cs
stands-behind old new x y lits cs h s = subst (λ n. Stands n new.state.clauses lits cs) (sym h.1.vars)
    (stands-still old.state.clauses new.state.clauses h.1.clauses old.state.vars lits cs s)

more-trues : (v : ℕ → Bool) (xs : List Lit) (l : Lit) → MakesTrue v (xs ++ l ∷ []) → MakesTrue v xs
more-trues v xs l h = All-weaker (Contains xs) (λ m. literal_value v m ≡ true)
    (λ m k. All-contains (λ x. literal_value v x ≡ true) (xs ++ l ∷ []) m h (Contains-append_left xs (l ∷ []) m k)) xs
    (All-contains_itself xs)

-- what admits the literals of the cases admits those that were given
pub admitted-in-cases : (c : Checking) (lits : List Lit) (cs : List Case) → IsAdmitted c (in_force lits cs)
    → IsAdmitted c lits
admitted-in-cases c lits [] a = a
admitted-in-cases c lits (k ∷ cs) a = admitted-in-cases c lits cs (
  a.0,
  record {
    clauses = a.1.clauses;
    sums = a.1.sums;
    bounds = a.1.bounds;
    trues = more-trues a.0 (in_force lits cs) k.lit a.1.trues;
  },
)
