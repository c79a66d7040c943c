-- For the loops of a checker: one entry more, and the literal that a hint gives.
use Rattle.std.proofs.Common.{◌≡◌, ℕ, List, [], ◌∷◌, ◌++◌, refl, ap, subst, ⊎_elim, Contains}
use Rattle.std.proofs.lemmas.List.Elements.{All-contains}
use Rattle.lit_core.specs.declared.literals.Lit.{Lit}
use Rattle.lit_core.specs.Literals.{negated}
use Rattle.lit_core.specs.Refutation.{IsUnitUnder, IsOpenUnder, RefutesInOrder}
use Rattle.ground_core.specs.Problems.{ProblemState}
use Rattle.derivation_log.specs.declared.entries.Entry.{Entry}
use Rattle.derivation_log.specs.Texts.{put_entry}
use Rattle.derivation_log.specs.Steps.{CheckState, after, after_all, LogStep, Accepts}
use Rattle.derivation_log.specs.Checks.{put_entries}
use Rattle.std.proofs.Common.{◌⊎◌}

pub put-push : (es : List Entry) (e : Entry) (rest : List ℕ)
    → put_entries (es ++ e ∷ []) rest ≡ put_entries es (put_entry e rest)
put-push [] e rest = refl
put-push (d ∷ es) e rest = ap (put_entry d) (put-push es e rest)

pub after-push : (st : CheckState) (es : List Entry) (e : Entry)
    → after_all st (es ++ e ∷ []) ≡ after (after_all st es) e
after-push st [] e = refl
after-push st (d ∷ es) e = after-push (after st d) es e

pub accepts-push : (p : ProblemState) (st : CheckState) (es : List Entry) (e : Entry) → Accepts p st es
    → LogStep p (after_all st es) e → Accepts p st (es ++ e ∷ [])
accepts-push p st [] e h s = (s, tt)
accepts-push p st (d ∷ es) e h s = (h.0, accepts-push p (after st d) es e h.1 s)

-- a unit clause has one open literal
pub unit-only : (inforce c : List Lit) (l m : Lit) → IsUnitUnder inforce c l → Contains c m → IsOpenUnder inforce m
    → m ≡ l
unit-only inforce c l m u has free = ⊎_elim (λ e. e) (λ n. absurd (free.1 n))
    (All-contains (λ k. (k ≡ l) ⊎ Contains inforce (negated k)) c m u.others has)

-- so a refutation goes on with the literal that a checker finds
pub refutes-on : (inforce c d : List Lit) (cs : List (List Lit)) (l : Lit) → IsUnitUnder inforce c l
    → RefutesInOrder inforce (c ∷ d ∷ cs) → RefutesInOrder (inforce ++ l ∷ []) (d ∷ cs)
refutes-on inforce c d cs l u r = subst (λ k. RefutesInOrder (inforce ++ k ∷ []) (d ∷ cs))
    (unit-only inforce c l r.0 u r.1.member r.1.opened) r.2
