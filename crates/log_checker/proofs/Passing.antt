-- What stands after some entries.
use Rattle.std.proofs.Common.{◌≡◌, ℕ, ◌+◌, ◌<◌, ◌≤◌, List, [], ◌∷◌, ◌++◌, All, drop, length, sym, ap, ◌∙◌, subst}
use Rattle.std.proofs.Common.{arith}
use Rattle.std.proofs.lemmas.List.{drop_all, length-drop, length-append}
use Rattle.std.proofs.lemmas.List.Elements.{All-push}
use Rattle.ground_core.specs.Problems.{ProblemState, IsProblem}
use Rattle.derivation_log.specs.declared.claims.Claim.{Claim}
use Rattle.derivation_log.specs.declared.entries.Entry.{Entry}
use Rattle.derivation_log.specs.declared.entries.Entry.TheVariants as entry
use Rattle.derivation_log.specs.Texts.{IsWritten}
use Rattle.derivation_log.specs.Steps.{CheckState, start, LogStep, after, Accepts, after_all}
use Rattle.derivation_log.specs.Claims.{ClaimHolds}
use Rattle.derivation_log.specs.Checks.{put_entries, NoStepHere, IsAccepted}
use Rattle.derivation_log.specs.Readings.{IsEntryAt, NoEntryAt}
use Rattle.derivation_log.proofs.Loops.{put-push, accepts-push, after-push}
use Rattle.derivation_log.proofs.ReadBack.{one-reading}
use Rattle.derivation_log.proofs.Induction.{claims-true}
use Rattle.log_checker.specs.States.{IsNext}
use Rattle.log_checker.specs.Verdicts.{Takes, Stands, ComesTo}

pub is-next : (p : ProblemState) (st : CheckState) (e : Entry) → LogStep p st e → IsNext st e
is-next p st (entry.Mark n) h = tt
is-next p st (entry.Learnt lits hints) h = tt
is-next p st (entry.Sum n lits) h = tt
is-next p st (entry.Bound s t k) h = (h.0, h.1.0)
is-next p st (entry.Exclude s lits) h = h.0
is-next p st (entry.Inconsistent lits c) h = tt
is-next p st (entry.Forced l lits c) h = tt
is-next p st (entry.Least t k lits c) h = tt

module _ (p : ProblemState) (st : CheckState) (bytes : List ℕ) (at : ℕ) (lt : at < length bytes) where
  some-left : drop at bytes ≡ [] → ⊥
  some-left e = let x = length-drop at bytes in let y = ap length e in omega (arith, x, y, lt)

  pub unread : NoEntryAt bytes at → NoStepHere p st (drop at bytes)
  unread never = (some-left, λ e more w text step. never e more w text)

  pub no-step : (e : Entry) (next : ℕ) → IsEntryAt bytes at e next → (LogStep p st e → ⊥)
      → NoStepHere p st (drop at bytes)
  no-step e next here never = (
    some-left,
    λ d more w text step. never (subst (LogStep p st)
        (sym (one-reading e d (drop next bytes) more here.written w (sym here.text ∙ text)).0) step),
  )

module _ (p : ProblemState) (first : CheckState) (bytes : List ℕ) where
  pub stands-more : (at next : ℕ) (st new : CheckState) (n : ℕ) → Stands p first bytes at st n
      → Takes p st bytes at next new → Stands p first bytes next new (n + 1)
  stands-more at next st new n s t = record {
    entries = s.entries ++ t.entry ∷ [];
    written = All-push IsWritten s.entries t.entry s.written t.here.written;
    text = s.text ∙ ap (put_entries s.entries) t.here.text ∙ sym (put-push s.entries t.entry (drop next bytes));
    steps = accepts-push p first s.entries t.entry s.steps (subst (λ x. LogStep p x t.entry) (sym s.state) t.step);
    state = after-push first s.entries t.entry ∙ ap (λ x. after x t.entry) s.state ∙ sym t.leaves;
    number = let x = s.number in let y = length-append s.entries (t.entry ∷ []) in omega (arith, x, y);
    below = let x = s.below in let y = t.here.beyond in omega (arith, x, y);
  }

pub accepted : (p : ProblemState) (first : CheckState) (bytes : List ℕ) (at : ℕ) (st : CheckState) (n : ℕ)
    → first ≡ start p → length bytes ≤ at → ComesTo p first bytes at st n → IsAccepted p bytes st.claims
accepted p first bytes at st n e le c = let s = c.stands in record {
  entries = s.entries;
  written = s.written;
  text = s.text ∙ ap (put_entries s.entries) (drop_all at bytes le);
  steps = subst (λ x. Accepts p x s.entries) e s.steps;
  claims_are = ap (λ (x : CheckState). x.claims) (ap (λ x. after_all x s.entries) (sym e) ∙ s.state);
}

pub truth : (p : ProblemState) (bytes : List ℕ) (cs : List Claim) → IsProblem p → IsAccepted p bytes cs
    → All (ClaimHolds p) cs
truth p bytes cs fine a = subst (All (ClaimHolds p)) a.claims_are (claims-true p a.entries fine a.steps)
