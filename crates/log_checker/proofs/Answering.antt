-- What a checker answers of a statement.
use Rattle.std.proofs.Common.{◌≡◌, ℕ, ◌<◌, ◌≤◌, ◌^◌, false, List, [], ◌∷◌, All, drop, length, refl, sym, ap, ◌∙◌}
use Rattle.std.proofs.Common.{arith, subst, ⊎_elim, ◌⊎◌}
use Rattle.std.proofs.lemmas.List.{append-nil, drop_all}
use Rattle.std.proofs.lemmas.List.Elements.{All-nil, All-cons, All-head, All-tail}
use Rattle.ground_core.specs.Problems.{ProblemState}
use Rattle.derivation_log.specs.declared.fields.Field.{Field}
use Rattle.derivation_log.specs.declared.fields.Field.TheVariants.{Letter}
use Rattle.derivation_log.specs.declared.entries.Entry.{Entry}
use Rattle.derivation_log.specs.declared.entries.Entry.TheVariants.{Mark}
use Rattle.derivation_log.specs.Texts.{put_entry, put_line, IsWritten}
use Rattle.derivation_log.specs.Lines.{entry_text}
use Rattle.derivation_log.specs.Steps.{CheckState, LogStep, after, Accepts, after_all}
use Rattle.derivation_log.specs.Checks.{put_entries}
use Rattle.derivation_log.proofs.Linking.{linked}
use Rattle.derivation_log.proofs.ReadBack.{parted, one-reading}
use Rattle.log_checker.specs.Growing.{Checking, known, GoesOn, Answers}
use Rattle.log_checker.specs.Undoing.{ends_of, cut_back}
use Rattle.log_checker.specs.Verdicts.{ComesTo}
use Rattle.log_checker.proofs.Restoring.{restored}

pub marked : (old : Checking) (line : ℕ) → old.state.line < line → line < 2 ^ 64
    → GoesOn old (entry_text (Mark line)) (known old.problem (after old.state (Mark line)))
marked old line less small = record {
  problem = refl;
  entries = Mark line ∷ [];
  written = All-cons IsWritten (Mark line) [] small (All-nil IsWritten);
  text = sym (append-nil (entry_text (Mark line))) ∙ sym (linked (Mark line) [] small);
  steps = (less, tt);
  leaves = refl;
}

line-some : (c : ℕ) (fs : List Field) (r : List ℕ) → put_line (Letter c ∷ fs) r ≡ [] → ⊥
line-some c [] r e = cc
line-some c (f ∷ fs) r e = cc

entry-some : (e : Entry) (r : List ℕ) → IsWritten e → put_entry e r ≡ [] → ⊥
entry-some e r h is = let x = parted e h in line-some x.tag x.others r (ap (λ fs. put_line fs r) (sym x.is) ∙ is)

-- steps that are all of the bytes are those that go as far as steps go
ends-there : (p : ProblemState) (st : CheckState) (ds es : List Entry) (s : List ℕ) → All IsWritten ds
    → All IsWritten es → put_entries ds [] ≡ put_entries es s → Accepts p st ds
    → ((e : Entry) (more : List ℕ) → IsWritten e → s ≡ put_entry e more → LogStep p (after_all st es) e → ⊥)
    → (s ≡ []) × (after_all st ds ≡ after_all st es)
ends-there p st [] [] s h k is a n = (sym is, refl)
ends-there p st [] (e ∷ es) s h k is a n = absurd
    (entry-some e (put_entries es s) (All-head IsWritten e es k) (sym is))
ends-there p st (d ∷ ds) [] s h k is a n = absurd (n d (put_entries ds []) (All-head IsWritten d ds h) (sym is) a.0)
ends-there p st (d ∷ ds) (e ∷ es) s h k is a n =
    let x = one-reading d e (put_entries ds []) (put_entries es s) (All-head IsWritten d ds h)
    (All-head IsWritten e es k) is in
    let y = ends-there p (after st d) ds es s (All-tail IsWritten d ds h) (All-tail IsWritten e es k) x.1 a.1
    (subst (λ z. (m : Entry) (more : List ℕ) → IsWritten m → s ≡ put_entry m more
    → LogStep p (after_all (after st z) es) m → ⊥) (sym x.0) n) in
    (y.0, y.1 ∙ ap (λ z. after_all (after st z) es) x.0)

module _ (p : ProblemState) (st : CheckState) (bytes : List ℕ) (at : ℕ) (new : CheckState) (n line : ℕ)
    (to : ComesTo p st bytes at new n) where
  module _ (c : Checking) (g : GoesOn (known p st) bytes c) where
    met : ((e : Entry) (more : List ℕ) → IsWritten e → drop at bytes ≡ put_entry e more → LogStep p new e → ⊥)
        → (drop at bytes ≡ []) × (c.state ≡ new)
    met none =
        let s = to.stands in
        let x = ends-there p st g.entries s.entries (drop at bytes) g.written s.written (sym g.text ∙ s.text) g.steps
        (λ e more w text step. none e more w text (subst (λ z. LogStep p z e) s.state step)) in
        (x.0, g.leaves ∙ x.1 ∙ s.state)

    same-state : (length bytes ≤ at) × (c.state ≡ new)
    same-state = ⊎_elim
        (λ lt. absurd ((to.ends lt).0 (met (to.ends lt).1).0))
        (λ le. (le, (met (λ e more w text step. entry-some e more w (sym text ∙ drop_all at bytes le))).1))
        (far at (length bytes))
      where
        far : (i j : ℕ) → (i < j) ⊎ (j ≤ i)
        far i j = grind arith

  pub stayed : ((length bytes ≤ at) × (new.line ≡ line) → ⊥)
      → Answers (known p st) line bytes (known p (cut_back new (ends_of st))) false
  stayed never = (
    ap (known p) (restored st new to.stands.entries to.stands.state),
    λ c g is.
        let x = same-state c g in never (x.0, ap (λ (z : CheckState). z.line) (sym x.1) ∙ is),
  )
