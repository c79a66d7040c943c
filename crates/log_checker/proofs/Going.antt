-- Logs that grow by statements.
use Rattle.std.proofs.Common.{◌≡◌, ℕ, List, [], ◌∷◌, ◌++◌, All, refl, sym, ap, ◌∙◌, subst}
use Rattle.std.proofs.lemmas.List.{append_assoc}
use Rattle.std.proofs.lemmas.List.Elements.{All-nil, All-head, All-tail, All-append}
use Rattle.ground_core.specs.Problems.{ProblemState}
use Rattle.derivation_log.specs.declared.entries.Entry.{Entry}
use Rattle.derivation_log.specs.Texts.{put_entry, IsWritten}
use Rattle.derivation_log.specs.Lines.{entry_text}
use Rattle.derivation_log.specs.Steps.{CheckState, after, Accepts, after_all}
use Rattle.derivation_log.specs.Checks.{put_entries, IsAccepted}
use Rattle.derivation_log.proofs.Linking.{linked}
use Rattle.log_checker.specs.Growing.{Checking, beginning, GoesOn}

-- bytes behind an entry's text
put-behind : (e : Entry) (r s : List ℕ) → IsWritten e → put_entry e r ++ s ≡ put_entry e (r ++ s)
put-behind e r s h =
    ap (λ x. x ++ s) (linked e r h) ∙ append_assoc (entry_text e) r s ∙ sym (linked e (r ++ s) h)

puts-behind : (es : List Entry) (r s : List ℕ) → All IsWritten es → put_entries es r ++ s ≡ put_entries es (r ++ s)
puts-behind [] r s h = refl
puts-behind (e ∷ es) r s h =
    put-behind e (put_entries es r) s (All-head IsWritten e es h)
    ∙ ap (put_entry e) (puts-behind es r s (All-tail IsWritten e es h))

puts-both : (ds es : List Entry) (r : List ℕ) → put_entries (ds ++ es) r ≡ put_entries ds (put_entries es r)
puts-both [] es r = refl
puts-both (d ∷ ds) es r = ap (put_entry d) (puts-both ds es r)

leaves-both : (st : CheckState) (ds es : List Entry) → after_all st (ds ++ es) ≡ after_all (after_all st ds) es
leaves-both st [] es = refl
leaves-both st (d ∷ ds) es = leaves-both (after st d) ds es

steps-both : (p : ProblemState) (st : CheckState) (ds es : List Entry) → Accepts p st ds
    → Accepts p (after_all st ds) es → Accepts p st (ds ++ es)
steps-both p st [] es h k = k
steps-both p st (d ∷ ds) es h k = (h.0, steps-both p (after st d) ds es h.1 k)

pub goes-nowhere : (c : Checking) → GoesOn c [] c
goes-nowhere c = record {
  problem = refl;
  entries = [];
  written = All-nil IsWritten;
  text = refl;
  steps = tt;
  leaves = refl;
}

pub goes-on-twice : (a b c : Checking) (xs ys : List ℕ) → GoesOn a xs b → GoesOn b ys c → GoesOn a (xs ++ ys) c
goes-on-twice a b c xs ys h k = record {
  problem = k.problem ∙ h.problem;
  entries = h.entries ++ k.entries;
  written = All-append IsWritten h.entries k.entries h.written k.written;
  text = ap (λ x. x ++ ys) h.text ∙ puts-behind h.entries [] ys h.written ∙ ap (put_entries h.entries) k.text
      ∙ sym (puts-both h.entries k.entries []);
  steps = steps-both a.problem a.state h.entries k.entries h.steps
      (subst (λ p. Accepts p (after_all a.state h.entries) k.entries) h.problem
      (subst (λ st. Accepts b.problem st k.entries) h.leaves k.steps));
  leaves = k.leaves ∙ ap (λ st. after_all st k.entries) h.leaves ∙ sym (leaves-both a.state h.entries k.entries);
}

pub accepted-so-far : (p : ProblemState) (bytes : List ℕ) (c : Checking) → GoesOn (beginning p) bytes c
    → IsAccepted p bytes c.state.claims
accepted-so-far p bytes c h = record {
  entries = h.entries;
  written = h.written;
  text = h.text;
  steps = h.steps;
  claims_are = ap (λ (st : CheckState). st.claims) (sym h.leaves);
}
