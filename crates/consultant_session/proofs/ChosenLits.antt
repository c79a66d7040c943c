-- The literals that the choices have, as choices come and go.
use Rattle.std.proofs.Common.{◌≡◌, ◌≢◌, ◌↔◌, ◌⊎◌, ◌++◌, ◌∷◌, [], Bool, true, false, List, Contains, IsTrue}
use Rattle.std.proofs.Common.{refl, sym, subst, inl, inr, ⊎_elim}
use Rattle.std.proofs.lemmas.List.Elements.{Contains-push, Contains-push_cases, Contains-append_left}
use Rattle.kb_logic.proofs.Members.{none_in}
use Rattle.kb_logic.specs.declared.structures.Literal.{Literal}
use Rattle.kb_logic.specs.Bases.{Base}
use Rattle.lit_core.specs.declared.literals.Lit.{Lit}
use Rattle.term_values.specs.KnownBases.{IsGroundBase}
use Rattle.atom_numbers.specs.Numbers.{HasNumber}
use Rattle.atom_numbers.proofs.LiteralFacts.{one-number}
use Rattle.ground_task.specs.Tasks.{atom_base}
use Rattle.forced_literals.proofs.NumberFacts.{one-literal}
use Rattle.consultant_session.specs.Sessions.{AreLitsOf}

module _ (kb : Base) (fine : IsGroundBase (atom_base kb)) (choices : List Literal) (lits : List Lit) (l : Literal)
    (lit : Lit) (number : HasNumber (atom_base kb) l lit) (h : AreLitsOf kb choices lits) where
  -- what the test tells is whether the literal is chosen
  pub lits-tell : (found chosen : Bool) → IsTrue found ↔ Contains lits lit → IsTrue chosen ↔ Contains choices l
      → found ≡ chosen
  lits-tell true chosen f is = sym (is.1 ((h l lit number).0 (f.0 refl)))
  lits-tell false true f is = f.1 ((h l lit number).1 (is.0 refl))
  lits-tell false false f is = refl

  -- one choice more
  pub lits-more : (cs : List Literal) (ls : List Lit) → cs ≡ choices ++ l ∷ []
      → ((k : Lit) → Contains ls k ↔ (Contains lits k ⊎ (k ≡ lit))) → AreLitsOf kb cs ls
  lits-more cs ls is each = λ m k n. (
    (λ has. subst (λ (xs : List Literal). Contains xs m) (sym is) (⊎_elim
        (λ before. Contains-append_left choices (l ∷ []) m ((h m k n).0 before))
        (λ e. subst (Contains (choices ++ l ∷ []))
        (one-literal (atom_base kb) l m lit number (subst (HasNumber (atom_base kb) m) e n))
        (Contains-push choices l))
        ((each k).0 has))),
    (λ has. (each k).1 (⊎_elim
        (λ before. inl ((h m k n).1 before))
        (λ e. inr (one-number (atom_base kb) fine m k lit n
        (subst (λ (x : Literal). HasNumber (atom_base kb) x lit) e number)))
        (Contains-push_cases choices l m (subst (λ (xs : List Literal). Contains xs m) is has)))),
  )

  -- without this one
  pub lits-less : (cs : List Literal) (ls : List Lit) → ((c : Literal) → Contains cs c ↔ (Contains choices c × (c ≢ l)))
      → ((k : Lit) → Contains ls k ↔ (Contains lits k × (k ≢ lit))) → AreLitsOf kb cs ls
  lits-less cs ls without each = λ m k n. (
    (λ has. let both = (each k).0 has in (without m).1 (
      (h m k n).0 both.0,
      λ e. both.1 (one-number (atom_base kb) fine l k lit
          (subst (λ (x : Literal). HasNumber (atom_base kb) x k) e n) number),
    )),
    (λ has. let both = (without m).0 has in (each k).1 (
      (h m k n).1 both.0,
      λ e. both.1 (one-literal (atom_base kb) m l lit (subst (HasNumber (atom_base kb) m) e n) number),
    )),
  )

-- where there are none
pub lits-none : (kb : Base) (cs : List Literal) (ls : List Lit) → cs ≡ [] → ls ≡ [] → AreLitsOf kb cs ls
lits-none kb cs ls no-choices no-lits = λ l k n. (
  (λ has. absurd (none_in k (subst (λ (xs : List Lit). Contains xs k) no-lits has))),
  (λ has. absurd (none_in l (subst (λ (xs : List Literal). Contains xs l) no-choices has))),
)
