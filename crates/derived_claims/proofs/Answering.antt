-- What a right reply claims follows.
use Rattle.std.proofs.Common.{◌≡◌, ◌∙◌, suc, ◌≤◌, Bool, List, [], ◌∷◌, All, length, Option, Some, None}
use Rattle.std.proofs.Common.{slice_get, refl, sym, ap, subst, inl, inr, arith, ◌⊎◌, ⊎_elim}
use Rattle.std.specs.List.{AllByRecursion}
use Rattle.std.proofs.lemmas.List.Elements.{All-from_recursion, All-head}
use Rattle.kb_logic.specs.declared.structures.Literal.{Literal}
use Rattle.kb_logic.specs.Answers.{IsLeftOut}
use Rattle.kb_logic.specs.Bases.{Base}
use Rattle.kb_logic.specs.InForce.{Forces, both_literals, literal_with, literals_over}
use Rattle.kb_logic.specs.KnownAtoms.{atoms_over}
use Rattle.kb_logic.specs.Lists.{IsSublist}
use Rattle.kb_logic.specs.Models.{GroundAtom, IsAtomOver, atom_of}
use Rattle.kb_logic.specs.Structures.{EachWith}
use Rattle.kb_logic.proofs.AllAtoms.{listed_over}
use Rattle.kb_logic.proofs.Has.{Has, has_from, contains_from, flat_map_has}
use Rattle.lit_core.specs.declared.literals.Lit.{Lit}
use Rattle.ground_core.specs.Problems.{IsLitOf}
use Rattle.term_values.specs.GroundBases.{GroundBase}
use Rattle.term_values.specs.KnownBases.{IsGroundBase}
use Rattle.term_values.proofs.TypedLaws.{domains-ground}
use Rattle.def_ground.specs.Groundings.{IsGroundTheory, IsGroundingOf, HasNoBounds}
use Rattle.def_ground.proofs.StartLaws.{atoms-length}
use Rattle.theory_laws.proofs.ProblemLaws.{problem-has-no-bounds}
use Rattle.narrowed_bases.specs.Narrowings.{IsProblemOf, grounded_base}
use Rattle.narrowed_bases.proofs.Right.{narrowed_is_right}
use Rattle.atom_numbers.specs.Numbers.{HasNumber}
use Rattle.atom_numbers.proofs.LiteralFacts.{of-atoms}
use Rattle.derivation_log.specs.Texts.{IsLiteral}
use Rattle.log_checker.specs.Growing.{Checking}
use Rattle.ground_task.specs.Tasks.{atom_base}
use Rattle.consult_text.specs.declared.commands.Command.{Command}
use Rattle.consult_text.specs.declared.commands.Command.TheVariants as command
use Rattle.consult_text.specs.declared.refusals.F.{F}
use Rattle.consult_text.specs.declared.replies.Reply.{Reply}
use Rattle.consult_text.specs.declared.replies.Reply.TheVariants as reply
use Rattle.consult_text.specs.Replies.{IsAnswerTo, NeedsModel}
use Rattle.consult_text.specs.RightReplies.{IsSo, RightReply, RightUnless, in_force}
use Rattle.consult_text.specs.States.{State, command_refusal}
use Rattle.log_checker.specs.Keeping.{IsKept}
use Rattle.derived_claims.specs.Following.{AreOfAtoms, Follows, IsForcedOver}
use Rattle.derived_claims.specs.Statements.{IsRightUnder}
use Rattle.derived_claims.proofs.Models.{none-admits, none-admits-negation, none-is-lower}

-- items that stand in a sublist
sublist-has : {A : Type 0} (xs ys : List A) → IsSublist xs ys → (x : A) → Has xs x → Has ys x
sublist-has [] ys s x h = absurd h
sublist-has (z ∷ xs) [] s x h = absurd s
sublist-has (z ∷ xs) (y ∷ ys) (inl s) x (inl e) = inl (sym s.0 ∙ e)
sublist-has (z ∷ xs) (y ∷ ys) (inl s) x (inr h) = inr (sublist-has xs ys s.1 x h)
sublist-has (z ∷ xs) (y ∷ ys) (inr s) x h = inr (sublist-has (z ∷ xs) ys s x h)

-- either literal of an atom is of that atom
atom-is : (a : GroundAtom) (l : Literal) → Has (both_literals a) l → a ≡ atom_of l
atom-is a l (inl e) = ap atom_of e
atom-is a l (inr (inl e)) = ap atom_of e
atom-is a l (inr (inr h)) = absurd h

-- the literals of all atoms are over the domains
listed : (base : Base) (l : Literal) → Has (literals_over base) l
    → IsAtomOver base.vocabulary.symbols base.known.domains (atom_of l)
listed base l h =
    let symbols = base.vocabulary.symbols in
    let domains = base.known.domains in
    let at = flat_map_has both_literals (atoms_over symbols domains) l h in
    subst (IsAtomOver symbols domains) (atom-is at.0 l at.2) (listed_over symbols domains at.0 at.1)

-- literals with one number are one
one-literal : (b : GroundBase) (k l : Literal) (lit : Lit) → HasNumber b k lit → HasNumber b l lit → k ≡ l
one-literal b k l lit m n =
    let next : suc m.place ≡ suc n.place = sym m.var ∙ n.var in
    let place : m.place ≡ n.place = omega (arith, next) in
    let some : Some (atom_of k) ≡ Some (atom_of l) =
    sym m.atom ∙ ap (slice_get (atoms_over b.vocabulary.symbols b.domains)) place ∙ n.atom in
    let atom : atom_of k ≡ atom_of l = cc in
    ap (λ (s : Bool). literal_with s (atom_of k)) (sym m.sign ∙ n.sign) ∙ ap (literal_with l.positive) atom

-- whoever has the number of a choice is one
chosen : (b : GroundBase) (choices : List Literal) (lits : List Lit) → EachWith (HasNumber b) choices lits
    → (l : Literal) (lit : Lit) → HasNumber b l lit → Has lits lit → Has choices l
chosen b [] [] each l lit n h = absurd h
chosen b [] (k ∷ lits) each l lit n h = absurd each
chosen b (c ∷ choices) [] each l lit n h = absurd h
chosen b (c ∷ choices) (k ∷ lits) each l lit n (inl e) = inl (one-literal b c l lit (subst (HasNumber b c) e each.0) n)
chosen b (c ∷ choices) (k ∷ lits) each l lit n (inr h) = inr (chosen b choices lits each.1 l lit n h)

module _ (base : Base) (c : Checking) (g : IsGroundingOf base c.problem) (none : HasNoBounds c.problem)
    (fine : IsGroundBase (atom_base base)) (s : State) (lits : List Lit)
    (each : EachWith (HasNumber (atom_base base)) s.choices lits) where
  size : length c.problem.atoms ≡ length (atoms_over base.vocabulary.symbols base.known.domains)
  size = ap length g.atoms ∙ atoms-length base.vocabulary.symbols base.known.domains

  all-forced : (ls : List Literal) → ((l : Literal) → Has ls l
      → IsAtomOver base.vocabulary.symbols base.known.domains (atom_of l))
      → AllByRecursion (Forces base (in_force s)) ls → AllByRecursion (λ l. IsLeftOut base (in_force s) l → ⊥) ls
      → AllByRecursion (IsForcedOver (atom_base base) c lits) ls
  all-forced [] over forced kept = tt
  all-forced (l ∷ ls) over forced kept = (
    (
      over l (inl refl),
      λ lit number. record {
        atom = All-head (IsLitOf (length c.problem.atoms)) lit []
            (of-atoms (atom_base base) (length c.problem.atoms) size (l ∷ []) (lit ∷ []) (number, tt));
        new = λ among. kept.0 (inr (inl (contains_from s.choices l
            (chosen (atom_base base) s.choices lits each l lit number (has_from lits lit among)))));
        refuted = none-admits-negation base c g none fine s.choices lits each l lit number forced.0;
      },
    ),
    all-forced ls (λ k h. over k (inr h)) forced.1 kept.1,
  )

  follow : (d : Command) (r : Reply) → IsSo base s d r → Follows (atom_base base) c lits d r
  follow d reply.Inconsistent so = none-admits base c g none fine s.choices lits each so
  follow d (reply.Forced ls) so =
      All-from_recursion (IsForcedOver (atom_base base) c lits) ls
      (all-forced ls (λ l h. listed base l (sublist-has ls (literals_over base) so.order l h)) so.forced so.kept)
  follow (command.Minimize t) (reply.Minimum v m) so =
      none-is-lower base c g none fine s.choices lits each t v m so
  follow d r so = tt

  unless : (f : Option F) (d : Command) (r : Reply) → RightUnless f base s d r → Follows (atom_base base) c lits d r
  unless None d r right = follow d r right.1
  unless (Some f) d r right = subst (Follows (atom_base base) c lits d) (sym right) tt

-- the ground problem of a knowledge base, known of a log
module _ (base : Base) (theory : IsGroundTheory base) (c : Checking) (is : IsProblemOf base c.problem)
    (choices : List Literal) (lits : List Lit) (each : EachWith (HasNumber (atom_base base)) choices lits) where
  grounding : IsGroundingOf base c.problem
  grounding = subst (IsGroundingOf base) (sym is.2) (narrowed_is_right base is.0 theory is.1)

  -- what needs a model has its reply under the choices
  under : (s : State) (d : Command) (r : Reply) → s.choices ≡ choices → RightReply base s d r
      → Follows (atom_base base) c lits d r
  under s d r same right =
      unless base c grounding
      (subst HasNoBounds (sym is.2) (problem-has-no-bounds (grounded_base base is.0)))
      (domains-ground (atom_base base) theory.known.domains) s lits
      (subst (λ (ls : List Literal). EachWith (HasNumber (atom_base base)) ls lits) (sym same) each)
      (command_refusal base s d) d r right

  -- of the replies to the other commands nothing is claimed
  claims-none : (d : Command) (r : Reply) → (NeedsModel d → ⊥) → IsAnswerTo d r → Follows (atom_base base) c lits d r
  claims-none d reply.Inconsistent none answer = absurd (none answer)
  claims-none command.Propagate (reply.Forced ls) none answer = absurd (none tt)
  claims-none (command.Assert l) (reply.Forced ls) none answer = absurd answer
  claims-none (command.Retract l) (reply.Forced ls) none answer = absurd answer
  claims-none command.Reset (reply.Forced ls) none answer = absurd answer
  claims-none command.Choices (reply.Forced ls) none answer = absurd answer
  claims-none command.Model (reply.Forced ls) none answer = absurd answer
  claims-none (command.Models n) (reply.Forced ls) none answer = absurd answer
  claims-none (command.Minimize t) (reply.Forced ls) none answer = absurd answer
  claims-none (command.Explain l) (reply.Forced ls) none answer = absurd answer
  claims-none command.Why (reply.Forced ls) none answer = absurd answer
  claims-none (command.Budget b) (reply.Forced ls) none answer = absurd answer
  claims-none command.Forget (reply.Forced ls) none answer = absurd answer
  claims-none (command.Minimize t) (reply.Minimum v m) none answer = absurd (none tt)
  claims-none d r none answer = tt

  none-unless : (f : Option F) (s : State) (d : Command) (r : Reply) → (NeedsModel d → ⊥) → RightUnless f base s d r
      → Follows (atom_base base) c lits d r
  none-unless None s d r none right = claims-none d r none right.0
  none-unless (Some f) s d r none right = subst (Follows (atom_base base) c lits d) (sym right) tt

  needs : (d : Command) → NeedsModel d ⊎ (NeedsModel d → ⊥)
  needs command.Model = inl tt
  needs (command.Models n) = inl tt
  needs command.Propagate = inl tt
  needs (command.Minimize t) = inl tt
  needs (command.Explain l) = inl tt
  needs command.Why = inr (λ e. e)
  needs (command.Assert l) = inr (λ e. e)
  needs (command.Retract l) = inr (λ e. e)
  needs command.Reset = inr (λ e. e)
  needs command.Choices = inr (λ e. e)
  needs (command.Budget b) = inr (λ e. e)
  needs command.Forget = inr (λ e. e)

  pub follows : (d : Command) (r : Reply) → IsRightUnder base choices d r → Follows (atom_base base) c lits d r
  follows d r right =
      ⊎_elim (λ need. under right.0 d r (right.1 need) right.2)
      (λ none. none-unless (command_refusal base right.0 d) right.0 d r none right.2) (needs d)

  pub of-log : IsKept c → All IsLiteral lits → AreOfAtoms c lits
  of-log kept written = record {
    atoms = of-atoms (atom_base base) (length c.problem.atoms)
        (ap length grounding.atoms ∙ atoms-length base.vocabulary.symbols base.known.domains) choices lits each;
    vars = let atoms : length c.problem.atoms ≤ c.problem.vars = kept.problem.atoms in
        let vars : c.problem.vars ≤ c.state.vars = kept.state.vars in
        omega (arith, atoms, vars);
    written = written;
  }
