-- What is kept of answers and supports stays right as a session goes on.
use Rattle.std.proofs.Common.{◌≡◌, ℕ, Bool, true, false, not, List, [], ◌∷◌, ◌++◌, All, Some, None}
use Rattle.std.proofs.Common.{refl, sym, ◌∙◌, ap, subst, filter, cond, inl, inr, ◌<◌, length, arith, if◌then◌else◌}
use Rattle.std.specs.List.{Any, AllByRecursion}
use Rattle.std.proofs.lemmas.Bool.{cases_Bool, false≢true}
use Rattle.std.proofs.lemmas.List.Elements.{All-nil, All-same, All-weaker, All-contains, All-push, All-filter}
use Rattle.kb_logic.specs.declared.structures.Literal.{Literal}
use Rattle.kb_logic.specs.declared.structures.Structure.{Structure}
use Rattle.kb_logic.specs.Bases.{Base}
use Rattle.kb_logic.specs.InForce.{HasNoModel, IsModelOf}
use Rattle.kb_logic.specs.Lists.{IsPrefix, IsSublist}
use Rattle.kb_logic.proofs.Has.{Has, contains_from}
use Rattle.kb_logic.proofs.Members.{one_is_some}
use Rattle.kb_logic.proofs.Tables.{each_right}
use Rattle.lit_core.specs.declared.literals.Lit.{Lit}
use Rattle.ground_core.specs.Solving.{SolveState}
use Rattle.ground_core.proofs.CoreFacts.{any-left, still-shown}
use Rattle.term_values.specs.GroundBases.{GroundBase}
use Rattle.term_values.specs.KnownBases.{IsGroundBase}
use Rattle.atom_numbers.specs.Numbers.{HasNumber}
use Rattle.atom_numbers.proofs.LiteralFacts.{one-number}
use Rattle.consequences.specs.declared.kept.Kept.{Kept}
use Rattle.ground_task.specs.Tasks.{AreRefuted, atom_base}
use Rattle.kept_supports.specs.Supports.{IsSupported, has_lit, same_lit, without_support}
use Rattle.kept_supports.proofs.KeptFacts.{all-filter, same-itself}
use Rattle.kept_answers.specs.declared.answers.Answered.{Answered}
use Rattle.kept_answers.specs.Answers.{kept_reply, with_answer, without_kind, same_kind}
use Rattle.kept_answers.proofs.AnswerFacts.{kept_is_there}
use Rattle.kept_answers.proofs.LiteralLemmas.{same_literal_decides}
use Rattle.consult_text.specs.declared.commands.Command.{Command}
use Rattle.consult_text.specs.declared.commands.Command.TheVariants as command
use Rattle.consult_text.specs.declared.replies.Reply.{Reply}
use Rattle.consult_text.specs.declared.replies.Reply.TheVariants as reply
use Rattle.consult_text.specs.Replies.{NeedsModel}
use Rattle.consult_text.specs.RightReplies.{RightReply, RightUnless, in_force}
use Rattle.consult_text.specs.States.{State, is_chosen, same_literal, without}
use Rattle.session_queries.specs.Queries.{CoversReply, Refutes}
use Rattle.consultant_session.specs.Sessions.{IsKeptAnswer}
use Rattle.consultant_session.proofs.StepLemmas.{needs-query, plain}

-- a kept core stays, and a kept literal does
pub prefix-refutes : (b : GroundBase) (choices : List Literal) (old new : List (List Lit)) (r : Reply)
    → IsPrefix old new → Refutes b choices old r → Refutes b choices new r
prefix-refutes b choices old new reply.Inconsistent more h = λ ls each. still-shown old new ls more (h ls each)
prefix-refutes b choices old new r more h = tt

pub prefix-covers : (kb : Base) (choices : List Literal) (old new : List Kept) (r : Reply) → IsPrefix old new
    → CoversReply kb choices old r → CoversReply kb choices new r
prefix-covers kb choices old new (reply.Forced ls) more h = λ l lit n u forces.
    subst (λ (ks : List Kept). Any (λ (k : Kept). k.lit ≡ lit) ks) (sym more.1)
    (any-left (λ (k : Kept). k.lit ≡ lit) old more.0 (h l lit n u forces))
prefix-covers kb choices old new r more h = tt

-- where no core lies within the choices, nothing that is kept needs one
pub unrefuted : (b : GroundBase) (choices : List Literal) (old new : List (List Lit)) (r : Reply)
    → (AreRefuted b choices old → ⊥) → Refutes b choices old r → Refutes b choices new r
unrefuted b choices old new reply.Inconsistent none h = absurd (none h)
unrefuted b choices old new r none h = tt

module _ (kb : Base) (s : State) where
  pub answers-stay : (ks ks' : List Kept) (old new : SolveState) (answers : List Answered) → IsPrefix ks ks'
      → IsPrefix old.cores new.cores → All (IsKeptAnswer kb s ks old) answers → All (IsKeptAnswer kb s ks' new) answers
  answers-stay ks ks' old new answers more cores all =
      All-weaker (IsKeptAnswer kb s ks old) (IsKeptAnswer kb s ks' new) (λ a h. record {
        right = h.right;
        decided = h.decided;
        refuted = prefix-refutes (atom_base kb) s.choices old.cores new.cores a.reply cores h.refuted;
        covers = prefix-covers kb s.choices ks ks' a.reply more h.covers;
      }) answers all

  pub answers-stay-anew : (ks : List Kept) (old new : SolveState) (answers : List Answered)
      → (AreRefuted (atom_base kb) s.choices old.cores → ⊥) → All (IsKeptAnswer kb s ks old) answers
      → All (IsKeptAnswer kb s ks new) answers
  answers-stay-anew ks old new answers none all =
      All-weaker (IsKeptAnswer kb s ks old) (IsKeptAnswer kb s ks new) (λ a h. record {
        right = h.right;
        decided = h.decided;
        refuted = unrefuted (atom_base kb) s.choices old.cores new.cores a.reply none h.refuted;
        covers = h.covers;
      }) answers all

  -- one answer more, in place of the one of its kind
  pub answers-grow : (ks : List Kept) (solver : SolveState) (answers : List Answered) (c : Command) (r : Reply)
      → All (IsKeptAnswer kb s ks solver) answers → IsKeptAnswer kb s ks solver (record { query = c; reply = r })
      → All (IsKeptAnswer kb s ks solver) (with_answer c r answers)
  answers-grow ks solver answers c r all one =
      All-push (IsKeptAnswer kb s ks solver) (without_kind c answers) (record { query = c; reply = r })
      (All-filter (λ (a : Answered). not (same_kind a.query c)) (IsKeptAnswer kb s ks solver) answers all) one

  -- what is kept of a command
  pub kept-of : (ks : List Kept) (solver : SolveState) (answers : List Answered) (c : Command) (r : Reply)
      → All (IsKeptAnswer kb s ks solver) answers → kept_reply answers c ≡ Some r
      → IsKeptAnswer kb s ks solver (record { query = c; reply = r })
  kept-of ks solver answers c r all is =
      let a = kept_is_there answers c r is in
      let h = All-contains (IsKeptAnswer kb s ks solver) answers a.0 all a.1 in
      subst (λ (d : Command). IsKeptAnswer kb s ks solver (record { query = d; reply = r })) a.2
      (subst (λ (x : Reply). IsKeptAnswer kb s ks solver (record { query = a.0.query; reply = x })) a.3 h)

-- supports without a choice that goes
sublist-into : {A : Type 0} (p : A → Bool) (xs ys : List A) → IsSublist xs ys → ((x : A) → Has xs x → p x ≡ true)
    → IsSublist xs (filter p ys)
sublist-into p [] ys s passes = tt
sublist-into p (x ∷ xs) [] s passes = absurd s
sublist-into {A} p (x ∷ xs) (y ∷ ys) (inl s) passes =
    let here : p y ≡ true = ap p (sym s.0) ∙ passes x (inl refl) in
    subst (λ (b : Bool). IsSublist (x ∷ xs) (cond b (y ∷ filter p ys) (filter p ys))) (sym here)
    (inl (s.0, sublist-into p xs ys s.1 (λ z h. passes z (inr h))))
sublist-into {A} p (x ∷ xs) (y ∷ ys) (inr s) passes =
    let later : IsSublist (x ∷ xs) (filter p ys) = sublist-into p (x ∷ xs) ys s passes in
    elim (p y) as (λ (b : Bool). IsSublist (x ∷ xs) (cond b (y ∷ filter p ys) (filter p ys)))
    [ true ↦ inr later | false ↦ later ]

pub retracted : (kb : Base) → IsGroundBase (atom_base kb) → (choices : List Literal) (l : Literal) (lit : Lit)
    → HasNumber (atom_base kb) l lit → (ks : List Kept) → All (IsSupported kb choices) ks
    → All (IsSupported kb (without l choices)) (without_support lit ks)
retracted kb good choices l lit number ks all =
    all-filter (IsSupported kb choices) (IsSupported kb (without l choices)) (λ (k : Kept). not (has_lit lit k.support))
    ks (λ k s lacks. record {
      literal = s.literal;
      number = s.number;
      some = s.some;
      chosen = record {
        among = sublist-into (λ c. not (same_literal l c)) s.some choices s.chosen.among
            (λ c has. passes k s lacks c has);
        each = s.chosen.each;
      };
      forces = s.forces;
    }) all
  where
    passes : (k : Kept) (s : IsSupported kb choices k) → not (has_lit lit k.support) ≡ true → (c : Literal)
        → Has s.some c → not (same_literal l c) ≡ true
    passes k s lacks c has = elim (cases_Bool (same_literal l c)) [
      | inl same ↦
          let is : l ≡ c = (same_literal_decides l c).0 same in
          let r = each_right (HasNumber (atom_base kb)) s.some k.support c s.chosen.each has in
          let one : lit ≡ r.0 = one-number (atom_base kb) good l lit r.0 number
          (subst (λ (x : Literal). HasNumber (atom_base kb) x r.0) (sym is) r.2) in
          let there : has_lit lit k.support ≡ true =
          one_is_some (same_lit lit) k.support r.0 (contains_from k.support r.0 r.1)
          (subst (λ (x : Lit). same_lit lit x ≡ true) one (same-itself lit)) in
          absurd (false≢true (sym (ap not there) ∙ lacks))
      | inr other ↦ ap not other
    ]

-- where none is kept
pub no-supports : (kb : Base) (choices : List Literal) (ks : List Kept) → ks ≡ [] → All (IsSupported kb choices) ks
no-supports kb choices ks none = All-same (IsSupported kb choices) ks [] none (All-nil (IsSupported kb choices))

pub no-answers : (kb : Base) (s : State) (ks : List Kept) (solver : SolveState) (answers : List Answered)
    → answers ≡ [] → All (IsKeptAnswer kb s ks solver) answers
no-answers kb s ks solver answers none =
    All-same (IsKeptAnswer kb s ks solver) answers [] none (All-nil (IsKeptAnswer kb s ks solver))

-- one choice more
pub all-push : {A : Type 0} (P : A → Type 0) (xs : List A) (x : A) → AllByRecursion P xs → P x
    → AllByRecursion P (xs ++ x ∷ [])
all-push P [] x all one = (one, tt)
all-push P (y ∷ xs) x all one = (all.0, all-push P xs x all.1 one)

-- the supports after a retracted choice
pub retract-supports : (kb : Base) → IsGroundBase (atom_base kb) → (s : State) (l : Literal) (own lit : Lit)
    → HasNumber (atom_base kb) l own → is_chosen s l ≡ true → (old new : List Kept) → new ≡ without_support own old
    → HasNumber (atom_base kb) l lit → new ≡ (if is_chosen s l then without_support lit old else old)
retract-supports kb good s l own lit number chosen old new is other =
    is ∙ ap (λ (x : Lit). without_support x old) (one-number (atom_base kb) good l own lit number other)
    ∙ sym (ap (λ (b : Bool). if b then without_support lit old else old) chosen)

-- a kept answer to a command that needs a model where there is none
pub none-refused : (kb : Base) (s : State) (c : Command) (r : Reply) → NeedsModel c → HasNoModel kb (in_force s)
    → RightReply kb s c r → ((k : ℕ) → r ≡ reply.Undecided k → ⊥) → r ≡ reply.Inconsistent
none-refused kb s c r needs none right decided =
    at c r needs (subst (λ f. RightUnless f kb s c r) (plain kb s c (needs-query c needs)).1 right) decided
  where
    several : (ms : List Structure) → 0 < length ms → AllByRecursion (IsModelOf kb (in_force s)) ms → ⊥
    several [] some all = omega (arith, some)
    several (m ∷ ms) some all = none m all.0

    at : (c : Command) (r : Reply) → NeedsModel c → RightUnless None kb s c r
        → ((k : ℕ) → r ≡ reply.Undecided k → ⊥) → r ≡ reply.Inconsistent
    at command.Model reply.Inconsistent needs right decided = refl
    at command.Model (reply.Undecided k) needs right decided = absurd (decided k refl)
    at command.Model (reply.Model m) needs right decided = absurd (none m right.1)
    at command.Model r needs right decided = absurd right.0
    at (command.Models n) reply.Inconsistent needs right decided = refl
    at (command.Models n) (reply.Undecided k) needs right decided = absurd (decided k refl)
    at (command.Models n) (reply.Models ms all) needs right decided = absurd (several ms right.1.some right.1.models)
    at (command.Models n) r needs right decided = absurd right.0
    at command.Propagate reply.Inconsistent needs right decided = refl
    at command.Propagate (reply.Undecided k) needs right decided = absurd (decided k refl)
    at command.Propagate (reply.Forced ls) needs right decided = absurd (none right.1.some.0 right.1.some.1)
    at command.Propagate r needs right decided = absurd right.0
    at (command.Minimize t) reply.Inconsistent needs right decided = refl
    at (command.Minimize t) (reply.Undecided k) needs right decided = absurd (decided k refl)
    at (command.Minimize t) (reply.Minimum v m) needs right decided = absurd (none m right.1.model)
    at (command.Minimize t) r needs right decided = absurd right.0
    at (command.Explain l) reply.Inconsistent needs right decided = refl
    at (command.Explain l) (reply.Undecided k) needs right decided = absurd (decided k refl)
    at (command.Explain l) (reply.Supported ls) needs right decided = absurd (none right.1.some.0 right.1.some.1)
    at (command.Explain l) reply.Free needs right decided = absurd (none right.1.0 right.1.1)
    at (command.Explain l) r needs right decided = absurd right.0
    at c r needs right decided = absurd needs
