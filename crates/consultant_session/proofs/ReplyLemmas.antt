-- What is promised of a reply, from what is promised of its parts.
use Rattle.std.proofs.Common.{◌≡◌, ◌∙◌, ℕ, ◌<◌, List, [], ◌∷◌, All, Option, Some, None, Result, Ok, Err, refl, sym, ap}
use Rattle.std.proofs.Common.{subst, inl, inr, ◌⊎◌, length, get_or, slice_get, IfOk, OnOk, OnErr, suc, arith}
use Rattle.std.proofs.Common.{◌≤◌, not}
use Rattle.std.specs.List.{AllByRecursion}
use Rattle.std.specs.declared.alloc.AllocError.{AllocError as Memory}
use Rattle.std.proofs.lemmas.List.{get_or_default}
use Rattle.std.proofs.lemmas.List.Elements.{All-filter}
use Rattle.std.proofs.lemmas.Option.{slice_get_cases}
use Rattle.kb_logic.specs.declared.structures.Literal.{Literal}
use Rattle.kb_logic.specs.Bases.{Base}
use Rattle.kb_logic.specs.InForce.{HasNoModel}
use Rattle.kb_logic.specs.KnownAtoms.{atoms_over}
use Rattle.kb_logic.specs.Models.{GroundAtom, atom_of}
use Rattle.kb_logic.specs.Structures.{EachWith}
use Rattle.kb_logic.proofs.AllAtoms.{atom_listed}
use Rattle.kb_logic.proofs.Has.{contains_from}
use Rattle.lit_core.specs.declared.literals.Lit.{Lit}
use Rattle.ground_core.specs.Solving.{SolveState}
use Rattle.clause_learning.specs.GoingOn.{prefix-itself}
use Rattle.term_values.specs.GroundBases.{GroundBase}
use Rattle.consequences.specs.declared.kept.Kept.{Kept}
use Rattle.atom_numbers.specs.Numbers.{HasNumber}
use Rattle.ground_task.specs.Tasks.{AreRefuted, atom_base}
use Rattle.ground_task.proofs.TaskFacts.{has-none}
use Rattle.kept_answers.specs.declared.answers.Answered.{Answered}
use Rattle.kept_answers.specs.Answers.{kept_reply, same_kind, with_answer, without_kind}
use Rattle.kept_answers.proofs.AnswerFacts.{kept-query, last_is_kept}
use Rattle.consult_text.specs.Literals.{IsLiteralOver}
use Rattle.consult_text.specs.declared.commands.Command.{Command}
use Rattle.consult_text.specs.declared.commands.Command.TheVariants as command
use Rattle.consult_text.specs.declared.replies.Reply.{Reply}
use Rattle.consult_text.specs.declared.replies.Reply.TheVariants as reply
use Rattle.consult_text.specs.declared.refusals.F.{F}
use Rattle.consult_text.specs.Replies.{IsAnswerTo, IsQuery, NeedsModel}
use Rattle.consult_text.specs.RightReplies.{RightReply, RightUnless, in_force}
use Rattle.consult_text.specs.States.{State, command_refusal, state_after}
use Rattle.session_queries.specs.Queries.{CoversReply, IsUndecided, Refutes}
use Rattle.consultant_session.specs.Commands.{left_by, IsRefused, Searches}
use Rattle.consultant_session.specs.Sessions.{SessionState, Carries, IsKeptAnswer, IsSameButAnswers, Replies}
use Rattle.consultant_session.specs.Sessions.{TakesMemory}
use Rattle.consultant_session.specs.Sessions.{SupportsAfter, PropagatesUpTo, IsKeptLast}
use Rattle.consult_base.specs.Opened.{Opened, base_of}
use Rattle.session_queries.specs.Solvers.{IsSolverOf}
use Rattle.consultant_session.proofs.FoundLemmas.{atom_over}
use Rattle.consultant_session.proofs.KeptAnswers.{answers-grow, none-refused}
use Rattle.consultant_session.proofs.CommandLemmas.{decides, idle}
use Rattle.consultant_session.proofs.StepLemmas.{core-refutes, needs-query, plain, right-refusal}

-- a literal over the knowledge base has a number
numbered : (kb : Base) (l : Literal) → IsLiteralOver kb l → (lit : Lit) × HasNumber (atom_base kb) l lit
numbered kb l over =
    let atoms = atoms_over kb.vocabulary.symbols kb.known.domains in
    let c = contains_from atoms (atom_of l)
    (atom_listed kb.vocabulary.symbols kb.known.domains (atom_of l) (atom_over kb l over)) in
    at c.0 c.1 c.2 (slice_get_cases atoms c.0).1
  where
    atoms' : List GroundAtom
    atoms' = atoms_over kb.vocabulary.symbols kb.known.domains

    at : (k : ℕ) → k < length atoms' → get_or atoms' k (atom_of l) ≡ atom_of l
        → ((a : GroundAtom) × (k < length atoms') × (slice_get atoms' k ≡ Some a) × (get_or atoms' k a ≡ a))
        ⊎ ((length atoms' ≤ k) × (slice_get atoms' k ≡ None)) → (lit : Lit) × HasNumber (atom_base kb) l lit
    at k lt is (inl a) = (
      record { var = record { 0 = suc k }; positive = l.positive },
      record {
        place = k;
        atom = a.2 ∙ ap Some (sym a.3 ∙ get_or_default atoms' k a.0 (atom_of l) lt ∙ is);
        var = refl;
        sign = refl;
      },
    )
    at k lt is (inr none) = absurd (omega (arith, lt, none.0))

all-numbered : (kb : Base) (ls : List Literal) → AllByRecursion (IsLiteralOver kb) ls
    → (lits : List Lit) × EachWith (HasNumber (atom_base kb)) ls lits
all-numbered kb [] all = ([], tt)
all-numbered kb (l ∷ ls) all =
    let one = numbered kb l all.0 in
    let more = all-numbered kb ls all.1 in
    (one.0 ∷ more.0, (one.1, more.1))

-- a kept core within the literals of the choices says that there is no model
none-of : (kb : Base) (s : State) (solver : SolveState) → IsSolverOf kb solver
    → AllByRecursion (IsLiteralOver kb) s.choices → AreRefuted (atom_base kb) s.choices solver.cores
    → HasNoModel kb (in_force s)
none-of kb s solver is over core = λ m model.
    let lits = all-numbered kb s.choices over in
    has-none kb (atom_base kb) solver.problem is.task lits.0 s.choices lits.1
    (core-refutes solver.problem solver.cores lits.0 is.kept.refuted (core lits.0 lits.1)) m model

pub if-ok : {A E : Type 0} {P Q : A → Type 0} (r : Result A E) → ((x : A) → P x → Q x) → IfOk r P → IfOk r Q
if-ok (Ok x) f p = f x p
if-ok (Err e) f p = tt

pub on-ok : {A E : Type 0} {P : Type 0} (r : Result A E) → P → OnOk r P
on-ok (Ok x) p = p
on-ok (Err e) p = tt

pub on-err : {A E : Type 0} {P : Type 0} (r : Result A E) → P → OnErr r P
on-err (Ok x) p = tt
on-err (Err e) p = p

-- a query that leaves the supports, and seeks nothing
pub nothing-lost : (kb : Base) (s : State) (c : Command) (ks : List Kept) → IsQuery c → SupportsAfter kb s c ks ks
nothing-lost kb s command.Model ks h = prefix-itself ks
nothing-lost kb s (command.Models n) ks h = prefix-itself ks
nothing-lost kb s command.Propagate ks h = prefix-itself ks
nothing-lost kb s (command.Minimize t) ks h = prefix-itself ks
nothing-lost kb s (command.Explain l) ks h = prefix-itself ks
nothing-lost kb s command.Why ks h = prefix-itself ks
nothing-lost kb s _ ks h = absurd h

pub nothing-sought : (kb : Base) (c : Command) (ks : List Kept) (solver : SolveState) → IsSolverOf kb solver
    → PropagatesUpTo kb c ks solver solver
nothing-sought kb command.Propagate ks solver is = λ lits are. (0, omega arith, omega (arith, is.kept.counted))
nothing-sought kb _ ks solver is = tt

-- a repeated query
pub repeats : (kb : Base) (c : Command) (result : Result Reply Memory) (s : SessionState) (r : Reply)
    → AllByRecursion (IsLiteralOver kb) s.state.choices → IsSolverOf kb s.solver
    → IsKeptAnswer kb s.state s.supports s.solver (record { query = c; reply = r })
    → kept_reply s.answered c ≡ Some r → IfOk result (λ x. x ≡ r) → Replies kb c result s s
repeats kb c result s r over solver kept at is =
    let query = kept-query s.answered c r at in
    let is-plain = plain kb s.state c query in
    record {
      right = if-ok result (λ x e. subst (RightReply kb s.state c) (sym e) kept.right) is;
      after = on-ok result (sym is-plain.2);
      kept = on-err result refl;
      prompt = on-err result is-plain.0;
      kb_same = refl;
      searches = idle kb c s.state.budget result s.solver s.solver (sym (is-plain.3 s.solver.learnt))
          (sym (is-plain.3 s.solver.cores))
          (if-ok result (λ x e. λ k u. kept.decided k (sym e ∙ u)) is) solver;
      refuted = if-ok result (λ x e. subst (Refutes (atom_base kb) s.state.choices s.solver.cores) (sym e) kept.refuted)
          is;
      decided = λ needs core. record {
        answer = if-ok result (λ x e. e ∙ none-refused kb s.state c r needs (none-of kb s.state s.solver solver over
            core) kept.right kept.decided) is;
        solver = refl;
      };
      carries = record {
        supports = nothing-lost kb s.state c s.supports query;
        covers = if-ok result (λ x e. subst (CoversReply kb s.state.choices s.supports) (sym e) kept.covers) is;
        propagates = nothing-sought kb c s.supports s.solver solver;
      };
    }

-- a search that ended, where the reply is then lost
searches-lost : (kb : Base) (c : Command) (budget : Option ℕ) (r : Reply) (e : Memory) (old new : SolveState)
    → Searches kb c budget (Ok r) old new → Searches kb c budget (Err e) old new
searches-lost kb c budget r e old new h = record {
  solver = h.solver;
  left = h.left;
  from = h.from;
  learns = record {
    front = h.learns.front;
    cores = h.learns.cores;
    within = h.learns.within;
    undecided = tt;
    idle = h.learns.idle;
  };
}

module _ (kb : Base) (c : Command) (old mid new : SessionState) (same : IsSameButAnswers mid new) where
  carried : (result : Result Reply Memory) → Carries kb c result old mid → Carries kb c result old new
  carried result h = record {
    supports = subst (SupportsAfter kb old.state c old.supports) (sym same.supports) h.supports;
    covers = if-ok result (λ r p. subst (λ (s : State). CoversReply kb s.choices new.supports r) (sym same.state)
        (subst (λ (ks : List Kept). CoversReply kb mid.state.choices ks r) (sym same.supports) p)) h.covers;
    propagates = subst (PropagatesUpTo kb c old.supports old.solver) (sym same.solver) h.propagates;
  }

  -- a reply that is kept
  pub kept-after : (r : Reply) → Replies kb c (Ok r) old mid → Replies kb c (Ok r) old new
  kept-after r h = record {
    right = h.right;
    after = same.state ∙ h.after;
    kept = tt;
    prompt = tt;
    kb_same = same.kb ∙ h.kb_same;
    searches = subst (Searches kb c old.state.budget (Ok r) old.solver) (sym same.solver) h.searches;
    refuted = subst (λ (s : State). Refutes (atom_base kb) s.choices new.solver.cores r) (sym same.state)
        (subst (λ (s : SolveState). Refutes (atom_base kb) mid.state.choices s.cores r) (sym same.solver) h.refuted);
    decided = λ needs core. let d = h.decided needs core in
        record { answer = d.answer; solver = same.solver ∙ d.solver };
    carries = carried (Ok r) h.carries;
  }

  -- and one that cannot be
  pub lost-after : (r : Reply) (e : Memory) → IsQuery c → Replies kb c (Ok r) old mid → Replies kb c (Err e) old new
  lost-after r e query h = record {
    right = tt;
    after = tt;
    kept = same.state ∙ h.after ∙ (plain kb old.state c query).2;
    prompt = (plain kb old.state c query).0;
    kb_same = same.kb ∙ h.kb_same;
    searches = searches-lost kb c old.state.budget r e old.solver new.solver
        (subst (Searches kb c old.state.budget (Ok r) old.solver) (sym same.solver) h.searches);
    refuted = tt;
    decided = λ needs core. record { answer = tt; solver = same.solver ∙ (h.decided needs core).solver };
    carries = record {
      supports = subst (SupportsAfter kb old.state c old.supports) (sym same.supports) h.carries.supports;
      covers = tt;
      propagates = subst (PropagatesUpTo kb c old.supports old.solver) (sym same.solver) h.carries.propagates;
    };
  }

-- a query that was carried out
pub query-replies : (kb : Base) (c : Command) (result : Result Reply Memory) (old new : SessionState) → IsQuery c
    → (NeedsModel c → AreRefuted (atom_base kb) old.state.choices old.solver.cores → ⊥)
    → IfOk result (RightReply kb old.state c) → new.state ≡ old.state → new.kb ≡ old.kb
    → Searches kb c old.state.budget result old.solver new.solver
    → IfOk result (Refutes (atom_base kb) old.state.choices new.solver.cores)
    → SupportsAfter kb old.state c old.supports new.supports
    → IfOk result (CoversReply kb old.state.choices new.supports)
    → PropagatesUpTo kb c old.supports old.solver new.solver → Replies kb c result old new
query-replies kb c result old new query open' right state kb_same searches refuted supports covers propagates =
    let is-plain = plain kb old.state c query in
    record {
      right = right;
      after = on-ok result (state ∙ sym is-plain.2);
      kept = on-err result state;
      prompt = on-err result is-plain.0;
      kb_same = kb_same;
      searches = searches;
      refuted = if-ok result (λ r h. subst (λ (s : State). Refutes (atom_base kb) s.choices new.solver.cores r)
          (sym state) h) refuted;
      decided = λ needs core. absurd (open' needs core);
      carries = record {
        supports = supports;
        covers = if-ok result (λ r h. subst (λ (s : State). CoversReply kb s.choices new.supports r) (sym state) h)
            covers;
        propagates = propagates;
      };
    }

-- only `propagate` is answered by what is forced
forced-propagates : (c : Command) (ls : List Literal) → IsAnswerTo c (reply.Forced ls) → c ≡ command.Propagate
forced-propagates command.Propagate ls h = refl
forced-propagates _ ls h = absurd h

covers-by : (kb : Base) (c : Command) (s : State) (choices : List Literal) (ks : List Kept) (f : Option F) (r : Reply)
    → (c ≡ command.Propagate → ⊥) → RightUnless f kb s c r → CoversReply kb choices ks r
covers-by kb c s choices ks None (reply.Forced ls) other h = absurd (other (forced-propagates c ls h.0))
covers-by kb c s choices ks (Some f) (reply.Forced ls) other h = cc
covers-by kb c s choices ks f r other h = tt

pub not-forced : (kb : Base) (c : Command) (s : State) (choices : List Literal) (ks : List Kept)
    (result : Result Reply Memory) → (c ≡ command.Propagate → ⊥) → IfOk result (RightReply kb s c)
    → IfOk result (CoversReply kb choices ks)
not-forced kb c s choices ks result other right =
    if-ok result (λ r h. covers-by kb c s choices ks (command_refusal kb s c) r other h) right

-- the replies to what is no query
forced-query : (c : Command) (ls : List Literal) → IsAnswerTo c (reply.Forced ls) → IsQuery c
forced-query command.Propagate ls h = tt
forced-query _ ls h = absurd h

plain-refutes : (b : GroundBase) (choices : List Literal) (cores : List (List Lit)) (kb : Base) (s : State) (c :
    Command)
    (f : Option F) (r : Reply) → (IsQuery c → ⊥) → RightUnless f kb s c r → Refutes b choices cores r
plain-refutes b choices cores kb s c None reply.Inconsistent other h = absurd (other (needs-query c h.0))
plain-refutes b choices cores kb s c (Some f) reply.Inconsistent other h = cc
plain-refutes b choices cores kb s c f r other h = tt

plain-covers : (choices : List Literal) (ks : List Kept) (kb : Base) (s : State) (c : Command)
    (f : Option F) (r : Reply) → (IsQuery c → ⊥) → RightUnless f kb s c r → CoversReply kb choices ks r
plain-covers choices ks kb s c None (reply.Forced ls) other h = absurd (other (forced-query c ls h.0))
plain-covers choices ks kb s c (Some f) (reply.Forced ls) other h = cc
plain-covers choices ks kb s c f r other h = tt

not-sought : (kb : Base) (c : Command) (ks : List Kept) (old new : SolveState) → (IsQuery c → ⊥)
    → PropagatesUpTo kb c ks old new
not-sought kb command.Propagate ks old new other = absurd (other tt)
not-sought kb _ ks old new other = tt

-- a command that is no query
pub change-replies : (kb : Base) (c : Command) (result : Result Reply Memory) (old new : SessionState)
    → (IsQuery c → ⊥) → IfOk result (RightReply kb old.state c) → OnOk result (new.state ≡ state_after kb old.state c)
    → OnErr result (new.state ≡ old.state) → OnErr result (TakesMemory c) → new.kb ≡ old.kb
    → new.solver.learnt ≡ left_by c old.solver.learnt → new.solver.cores ≡ left_by c old.solver.cores
    → IsSolverOf kb new.solver → SupportsAfter kb old.state c old.supports new.supports
    → Replies kb c result old new
change-replies kb c result old new other right after kept prompt kb_same learnt cores solver supports =
    let refusal = command_refusal kb old.state c in
    record {
      right = right;
      after = after;
      kept = kept;
      prompt = prompt;
      kb_same = kb_same;
      searches = idle kb c old.state.budget result old.solver new.solver learnt cores
          (if-ok result (λ r h. decides refusal kb old.state c r other h) right) solver;
      refuted = if-ok result (λ r h. plain-refutes (atom_base kb) new.state.choices new.solver.cores kb old.state c
          refusal r other h) right;
      decided = λ needs core. absurd (other (needs-query c needs));
      carries = record {
        supports = supports;
        covers = if-ok result (λ r h. plain-covers new.state.choices new.supports kb old.state c refusal r other h)
            right;
        propagates = not-sought kb c old.supports old.solver new.solver other;
      };
    }

-- a command that is refused by a kept core
pub refusal-replies : (kb : Base) (c : Command) (s : SessionState) → IsSolverOf kb s.solver
    → IsRefused kb s.state s.solver c → Replies kb c (Ok reply.Inconsistent) s s
refusal-replies kb c s solver is =
    let query = needs-query c is.query in
    let is-plain = plain kb s.state c query in
    record {
      right = right-refusal kb s.state c is.query is.none;
      after = sym is-plain.2;
      kept = tt;
      prompt = tt;
      kb_same = refl;
      searches = idle kb c s.state.budget (Ok reply.Inconsistent) s.solver s.solver (sym (is-plain.3 s.solver.learnt))
          (sym (is-plain.3 s.solver.cores)) (λ k u. cc) solver;
      refuted = is.core;
      decided = λ needs core. record { answer = refl; solver = refl };
      carries = record {
        supports = nothing-lost kb s.state c s.supports query;
        covers = tt;
        propagates = nothing-sought kb c s.supports s.solver solver;
      };
    }

-- and one of which this cannot be told for want of memory
pub failure-replies : (kb : Base) (c : Command) (s : SessionState) (e : Memory) → IsSolverOf kb s.solver → NeedsModel c
    → Replies kb c (Err e) s s
failure-replies kb c s e solver needs =
    let query = needs-query c needs in
    let is-plain = plain kb s.state c query in
    record {
      right = tt;
      after = tt;
      kept = refl;
      prompt = is-plain.0;
      kb_same = refl;
      searches = idle kb c s.state.budget (Err e) s.solver s.solver (sym (is-plain.3 s.solver.learnt))
          (sym (is-plain.3 s.solver.cores)) tt solver;
      refuted = tt;
      decided = λ needs core. record { answer = tt; solver = refl };
      carries = record {
        supports = nothing-lost kb s.state c s.supports query;
        covers = tt;
        propagates = nothing-sought kb c s.supports s.solver solver;
      };
    }

-- a reply that is to be kept is right in the state that it leaves
pub keeps-right : (c : Command) (r : Reply) (old mid : SessionState)
    → Replies (base_of old.kb) c (Ok r) old mid → IsQuery c → RightReply (base_of mid.kb) mid.state c r
keeps-right c r old mid h query =
    let state : mid.state ≡ old.state = h.after ∙ (plain (base_of old.kb) old.state c query).2 in
    subst (λ (k : Opened). RightReply (base_of k) mid.state c r) (sym h.kb_same)
    (subst (λ (s : State). RightReply (base_of old.kb) s c r) (sym state) h.right)

pub on-ok-map : {A E : Type 0} {P Q : Type 0} (r : Result A E) → (P → Q) → OnOk r P → OnOk r Q
on-ok-map (Ok x) f p = f p
on-ok-map (Err e) f p = tt

kept-last : (answers : List Answered) (c : Command) (r : Reply) → kept_reply answers c ≡ Some r
    → IsKeptLast answers c r
kept-last answers c (reply.Undecided k) e = tt
kept-last answers c r e = e

pub lasts : (old new : List Answered) (c : Command) (r : Reply) → new ≡ with_answer c r old → IsQuery c
    → IsKeptLast new c r
lasts old new c r is query =
    kept-last new c r (subst (λ (ls : List Answered). kept_reply ls c ≡ Some r) (sym is) (last_is_kept c r old query))

pub undecided-last : (answers : List Answered) (c : Command) (r : Reply) → IsUndecided r → IsKeptLast answers c r
undecided-last answers c (reply.Undecided k) h = tt
undecided-last answers c r h = absurd h

pub is-decided : (r : Reply) → (IsUndecided r → ⊥) → (k : ℕ) → r ≡ reply.Undecided k → ⊥
is-decided r h k e = h (subst IsUndecided (sym e) tt)

-- the answers once one more was kept, or could not be
pub answers-after : (kb : Base) (s : State) (ks : List Kept) (solver : SolveState) (old new : List Answered)
    (c : Command) (r : Reply) {A : Type 0} (result : Result A Memory) → OnOk result (new ≡ with_answer c r old)
    → OnErr result (new ≡ without_kind c old) → IsKeptAnswer kb s ks solver (record { query = c; reply = r })
    → All (IsKeptAnswer kb s ks solver) old → All (IsKeptAnswer kb s ks solver) new
answers-after kb s ks solver old new c r (Ok x) is lost one all =
    subst (All (IsKeptAnswer kb s ks solver)) (sym is) (answers-grow kb s ks solver old c r all one)
answers-after kb s ks solver old new c r (Err e) is lost one all =
    subst (All (IsKeptAnswer kb s ks solver)) (sym lost)
    (All-filter (λ (a : Answered). not (same_kind a.query c)) (IsKeptAnswer kb s ks solver) old all)
