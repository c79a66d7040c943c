-- What is kept of answers.
use Rattle.std.proofs.Common.{◌≡◌, ℕ, Bool, true, false, not, if◌then◌else◌, cond, Option, Some, None, List, [], ◌∷◌}
use Rattle.std.proofs.Common.{◌++◌, Contains, filter, refl, sym, ◌∙◌, ap, subst, inl, inr}
use Rattle.std.proofs.lemmas.Bool.{cases_Bool, eqb-true, eq-eqb, false≢true, true≢false}
use Rattle.kb_logic.proofs.Members.{first, later}
use Rattle.kb_logic.specs.declared.structures.Literal.{Literal}
use Rattle.consult_text.specs.declared.commands.Command.{Command}
use Rattle.consult_text.specs.declared.commands.Command.TheVariants as command
use Rattle.consult_text.specs.declared.replies.Reply.{Reply}
use Rattle.consult_text.specs.Replies.{IsQuery}
use Rattle.kept_answers.specs.declared.answers.Answered.{Answered}
use Rattle.kept_answers.specs.Answers.{same_kind, same_query, kept_reply, without_kind, with_answer}
use Rattle.kept_answers.specs.Laws.{SameQueryIsEquality, LastIsKept, KeptIsThere}
use Rattle.kept_answers.proofs.LiteralLemmas.{same_literal_decides}

query-is : (a b : Command) → same_query a b ≡ true → IsQuery a × (a ≡ b)
query-is command.Model command.Model e = (tt, refl)
query-is (command.Models n) (command.Models m) e = (tt, ap (λ (k : ℕ). command.Models k) (eqb-true n m e))
query-is command.Propagate command.Propagate e = (tt, refl)
query-is (command.Minimize t) (command.Minimize u) e = (tt, ap (λ (k : ℕ). command.Minimize k) (eqb-true t u e))
query-is (command.Explain l) (command.Explain k) e =
    (tt, ap (λ (x : Literal). command.Explain x) ((same_literal_decides l k).0 e))
query-is command.Why command.Why e = (tt, refl)
query-is _ _ e = absurd (false≢true e)

query-itself : (a : Command) → IsQuery a → same_query a a ≡ true
query-itself command.Model h = refl
query-itself (command.Models n) h = eq-eqb n n refl
query-itself command.Propagate h = refl
query-itself (command.Minimize t) h = eq-eqb t t refl
query-itself (command.Explain l) h = (same_literal_decides l l).1 refl
query-itself command.Why h = refl
query-itself _ h = absurd h

pub same_query_is_equality : SameQueryIsEquality
same_query_is_equality a b =
    (query-is a b, λ h. subst (λ (c : Command). same_query a c ≡ true) h.1 (query-itself a h.0))

kind-itself : (a : Command) → IsQuery a → same_kind a a ≡ true
kind-itself command.Model h = refl
kind-itself (command.Models n) h = refl
kind-itself command.Propagate h = refl
kind-itself (command.Minimize t) h = refl
kind-itself (command.Explain l) h = refl
kind-itself command.Why h = refl
kind-itself _ h = absurd h

-- what is not of the kind is not the query
other-query : (a c : Command) → same_kind a c ≡ false → same_query a c ≡ false
other-query a c other = elim (cases_Bool (same_query a c)) [
  | inl same ↦
      let is = query-is a c same in
      absurd (false≢true (sym other ∙ subst (λ (d : Command). same_kind a d ≡ true) is.1 (kind-itself a is.0)))
  | inr off ↦ off
]

passed-one : (a : Answered) (answers rest : List Answered) (c : Command) (b : Bool) → same_kind a.query c ≡ b
    → kept_reply (without_kind c answers ++ rest) c ≡ kept_reply rest c
    → kept_reply (cond (not b) (a ∷ without_kind c answers) (without_kind c answers) ++ rest) c ≡ kept_reply rest c
passed-one a answers rest c true e more = more
passed-one a answers rest c false e more =
    ap (λ (b : Bool). if b then Some a.reply else kept_reply (without_kind c answers ++ rest) c)
    (other-query a.query c e) ∙ more

passed-by : (answers rest : List Answered) (c : Command)
    → kept_reply (without_kind c answers ++ rest) c ≡ kept_reply rest c
passed-by [] rest c = refl
passed-by (a ∷ answers) rest c = passed-one a answers rest c (same_kind a.query c) refl (passed-by answers rest c)

pub last_is_kept : LastIsKept
last_is_kept c r answers query =
    passed-by answers (record { query = c; reply = r } ∷ []) c
    ∙ ap (λ (b : Bool). if b then Some r else None) (query-itself c query)

some-same : {A : Type 0} (x y : A) → Some x ≡ Some y → x ≡ y
some-same x y e = cc

abbrev IsThere : List Answered → Command → Reply → Type 0
IsThere answers c r = (x : Answered) × Contains answers x × (x.query ≡ c) × (x.reply ≡ r)

there-at : (a : Answered) (answers : List Answered) (c : Command) (r : Reply) (b : Bool) → same_query a.query c ≡ b
    → (kept_reply answers c ≡ Some r → IsThere answers c r)
    → (if b then Some a.reply else kept_reply answers c) ≡ Some r → IsThere (a ∷ answers) c r
there-at a answers c r true same more is =
    (a, first a answers, (query-is a.query c same).1, some-same a.reply r is)
there-at a answers c r false other more is = let x = more is in (x.0, later a x.0 answers x.1, x.2, x.3)

pub kept_is_there : KeptIsThere
kept_is_there [] c r e = cc
kept_is_there (a ∷ answers) c r e =
    there-at a answers c r (same_query a.query c) refl (λ is. kept_is_there answers c r is) e

query-at : (a : Answered) (answers : List Answered) (c : Command) (r : Reply) (b : Bool) → same_query a.query c ≡ b
    → (kept_reply answers c ≡ Some r → IsQuery c)
    → (if b then Some a.reply else kept_reply answers c) ≡ Some r → IsQuery c
query-at a answers c r true same more is = let q = query-is a.query c same in subst IsQuery q.1 q.0
query-at a answers c r false other more is = more is

-- only of queries something is kept
pub kept-query : (answers : List Answered) (c : Command) (r : Reply) → kept_reply answers c ≡ Some r → IsQuery c
kept-query [] c r e = cc
kept-query (a ∷ answers) c r e =
    query-at a answers c r (same_query a.query c) refl (λ is. kept-query answers c r is) e
