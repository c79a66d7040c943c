-- A clause is fresh by some closed literals in force exactly where unit propagation leaves it so.
use Rattle.std.proofs.Common.{List, [], ◌∷◌, ◌++◌, sym, ap, subst, ◌∙◌, inl, inr, ⊎_elim, All, Contains, get_or}
use Rattle.std.proofs.lemmas.List.{append_assoc, append-nil}
use Rattle.std.proofs.lemmas.List.Elements.{All-contains, All-push, Contains-append_left, Contains-push_cases}
use Rattle.std.proofs.lemmas.List.Elements.{Contains-get_or}
use Rattle.lit_core.specs.declared.literals.Lit.{Lit}
use Rattle.lit_core.specs.Literals.{negated}
use Rattle.lit_core.specs.Refutation.{IsOpenUnder, IsUnitUnder}
use Rattle.lit_core.specs.Freshness.{IsConsistent, IsClosedUnder, IsFreshAt, Derives, AreOthersNegated, StaysOpenAt}
use Rattle.lit_core.specs.Laws.{FreshAgainstFewer}
use Rattle.lit_core.proofs.LiteralFacts.{decide_literal, decide_member, negated-negated, negated-differs}
use Rattle.lit_core.proofs.LiteralFacts.{Contains-cons_cases, Contains-head, Contains-tail, nothing_in_none}
use Rattle.lit_core.proofs.Closure.{closure}

-- what is given stays within closed literals in force
module _ (clauses : List (List Lit)) (closed_by : List Lit) (closed : IsClosedUnder clauses closed_by) where
  false_within : (inforce : List Lit) → All (Contains closed_by) inforce → (m : Lit) → Contains inforce m
      → Contains closed_by m
  false_within inforce within m h = All-contains (Contains closed_by) inforce m within h

  given_within : (inforce : List Lit) → All (Contains closed_by) inforce → (c : List Lit) → Contains clauses c
      → (l : Lit) → IsUnitUnder inforce c l → Contains closed_by l
  given_within inforce within c h l u =
      ⊎_elim
      (λ has. has)
      (λ not_l. ⊎_elim
      (λ no. absurd (closed.no_false c h (λ k d lt. ⊎_elim (λ e. subst (λ (x : Lit). Contains closed_by (negated x))
      (sym e) no) (λ n. false_within inforce within (negated (get_or c k d)) n) (u.others k d lt))))
      (λ not_no. absurd (closed.no_unit c l h (record {
        member = u.member;
        opened = (not_l, not_no);
        others = λ k d lt. ⊎_elim (λ e. inl e) (λ n. inr (false_within inforce within (negated (get_or c k d)) n))
            (u.others k d lt);
      })))
      (decide_member closed_by (negated l)))
      (decide_member closed_by l)

  all_within : (inforce given : List Lit) → All (Contains closed_by) inforce → Derives clauses inforce given
      → All (Contains closed_by) (inforce ++ given)
  all_within inforce [] within d = subst (All (Contains closed_by)) (sym (append-nil inforce)) within
  all_within inforce (l ∷ ls) within d =
      let here = given_within inforce within d.0.0 d.0.1 l d.0.2 in
      subst (All (Contains closed_by)) (append_assoc inforce (l ∷ []) ls)
      (all_within (inforce ++ l ∷ []) ls (All-push (Contains closed_by) inforce l within here) d.1)

-- the negations of a clause's literals other than one
others_negated : (c : List Lit) (l : Lit) → (others : List Lit) × AreOthersNegated c l others
others_negated [] l = (
  [],
  record {
    from = λ m h. absurd (nothing_in_none m h);
    all =
        λ k h. absurd (nothing_in_none k h);
  },
)
others_negated (x ∷ c) l =
    let r = others_negated c l in
    ⊎_elim
    (λ e. (
      r.0,
      record {
        from = λ m h. let w = r.1.from m h in (w.0, Contains-tail x c w.0 w.1, w.2, w.3);
        all = λ k h. ⊎_elim (λ f. inl (sym f ∙ e)) (λ rest. r.1.all k rest) (Contains-cons_cases x c k h);
      },
    ))
    (λ n. (
      negated x ∷ r.0,
      record {
        from = λ m h. ⊎_elim
            (λ f. (x, Contains-head x c, n, sym f))
            (λ rest. let w = r.1.from m rest in (w.0, Contains-tail x c w.0 w.1, w.2, w.3))
            (Contains-cons_cases (negated x) r.0 m h);
        all = λ k h. ⊎_elim
            (λ f. inr (subst (λ (y : Lit). Contains (negated x ∷ r.0) (negated y)) f (Contains-head (negated x) r.0)))
            (λ rest. ⊎_elim (λ e. inl e) (λ has. inr (Contains-tail (negated x) r.0 (negated k) has)) (r.1.all k rest))
            (Contains-cons_cases x c k h);
      },
    ))
    (decide_literal x l)

pub stays_open-from_fresh : (clauses : List (List Lit)) (c : List Lit) (l : Lit) → IsFreshAt clauses c l
    → StaysOpenAt clauses c l
stays_open-from_fresh clauses c l f =
    let r = others_negated c l in
    let within_one : (m : Lit) → Contains r.0 m → Contains f.inforce m = λ m h. (
    let w = r.1.from m h in
    ⊎_elim (λ e. absurd (w.2 e)) (λ has. subst (λ (x : Lit). Contains f.inforce x) (sym w.3) has) (f.others w.0 w.1)) in
    let within : All (Contains f.inforce) r.0 = λ k d lt. within_one (get_or r.0 k d) (Contains-get_or r.0 k d lt) in
    let all : (given : List Lit) → Derives clauses r.0 given → (m : Lit) → Contains (r.0 ++ given) m
    → Contains f.inforce m =
    λ given d m h. All-contains (Contains f.inforce) (r.0 ++ given) m
    (all_within clauses f.inforce f.closed r.0 given within d) h in
    record {
      member = f.member;
      others = r.0;
      negated_others = r.1;
      consistent = λ m h n. f.consistent m (within_one m h) (within_one (negated m) n);
      no_conflict = λ given d e h no. f.closed.no_false e h (λ k x lt. all given d (negated (get_or e k x))
          (no k x lt));
      no_value = λ given d. (λ h. f.opened.0 (all given d l h), λ h. f.opened.1 (all given d (negated l) h));
    }

consistent_more : (inforce : List Lit) (l : Lit) → IsConsistent inforce → IsOpenUnder inforce l
    → IsConsistent (inforce ++ l ∷ [])
consistent_more inforce l consistent o m h n =
    ⊎_elim
    (λ here. ⊎_elim
    (λ there. consistent m here there)
    (λ e. o.1 (subst (λ (x : Lit). Contains inforce x) (sym (negated-negated m) ∙ ap negated (sym e)) here))
    (Contains-push_cases inforce l (negated m) n))
    (λ f. ⊎_elim
    (λ there. o.1 (subst (λ (x : Lit). Contains inforce (negated x)) (sym f) there))
    (λ e. negated-differs m (sym f ∙ e))
    (Contains-push_cases inforce l (negated m) n))
    (Contains-push_cases inforce l m h)

consistent_all : (clauses : List (List Lit)) (inforce given : List Lit) → IsConsistent inforce
    → Derives clauses inforce given → IsConsistent (inforce ++ given)
consistent_all clauses inforce [] consistent d = subst IsConsistent (sym (append-nil inforce)) consistent
consistent_all clauses inforce (l ∷ ls) consistent d =
    subst IsConsistent (append_assoc inforce (l ∷ []) ls) (consistent_all clauses (inforce ++ l ∷ []) ls
    (consistent_more inforce l consistent d.0.2.opened) d.1)

pub fresh-from_stays_open : (clauses : List (List Lit)) (c : List Lit) (l : Lit) → StaysOpenAt clauses c l
    → IsFreshAt clauses c l
fresh-from_stays_open clauses c l s =
    let r = closure clauses s.others in
    record {
      member = s.member;
      inforce = s.others ++ r.0;
      consistent = consistent_all clauses s.others r.0 s.consistent r.1;
      others = λ k h. ⊎_elim (λ e. inl e) (λ n. inr (Contains-append_left s.others r.0 (negated k) n))
          (s.negated_others.all k h);
      closed = record { no_false = λ d h no. s.no_conflict r.0 r.1 d h no; no_unit = λ d m h u. r.2 d m h u };
      opened = s.no_value r.0 r.1;
    }

-- what is fresh against clauses is fresh against fewer of them: the same literals in force serve
pub fresh-fewer : FreshAgainstFewer
fresh-fewer more fewer c f among = (
  f.0,
  record {
    member = f.1.member;
    inforce = f.1.inforce;
    consistent = f.1.consistent;
    others = f.1.others;
    closed = record {
      no_false = λ d in_ h. f.1.closed.no_false d (among d in_) h;
      no_unit = λ d l in_ h. f.1.closed.no_unit d l (among d in_) h;
    };
    opened = f.1.opened;
  },
)
