-- Sets of near and of far places, as one.
use Rattle.std.proofs.Common.{◌≡◌, ℕ, ◌<◌, ◌≤◌, List, [], ◌∷◌, ◌++◌, refl, sym, ap, ◌∙◌, ◌⊎◌, inl, inr, ⊎_elim, arith}
use Rattle.std.proofs.Common.{subst, Contains, Result, Ok, Err, OnOk, IfNone, IfSome, Option, Some, None}
use Rattle.std.proofs.lemmas.List.{append_assoc, append-nil}
use Rattle.std.proofs.lemmas.List.Elements.{Contains-append_left, Contains-append_right, Contains-append_cases}
use Rattle.lit_core.proofs.LiteralFacts.{nothing_in_none}
use Rattle.conflict_analysis.specs.Marked.{AreApart, HasAsLast, Inserts, PopsLast}

pub on-ok : {A E : Type 0} (r : Result A E) (P Q : Type 0) → (P → Q) → OnOk r P → OnOk r Q
on-ok (Ok a) P Q f h = f h
on-ok (Err e) P Q f h = tt

module _ (near far : List ℕ) (apart : AreApart near far) where
  pub joined-near : (k : ℕ) → k < 65536 → Contains (near ++ far) k → Contains near k
  joined-near k lt has = ⊎_elim (λ n. n) (λ f. let high : 65536 ≤ k = apart.high k f in absurd (omega (
    arith,
    lt,
    high,
  )))
      (Contains-append_cases near far k has)

  pub joined-far : (k : ℕ) → 65536 ≤ k → Contains (near ++ far) k → Contains far k
  joined-far k le has = ⊎_elim (λ n. let low : k < 65536 = apart.low k n in absurd (omega (arith, le, low))) (λ f. f)
      (Contains-append_cases near far k has)

  -- the last far place is the last one
  pub joined-last : (k : ℕ) → HasAsLast far k → HasAsLast (near ++ far) k
  joined-last k last = record {
    has = Contains-append_right near far k last.has;
    most = λ j has. ⊎_elim
        (λ n. let low : j < 65536 = apart.low j n in let high : 65536 ≤ k = apart.high k last.has in
        omega (arith, low, high))
        (λ f. last.most j f)
        (Contains-append_cases near far j has);
  }

  pub joined-insert-near : (place : ℕ) (more : List ℕ) → Inserts near place more → Inserts (near ++ far) place
      (more ++ far)
  joined-insert-near place more i = record {
    kept = λ k has. ⊎_elim (λ n. Contains-append_left more far k (i.kept k n)) (λ f. Contains-append_right more far k f)
        (Contains-append_cases near far k has);
    has = Contains-append_left more far place i.has;
    from = λ k has. ⊎_elim
        (λ n. ⊎_elim (λ o. inl (Contains-append_left near far k o)) (λ e. inr e) (i.from k n))
        (λ f. inl (Contains-append_right near far k f))
        (Contains-append_cases more far k has);
  }

  pub joined-insert-far : (place : ℕ) (more : List ℕ) → Inserts far place more → Inserts (near ++ far) place (near
      ++ more)
  joined-insert-far place more i = record {
    kept = λ k has. ⊎_elim (λ n. Contains-append_left near more k n) (λ f. Contains-append_right near more k
        (i.kept k f))
        (Contains-append_cases near far k has);
    has = Contains-append_right near more place i.has;
    from = λ k has. ⊎_elim
        (λ n. inl (Contains-append_left near far k n))
        (λ f. ⊎_elim (λ o. inl (Contains-append_right near far k o)) (λ e. inr e) (i.from k f))
        (Contains-append_cases near more k has);
  }

  pub joined-pop-far : (place : ℕ) (less : List ℕ) → PopsLast far place less → PopsLast (near ++ far) place (near
      ++ less)
  joined-pop-far place less p =
      let has : Contains far place = subst (λ (ks : List ℕ). Contains ks place) (sym p.split)
      (Contains-append_right less (place ∷ []) place (0, omega arith, refl)) in
      let high : 65536 ≤ place = apart.high place has in
      record {
        split = ap (λ (ks : List ℕ). near ++ ks) p.split ∙ sym (append_assoc near less (place ∷ []));
        below = λ k h. ⊎_elim
            (λ n. let low : k < 65536 = apart.low k n in omega (arith, low, high))
            (λ f. p.below k f)
            (Contains-append_cases near less k h);
      }

  pub apart-near : (more : List ℕ) → ((k : ℕ) → Contains more k → Contains near k ⊎ (k < 65536)) → AreApart more far
  apart-near more from = record {
    low = λ k h. ⊎_elim (λ o. apart.low k o) (λ lt. lt) (from k h);
    high = apart.high;
  }

  pub apart-far : (more : List ℕ) → ((k : ℕ) → Contains more k → Contains far k ⊎ (65536 ≤ k)) → AreApart near more
  apart-far more from = record {
    low = apart.low;
    high = λ k h. ⊎_elim (λ o. apart.high k o) (λ le. le) (from k h);
  }

-- places are only taken off
pub apart-popped : (o : Option ℕ) (near less far none : List ℕ) → AreApart near far
    → IfNone o ((near ≡ []) × (less ≡ near)) → IfSome o (λ p. PopsLast near p less) → none ≡ [] → AreApart less none
apart-popped o near less far none apart if_none if_some e = record {
  low = λ k h. apart.low k (kept o if_none if_some k h);
  high = λ k h. absurd (nothing_in_none k (subst (λ (ks : List ℕ). Contains ks k) e h));
}
  where
    kept : (q : Option ℕ) → IfNone q ((near ≡ []) × (less ≡ near)) → IfSome q (λ p. PopsLast near p less) → (k : ℕ)
        → Contains less k → Contains near k
    kept None n s k h = subst (λ (ks : List ℕ). Contains ks k) n.1 h
    kept (Some p) n s k h = subst (λ (ks : List ℕ). Contains ks k) (sym s.split) (Contains-append_left less (p ∷
        []) k h)
