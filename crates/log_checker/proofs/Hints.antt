-- How hints are followed.
use Rattle.std.proofs.Common.{◌≡◌, ℕ, ◌+◌, ◌-◌, ◌<◌, ◌≤◌, true, false, List, [], ◌∷◌, ◌++◌, take, drop, length, get_or}
use Rattle.std.proofs.Common.{refl, sym, ap, ◌∙◌, subst, inl, inr, ⊎_elim, arith, Contains, ◌⊎◌, Some, None, Option}
use Rattle.std.specs.Prelude.{slice_get}
use Rattle.std.proofs.lemmas.List.{length-drop, drop_more, take_more, take_all, drop_all, take-append-drop}
use Rattle.std.proofs.lemmas.List.Elements.{All-contains, All-push, All-weaker, Contains-get_or, Contains-append_left}
use Rattle.std.proofs.lemmas.List.Elements.{Contains-push}
use Rattle.lit_core.specs.declared.literals.Lit.{Lit}
use Rattle.lit_core.specs.Literals.{negated}
use Rattle.lit_core.specs.Refutation.{IsFalseUnder, IsUnitUnder, IsOpenUnder, RefutesInOrder}
use Rattle.derivation_log.specs.Steps.{AreNumbered}
use Rattle.derivation_log.proofs.Loops.{unit-only, refutes-on}
use Rattle.log_checker.specs.declared.refuting.Seen.TheVariants.{AllFalse, One, Neither}
use Rattle.log_checker.specs.declared.literal_sets.LiteralSet.{LiteralSet}
use Rattle.log_checker.specs.Sets.{has, IsMarked}
use Rattle.log_checker.specs.Refuting.{IsSeen, IsOpen, IsNamed, RefutesFrom}

falsehood : true ≡ false → ⊥
falsehood e = cc

module _ (s : LiteralSet) (ls : List Lit) (h : IsMarked s ls) where
  in-force : (l : Lit) → has s l ≡ true → Contains ls l
  in-force l e = h.only l e

  out-of-force : (l : Lit) → has s l ≡ false → Contains ls l → ⊥
  out-of-force l e is = falsehood (sym (h.each l is) ∙ e)

  open-more : (c : List Lit) (d : Lit) (o : Option Lit) → has s (negated d) ≡ true → IsOpen ls c o
      → IsOpen ls (c ++ d ∷ []) o
  open-more c d None e k = All-push (λ m. Contains ls (negated m)) c d k (in-force (negated d) e)
  open-more c d (Some l) e k = record {
    member = Contains-append_left c (d ∷ []) l k.member;
    opened = k.opened;
    others = All-push (λ m. (m ≡ l) ⊎ Contains ls (negated m)) c d k.others (inr (in-force (negated d) e));
  }

  is-open : (d : Lit) → has s (negated d) ≡ false → has s d ≡ false → IsOpenUnder ls d
  is-open d e f = (out-of-force d f, out-of-force (negated d) e)

  open-new : (c : List Lit) (d : Lit) (o : Option Lit) → has s (negated d) ≡ false → has s d ≡ false
      → ((l : Lit) → o ≡ Some l → l ≡ d) → IsOpen ls c o → IsUnitUnder ls (c ++ d ∷ []) d
  open-new c d None e f same k = record {
    member = Contains-push c d;
    opened = is-open d e f;
    others = All-push (λ m. (m ≡ d) ⊎ Contains ls (negated m)) c d
        (All-weaker (λ m. Contains ls (negated m)) (λ m. (m ≡ d) ⊎ Contains ls (negated m)) (λ m x. inr x) c k)
        (inl refl);
  }
  open-new c d (Some l) e f same k =
      let is : l ≡ d = same l refl in
      record {
        member = Contains-push c d;
        opened = is-open d e f;
        others = All-push (λ m. (m ≡ d) ⊎ Contains ls (negated m)) c d
            (All-weaker (λ m. (m ≡ l) ⊎ Contains ls (negated m)) (λ m. (m ≡ d) ⊎ Contains ls (negated m))
            (λ m x. ⊎_elim (λ y. inl (y ∙ is)) (λ y. inr y) x) c k.others) (inl refl);
      }

  -- a literal of the clause that is in force, with its negation not
  neither-true : (c : List Lit) (d : Lit) → Contains c d → has s (negated d) ≡ false → has s d ≡ true
      → IsSeen ls c Neither
  neither-true c d is e f = (
    λ k. out-of-force (negated d) e (All-contains (λ m. Contains ls (negated m)) c d k is),
    λ l u. ⊎_elim (λ y. u.opened.0 (subst (Contains ls) y (in-force d f))) (λ y. out-of-force (negated d) e y)
        (All-contains (λ m. (m ≡ l) ⊎ Contains ls (negated m)) c d u.others is),
  )

  -- two open literals
  neither-two : (c : List Lit) (d o : Lit) → Contains c d → Contains c o → has s (negated d) ≡ false → has s d ≡ false
      → IsOpenUnder ls o → (o ≡ d → ⊥) → IsSeen ls c Neither
  neither-two c d o is has-o e f free apart = (
    λ k. out-of-force (negated d) e (All-contains (λ m. Contains ls (negated m)) c d k is),
    λ l u. apart (unit-only ls c l o u has-o free ∙ sym (unit-only ls c l d u is (is-open d e f))),
  )

  module _ (c : List Lit) (i : ℕ) (x d : Lit) (lt : i < length c) (is : get_or c i x ≡ d) where
    grown : take (i + 1) c ≡ take i c ++ d ∷ []
    grown = take_more c i x lt ∙ ap (λ k. take i c ++ k ∷ []) is

    inside : Contains c d
    inside = subst (Contains c) is (Contains-get_or c i x lt)

    pub more-false : (o : Option Lit) → has s (negated d) ≡ true → IsOpen ls (take i c) o → IsOpen ls (take (i + 1) c) o
    more-false o e k = subst (λ y. IsOpen ls y o) (sym grown) (open-more (take i c) d o e k)

    pub more-open : (o : Option Lit) → has s (negated d) ≡ false → has s d ≡ false → ((l : Lit) → o ≡ Some l → l ≡ d)
        → IsOpen ls (take i c) o → IsOpen ls (take (i + 1) c) (Some d)
    more-open o e f same k = subst (λ y. IsUnitUnder ls y d) (sym grown) (open-new (take i c) d o e f same k)

    pub stop-true : has s (negated d) ≡ false → has s d ≡ true → IsSeen ls c Neither
    stop-true e f = neither-true c d inside e f

    pub stop-two : (o : Lit) → has s (negated d) ≡ false → has s d ≡ false → (o ≡ d → ⊥) → IsOpen ls (take i c) (Some o)
        → IsSeen ls c Neither
    stop-two o e f apart k = neither-two c d o inside (subst (λ y. Contains y o) (take-append-drop i c)
        (Contains-append_left (take i c) (drop i c) o k.member)) e f k.opened apart

  pub end-false : (c : List Lit) (i : ℕ) → length c ≤ i → IsOpen ls (take i c) None → IsSeen ls c AllFalse
  end-false c i le k = subst (IsFalseUnder ls) (take_all i c le) k

  pub end-one : (c : List Lit) (i : ℕ) (l : Lit) → length c ≤ i → IsOpen ls (take i c) (Some l) → IsSeen ls c (One l)
  end-one c i l le k = subst (λ x. IsUnitUnder ls x l) (take_all i c le) k

some-same : (c d : List Lit) (o : Option (List Lit)) → o ≡ Some c → o ≡ Some d → c ≡ d
some-same c d o e f = cc

module _ (cl : List (List Lit)) (ls : List Lit) (h : ℕ) where
  unit-not-false : (c : List Lit) (l : Lit) → IsUnitUnder ls c l → IsFalseUnder ls c → ⊥
  unit-not-false c l u k = u.opened.1 (All-contains (λ m. Contains ls (negated m)) c l k u.member)

  pub unnamed : ((c : List Lit) → IsNamed cl h c → ⊥) → (hs : List ℕ) → RefutesFrom cl ls (h ∷ hs) → ⊥
  unnamed never hs r = at r.0 r.1
    where
      at : (cs : List (List Lit)) → AreNumbered cl (h ∷ hs) cs → ⊥
      at [] n = n
      at (c ∷ cs) n = never c (n.0, n.1)

  module _ (c : List Lit) (is : IsNamed cl h c) where
    pub false-last : IsFalseUnder ls c → RefutesFrom cl ls (h ∷ [])
    false-last k = (c ∷ [], (is.0, is.1, tt), k)

    pub false-only : IsFalseUnder ls c → (hs : List ℕ) → RefutesFrom cl ls (h ∷ hs) → hs ≡ []
    false-only k hs r = at hs r.0 r.1 r.2
      where
        at : (hs : List ℕ) (cs : List (List Lit)) → AreNumbered cl (h ∷ hs) cs → RefutesInOrder ls cs → hs ≡ []
        at [] cs n r = refl
        at (g ∷ hs) [] n r = absurd n
        at (g ∷ hs) (x ∷ []) n r = absurd n.2
        at (g ∷ hs) (x ∷ d ∷ cs) n r = absurd (unit-not-false c r.0 (subst (λ y. IsUnitUnder ls y r.0)
            (some-same x c (slice_get cl (h - 1)) n.1 is.1) r.1) k)

    pub neither-refutes : IsSeen ls c Neither → (hs : List ℕ) → RefutesFrom cl ls (h ∷ hs) → ⊥
    neither-refutes k hs r = at r.0 r.1 r.2
      where
        at : (cs : List (List Lit)) → AreNumbered cl (h ∷ hs) cs → RefutesInOrder ls cs → ⊥
        at [] n r = n
        at (x ∷ []) n r = k.0 (subst (IsFalseUnder ls) (some-same x c (slice_get cl (h - 1)) n.1 is.1) r)
        at (x ∷ d ∷ cs) n r =
            k.1 r.0 (subst (λ y. IsUnitUnder ls y r.0) (some-same x c (slice_get cl (h - 1)) n.1 is.1) r.1)

    pub unit-on : (l : Lit) → IsUnitUnder ls c l → (hs : List ℕ) → RefutesFrom cl ls (h ∷ hs)
        → RefutesFrom cl (ls ++ l ∷ []) hs
    unit-on l u hs r = at hs r.0 r.1 r.2
      where
        at : (hs : List ℕ) (cs : List (List Lit)) → AreNumbered cl (h ∷ hs) cs → RefutesInOrder ls cs
            → RefutesFrom cl (ls ++ l ∷ []) hs
        at hs [] n r = absurd n
        at [] (x ∷ []) n r =
            absurd (unit-not-false c l u (subst (IsFalseUnder ls) (some-same x c (slice_get cl (h - 1)) n.1 is.1) r))
        at (g ∷ hs) (x ∷ []) n r = absurd n.2
        at [] (x ∷ d ∷ cs) n r = absurd n.2
        at (g ∷ hs) (x ∷ d ∷ cs) n r = (
          d ∷ cs,
          n.2,
          refutes-on ls x d cs l (subst (λ y. IsUnitUnder ls y l)
              (sym (some-same x c (slice_get cl (h - 1)) n.1 is.1)) u) r,
        )

    pub unit-back : (l : Lit) → IsUnitUnder ls c l → (hs : List ℕ) → RefutesFrom cl (ls ++ l ∷ []) hs
        → RefutesFrom cl ls (h ∷ hs)
    unit-back l u hs r = at hs r.0 r.1 r.2
      where
        at : (hs : List ℕ) (cs : List (List Lit)) → AreNumbered cl hs cs → RefutesInOrder (ls ++ l ∷ []) cs
            → RefutesFrom cl ls (h ∷ hs)
        at [] [] n r = absurd r
        at [] (d ∷ cs) n r = absurd n
        at (g ∷ hs) [] n r = absurd n
        at (g ∷ hs) (d ∷ cs) n r = (c ∷ d ∷ cs, (is.0, is.1, n), (l, u, r))

-- the same at a place of the hints
module _ (cl : List (List Lit)) (ls : List Lit) (hs : List ℕ) (i : ℕ) (lt : i < length hs) where
  abbrev number : ℕ
  number = get_or hs i 0

  here : drop i hs ≡ number ∷ drop (i + 1) hs
  here = drop_more hs i 0 lt

  pub at-unnamed : ((c : List Lit) → IsNamed cl number c → ⊥) → RefutesFrom cl ls (drop i hs) → ⊥
  at-unnamed never r = unnamed cl ls number never (drop (i + 1) hs) (subst (RefutesFrom cl ls) here r)

  module _ (c : List Lit) (is : IsNamed cl number c) where
    pub at-neither : IsSeen ls c Neither → RefutesFrom cl ls (drop i hs) → ⊥
    at-neither k r = neither-refutes cl ls number c is k (drop (i + 1) hs) (subst (RefutesFrom cl ls) here r)

    pub at-false-last : IsFalseUnder ls c → i + 1 ≡ length hs → RefutesFrom cl ls (drop i hs)
    at-false-last k e =
        subst (RefutesFrom cl ls) (ap (λ r. number ∷ r) (sym (drop_all (i + 1) hs (omega (arith, e)))) ∙ sym here)
        (false-last cl ls number c is k)

    pub at-false-only : IsFalseUnder ls c → RefutesFrom cl ls (drop i hs) → i + 1 ≡ length hs
    at-false-only k r =
        let none : drop (i + 1) hs ≡ [] = false-only cl ls number c is k (drop (i + 1) hs)
        (subst (RefutesFrom cl ls) here r) in
        let len = ap length none in
        omega (arith, len, length-drop (i + 1) hs, lt)

    pub at-unit : (l : Lit) → IsUnitUnder ls c l → RefutesFrom cl ls (drop i hs)
        → RefutesFrom cl (ls ++ l ∷ []) (drop (i + 1) hs)
    at-unit l u r = unit-on cl ls number c is l u (drop (i + 1) hs) (subst (RefutesFrom cl ls) here r)

    pub at-unit-back : (l : Lit) → IsUnitUnder ls c l → RefutesFrom cl (ls ++ l ∷ []) (drop (i + 1) hs)
        → RefutesFrom cl ls (drop i hs)
    at-unit-back l u r = subst (RefutesFrom cl ls) (sym here) (unit-back cl ls number c is l u (drop (i + 1) hs) r)
