-- Literals decided one after another.
use Rattle.std.proofs.Common.{◌≡◌, ℕ, ◌+◌, ◌<◌, ◌≤◌, Bool, true, false, not, List, [], ◌∷◌, ◌++◌, map, take, length}
use Rattle.std.proofs.Common.{get_or, All, Contains, eqb, refl, sym, ap, ◌∙◌, subst, arith, inl, inr, ◌⊎◌, ⊎_elim}
use Rattle.std.specs.List.{Any, IsDistinct}
use Rattle.std.proofs.lemmas.List.{take_more, length-append, map_push, take_all}
use Rattle.std.proofs.lemmas.List.Elements.{All-nil, All-push, All-contains, All-contains_itself, Contains-push_cases}
use Rattle.std.proofs.lemmas.List.Quantifiers.{Any-push}
use Rattle.kb_logic.proofs.Members.{first, member_cases, none_in}
use Rattle.lit_core.specs.declared.literals.Lit.{Lit}
use Rattle.lit_core.specs.Literals.{valuation, literal_value, negated}
use Rattle.lit_core.proofs.LiteralFacts.{same_literal, negated-negated}
use Rattle.lit_core.proofs.Soundness.{value-negated}
use Rattle.ground_core.specs.declared.solving.Budget.{Budget}
use Rattle.ground_core.specs.Problems.{ProblemState, IsLitOf, AreLitsOf}
use Rattle.ground_core.specs.Solving.{SolveState, IsSublist, IsPrefix, IsBudgetOf, AreUnretired, IsKept, IsLive}
use Rattle.ground_core.specs.Calls.{Keeps, Counts, CountsUpTo, Stays}
use Rattle.ground_core.proofs.Locals.{literal-local}
use Rattle.ground_core.proofs.CoreFacts.{any-left, still-shown}
use Rattle.ground_core.proofs.CallFacts.{none-yet, stays-twice, keeps-none, keeps-twice, counts-twice}
use Rattle.consequences.specs.declared.kept.Kept.{Kept}
use Rattle.model_search.specs.Models.{IsLeft}
use Rattle.consequences.specs.Forced.{IsForced, IsFree, KeepsOne, FindsOne, Decides, IsFalseInAny, IsFalseInSeen}
use Rattle.consequences.specs.Forced.{IsSettled, IsOpen, IsSeen, Searches, AreForced}
use Rattle.consequences.specs.Indexed.{IsSetOf}
use Rattle.consequences.proofs.Numbers.{distinct-nil, distinct-more, no-more}

sublist-right : (xs ys : List Lit) (z : Lit) → IsSublist xs ys → IsSublist xs (ys ++ z ∷ [])
sublist-right [] ys z s = tt
sublist-right (x ∷ xs) [] z s = absurd s
sublist-right (x ∷ xs) (y ∷ ys) z s = ⊎_elim
    (λ h. inl (h.0, sublist-right xs ys z h.1))
    (λ h. inr (sublist-right (x ∷ xs) ys z h))
    s

sublist-both : (xs ys : List Lit) (z : Lit) → IsSublist xs ys → IsSublist (xs ++ z ∷ []) (ys ++ z ∷ [])
sublist-both [] [] z s = inl (refl, tt)
sublist-both [] (y ∷ ys) z s = inr (sublist-both [] ys z tt)
sublist-both (x ∷ xs) [] z s = absurd s
sublist-both (x ∷ xs) (y ∷ ys) z s = ⊎_elim
    (λ h. inl (h.0, sublist-both xs ys z h.1))
    (λ h. inr (sublist-both (x ∷ xs) ys z h))
    s

still-forced : (p : ProblemState) (assumed : List Lit) (before after : List (List Lit)) (k : Kept)
    → IsPrefix before after → IsForced p assumed before k → IsForced p assumed after k
still-forced p assumed before after k more h = record {
  among = h.among;
  forces = h.forces;
  shown = ⊎_elim (λ core. inl (still-shown before after (k.support ++ negated k.lit ∷ []) more core)) (λ is. inr is)
      h.shown;
}

-- a list of an item of another one is a sublist of that
alone : (xs : List Lit) (x : Lit) → Contains xs x → IsSublist (x ∷ []) xs
alone [] x has = absurd (none_in x has)
alone (y ∷ ys) x has = ⊎_elim (λ e. inl (sym e, tt)) (λ more. inr (alone ys x more)) (member_cases y x ys has)

-- a literal that is assumed is forced by itself
forced-itself : (p : ProblemState) (assumed : List Lit) (cores : List (List Lit)) (k : Kept) → Contains assumed k.lit
    → k.support ≡ k.lit ∷ [] → IsForced p assumed cores k
forced-itself p assumed cores k has is = record {
  among = subst (λ (ls : List Lit). IsSublist ls assumed) (sym is) (alone assumed k.lit has);
  forces = λ v s makes. All-contains (λ (l : Lit). literal_value v l ≡ true) k.support k.lit makes
      (subst (λ (ls : List Lit). Contains ls k.lit) (sym is) (first k.lit []));
  shown = inr is;
}

-- and kept as such
pub decides-itself : (p : ProblemState) (assumed hashed : List Lit) (l : Lit) (cores : List (List Lit))
    (ks ks2 : List Kept) (found found2 : List (List Bool)) → IsSetOf hashed assumed → Contains hashed l
    → (k : Kept) × (ks2 ≡ ks ++ k ∷ []) × (k.lit ≡ l) × (k.support ≡ l ∷ []) → found2 ≡ found
    → Decides p assumed l cores ks ks2 found found2
decides-itself p assumed hashed l cores ks ks2 found found2 set has one same =
    let here : Contains assumed one.0.lit = subst (Contains assumed) (sym one.2) ((set l).0 has) in
    let is : one.0.support ≡ one.0.lit ∷ [] = one.3 ∙ ap (λ (x : Lit). x ∷ []) (sym one.2) in
    inl ((one.0, one.1, one.2, forced-itself p assumed cores one.0 here is), same)

-- a literal of the same variable is the literal or its negation
two-signs : (l x : Lit) → l.var.0 ≡ x.var.0 → (l ≡ x) ⊎ (l ≡ negated x)
two-signs l x e = by l.positive x.positive refl refl
  where
    by : (b c : Bool) → l.positive ≡ b → x.positive ≡ c → (l ≡ x) ⊎ (l ≡ negated x)
    by true true f g = inl (same_literal l x e (f ∙ sym g))
    by true false f g = inr (same_literal l (negated x) e (f ∙ sym (ap not g)))
    by false true f g = inr (same_literal l (negated x) e (f ∙ sym (ap not g)))
    by false false f g = inl (same_literal l x e (f ∙ sym g))

-- a literal that is not false in any has a negation that is
negation-false : (found : List (List Bool)) (x : Lit) → 0 < length found → (IsFalseInAny found x → ⊥)
    → IsFalseInAny found (negated x)
negation-false found x some none =
    let values : List Bool = get_or found 0 [] in
    let here : Contains found values = All-contains_itself found 0 [] some in (
      here.0,
      values,
      here.1,
      here.2,
      value-negated (valuation values) x
          ∙ ap not (step values here (literal_value (valuation values) x) refl),
    )
  where
    step : (values : List Bool) → Contains found values → (b : Bool) → literal_value (valuation values) x ≡ b
        → literal_value (valuation values) x ≡ true
    step values here true e = e
    step values here false e = absurd (none (here.0, values, here.1, here.2, e))

-- what holds between two literals
pub record IsSoFar (assumed ask : List Lit) (atoms : ℕ) (seen : List (List Bool)) (i : ℕ) (ks : List Kept)
    (found : List (List Bool)) (r s : SolveState) (a b : Budget) : Type 0 where
  pub kept : IsKept s
  pub stays : Stays r s
  pub keeps : Keeps r s a b
  pub left : All (IsLeft r.problem assumed) found
  pub some : 0 < length found
  pub order : IsSublist (map (λ (k : Kept). k.lit) ks) (take i ask)
  pub forced : All (IsForced r.problem assumed s.cores) ks
  pub others : All (λ (l : Lit). Any (λ (k : Kept). k.lit ≡ l) ks ⊎ IsFree r.problem assumed l) (take i ask)
  -- the variables of the literals that were searched or kept as assumed
  pub tested : List ℕ
  pub once : IsDistinct eqb tested
  pub wanted : (vs : List ℕ) → Searches vs atoms seen ask → (n : ℕ) → Contains tested n → Contains vs n
  pub settled : (l : Lit) → Contains tested l.var.0 → IsSettled ks found l
  pub count : ℕ
  pub few : count ≤ length tested
  pub counts : Counts r.free count r s a b

none-in-none : {X : Type 0} (x : X) → Contains [] x → ⊥
none-in-none x h = omega (arith, h.1)

pub so-far-begins : (assumed ask : List Lit) (atoms : ℕ) (seen : List (List Bool)) (first : List Bool) (ks : List Kept)
    (found : List (List Bool)) (r : SolveState) (a : Budget) → ks ≡ [] → found ≡ first ∷ [] → IsBudgetOf r.learnt a
    → IsKept r → IsLeft r.problem assumed first → IsSoFar assumed ask atoms seen 0 ks found r r a a
so-far-begins assumed ask atoms seen first ks found r a none one budget kept left = record {
  kept = kept;
  stays = record { problem = refl; additions = refl; free = refl };
  keeps = keeps-none r a budget;
  left = subst (All (IsLeft r.problem assumed)) (sym one) (All-push (IsLeft r.problem assumed) [] first
      (All-nil (IsLeft r.problem assumed)) left);
  some = subst (λ (xs : List (List Bool)). 0 < length xs) (sym one) (omega arith);
  order = subst (λ (xs : List Kept). IsSublist (map (λ (k : Kept). k.lit) xs) []) (sym none) tt;
  forced = subst (All (IsForced r.problem assumed r.cores)) (sym none)
      (All-nil (IsForced r.problem assumed r.cores));
  others = All-nil (λ (l : Lit). Any (λ (k : Kept). k.lit ≡ l) ks ⊎ IsFree r.problem assumed l);
  tested = [];
  once = distinct-nil;
  wanted = λ vs h n has. absurd (none-in-none n has);
  settled = λ l has. absurd (none-in-none l.var.0 has);
  count = 0;
  few = omega arith;
  counts = none-yet r.free r a kept.counted;
}

module _ (assumed ask : List Lit) (atoms : ℕ) (seen : List (List Bool)) (i : ℕ) (d : Lit) (ks : List Kept)
    (found : List (List Bool)) (r s : SolveState) (a b : Budget)
    (h : IsSoFar assumed ask atoms seen i ks found r s a b) where
  abbrev x : Lit
  x = get_or ask i d

  abbrev Told : List Kept → Lit → Type 0
  Told xs l = Any (λ (k : Kept). k.lit ≡ l) xs ⊎ IsFree r.problem assumed l

  pub so-far-budget : IsBudgetOf r.learnt a → IsBudgetOf s.learnt b
  so-far-budget budget = record {
    within = h.keeps.within;
    learned =
        let y : a.spent ≤ length r.learnt = budget.learned in
        let z : a.spent ≤ b.spent = h.keeps.rises in omega (arith, y, z, h.keeps.growth);
  }

  pub so-far-long : (l : Lit) → IsLitOf r.problem.vars l → All (λ (values : List Bool). l.var.0 < length values) found
  so-far-long l within = λ k e lt. let y : r.problem.vars < length (get_or found k e) = (h.left k e lt).0 in
      omega (arith, y, within.1)

  pub so-far-most : (vs : List ℕ) → Searches vs atoms seen ask → CountsUpTo r.free (length vs) r s a b
  so-far-most vs among = (
    h.count,
    let y : length h.tested ≤ length vs = no-more h.tested vs h.once (h.wanted vs among) in omega (arith, y, h.few),
    h.counts,
  )

  pub all-decided : length ask ≤ i → AreForced r.problem assumed ask s.cores ks
  all-decided le =
      let whole : take i ask ≡ ask = take_all i ask le in record {
        some = let one = h.left 0 [] h.some in (valuation (get_or found 0 []), one.1, one.2);
        order = subst (IsSublist (map (λ (k : Kept). k.lit) ks)) whole h.order;
        forced = h.forced;
        others = subst (All (Told ks)) whole h.others;
      }

  free-by : (l : Lit) → IsFalseInAny found l → IsFree r.problem assumed l
  free-by l f =
      let values : List Bool = f.1 in
      let left : IsLeft r.problem assumed values = subst (IsLeft r.problem assumed) f.3 (h.left f.0 f.1 f.2) in
      (valuation values, left.1, left.2, f.4)

  -- one literal more that needs no search
  module _ (lt : i < length ask) (few : atoms ≤ length r.problem.atoms)
      (were : All (IsSeen r.problem assumed) seen) (lits : AreLitsOf r.problem.vars ask) where
    free-seen : IsFalseInSeen atoms seen x → IsFree r.problem assumed x
    free-seen f =
        let was : IsSeen r.problem assumed f.1.1 = subst (IsSeen r.problem assumed) f.1.3 (were f.1.0 f.1.1 f.1.2) in
        let within : IsLitOf (length r.problem.atoms) x = ((lits i d lt).0, omega (arith, f.0, few)) in (
          was.left.0,
          was.left.1,
          was.left.2,
          sym (literal-local (length r.problem.atoms) (valuation f.1.1) was.left.0
              was.left.3 x within) ∙ f.1.4,
        )

    told : IsSettled ks found x ⊎ IsFalseInSeen atoms seen x → Told ks x
    told way = ⊎_elim
        (λ is. ⊎_elim (λ k. inl k) (λ f. inr (free-by x f)) is)
        (λ f. inr (free-seen f))
        way

    pub skipped : IsSettled ks found x ⊎ IsFalseInSeen atoms seen x → IsSoFar assumed ask atoms seen
        (i + 1) ks found r s a b
    skipped way = record {
      kept = h.kept;
      stays = h.stays;
      keeps = h.keeps;
      left = h.left;
      some = h.some;
      order = subst (IsSublist (map (λ (k : Kept). k.lit) ks)) (sym (take_more ask i d lt))
          (sublist-right (map (λ (k : Kept). k.lit) ks) (take i ask) x h.order);
      forced = h.forced;
      others = subst (All (Told ks)) (sym (take_more ask i d lt))
          (All-push (Told ks) (take i ask) x h.others (told way));
      tested = h.tested;
      once = h.once;
      wanted = h.wanted;
      settled = h.settled;
      count = h.count;
      few = h.few;
      counts = h.counts;
    }

  -- one literal more that was searched
  module _ (lt : i < length ask) (undecided : IsOpen ks found atoms seen x) where
    new : Contains h.tested x.var.0 → ⊥
    new has = undecided.0 (h.settled x has)

    abbrev tested2 : List ℕ
    tested2 = h.tested ++ x.var.0 ∷ []

    once2 : IsDistinct eqb tested2
    once2 = distinct-more h.tested x.var.0 h.once new

    wanted2 : (vs : List ℕ) → Searches vs atoms seen ask → (n : ℕ) → Contains tested2 n → Contains vs n
    wanted2 vs among n has = ⊎_elim
        (λ old. h.wanted vs among n old)
        (λ is. subst (Contains vs) is (⊎_elim (λ c. c) (λ f. absurd (undecided.1 f)) (among i d lt)))
        (Contains-push_cases h.tested x.var.0 n has)

    module _ (t : SolveState) (c : Budget) (keeps : Keeps s t b c) (counts : CountsUpTo s.free 1 s t b c) where
      abbrev count2 : ℕ
      count2 = h.count + counts.0

      counts2 : Counts r.free count2 r t a c
      counts2 = counts-twice r.free h.count counts.0 r s t a b c h.counts
          (subst (λ (n : ℕ). Counts n counts.0 s t b c) h.stays.free counts.2)

      few2 : count2 ≤ length tested2
      few2 = let n : length tested2 ≡ length h.tested + 1 = length-append h.tested (x.var.0 ∷ []) in
          omega (arith, n, h.few, counts.1)

      pub searched-most : (vs : List ℕ) → Searches vs atoms seen ask → CountsUpTo r.free (length vs) r t a c
      searched-most vs among = (
        count2,
        let y : length tested2 ≤ length vs = no-more tested2 vs once2 (wanted2 vs among) in omega (arith, y, few2),
        counts2,
      )

      module _ (stays : Stays s t) (kept : IsKept t) (ks2 : List Kept) (found2 : List (List Bool)) where
        stays2 : Stays r t
        stays2 = stays-twice r s t h.stays stays

        keeps2 : Keeps r t a c
        keeps2 = keeps-twice r s t a b c h.keeps keeps

        forced2 : All (IsForced r.problem assumed t.cores) ks
        forced2 = λ k e less. still-forced r.problem assumed s.cores t.cores (get_or ks k e) keeps.cores
            (h.forced k e less)

        -- what was known of literals still is
        module _ (more_ks : (l : Lit) → Any (λ (k : Kept). k.lit ≡ l) ks → Any (λ (k : Kept). k.lit ≡ l) ks2)
            (more_found : (l : Lit) → IsFalseInAny found l → IsFalseInAny found2 l) where
          others2 : Told ks2 x → All (Told ks2) (take (i + 1) ask)
          others2 here = subst (All (Told ks2)) (sym (take_more ask i d lt))
              (All-push (Told ks2) (take i ask) x (λ k e less. ⊎_elim (λ y. inl (more_ks (get_or (take i ask) k e) y))
              (λ f. inr f) (h.others k e less)) here)

          settled2 : IsSettled ks2 found2 x → (l : Lit) → Contains tested2 l.var.0 → IsSettled ks2 found2 l
          settled2 here l has = ⊎_elim
              (λ old. ⊎_elim (λ y. inl (more_ks l y)) (λ y. inr (more_found l y)) (h.settled l old))
              (λ is. ⊎_elim
              (λ e. subst (IsSettled ks2 found2) (sym e) here)
              (λ e. inr (subst (IsFalseInAny found2) (sym e) (more_found (negated x)
              (negation-false found x h.some (λ f. undecided.0 (inr f))))))
              (two-signs l x (sym is)))
              (Contains-push_cases h.tested x.var.0 l.var.0 has)

        keeps-one : KeepsOne r.problem assumed x t.cores ks ks2 → found2 ≡ found → IsSoFar assumed ask atoms seen
            (i + 1) ks2 found2 r t a c
        keeps-one one same =
            let P : Lit → Kept → Type 0 = λ (l : Lit) (k : Kept). k.lit ≡ l in
            let more_ks : (l : Lit) → Any (P l) ks → Any (P l) ks2 = λ l y. subst (Any (P l)) (sym one.1)
            (any-left (P l) ks (one.0 ∷ []) y) in
            let more_found : (l : Lit) → IsFalseInAny found l → IsFalseInAny found2 l =
            λ l y. subst (λ (xs : List (List Bool)). IsFalseInAny xs l) (sym same) y in
            let here : Any (P x) ks2 = subst (Any (P x)) (sym one.1) (Any-push (P x) ks one.0 one.2) in record {
              kept = kept;
              stays = stays2;
              keeps = keeps2;
              left = subst (All (IsLeft r.problem assumed)) (sym same) h.left;
              some = subst (λ (xs : List (List Bool)). 0 < length xs) (sym same) h.some;
              order =
                  subst (λ (ls : List Lit). IsSublist ls (take (i + 1) ask))
                  (sym (ap (map (λ (k : Kept). k.lit)) one.1 ∙ map_push (λ (k : Kept). k.lit) ks one.0
                  ∙ ap (λ (l : Lit). map (λ (k : Kept). k.lit) ks ++ l ∷ []) one.2))
                  (subst (IsSublist (map (λ (k : Kept). k.lit) ks ++ x ∷ [])) (sym (take_more ask i d lt))
                  (sublist-both (map (λ (k : Kept). k.lit) ks) (take i ask) x h.order));
              forced = subst (All (IsForced r.problem assumed t.cores)) (sym one.1)
                  (All-push (IsForced r.problem assumed t.cores) ks one.0 forced2 one.3);
              others = others2 more_ks more_found (inl here);
              tested = tested2;
              once = once2;
              wanted = wanted2;
              settled = settled2 more_ks more_found (inl here);
              count = count2;
              few = few2;
              counts = counts2;
            }

        finds-one : ks2 ≡ ks → FindsOne r.problem assumed x found found2 → IsSoFar assumed ask atoms seen
            (i + 1) ks2 found2 r t a c
        finds-one same one =
            let P : Lit → Kept → Type 0 = λ (l : Lit) (k : Kept). k.lit ≡ l in
            let Q : Lit → List Bool → Type 0 = λ (l : Lit) (values : List Bool). literal_value
            (valuation values) l ≡ false in
            let more_ks : (l : Lit) → Any (P l) ks → Any (P l) ks2 = λ l y. subst (Any (P l)) (sym same) y in
            let more_found : (l : Lit) → IsFalseInAny found l → IsFalseInAny found2 l =
            λ l y. subst (λ (xs : List (List Bool)). IsFalseInAny xs l) (sym one.1)
            (any-left (Q l) found (one.0 ∷ []) y) in
            let here : IsFalseInAny found2 x = subst (λ (xs : List (List Bool)). IsFalseInAny xs x) (sym one.1)
            (Any-push (Q x) found one.0 one.2.1) in
            let n : length (found ++ one.0 ∷ []) ≡ length found + 1 = length-append found (one.0 ∷ []) in record {
              kept = kept;
              stays = stays2;
              keeps = keeps2;
              left = subst (All (IsLeft r.problem assumed)) (sym one.1)
                  (All-push (IsLeft r.problem assumed) found one.0 h.left one.2.0);
              some = subst (λ (xs : List (List Bool)). 0 < length xs) (sym one.1) (omega (arith, n));
              order =
                  subst (λ (xs : List Kept). IsSublist (map (λ (k : Kept). k.lit) xs) (take (i + 1) ask)) (sym same)
                  (subst (IsSublist (map (λ (k : Kept). k.lit) ks)) (sym (take_more ask i d lt))
                  (sublist-right (map (λ (k : Kept). k.lit) ks) (take i ask) x h.order));
              forced = subst (All (IsForced r.problem assumed t.cores)) (sym same) forced2;
              others = others2 more_ks more_found (inr (valuation one.0, one.2.0.1, one.2.0.2, one.2.1));
              tested = tested2;
              once = once2;
              wanted = wanted2;
              settled = settled2 more_ks more_found (inr here);
              count = count2;
              few = few2;
              counts = counts2;
            }

        pub searched : Decides s.problem assumed x t.cores ks ks2 found found2 → IsSoFar assumed ask atoms seen
            (i + 1) ks2 found2 r t a c
        searched decides = ⊎_elim
            (λ y. keeps-one y.0 y.1)
            (λ y. finds-one y.0 y.1)
            (subst (λ (p : ProblemState). Decides p assumed x t.cores ks ks2 found found2) h.stays.problem decides)

-- what may be searched
module _ (p : ProblemState) (assumed : List Lit) (x : Lit) where
  pub test-lits : AreLitsOf p.vars assumed → IsLitOf p.vars x → AreLitsOf p.vars (assumed ++ negated x ∷ [])
  test-lits lits within = All-push (IsLitOf p.vars) assumed (negated x) lits within

  pub test-unretired : (ask : List Lit) → AreUnretired p assumed → IsLive p.retired ask → Contains ask x
      → AreUnretired p (assumed ++ negated x ∷ [])
  test-unretired ask not live has = λ l gone in_. ⊎_elim
      (λ old. not l gone old)
      (λ is. live l gone (subst (Contains ask) (sym (negated-negated x) ∙ ap negated is) has))
      (Contains-push_cases assumed (negated x) l in_)
