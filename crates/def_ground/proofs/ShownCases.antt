-- What the clauses say that are made of cases: each case is true, or is not.
use Rattle.std.proofs.Common.{◌≡◌, ℕ, Bool, true, false, not, ◌&&◌, ◌||◌, List, [], ◌∷◌, ◌++◌, map, All, if◌then◌else◌}
use Rattle.std.proofs.Common.{Option, Some, None, refl, ap, ◌∙◌, arith}
use Rattle.std.specs.List.{list_all, list_any, AllByRecursion}
use Rattle.std.proofs.lemmas.List.Elements.{All-append, All-cons, All-nil, All-map}
use Rattle.std.proofs.lemmas.List.Folds.{list_all-append, list_any-append}
use Rattle.lit_core.specs.declared.literals.Lit.{Lit}
use Rattle.lit_core.specs.Literals.{literal_value, negated}
use Rattle.lit_core.proofs.Soundness.{value-negated}
use Rattle.ground_core.specs.Problems.{IsLitOf, AreLitsOf}
use Rattle.ground_core.proofs.Clauses.{clause_value}
use Rattle.def_ground.specs.Cases.{Case, side_of, side_value, shown_lits, shown_clauses, clauses_saying}
use Rattle.def_ground.specs.Meanings.{IsCaseOf, SideWithin, CasesSay, selected_cases}
use Rattle.def_ground.proofs.AssertSteps.{any-of, or-assoc, signed-truth}

not-and : (a b : Bool) → (not a || not b) ≡ not (a && b)
not-and true b = refl
not-and false b = refl

any-negated : (v : ℕ → Bool) (ls : List Lit)
    → list_any (literal_value v) (map negated ls) ≡ not (list_all (literal_value v) ls)
any-negated v [] = refl
any-negated v (l ∷ ls) =
    let here = value-negated v l in
    let rest = any-negated v ls in
    let turn = not-and (literal_value v l) (list_all (literal_value v) ls) in cc

and-true : (c : Bool) → (c && true) ≡ c
and-true true = refl
and-true false = refl

said-anyway : (a g : Bool) → true ≡ (a || (g || true))
said-anyway true g = refl
said-anyway false true = refl
said-anyway false false = refl

-- what the clause of a case says beside the other literals and the guards
abbrev shown : (ℕ → Bool) → Option (List Lit) → Option (List Lit) → Bool
shown v None other = true
shown v (Some ks) other = list_any (literal_value v) (shown_lits ks other)

shown-value : (v : ℕ → Bool) (ls g : List Lit) (o q : Option (List Lit))
    → list_all (clause_value v) (shown_clauses ls g o q) ≡
    (any-of ls v || (not (list_all (literal_value v) g) || shown v o q))
shown-value v ls g None q = said-anyway (any-of ls v) (not (list_all (literal_value v) g))
shown-value v ls g (Some ks) q =
    and-true (clause_value v (ls ++ map negated g ++ shown_lits ks q))
    ∙ list_any-append (literal_value v) (ls ++ map negated g) (shown_lits ks q)
    ∙ ap (λ c. c || list_any (literal_value v) (shown_lits ks q))
    (list_any-append (literal_value v) ls (map negated g) ∙ ap (λ c. any-of ls v || c) (any-negated v g))
    ∙ or-assoc (any-of ls v) (not (list_all (literal_value v) g)) (list_any (literal_value v) (shown_lits ks q))

turned : (c s : Bool) → (c || false) ≡ not s → (not c || false) ≡ s
turned true true e = cc
turned true false e = refl
turned false true e = refl
turned false false e = cc

-- where one side has a value, and the other the opposite one, it is what the clause says
shown-is : (v : ℕ → Bool) (o q : Option (List Lit)) (s : Bool) → side_value v o ≡ s → side_value v q ≡ not s
    → shown v o q ≡ s
shown-is v None q s e f = e
shown-is v (Some ks) None s e f = e
shown-is v (Some ks) (Some []) s e f = e
shown-is v (Some ks) (Some (l ∷ [])) s e f =
    ap (λ c. c || false) (value-negated v l) ∙ turned (literal_value v l) s f
shown-is v (Some ks) (Some (l ∷ m ∷ ls)) s e f = e

shown-step : (a g y rest : Bool) (T : Case → Bool) (c : Case) (ds : List Case) → (a || y) ≡ T c → rest ≡ list_all T ds
    → ((a || (not g || y)) && rest) ≡ list_all T (if g then c ∷ ds else ds)
shown-step a true y rest T c ds e f = ap (λ k. k && rest) e ∙ ap (λ k. T c && k) f
shown-step true false y rest T c ds e f = f
shown-step false false y rest T c ds e f = f

module _ (v : ℕ → Bool) (sign : Bool) (ls : List Lit) where
  abbrev says : Case → Bool
  says c = any-of ls v || shown v (side_of sign c) (side_of (not sign) c)

  clauses-shown : (cs : List Case)
      → list_all (clause_value v) (clauses_saying sign ls cs) ≡ list_all says (selected_cases v cs)
  clauses-shown [] = refl
  clauses-shown (c ∷ cs) =
      let these = shown_clauses ls c.guards (side_of sign c) (side_of (not sign) c) in
      list_all-append (clause_value v) these (clauses_saying sign ls cs)
      ∙ ap (λ x. x && list_all (clause_value v) (clauses_saying sign ls cs))
      (shown-value v ls c.guards (side_of sign c) (side_of (not sign) c))
      ∙ shown-step (any-of ls v) (list_all (literal_value v) c.guards)
      (shown v (side_of sign c) (side_of (not sign) c))
      (list_all (clause_value v) (clauses_saying sign ls cs)) says c (selected_cases v cs) refl (clauses-shown cs)

not-twice : (x : Bool) → x ≡ not (not x)
not-twice true = refl
not-twice false = refl

-- the sides of a sign in the one case
sides-signed : (v : ℕ → Bool) (sign : Bool) (c : Case) (x : Bool) → side_value v c.yes ≡ x → side_value v c.no ≡ not x
    → shown v (side_of sign c) (side_of (not sign) c) ≡ signed-truth sign x
sides-signed v true c x e f = shown-is v c.yes c.no x e f
sides-signed v false c x e f = shown-is v c.no c.yes (not x) f (e ∙ not-twice x)

pub cases-shown : (v : ℕ → Bool) (sign : Bool) (ls : List Lit) (cs : List Case) (x : Bool) → CasesSay v cs x
    → list_all (clause_value v) (clauses_saying sign ls cs) ≡ (any-of ls v || signed-truth sign x)
cases-shown v sign ls cs x say =
    clauses-shown v sign ls cs ∙ ap (list_all (says v sign ls)) say.one ∙ and-true (says v sign ls say.case)
    ∙ ap (λ c. any-of ls v || c) (sides-signed v sign say.case x say.yes say.no)

-- the clauses are over the variables
lits-shown : (n : ℕ) (ks : List Lit) (q : Option (List Lit)) → AreLitsOf n ks → SideWithin n q
    → AreLitsOf n (shown_lits ks q)
lits-shown n ks None h k = h
lits-shown n ks (Some []) h k = h
lits-shown n ks (Some (l ∷ [])) h k = All-cons (IsLitOf n) (negated l) [] (k 0 l (omega arith)) (All-nil (IsLitOf n))
lits-shown n ks (Some (l ∷ m ∷ ls)) h k = h

shown-in : (n : ℕ) (ls g : List Lit) (o q : Option (List Lit)) → AreLitsOf n ls → AreLitsOf n g → SideWithin n o
    → SideWithin n q → All (AreLitsOf n) (shown_clauses ls g o q)
shown-in n ls g None q hl hg ho hq = All-nil (AreLitsOf n)
shown-in n ls g (Some ks) q hl hg ho hq =
    let guards = All-map (IsLitOf n) negated g (λ k d lt. hg k d lt) in
    All-cons (AreLitsOf n) (ls ++ map negated g ++ shown_lits ks q) []
    (All-append (IsLitOf n) (ls ++ map negated g) (shown_lits ks q)
    (All-append (IsLitOf n) ls (map negated g) hl guards)
    (lits-shown n ks q ho hq))
    (All-nil (AreLitsOf n))

pub shown-clause-in : (n : ℕ) (ls g ks : List Lit) (q : Option (List Lit)) → AreLitsOf n ls → AreLitsOf n g
    → AreLitsOf n ks → SideWithin n q → AreLitsOf n (ls ++ map negated g ++ shown_lits ks q)
shown-clause-in n ls g ks q hl hg hk hq = shown-in n ls g (Some ks) q hl hg hk hq 0 [] (omega arith)

sided-in : (n : ℕ) (sign : Bool) (ls : List Lit) (c : Case) → AreLitsOf n ls → IsCaseOf n c
    → All (AreLitsOf n) (shown_clauses ls c.guards (side_of sign c) (side_of (not sign) c))
sided-in n true ls c hl h = shown-in n ls c.guards c.yes c.no hl h.guards h.yes h.no
sided-in n false ls c hl h = shown-in n ls c.guards c.no c.yes hl h.guards h.no h.yes

pub clauses-in : (n : ℕ) (sign : Bool) (ls : List Lit) (cs : List Case) → AreLitsOf n ls
    → AllByRecursion (IsCaseOf n) cs → All (AreLitsOf n) (clauses_saying sign ls cs)
clauses-in n sign ls [] hl h = All-nil (AreLitsOf n)
clauses-in n sign ls (c ∷ cs) hl h =
    All-append (AreLitsOf n) (shown_clauses ls c.guards (side_of sign c) (side_of (not sign) c))
    (clauses_saying sign ls cs) (sided-in n sign ls c hl h.0) (clauses-in n sign ls cs hl h.1)
