-- Terms that may be asked for: each has the value of its term, and the problem that names it is otherwise the same.
use Rattle.std.proofs.Common.{◌≡◌, ℕ, ℤ, pos, ◌+ℤ◌, ◌*ℤ◌, Bool, true, false, List, [], ◌∷◌, ◌++◌, Option, Some, None}
use Rattle.std.proofs.Common.{map, flat_map, ◌-ℤ◌, if◌then◌else◌, refl, sym, ap, subst, ◌∙◌, arith}
use Rattle.std.specs.List.{list_any, AllByRecursion}
use Rattle.std.proofs.lemmas.Bool.{true≢false}
use Rattle.std.proofs.lemmas.Int.{ints}
use Rattle.std.proofs.lemmas.List.{append-nil, append_assoc}
use Rattle.std.proofs.lemmas.List.Elements.{All-nil, All-push}
use Rattle.kb_logic.specs.declared.syntax.AggKind.{AggKind}
use Rattle.kb_logic.specs.declared.syntax.AggKind.TheVariants as kind
use Rattle.kb_logic.specs.Bases.{NamedTerm}
use Rattle.kb_logic.specs.Domains.{AreDomainsOf}
use Rattle.kb_logic.specs.Denotations.{Denotation, number}
use Rattle.kb_logic.specs.Meaning.{value_of, signed_of, summand_plus, number_value}
use Rattle.kb_logic.specs.Structures.{EachWith}
use Rattle.kb_logic.specs.Trees.{TermTree, variable, integer, constructed, application, summation, product, aggregate}
use Rattle.kb_logic.specs.Trees.{SummandTrees, no_summands, more_summands}
use Rattle.kb_logic.proofs.Has.{Has, has_left}
use Rattle.kb_logic.specs.Typing.{IsIntegerIn, TermIsTyped, IsNumeric, sort_of}
use Rattle.lit_core.specs.declared.literals.Lit.{Lit}
use Rattle.ground_core.specs.declared.parts.GroundTerm.{GroundTerm}
use Rattle.ground_core.specs.declared.parts.Part.{Part}
use Rattle.ground_core.specs.Problems.{ProblemState, IsProblem, IsTermOf, IsLitOf, IsBoundOf}
use Rattle.ground_core.specs.Meaning.{Satisfies, BoundHolds, term_value, parts_value, shifted}
use Rattle.ground_core.specs.More.{DefinesMore}
use Rattle.ground_core.specs.Growth.{with_term}
use Rattle.ground_core.proofs.Mores.{more-trans}
use Rattle.term_values.specs.GroundBases.{GroundBase, structure_of, IsOver}
use Rattle.term_values.specs.Rows.{rows_of_term, rows_of_sum, selected_values}
use Rattle.term_values.proofs.RowLaws.{selected-paired, selected-mapped}
use Rattle.def_ground.specs.AskedTerms.{number_of, Summand, summands_in, alone, summands_of_term, is_rowless}
use Rattle.def_ground.specs.AskedTerms.{other_weights, first_sum, WeightedParts, weigh_all}
use Rattle.def_ground.specs.AskedTerms.{parts_of_summands, base_of_summands, asked_sum, named_parts, asked_by}
use Rattle.def_ground.specs.AskedTerms.{with_asked, with_all_asked}
use Rattle.def_ground.specs.Counting.{extreme_of}
use Rattle.def_ground.specs.Forms.{no_parts_yet, sums_of}
use Rattle.def_ground.specs.GroundForms.{IsSide, IsGroundSide, IsAddend, AreGroundAddends}
use Rattle.def_ground.specs.Linear.{Linear}
use Rattle.def_ground.specs.LinearValues.{kind_of_parts, Comes}
use Rattle.def_ground.specs.Meanings.{HasAtoms, HasRoom}
use Rattle.def_ground.proofs.ComparedSides.{comes-is}
use Rattle.def_ground.proofs.FormLaws.{adding-side, extreme-right, sums-right}
use Rattle.def_ground.proofs.FormSteps.{has-atoms, has-room}
use Rattle.def_ground.proofs.Growing.{more-refl}
use Rattle.def_ground.proofs.KeepLaws.{sums-keep}
use Rattle.def_ground.proofs.KeepSteps.{Keeps, keeps-all, keeps-on}
use Rattle.def_ground.proofs.Leaves.{RowsIn, rows-append, term-in}
use Rattle.def_ground.proofs.LinearParts.{part_sum, parts-sum}
use Rattle.def_ground.proofs.Products.{one-times}
use Rattle.def_ground.proofs.SideValues.{addend-splits}
use Rattle.def_ground.proofs.SplitTerms.{both-false, counted_in, left_in}
use Rattle.def_ground.proofs.TypedForms.{ground-side}
use Rattle.def_ground.proofs.WeighedRows.{row_sum, rows-both, summand-sum}
use Rattle.def_ground.proofs.WeighedRows.{weighs-nothing, weigh-all-right, weigh-all-keeps}

abbrev pub others : List Summand → List (List Lit × ℤ)
others ss = flat_map (λ (s : Summand). other_weights s.minus s.rows) ss

abbrev pub has_rowless : List Summand → Bool
has_rowless ss = list_any (λ (s : Summand). is_rowless s.rows) ss

-- ---- what the rows of the summands come to

has-first : (v : ℕ → Bool) (rs : List (List Lit × Denotation)) (x : Denotation) → selected_values v rs ≡ x ∷ []
    → is_rowless rs ≡ false
has-first v [] x h = absurd cc
has-first v (r ∷ rs) x h = refl

module _ (b : GroundBase) (v : ℕ → Bool) (over : IsOver b v) where
  -- what the summands come to, and that each has a row
  abbrev pub ComeTo : List Summand → ℤ → Type 0
  ComeTo ss z = (has_rowless ss ≡ false) × (first_sum ss +ℤ row_sum v (others ss) ≡ z)

  summand-more : (minus : Bool) (t : TermTree) (ss : List Summand) (n z : ℤ)
      → selected_values v (rows_of_term b t []) ≡ number n ∷ [] → ComeTo ss z
      → ComeTo (record { minus = minus; rows = rows_of_term b t [] } ∷ ss) (signed_of minus n +ℤ z)
  summand-more minus t ss n z one rest =
      let rs = rows_of_term b t [] in
      let own = summand-sum v minus rs (number n) one in
      let both = rows-both v (other_weights minus rs) (others ss) in
      let later = rest.1 in (
        both-false (is_rowless rs) (has_rowless ss) (has-first v rs (number n) one) rest.0,
        omega (arith, ints, own, both, later),
      )

  alone-come : (t : TermTree) (n : ℤ) → selected_values v (rows_of_term b t []) ≡ number n ∷ [] → ComeTo (alone b t) n
  alone-come t n one =
      let same : signed_of false n +ℤ pos 0 ≡ n = omega (arith, ints) in
      subst (ComeTo (alone b t)) same (summand-more false t [] n (pos 0) one (refl, omega (arith, ints)))

  -- the number of the one row of a sum
  sum-come : (ss : SummandTrees) → AreGroundAddends b ss []
      → (z : ℤ) × (selected_values v (rows_of_sum b ss []) ≡ Some z ∷ []) × ComeTo (summands_in b ss) z
  sum-come no_summands h = (pos 0, refl, (refl, omega (arith, ints)))
  sum-come (more_summands minus t ss) h =
      let one = addend-splits b v over t [] h.0 in
      let rest = sum-come ss h.1 in (
        signed_of minus one.left +ℤ rest.0,
        selected-paired v (summand_plus minus) (rows_of_term b t []) (rows_of_sum b ss []) (number one.left)
            (Some rest.0) one.rows rest.1,
        summand-more minus t (summands_in b ss) one.left rest.0 one.rows rest.2,
      )

  same-row : (x y : ℤ) → number x ∷ [] ≡ number y ∷ [] → y ≡ x
  same-row x y e = cc

  -- the summands of a term come to what its aggregates leave of it
  summands-come : (t : TermTree) (h : IsAddend b t [])
      → ComeTo (summands_of_term b t) (addend-splits b v over t [] h).left
  summands-come (variable n) h =
      let one = addend-splits b v over (variable n) [] h in alone-come (variable n) one.left one.rows
  summands-come (integer z) h =
      let one = addend-splits b v over (integer z) [] h in alone-come (integer z) one.left one.rows
  summands-come (constructed ty n) h =
      let one = addend-splits b v over (constructed ty n) [] h in alone-come (constructed ty n) one.left one.rows
  summands-come (application s ts) h =
      let one = addend-splits b v over (application s ts) [] h in alone-come (application s ts) one.left one.rows
  summands-come (summation ss) h =
      let one = addend-splits b v over (summation ss) [] h in
      let all = sum-come ss h in
      let rows = selected-mapped v number_value (rows_of_sum b ss []) ∙ ap (map number_value) all.1 in
      subst (ComeTo (summands_in b ss)) (same-row one.left all.0 (sym one.rows ∙ rows)) all.2
  summands-come (product ts) h =
      let one = addend-splits b v over (product ts) [] h in alone-come (product ts) one.left one.rows
  summands-come (aggregate k bs f t) h =
      let one = addend-splits b v over (aggregate k bs f t) [] h in alone-come (aggregate k bs f t) one.left one.rows

-- ---- guards

others-in : (n : ℕ) (minus : Bool) (rs : List (List Lit × Denotation)) → RowsIn n rs → RowsIn n (other_weights minus rs)
others-in n minus [] h = tt
others-in n minus (r ∷ rs) h = each rs h.1
  where
    each : (qs : List (List Lit × Denotation)) → RowsIn n qs
        → RowsIn n (map (λ q. (q.0, signed_of minus (number_of q.1 -ℤ number_of r.1))) qs)
    each [] k = tt
    each (q ∷ qs) k = (k.0, each qs k.1)

module _ (b : GroundBase) (p : ProblemState) (room : HasRoom b p) where
  summand-in : (minus : Bool) (t : TermTree) (ss : List Summand) → RowsIn p.vars (others ss)
      → RowsIn p.vars (others (record { minus = minus; rows = rows_of_term b t [] } ∷ ss))
  summand-in minus t ss h =
      rows-append p.vars (other_weights minus (rows_of_term b t [])) (others ss)
      (others-in p.vars minus (rows_of_term b t []) (term-in b p room [] t)) h

  sum-in : (ss : SummandTrees) → RowsIn p.vars (others (summands_in b ss))
  sum-in no_summands = tt
  sum-in (more_summands minus t ss) = summand-in minus t (summands_in b ss) (sum-in ss)

  summands-in : (t : TermTree) → RowsIn p.vars (others (summands_of_term b t))
  summands-in (variable n) = summand-in false (variable n) [] tt
  summands-in (integer z) = summand-in false (integer z) [] tt
  summands-in (constructed ty n) = summand-in false (constructed ty n) [] tt
  summands-in (application s ts) = summand-in false (application s ts) [] tt
  summands-in (summation ss) = sum-in ss
  summands-in (product ts) = summand-in false (product ts) [] tt
  summands-in (aggregate k bs f t) = summand-in false (aggregate k bs f t) [] tt

-- ---- one term

-- the term is well typed over the domains, a number, and its aggregates stand where they may
pub record IsNumberOver (b : GroundBase) (t : TermTree) : Type 0 where
  pub typed : TermIsTyped b.vocabulary (IsIntegerIn b.domains) t []
  pub numeric : IsNumeric b.vocabulary (sort_of b.vocabulary t [])
  pub placed : IsSide false t

-- q defines more than p, and keeps what p says; its terms are p's and then those that have the values of these
pub record Names (b : GroundBase) (p q : ProblemState) (ts : List NamedTerm) : Type 0 where
  pub fine : IsProblem q
  pub more : DefinesMore p q
  pub atoms : q.atoms ≡ p.atoms
  pub clauses : (c : List Lit) → Has p.clauses c → Has q.clauses c
  pub bounds : q.bounds ≡ p.bounds
  pub named : List GroundTerm
  pub terms : q.terms ≡ p.terms ++ named
  pub values : EachWith (λ (t : NamedTerm) (g : GroundTerm). (v : ℕ → Bool) → Satisfies q v
      → term_value v g ≡ value_of (structure_of b v) t.term []) ts named

-- what satisfies a problem without bounds, whatever its terms are
satisfies-named : (q : ProblemState) (g : GroundTerm) (v : ℕ → Bool) → q.bounds ≡ [] → Satisfies q v
    → Satisfies (with_term q g) v
satisfies-named q g v none s = record {
  gates = s.gates;
  clauses = s.clauses;
  sums = s.sums;
  bounds = rw none (All-nil (BoundHolds v (q.terms ++ g ∷ [])));
  retired = s.retired;
}

satisfies-unnamed : (q : ProblemState) (g : GroundTerm) (v : ℕ → Bool) → q.bounds ≡ []
    → Satisfies (with_term q g) v → Satisfies q v
satisfies-unnamed q g v none s = record {
  gates = s.gates;
  clauses = s.clauses;
  sums = s.sums;
  bounds = rw none (All-nil (BoundHolds v q.terms));
  retired = s.retired;
}

more-named : (q : ProblemState) (g : GroundTerm) → q.bounds ≡ [] → DefinesMore q (with_term q g)
more-named q g none = record {
  grows = omega arith;
  restricts = λ v s. satisfies-unnamed q g v none s;
  extends = λ v s. (v, λ k low high. refl, satisfies-named q g v none s);
  unique = λ v w s t e. e;
}

parts-keep : (ss : List Summand) (p : ProblemState) → Keeps p (parts_of_summands ss p).problem
parts-keep ss p = by_case (has_rowless ss)
  where
    by_case : (c : Bool) → Keeps p (if c then record { parts = []; problem = p }
        else weigh_all (others ss) (record { parts = []; problem = p })).problem
    by_case true = keeps-all p
    by_case false = weigh-all-keeps (others ss) (record { parts = []; problem = p })

sums-kept : (b : GroundBase) (t : TermTree) (p : ProblemState) → Keeps p (asked_sum b t p).problem
sums-kept b t p =
    let ss = summands_of_term b t in
    let st = parts_of_summands ss p in
    let start : Linear = record { base = base_of_summands ss; parts = st.parts; problem = st.problem } in
    keeps-on p st.problem (asked_sum b t p).problem (parts-keep ss p) (sums-keep b t [] (pos 1) start)

-- terms that may be asked for say nothing of bounds
pub record SaysAlike (p q : ProblemState) : Type 0 where
  pub bounds : q.bounds ≡ p.bounds
  pub retired : q.retired ≡ p.retired

named-alike : (p : ProblemState) (name : List ℕ) (k : AggKind) (st : Linear) → Keeps p st.problem
    → SaysAlike p (named_parts name k st)
named-alike p name k st h = record { bounds = h.bounds; retired = h.retired }

one-alike : (b : GroundBase) (p : ProblemState) (t : NamedTerm) (o : Option AggKind) → SaysAlike p (asked_by o b p t)
one-alike b p t (Some k) =
    named-alike p t.name k (sums_of b (pos 1) t.term [] (no_parts_yet p))
    (sums-keep b t.term [] (pos 1) (no_parts_yet p))
one-alike b p t None = named-alike p t.name kind.Sum (asked_sum b t.term p) (sums-kept b t.term p)

pub asked-alike : (b : GroundBase) (ts : List NamedTerm) (p : ProblemState) → SaysAlike p (with_all_asked b ts p)
asked-alike b [] p = record { bounds = refl; retired = refl }
asked-alike b (t ∷ ts) p =
    let one = one-alike b p t (extreme_of t.term) in
    let rest = asked-alike b ts (with_asked b p t) in
    record { bounds = rest.bounds ∙ one.bounds; retired = rest.retired ∙ one.retired }

-- a minimum or a maximum is one of its parts
extreme-kind : (t : TermTree) (k : AggKind) → extreme_of t ≡ Some k → kind_of_parts k ≡ k
extreme-kind (variable n) k h = absurd cc
extreme-kind (integer z) k h = absurd cc
extreme-kind (constructed ty n) k h = absurd cc
extreme-kind (application s ts) k h = absurd cc
extreme-kind (summation ss) k h = absurd cc
extreme-kind (product ts) k h = absurd cc
extreme-kind (aggregate kind.Count bs f t) k h = absurd cc
extreme-kind (aggregate kind.Sum bs f t) k h = absurd cc
extreme-kind (aggregate kind.Min bs f t) k h =
    let same : kind.Min ≡ k = cc in subst (λ k. kind_of_parts k ≡ k) same refl
extreme-kind (aggregate kind.Max bs f t) k h =
    let same : kind.Max ≡ k = cc in subst (λ k. kind_of_parts k ≡ k) same refl

module _ (b : GroundBase) (given : AreDomainsOf b.vocabulary b.domains) (p : ProblemState) (fine : IsProblem p)
    (at : HasAtoms b p) (room : HasRoom b p) (unbounded : p.bounds ≡ []) (t : NamedTerm)
    (is : IsNumberOver b t.term) where
  abbrev start : WeightedParts
  start = record { parts = []; problem = p }

  abbrev V : (ℕ → Bool) → Denotation
  V v = value_of (structure_of b v) t.term []

  -- parts that come to the term's value are named
  named-right : (k : AggKind) (st : Linear) → kind_of_parts k ≡ k → Comes k p st V → Keeps p st.problem
      → Names b p (named_parts t.name k st) (t ∷ [])
  named-right k st same h keeps =
      let g : GroundTerm = record { name = t.name; kind = k; base = st.base; parts = st.parts } in
      let none = keeps.bounds ∙ unbounded in
      let q = st.problem in
      record {
        fine = record {
          atoms = h.linear.fine.atoms;
          gates = h.linear.fine.gates;
          clauses = h.linear.fine.clauses;
          sums = h.linear.fine.sums;
          terms = All-push (IsTermOf q.vars) q.terms g h.linear.fine.terms h.linear.within;
          bounds = rw none (All-nil (IsBoundOf q.vars (q.terms ++ g ∷ [])));
          retired = h.linear.fine.retired;
        };
        more = more-trans p q (with_term q g) h.more (more-named q g none);
        atoms = keeps.atoms;
        clauses = λ c has. subst (λ cs. Has cs c) (sym keeps.clauses) (has_left p.clauses keeps.more c has);
        bounds = keeps.bounds;
        named = g ∷ [];
        terms = ap (λ gs. gs ++ g ∷ []) keeps.terms;
        values = (
          λ v s.
              ap (λ i. shifted st.base (parts_value v i st.parts)) (sym same)
              ∙ h.right v (satisfies-unnamed q g v none s),
          tt,
        );
      }

  -- as an operand of a sum: the rows of its summands come to what its aggregates leave
  module _ (addend : IsAddend b t.term []) where
    abbrev left : (ℕ → Bool) → ℤ
    left v = left_in (structure_of b v) t.term []

    left-come : (v : ℕ → Bool) (s : Satisfies p v) → ComeTo b v (at v s) (summands_of_term b t.term) (left v)
    left-come v s =
        let one = addend-splits b v (at v s) t.term [] addend in
        let value = ap number_of one.value in
        let same : one.left ≡ left v = omega (arith, ints, value) in
        subst (ComeTo b v (at v s) (summands_of_term b t.term)) same (summands-come b v (at v s) t.term addend)

    rows-come : (c : Bool) → has_rowless (summands_of_term b t.term) ≡ c
        → (let st = if c then start else weigh_all (others (summands_of_term b t.term)) start in
        Comes kind.Sum p (record {
          base = if c then pos 0 else first_sum (summands_of_term b t.term);
          parts = st.parts;
          problem = st.problem;
        }) (λ v. number (left v)))
    rows-come true e = record {
      linear = record { fine = fine; within = All-nil (λ (x : Part). IsLitOf p.vars x.lit); plain = tt };
      more = more-refl p;
      right = λ v s. absurd (true≢false (sym e ∙ (left-come v s).0));
    }
    rows-come false e =
        let rs = others (summands_of_term b t.term) in
        let h = weigh-all-right p rs start (λ v. pos 0) (summands-in b p room t.term) (weighs-nothing p fine) in
        record {
          linear = record { fine = h.fine; within = h.within; plain = tt };
          more = h.more;
          right = λ v s.
              let come = (left-come v (h.more.restricts v s)).1 in
              let base = first_sum (summands_of_term b t.term) in
              let parts = (weigh_all rs start).parts in
              let sum = h.right v s in
              let same : base +ℤ part_sum v parts ≡ left v = omega (arith, ints, sum, come) in
              ap (shifted base) (parts-sum v parts) ∙ ap number same;
        }

    sum-comes : Comes kind.Sum p (asked_sum b t.term p) V
    sum-comes =
        let ss = summands_of_term b t.term in
        let st = parts_of_summands ss p in
        let first : Linear = record { base = base_of_summands ss; parts = st.parts; problem = st.problem } in
        let c : (ℕ → Bool) → ℤ = λ v. counted_in (structure_of b v) t.term [] in
        let made = sums-right b t.term [] (pos 1) p first left addend at room (rows-come (has_rowless ss) refl) in
        comes-is kind.Sum p (asked_sum b t.term p) (λ v. number (left v +ℤ pos 1 *ℤ c v)) V
        (λ v s.
        let one = addend-splits b v (at v (made.more.restricts v s)) t.term [] addend in
        let value = ap number_of one.value in
        let once = one-times (c v) in
        let same : left v +ℤ pos 1 *ℤ c v ≡ c v +ℤ one.left = omega (arith, ints, value, once) in
        ap number same ∙ sym one.value) made

  names-one : Names b p (with_asked b p t) (t ∷ [])
  names-one = by (extreme_of t.term) refl
    where
      side : IsGroundSide b false t.term []
      side = ground-side b given t.term false [] [] tt is.typed is.numeric is.placed

      by : (o : Option AggKind) → extreme_of t.term ≡ o → Names b p (asked_by o b p t) (t ∷ [])
      by (Some k) e =
          named-right k (sums_of b (pos 1) t.term [] (no_parts_yet p)) (extreme-kind t.term k e)
          (extreme-right b t.term false [] p k e side fine at room) (sums-keep b t.term [] (pos 1) (no_parts_yet p))
      by None e =
          named-right kind.Sum (asked_sum b t.term p) refl (sum-comes (adding-side b false t.term [] e side))
          (sums-kept b t.term p)

-- ---- all terms

each-weaker : {A B : Type 0} (R S : A → B → Type 0) → ((x : A) (y : B) → R x y → S x y) → (xs : List A) (ys : List B)
    → EachWith R xs ys → EachWith S xs ys
each-weaker R S f [] [] h = tt
each-weaker R S f [] (y ∷ ys) h = absurd h
each-weaker R S f (x ∷ xs) [] h = absurd h
each-weaker R S f (x ∷ xs) (y ∷ ys) h = (f x y h.0, each-weaker R S f xs ys h.1)

each-both : {A B : Type 0} (R : A → B → Type 0) (xs zs : List A) (ys ws : List B) → EachWith R xs ys → EachWith R zs ws
    → EachWith R (xs ++ zs) (ys ++ ws)
each-both R [] zs [] ws h k = k
each-both R [] zs (y ∷ ys) ws h k = absurd h
each-both R (x ∷ xs) zs [] ws h k = absurd h
each-both R (x ∷ xs) zs (y ∷ ys) ws h k = (h.0, each-both R xs zs ys ws h.1 k)

names-both : (b : GroundBase) (p q r : ProblemState) (ts us : List NamedTerm) → Names b p q ts → Names b q r us
    → Names b p r (ts ++ us)
names-both b p q r ts us h k = record {
  fine = k.fine;
  more = more-trans p q r h.more k.more;
  atoms = k.atoms ∙ h.atoms;
  clauses = λ c has. k.clauses c (h.clauses c has);
  bounds = k.bounds ∙ h.bounds;
  named = h.named ++ k.named;
  terms = k.terms ∙ ap (λ gs. gs ++ k.named) h.terms ∙ append_assoc p.terms h.named k.named;
  values = each-both (λ (t : NamedTerm) (g : GroundTerm). (v : ℕ → Bool) → Satisfies r v
      → term_value v g ≡ value_of (structure_of b v) t.term []) ts us h.named k.named
      (each-weaker (λ (t : NamedTerm) (g : GroundTerm). (v : ℕ → Bool) → Satisfies q v
      → term_value v g ≡ value_of (structure_of b v) t.term []) (λ (t : NamedTerm) (g : GroundTerm). (v : ℕ → Bool)
      → Satisfies r v → term_value v g ≡ value_of (structure_of b v) t.term [])
      (λ t g value. λ v s. value v (k.more.restricts v s)) ts h.named h.values)
      k.values;
}

pub names-all : (b : GroundBase) → AreDomainsOf b.vocabulary b.domains → (ts : List NamedTerm) (p : ProblemState)
    → IsProblem p → HasAtoms b p → HasRoom b p → p.bounds ≡ [] → AllByRecursion (λ t. IsNumberOver b t.term) ts
    → Names b p (with_all_asked b ts p) ts
names-all b given [] p fine at room unbounded is = record {
  fine = fine;
  more = more-refl p;
  atoms = refl;
  clauses = λ c has. has;
  bounds = refl;
  named = [];
  terms = sym (append-nil p.terms);
  values = tt;
}
names-all b given (t ∷ ts) p fine at room unbounded is =
    let q = with_asked b p t in
    let one = names-one b given p fine at room unbounded t is.0 in
    names-both b p q (with_all_asked b ts q) (t ∷ []) ts one
    (names-all b given ts q one.fine (has-atoms b p q one.more at) (has-room b p q one.more room)
    (one.bounds ∙ unbounded) is.1)
