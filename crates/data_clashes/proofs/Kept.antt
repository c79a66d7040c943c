-- Facts that a table keeps, and those that clash with none of them.
use Rattle.std.proofs.Common.{◌≡◌, ◌==◌, ◌&&◌, ◌||◌, not, ℕ, Bool, true, false, IsTrue, if◌then◌else◌, List, [], ◌∷◌}
use Rattle.std.proofs.Common.{◌++◌, Option, None, Some, map, refl, sym, ap, ◌∙◌, ◌⊎◌, inl, inr, subst, Contains}
use Rattle.std.specs.List.{list_any}
use Rattle.std.proofs.lemmas.Bool.{true≢false, and_parts, and_from, eqb-true, eq-eqb, false_from_ne_true, or_left}
use Rattle.std.proofs.lemmas.Bool.{or_right}
use Rattle.std.proofs.lemmas.List.Folds.{list_any-append}
use Rattle.kb_logic.specs.declared.elements.Elem.{Elem}
use Rattle.stage_definitions.specs.Elements.{Cell, one, same_element, do_share}
use Rattle.stage_definitions.specs.DataFacts.{Fact, all_share, are_opposed, clashes_with, do_clash, same_tuple}
use Rattle.stage_definitions.specs.DataFacts.{same_value_of}
use Rattle.indexmap.specs.IndexSet.{insert_key}
use Rattle.std.proofs.lemmas.List.Elements.{Contains-push_cases}
use Rattle.reading_laws.proofs.Members.{here, there}
use Rattle.reading_laws.proofs.Same.{is_same, itself, same_value_is, value_itself}
use Rattle.data_clashes.specs.Tables.{agrees, differs, is_atom, is_clear, is_denied, is_wide, value_in, IsKept}
use Rattle.data_clashes.specs.Tables.{IsKeptBy}
use Rattle.data_clashes.specs.declared.tables.Table.{Table}

abbrev ones : List Elem → List Cell
ones xs = map (λ (x : Elem). one x) xs

-- rows without ranges share where they are the same
same_row : (xs ys : List Elem) → all_share (ones xs) (ones ys) ≡ true → xs ≡ ys
same_row [] [] h = refl
same_row [] (y ∷ ys) h = absurd (true≢false (sym h))
same_row (x ∷ xs) [] h = absurd (true≢false (sym h))
same_row (x ∷ xs) (y ∷ ys) h =
    let parts = and_parts (same_element x y) (all_share (ones xs) (ones ys)) h in
    ap (λ z. z ∷ xs) (is_same x y parts.0) ∙ ap (λ zs. y ∷ zs) (same_row xs ys parts.1)

pub tuple_same : (xs : List Elem) → same_tuple xs xs ≡ true
tuple_same [] = refl
tuple_same (x ∷ xs) = and_from (same_element x x) (same_tuple xs xs) (itself x) (tuple_same xs)

-- facts at the same arguments that are opposed
opposed_not : (t : Table) (fh gh : Bool) (s : ℕ) (ys : List Elem) (v w : Option Elem)
    → IsKeptBy fh t (record { place = 0; symbol = s; holds = fh; args = []; value = v }) ys
    → is_clear gh (value_in t.values.entries s ys) w (is_denied t.denied.keys s ys w) ≡ true
    → are_opposed fh gh (same_value_of v w) ≡ true → ⊥
opposed_not t true true s ys v w kept clear o =
    let parts = and_parts (agrees (value_in t.values.entries s ys) w) (not (is_denied t.denied.keys s ys w)) clear in
    let same : same_value_of v w ≡ true = sym (ap (λ k. agrees k w) kept) ∙ parts.0 in
    true≢false (sym o ∙ ap not same)
opposed_not t true false s ys v w kept clear o =
    let other : not (same_value_of v w) ≡ true = sym (ap (λ k. differs k w) kept) ∙ clear in
    true≢false (sym other ∙ ap not o)
opposed_not t false true s ys v w kept clear o =
    let parts = and_parts (agrees (value_in t.values.entries s ys) w) (not (is_denied t.denied.keys s ys w)) clear in
    let there : is_denied t.denied.keys s ys w ≡ true = ap (λ u. is_denied t.denied.keys s ys u)
    (sym (same_value_is v w o)) ∙ kept in
    true≢false (sym parts.1 ∙ ap not there)
opposed_not t false false s ys v w kept clear o = true≢false (sym o)

plain : (b : Bool) (t : Table) (f : Fact) (xs : List Elem) → IsKeptBy b t f xs
    → IsKeptBy b t (record { place = 0; symbol = f.symbol; holds = b; args = []; value = f.value }) xs
plain true t f xs p = p
plain false t f xs p = p

-- a fact that is clear clashes with none that is kept
pub clear_of : (t : Table) (f g : Fact) (ys : List Elem) → g.args ≡ ones ys → is_wide t.wide.keys g.symbol ≡ false
    → is_clear g.holds (value_in t.values.entries g.symbol ys) g.value (is_denied t.denied.keys g.symbol ys g.value)
    ≡ true
    → IsKept t f → do_clash f g ≡ false
clear_of t f g ys at narrow clear kept = false_from_ne_true (do_clash f g) (λ h. never h)
  where
    never : do_clash f g ≡ true → ⊥
    never h =
        let outer = and_parts (f.symbol == g.symbol) (all_share f.args g.args && are_opposed f.holds g.holds
        (same_value_of f.value g.value)) h in
        let inner = and_parts (all_share f.args g.args) (are_opposed f.holds g.holds
        (same_value_of f.value g.value)) outer.1 in
        let symbol : f.symbol ≡ g.symbol = eqb-true f.symbol g.symbol outer.0 in
        elim kept [
          | inl w ↦ true≢false (sym (ap (λ s. is_wide t.wide.keys s) (sym symbol) ∙ w) ∙ narrow)
          | inr k ↦
              let row : k.0 ≡ ys = same_row k.0 ys (ap (λ cs. all_share cs (ones ys)) (sym k.1)
              ∙ ap (λ cs. all_share f.args cs) (sym at) ∙ inner.0) in
              let here = subst (λ s. IsKeptBy f.holds t (record {
                place = 0;
                symbol = s;
                holds = f.holds;
                args = [];
                value = f.value;
              }) ys) symbol
              (subst (λ xs. IsKeptBy f.holds t (record {
                place = 0;
                symbol = f.symbol;
                holds = f.holds;
                args = [];
                value = f.value;
              }) xs) row (plain f.holds t f k.0 k.2)) in
              opposed_not t f.holds g.holds g.symbol ys f.value g.value here clear inner.1
        ]

-- ---- a table that grows

pub record Grows (old new : Table) : Type 0 where
  pub wide : (s : ℕ) → is_wide old.wide.keys s ≡ true → is_wide new.wide.keys s ≡ true
  pub values : (s : ℕ) (xs : List Elem) (v : Option Elem) → value_in old.values.entries s xs ≡ Some v
      → value_in new.values.entries s xs ≡ Some v
  pub denied : (s : ℕ) (xs : List Elem) (v : Option Elem) → is_denied old.denied.keys s xs v ≡ true
      → is_denied new.denied.keys s xs v ≡ true

kept_by : (b : Bool) (old new : Table) (f : Fact) (xs : List Elem) → Grows old new → IsKeptBy b old f xs
    → IsKeptBy b new f xs
kept_by true old new f xs g h = g.values f.symbol xs f.value h
kept_by false old new f xs g h = g.denied f.symbol xs f.value h

pub still_kept : (old new : Table) → Grows old new → (f : Fact) → IsKept old f → IsKept new f
still_kept old new g f k = elim k [
  | inl w ↦ inl (g.wide f.symbol w)
  | inr p ↦ inr (p.0, p.1, kept_by f.holds old new f p.0 g p.2)
]

pub among_more : {K : Type 0} (test : K → Bool) (ks more : List K) → list_any test ks ≡ true
    → list_any test (ks ++ more) ≡ true
among_more test ks more h = list_any-append test ks more ∙ or_left (list_any test ks) (list_any test more) h

pub among_with : {K : Type 0} (test : K → Bool) (eq : K → K → Bool) (ks new : List K) (k : K) → new ≡ insert_key eq ks k
    → list_any test ks ≡ true → list_any test new ≡ true
among_with test eq ks new k is h = ap (list_any test) is ∙ by (list_any (eq k) ks)
  where
    by : (b : Bool) → list_any test (if b then ks else ks ++ k ∷ []) ≡ true
    by true = h
    by false = among_more test ks (k ∷ []) h

-- a key that is entered passes its own test
pub among_now : {K : Type 0} (test : K → Bool) (eq : K → K → Bool) (ks new : List K) (k : K) → new ≡ insert_key eq ks k
    → list_any (eq k) ks ≡ list_any test ks → test k ≡ true → list_any test new ≡ true
among_now test eq ks new k is same own = ap (list_any test) is ∙ by (list_any (eq k) ks) same
  where
    by : (b : Bool) → b ≡ list_any test ks → list_any test (if b then ks else ks ++ k ∷ []) ≡ true
    by true e = sym e
    by false e = list_any-append test ks (k ∷ []) ∙ or_right (list_any test ks) (test k || false)
        (or_left (test k) false own)

pub clear_by : (h r : Bool) (known found : Option (Option Elem)) (v w : Option Elem) (d e : Bool)
    → r ≡ is_clear h known v d → known ≡ found → v ≡ w → d ≡ e → r ≡ true → is_clear h found w e ≡ true
clear_by h r known found v w d e is a b c t =
    sym (is ∙ ap (λ x. is_clear h x v d) a ∙ ap (λ x. is_clear h found x d) b ∙ ap (λ x. is_clear h found w x) c) ∙ t

pub none_clash : (fs : List Fact) (g : Fact) → ((f : Fact) → Contains fs f → do_clash f g ≡ false)
    → clashes_with fs g ≡ false
none_clash [] g h = refl
none_clash (f ∷ fs) g h = ap (λ b. b || clashes_with fs g) (h f (here f fs))
    ∙ none_clash fs g (λ e m. h e (there f e fs m))

pub one_more_kept : (t : Table) (before : List Fact) (g : Fact) → ((f : Fact) → Contains before f → IsKept t f)
    → IsKept t g → (f : Fact) → Contains (before ++ g ∷ []) f → IsKept t f
one_more_kept t before g old own f m = elim (Contains-push_cases before g f m) [
  | inl e ↦ old f e
  | inr e ↦ subst (IsKept t) e own
]
