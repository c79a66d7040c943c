-- A structure extends what is known where its atoms are not false, and no true atom is missing among them.
use Rattle.std.proofs.Common.{◌≡◌, ◌∙◌, ◌≤◌, ℕ, arith, sym, ap, refl, subst, List, [], ◌∷◌, ◌++◌, map, length, filter}
use Rattle.std.proofs.Common.{Bool, true, false, cond, ◌==◌, Option, Some, None, inl, inr}
use Rattle.std.specs.List.{flat_map, Contains, AllByRecursion}
use Rattle.std.specs.Option.{option_and_then, option_eq}
use Rattle.std.proofs.lemmas.Bool.{eqb-true}
use Rattle.kb_logic.specs.declared.elements.Elem.{Elem}
use Rattle.kb_logic.specs.declared.vocabularies.Vocabulary.{Vocabulary}
use Rattle.kb_logic.specs.declared.structures.Table.{Table}
use Rattle.kb_logic.specs.declared.structures.Structure.{Structure}
use Rattle.kb_logic.specs.Structures.{IsDistinct, EachWith, IsRowFor, IsStructure, domain_at, tuples_of}
use Rattle.kb_logic.specs.Meaning.{rows_of}
use Rattle.kb_logic.specs.Models.{GroundAtom, AtomHolds, HasValueIn}
use Rattle.kb_logic.proofs.Members.{from_filter, distinct-append, all_in, in_all}
use Rattle.partial_structures.specs.KnownAtoms.{IsAtomOver, atoms_over}
use Rattle.partial_structures.specs.Extension.{ExtendsData}
use Rattle.partial_structures.specs.Status.{is_yes, is_no, status, known_atoms}
use Rattle.partial_structures.specs.Tally.{parts_of, left_after, tables_left}
use Rattle.row_tries.specs.Words.{words_in}
use Rattle.partial_structures.specs.declared.partial.Partial.TheInside.{Inside}
use Rattle.row_tries.specs.declared.truths.Truth.{Truth}
use Rattle.row_tries.specs.declared.truths.Truth.TheVariants.{Yes, No, Unknown}
use Rattle.kb_logic.proofs.Has.{Has, has_from, has_left, has_right, has_either, has_flat_map, flat_map_has}
use Rattle.kb_logic.proofs.Has.{contains_from}
use Rattle.kb_logic.proofs.DistinctAtoms.{mapped, tuples_distinct, atoms_distinct}
use Rattle.kb_logic.proofs.AllAtoms.{atom_listed}
use Rattle.kb_logic.proofs.Tables.{each_left, rows_at, row_table, relation_symbols, function_symbols, relation_of}
use Rattle.kb_logic.proofs.Tables.{function_of, distinct_filter, passes_filter}
use Rattle.partial_structures.proofs.Tallies.{parts_are, row_atoms, parts_atoms, table_atoms, atoms_in, NoneFalse}
use Rattle.partial_structures.proofs.Tallies.{yes_count, left_is, is_left, left_after-append, tables_leave, at_most}
use Rattle.partial_structures.proofs.Tallies.{all_there}

first_kept : (b : Bool) (x a : GroundAtom) (ys : List GroundAtom) → b ≡ true → x ≡ a → Has (cond b (x ∷ ys) ys) a
first_kept true x a ys e f = inl f
first_kept false x a ys e f = cc

later_kept : (b : Bool) (x a : GroundAtom) (ys : List GroundAtom) → Has ys a → Has (cond b (x ∷ ys) ys) a
later_kept true x a ys at = inr at
later_kept false x a ys at = at

pub kept_has : (test : GroundAtom → Bool) (xs : List GroundAtom) (a : GroundAtom) → Has xs a → test a ≡ true
    → Has (filter test xs) a
kept_has test [] a at e = absurd at
kept_has test (x ∷ xs) a (inl f) e = first_kept (test x) x a (filter test xs) (ap test f ∙ e) f
kept_has test (x ∷ xs) a (inr more) e = later_kept (test x) x a (filter test xs) (kept_has test xs a more e)

-- what an atom of a row has
row_has : (function : Bool) (s : ℕ) (row : List Elem) (a : GroundAtom) → Has (row_atoms function s row) a → a.symbol ≡ s
row_has false s row a (inl e) = ap (λ (b : GroundAtom). b.symbol) (sym e)
row_has false s row a (inr m) = absurd m
row_has true s row a m = parts_have s (parts_of row) a m
  where
    parts_have : (s : ℕ) (o : Option (List Elem × Elem)) (a : GroundAtom) → Has (parts_atoms s o) a → a.symbol ≡ s
    parts_have s None a m = absurd m
    parts_have s (Some p) a (inl e) = ap (λ (b : GroundAtom). b.symbol) (sym e)
    parts_have s (Some p) a (inr m) = absurd m

-- the atom of a function's row
value_row : (s : ℕ) (args : List Elem) (x : Elem) (row : List Elem) → row ≡ args ++ x ∷ [] → row_atoms true s row
    ≡ record { symbol = s; args = args; value = Some x } ∷ []
value_row s args x row e = ap (parts_atoms s) (ap parts_of e ∙ parts_are args x)

table_has : (function : Bool) (t : Table) (a : GroundAtom) → Has (table_atoms function t) a → a.symbol ≡ t.symbol
table_has function t a m = let r = flat_map_has (row_atoms function t.symbol) t.rows a m in
    row_has function t.symbol r.0 a r.2

-- the atoms of a function's rows are distinct
args_in : (s : ℕ) (dom : List Elem) (tuples rows : List (List Elem)) (a : GroundAtom)
    → EachWith (IsRowFor dom) tuples rows → Has (flat_map (row_atoms true s) rows) a → Has tuples a.args
args_in s dom tuples rows a h m =
    let r = flat_map_has (row_atoms true s) rows a m in
    let q = each_left (IsRowFor dom) tuples rows r.0 h r.1 in
    only q.0 a (subst (λ as'. Has as' a) (value_row s q.0 q.2.0 r.0 q.2.2) r.2) q.1
  where
    only : (args : List Elem) (a : GroundAtom) {x : Elem} → Has (record { symbol = s; args = args; value = Some x } ∷
        []) a → Has tuples args → Has tuples a.args
    only args a (inl e) at = subst (Has tuples) (ap (λ (b : GroundAtom). b.args) e) at
    only args a (inr m) at = absurd m

function_distinct : (s : ℕ) (dom : List Elem) (tuples rows : List (List Elem)) → IsDistinct tuples
    → EachWith (IsRowFor dom) tuples rows → IsDistinct (flat_map (row_atoms true s) rows)
function_distinct s dom [] [] d h = tt
function_distinct s dom [] (r ∷ rows) d h = absurd h
function_distinct s dom (a ∷ tuples) [] d h = absurd h
function_distinct s dom (a ∷ tuples) (r ∷ rows) d h =
    subst (λ as'. IsDistinct (as' ++ flat_map (row_atoms true s) rows)) (sym (value_row s a h.0.0 r h.0.2)) (
      (λ c. d.0 (contains_from tuples a (args_in s dom tuples rows _ h.1
          (has_from (flat_map (row_atoms true s) rows) _ c)))),
      function_distinct s dom tuples rows d.1 h.1,
    )

plain_rows : (s : ℕ) (rows : List (List Elem)) → IsDistinct rows → IsDistinct (flat_map (row_atoms false s) rows)
plain_rows s [] d = tt
plain_rows s (r ∷ rows) d = (
  λ c. d.0 (contains_from rows r (there rows
      (has_from (flat_map (row_atoms false s) rows) _ c))),
  plain_rows s rows d.1,
)
  where
    same : (q r : List Elem) → Has (row_atoms false s q) (record { symbol = s; args = r; value = None }) → q ≡ r
    same q r (inl e) = ap (λ (b : GroundAtom). b.args) e
    same q r (inr m) = absurd m

    there : (xs : List (List Elem)) → Has (flat_map (row_atoms false s) xs)
        (record { symbol = s; args = r; value = None }) → Has xs r
    there xs m = let f = flat_map_has (row_atoms false s) xs _ m in subst (Has xs) (same f.0 r f.2) f.1

apart : (function : Bool) (t : Table) (ts : List Table) (a : GroundAtom)
    → (Contains (map (λ (u : Table). u.symbol) ts) t.symbol → ⊥) → Has (table_atoms function t) a
    → Has (atoms_in function ts) a → ⊥
apart function t ts a none here there =
    let q = flat_map_has (table_atoms function) ts a there in
    let same : q.0.symbol ≡ t.symbol = sym (table_has function q.0 a q.2) ∙ table_has function t a here in
    none (subst (Contains (map (λ (u : Table). u.symbol) ts)) same
    (contains_from (map (λ (u : Table). u.symbol) ts) q.0.symbol (mapped (λ (u : Table). u.symbol) ts q.0 q.1)))

row_plain : (s : ℕ) (row : List Elem) (a : GroundAtom) → Has (row_atoms false s row) a
    → record { symbol = s; args = row; value = None } ≡ a
row_plain s row a (inl e) = e
row_plain s row a (inr m) = absurd m

row_valued : (s : ℕ) (row args : List Elem) (x : Elem) (a : GroundAtom) → row ≡ args ++ x ∷ []
    → Has (row_atoms true s row) a → record { symbol = s; args = args; value = Some x } ≡ a
row_valued s row args x a e m = only (subst (λ as'. Has as' a) (value_row s args x row e) m)
  where
    only : Has (record { symbol = s; args = args; value = Some x } ∷ []) a
        → record { symbol = s; args = args; value = Some x } ≡ a
    only (inl f) = f
    only (inr n) = absurd n

module _ (v : Vocabulary) (m : Structure) (is : IsStructure v m) where
  abbrev pub all_atoms : List GroundAtom
  all_atoms = atoms_in false m.relations ++ atoms_in true m.functions

  relation_over : (a : GroundAtom) → Has (atoms_in false m.relations) a → IsAtomOver v.symbols m.domains a
      × (a.value ≡ None) × AtomHolds m a
  relation_over a at =
      let t = flat_map_has (table_atoms false) m.relations a at in
      let r = flat_map_has (row_atoms false t.0.symbol) t.0.rows a t.2 in
      let q = relation_of v m is t.0 t.1 in
      let e = row_plain t.0.symbol r.0 a r.2 in
      let tuple : Contains (tuples_of m.domains q.0.args) r.0 = from_filter q.3.rows.0 (tuples_of m.domains q.0.args)
      r.0 (subst (λ rows. Contains rows r.0) q.3.rows.1 (contains_from t.0.rows r.0 r.1)) in
      let held : Contains (rows_of t.0.symbol m.relations) r.0 = subst (λ rows. Contains rows r.0)
      (sym (rows_at m.relations t.0 (relation_symbols v m is) t.1)) (contains_from t.0.rows r.0 r.1) in
      subst (λ (b : GroundAtom). IsAtomOver v.symbols m.domains b × (b.value ≡ None) × AtomHolds m b) e
      ((q.0, q.1, tuple, subst (λ o. HasValueIn m.domains o None) (sym q.2) tt), refl, held)

  function_over : (a : GroundAtom) → Has (atoms_in true m.functions) a → IsAtomOver v.symbols m.domains a
      × ((x : Elem) × (a.value ≡ Some x)) × AtomHolds m a
  function_over a at =
      let t = flat_map_has (table_atoms true) m.functions a at in
      let r = flat_map_has (row_atoms true t.0.symbol) t.0.rows a t.2 in
      let q = function_of v m is t.0 t.1 in
      let w = each_left (IsRowFor (domain_at m.domains q.1)) (tuples_of m.domains q.0.args) t.0.rows r.0 q.4 r.1 in
      let e = row_valued t.0.symbol r.0 w.0 w.2.0 a w.2.2 r.2 in
      let held : Contains (rows_of t.0.symbol m.functions) (w.0 ++ w.2.0 ∷ []) =
      subst (λ row. Contains (rows_of t.0.symbol m.functions) row) w.2.2
      (subst (λ rows. Contains rows r.0) (sym (rows_at m.functions t.0 (function_symbols v m is) t.1))
      (contains_from t.0.rows r.0 r.1)) in
      subst (λ (b : GroundAtom). IsAtomOver v.symbols m.domains b × ((x : Elem) × (b.value ≡ Some x))
      × AtomHolds m b) e (
        (
          q.0,
          q.2,
          contains_from (tuples_of m.domains q.0.args) w.0 w.1,
          subst (λ o. HasValueIn m.domains o (Some w.2.0))
              (sym q.3) w.2.1,
        ),
        (w.2.0, refl),
        held,
      )

  pub listed_holds : (a : GroundAtom) → Has all_atoms a → IsAtomOver v.symbols m.domains a × AtomHolds m a
  listed_holds a at = elim (has_either (atoms_in false m.relations) (atoms_in true m.functions) a at) [
    | inl r ↦ let q = relation_over a r in (q.0, q.2)
    | inr f ↦ let q = function_over a f in (q.0, q.2)
  ]

  pub holds_listed : (a : GroundAtom) → AtomHolds m a → Has all_atoms a
  holds_listed a h = by a.symbol a.args a.value h
    where
      by : (s : ℕ) (args : List Elem) (o : Option Elem) → AtomHolds m (record { symbol = s; args = args; value = o })
          → Has all_atoms (record { symbol = s; args = args; value = o })
      by s args None h =
          let t = row_table m.relations s args (has_from (rows_of s m.relations) args h) in
          has_left (atoms_in false m.relations) (atoms_in true m.functions) _
          (has_flat_map (table_atoms false) m.relations t.0 _ t.1
          (has_flat_map (row_atoms false t.0.symbol) t.0.rows args _ t.3
          (inl (ap (λ n. record { symbol = n; args = args; value = None }) t.2))))
      by s args (Some x) h =
          let row = args ++ x ∷ [] in
          let t = row_table m.functions s row (has_from (rows_of s m.functions) row h) in
          let here : Has (row_atoms true t.0.symbol row) (record { symbol = s; args = args; value = Some x }) =
          subst (λ as'. Has as' (record { symbol = s; args = args; value = Some x }))
          (sym (value_row t.0.symbol args x row refl)) (inl (ap
          (λ n. record { symbol = n; args = args; value = Some x }) t.2)) in
          has_right (atoms_in false m.relations) (atoms_in true m.functions) _
          (has_flat_map (table_atoms true) m.functions t.0 _ t.1 (has_flat_map (row_atoms true t.0.symbol) t.0.rows
          row _ t.3 here))

  relation_distinct : AllByRecursion IsDistinct m.domains → (ts : List Table)
      → IsDistinct (map (λ (t : Table). t.symbol) ts) → ((t : Table) → Has ts t → Has m.relations t)
      → IsDistinct (atoms_in false ts)
  relation_distinct domains [] d sub = tt
  relation_distinct domains (t ∷ ts) d sub =
      let q = relation_of v m is t (sub t (inl refl)) in
      distinct-append (table_atoms false t) (atoms_in false ts)
      (plain_rows t.symbol t.rows (subst IsDistinct (sym q.3.rows.1)
      (distinct_filter q.3.rows.0 (tuples_of m.domains q.0.args) (tuples_distinct m.domains q.0.args domains))))
      (relation_distinct domains ts d.1 (λ u n. sub u (inr n)))
      (λ a here there. apart false t ts a d.0 (has_from (table_atoms false t) a here)
      (has_from (atoms_in false ts) a there))

  all_distinct : AllByRecursion IsDistinct m.domains → (ts : List Table) → IsDistinct (map (λ (t : Table). t.symbol) ts)
      → ((t : Table) → Has ts t → Has m.functions t) → IsDistinct (atoms_in true ts)
  all_distinct domains [] d sub = tt
  all_distinct domains (t ∷ ts) d sub =
      let q = function_of v m is t (sub t (inl refl)) in
      distinct-append (table_atoms true t) (atoms_in true ts)
      (function_distinct t.symbol (domain_at m.domains q.1) (tuples_of m.domains q.0.args) t.rows
      (tuples_distinct m.domains q.0.args domains) q.4)
      (all_distinct domains ts d.1 (λ u n. sub u (inr n)))
      (λ a here there. apart true t ts a d.0 (has_from (table_atoms true t) a here)
      (has_from (atoms_in true ts) a there))

  -- no true atom of a structure is listed twice
  pub listed_once : IsDistinct all_atoms
  listed_once =
      distinct-append (atoms_in false m.relations) (atoms_in true m.functions)
      (relation_distinct is.distinct m.relations (relation_symbols v m is) (λ t n. n))
      (all_distinct is.distinct m.functions (function_symbols v m is) (λ t n. n))
      (λ a here there.
      let r = relation_over a (has_from (atoms_in false m.relations) a here) in
      let f = function_over a (has_from (atoms_in true m.functions) a there) in
      let e : None ≡ Some f.1.0 = sym r.1 ∙ f.1.1 in cc e)

module _ (p : Inside) (m : Structure) (v : Vocabulary) (is : IsStructure v m) (symbols : v.symbols ≡ p.symbols)
    (domains : m.domains ≡ p.domains) (distinct : AllByRecursion IsDistinct p.domains)
    (counted : p.count ≡ length (known_atoms p).true_atoms) where
  over_here : (a : GroundAtom) → IsAtomOver v.symbols m.domains a → Has (atoms_over p.symbols p.domains) a
  over_here a h = atom_listed p.symbols p.domains a (subst (λ ds. IsAtomOver p.symbols ds a) domains
      (subst (λ ss. IsAtomOver ss m.domains a) symbols h))

  status_yes : (t : Truth) → is_yes t ≡ true → t ≡ Yes
  status_yes Yes e = refl
  status_yes No e = cc
  status_yes Unknown e = cc

  status_no : (t : Truth) → is_no t ≡ true → t ≡ No
  status_no Yes e = cc
  status_no No e = refl
  status_no Unknown e = cc

  pub extends_left : ExtendsData m (known_atoms p) → left_after (status p) (all_atoms v m is) p.count ≡ Some 0
  extends_left h =
      let atoms = all_atoms v m is in
      let none : NoneFalse (status p) atoms = λ a at no_.
      all_in (λ b. AtomHolds m b → ⊥) (known_atoms p).false_atoms h.false_atoms a
      (contains_from (known_atoms p).false_atoms a (kept_has (λ b. is_no (status p b)) (atoms_over p.symbols p.domains)
      a (over_here a (listed_holds v m is a at).0) (ap is_no no_)))
      (listed_holds v m is a at).1 in
      let few : length (known_atoms p).true_atoms ≤ yes_count (status p) atoms =
      at_most (known_atoms p).true_atoms (filter (λ b. is_yes (status p b)) atoms)
      (distinct_filter (λ b. is_yes (status p b)) (atoms_over p.symbols p.domains)
      (atoms_distinct p.symbols p.domains distinct))
      (λ a at. kept_has (λ b. is_yes (status p b)) atoms a
      (holds_listed v m is a (all_in (AtomHolds m) (known_atoms p).true_atoms h.true_atoms a
      (contains_from (known_atoms p).true_atoms a at)))
      (passes_filter (λ b. is_yes (status p b)) (atoms_over p.symbols p.domains) a at)) in
      is_left (status p) atoms p.count none ∙ ap Some (omega (arith, few, counted))

  pub left_extends : left_after (status p) (all_atoms v m is) p.count ≡ Some 0 → ExtendsData m (known_atoms p)
  left_extends h =
      let atoms = all_atoms v m is in
      let r = left_is (status p) atoms p.count 0 h in
      let all = all_there (filter (λ b. is_yes (status p b)) atoms) (known_atoms p).true_atoms
      (distinct_filter (λ b. is_yes (status p b)) atoms (listed_once v m is))
      (λ a at. kept_has (λ b. is_yes (status p b)) (atoms_over p.symbols p.domains) a
      (over_here a (listed_holds v m is a (has_from atoms a (from_filter (λ b. is_yes (status p b)) atoms a
      (contains_from (filter (λ b. is_yes (status p b)) atoms) a at)))).0)
      (passes_filter (λ b. is_yes (status p b)) atoms a at))
      (omega (arith, r.1, counted)) in
      record {
        domains = domains;
        true_atoms = in_all (AtomHolds m) (known_atoms p).true_atoms (λ a at.
            (listed_holds v m is a (has_from atoms a (from_filter (λ b. is_yes (status p b)) atoms a
            (contains_from (filter (λ b. is_yes (status p b)) atoms) a
            (all a (has_from (known_atoms p).true_atoms a at)))))).1);
        false_atoms = in_all (λ b. AtomHolds m b → ⊥) (known_atoms p).false_atoms (λ a at held.
            r.0 a (holds_listed v m is a held) (status_no (status p a) (passes_filter (λ b. is_no (status p b))
            (atoms_over p.symbols p.domains) a (has_from (known_atoms p).false_atoms a at))));
      }

  -- what is left after the predicates, and then after the functions
  pub left_both : (left : ℕ) → tables_left (words_in p.rows.words) p.rows.nodes.entries p.closed.items false m.relations
      p.count ≡ Some left
      → left_after (status p) (all_atoms v m is) p.count ≡ tables_left (words_in p.rows.words) p.rows.nodes.entries
      p.closed.items true m.functions left
  left_both left e =
      left_after-append (status p) (atoms_in false m.relations) (atoms_in true m.functions) p.count
      ∙ ap (option_and_then (left_after (status p) (atoms_in true m.functions)))
      (sym (tables_leave (words_in p.rows.words) p.rows.nodes.entries p.closed.items false m.relations p.count) ∙ e)
      ∙ sym (tables_leave (words_in p.rows.words) p.rows.nodes.entries p.closed.items true m.functions left)

  pub left_none : tables_left (words_in p.rows.words) p.rows.nodes.entries p.closed.items false m.relations p.count
      ≡ None → left_after (status p) (all_atoms v m is) p.count ≡ None
  left_none e =
      left_after-append (status p) (atoms_in false m.relations) (atoms_in true m.functions) p.count
      ∙ ap (option_and_then (left_after (status p) (atoms_in true m.functions)))
      (sym (tables_leave (words_in p.rows.words) p.rows.nodes.entries p.closed.items false m.relations p.count) ∙ e)

pub is_zero : (o : Option ℕ) → option_eq ◌==◌ o (Some 0) ≡ true → o ≡ Some 0
is_zero None e = cc
is_zero (Some n) e = ap Some (eqb-true n 0 e)

pub zero_is : (o : Option ℕ) → o ≡ Some 0 → option_eq ◌==◌ o (Some 0) ≡ true
zero_is o e = ap (λ u. option_eq ◌==◌ u (Some 0)) e
