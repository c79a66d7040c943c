-- The texts of models.
use Rattle.std.proofs.Common.{◌≡◌, ◌≢◌, ℕ, ◌+◌, ◌≤◌, ◌⊎◌, inl, inr, List, [], ◌∷◌, ◌++◌, map, flat_map, Bool, true}
use Rattle.std.proofs.Common.{false, cond, Option, None, Some, refl, sym, ap, ◌∙◌, subst, codes, append_assoc, arith}
use Rattle.std.specs.Prelude.{is_none, is_some, filter, IfSome}
use Rattle.std.specs.List.{AllByRecursion, enumerate_from}
use Rattle.std.proofs.lemmas.Bool.{eq-eqb, ne_eqb}
use Rattle.std.proofs.lemmas.List.{append_cancel_left, append-nil}
use Rattle.kb_logic.proofs.Has.{Has, has_from, enumerated_has}
use Rattle.kb_logic.specs.declared.elements.Elem.{Elem}
use Rattle.kb_logic.specs.declared.vocabularies.Symbol.{Symbol}
use Rattle.kb_logic.specs.declared.structures.Table.{Table}
use Rattle.kb_logic.specs.declared.structures.Structure.{Structure}
use Rattle.kb_logic.specs.Bases.{Base}
use Rattle.kb_logic.specs.Structures.{domain_at, tuples_over, tuples_of, predicates_of, functions_of, EachWith}
use Rattle.kb_logic.specs.Structures.{IsRelation, IsRowFor, IsFunction, IsStructure}
use Rattle.kb_logic.specs.Meaning.{rows_of}
use Rattle.literal_printer.specs.Texts.{elem_text, row_text}
use Rattle.literal_printer.specs.Tables.{rows_text, truth_text, predicate_text, separator_text, further_text}
use Rattle.literal_printer.specs.Tables.{mapping_text}
use Rattle.literal_printer.specs.Tables.{mappings_text, function_text, value_text, symbol_line, symbol_lines}
use Rattle.consult_text.specs.OneText.{CanBeWritten, HasWordNames}
use Rattle.consult_text.proofs.InnerBytes.{Stopped, elem_inner, elem_text_same, split_same}
use Rattle.consult_text.proofs.RowTexts.{IsSomeRow, byte_above, rest_same, stop_at, brace, rows_same}
use Rattle.consult_text.proofs.LabelledTexts.{line_end, line_stops, domain_written}

all_has : {X : Type 0} (P : X → Type 0) (xs : List X) → AllByRecursion P xs → (x : X) → Has xs x → P x
all_has P [] all x h = absurd h
all_has P (y ∷ xs) all x (inl e) = subst P e all.0
all_has P (y ∷ xs) all x (inr h) = all_has P xs all.1 x h

-- the rows of a table that its text determines
abbrev pub IsReadable : List ℕ → List (List Elem) → Type 0
IsReadable [] rows = (rows ≡ []) ⊎ (rows ≡ [] ∷ [])
IsReadable (ty ∷ types) rows = AllByRecursion IsSomeRow rows

truth_same : (rows rows' : List (List Elem)) (r s : List ℕ) → IsReadable [] rows → IsReadable [] rows'
    → truth_text rows ++ line_end r ≡ truth_text rows' ++ line_end s → (rows ≡ rows') × (r ≡ s)
truth_same [] [] r s h k q = (refl, rest_same (append_cancel_left (codes "false") (line_end r) (line_end s) q))
truth_same [] (y ∷ rows') r s h k q = absurd (byte_above 116 102 (omega arith) (sym q))
truth_same (x ∷ rows) [] r s h k q = absurd (byte_above 116 102 (omega arith) q)
truth_same (x ∷ rows) (y ∷ rows') r s h k q =
    (one x rows h ∙ sym (one y rows' k), rest_same (append_cancel_left (codes "true") (line_end r) (line_end s) q))
  where
    one : (z : List Elem) (zs : List (List Elem)) → IsReadable [] (z ∷ zs) → z ∷ zs ≡ [] ∷ []
    one z zs (inl e) = absurd (cc)
    one z zs (inr e) = e

value_same : (types : List ℕ) (rows rows' : List (List Elem)) (r s : List ℕ) → IsReadable types rows
    → IsReadable types rows' → predicate_text types rows ++ line_end r ≡ predicate_text types rows' ++ line_end s
    → (rows ≡ rows') × (r ≡ s)
value_same [] rows rows' r s h k q = truth_same rows rows' r s h k q
value_same (ty ∷ types) rows rows' r s h k q =
    let tails : rows_text rows ++ brace (line_end r) ≡ rows_text rows' ++ brace (line_end s) =
    sym (append_assoc (rows_text rows) (codes "}") (line_end r))
    ∙ (rest_same q ∙ append_assoc (rows_text rows') (codes "}") (line_end s)) in
    let cut = rows_same rows rows' (line_end r) (line_end s) h k tails in
    (cut.0, rest_same cut.1)

-- ---- functions

-- the rest of a function's row after its first element
mapping_args : (x : Elem) (t : List Elem) (y : Elem)
    → further_text (t ++ y ∷ []) ≡ flat_map (λ z. codes "," ++ elem_text z) t ++ (codes "->" ++ elem_text y)
mapping_args x [] y = ap (λ (l : List ℕ). codes "->" ++ l) (append-nil (elem_text y))
mapping_args x (z ∷ t) y =
    ap (λ (l : List ℕ). separator_text (t ++ y ∷ []) ++ (elem_text z ++ l)) (mapping_args z t y)
    ∙ ap (λ (l : List ℕ). l
    ++ (elem_text z ++ (flat_map (λ u. codes "," ++ elem_text u) t ++ (codes "->" ++ elem_text y)))) (comma t y)
    ∙ ap (λ (l : List ℕ). codes "," ++ l)
    (sym (append_assoc (elem_text z) (flat_map (λ u. codes "," ++ elem_text u) t) (codes "->" ++ elem_text y)))
  where
    comma : (t : List Elem) (y : Elem) → separator_text (t ++ y ∷ []) ≡ codes ","
    comma [] y = refl
    comma (z ∷ t) y = refl

-- what stands before the value of a function for these arguments
abbrev lead_text : List Elem → List ℕ
lead_text [] = []
lead_text (x ∷ t) = row_text (x ∷ t) ++ codes "->"

mapping_is : (t : List Elem) (y : Elem) → mapping_text (t ++ y ∷ []) ≡ lead_text t ++ elem_text y
mapping_is [] y = append-nil (elem_text y)
mapping_is (x ∷ t) y =
    let others : List ℕ = flat_map (λ z. codes "," ++ elem_text z) t in
    ap (λ (l : List ℕ). elem_text x ++ l) (mapping_args x t y)
    ∙ sym (append_assoc (elem_text x) others (codes "->" ++ elem_text y))
    ∙ sym (append_assoc (elem_text x ++ others) (codes "->") (elem_text y))

-- two values for the same arguments, with what stands after them
mapping_same : (values t row row' : List Elem) (r s : List ℕ) → AllByRecursion CanBeWritten values
    → IsRowFor values t row → IsRowFor values t row' → Stopped r → Stopped s
    → mapping_text row ++ r ≡ mapping_text row' ++ s → (row ≡ row') × (r ≡ s)
mapping_same values t row row' r s all h k stop stop' q =
    let x = h.0 in
    let y = k.0 in
    let left : mapping_text row ≡ lead_text t ++ elem_text x = ap mapping_text h.2 ∙ mapping_is t x in
    let right : mapping_text row' ≡ lead_text t ++ elem_text y = ap mapping_text k.2 ∙ mapping_is t y in
    let tails : lead_text t ++ (elem_text x ++ r) ≡ lead_text t ++ (elem_text y ++ s) =
    sym (append_assoc (lead_text t) (elem_text x) r)
    ∙ (ap (λ (l : List ℕ). l ++ r) (sym left) ∙ (q ∙ ap (λ (l : List ℕ). l ++ s) right))
    ∙ append_assoc (lead_text t) (elem_text y) s in
    let first : CanBeWritten x = all_has CanBeWritten values all x (has_from values x h.1) in
    let second : CanBeWritten y = all_has CanBeWritten values all y (has_from values y k.1) in
    let cut = split_same (elem_text x) (elem_text y) r s (elem_inner x first) (elem_inner y second) stop stop'
    (append_cancel_left (lead_text t) (elem_text x ++ r) (elem_text y ++ s) tails) in
    (h.2 ∙ ap (λ (z : Elem). t ++ z ∷ []) (elem_text_same x y first second cut.0) ∙ sym k.2, cut.1)

abbrev later_text : List (List Elem) → List ℕ
later_text rows = flat_map (λ r. codes "; " ++ mapping_text r) rows

later_stopped : (rows : List (List Elem)) (r : List ℕ) → Stopped r → Stopped (later_text rows ++ r)
later_stopped [] r stop = stop
later_stopped (x ∷ rows) r stop = stop_at 59 ((codes " " ++ mapping_text x ++ later_text rows) ++ r)
    (λ b i. i.semicolon)

module _ (values : List Elem) (all : AllByRecursion CanBeWritten values) where
  later_same : (ts rows rows' : List (List Elem)) (r s : List ℕ) → EachWith (IsRowFor values) ts rows
      → EachWith (IsRowFor values) ts rows' → Stopped r → Stopped s → later_text rows ++ r ≡ later_text rows' ++ s
      → (rows ≡ rows') × (r ≡ s)
  later_same [] [] [] r s h k stop stop' q = (refl, q)
  later_same [] [] (y ∷ rows') r s h k stop stop' q = absurd k
  later_same [] (x ∷ rows) rows' r s h k stop stop' q = absurd h
  later_same (t ∷ ts) [] rows' r s h k stop stop' q = absurd h
  later_same (t ∷ ts) (x ∷ rows) [] r s h k stop stop' q = absurd k
  later_same (t ∷ ts) (x ∷ rows) (y ∷ rows') r s h k stop stop' q =
      let tails : mapping_text x ++ (later_text rows ++ r) ≡ mapping_text y ++ (later_text rows' ++ s) =
      sym (append_assoc (mapping_text x) (later_text rows) r)
      ∙ (rest_same (rest_same q) ∙ append_assoc (mapping_text y) (later_text rows') s) in
      let cut = mapping_same values t x y (later_text rows ++ r) (later_text rows' ++ s) all h.0 k.0
      (later_stopped rows r stop) (later_stopped rows' s stop') tails in
      let one = cut.0 in
      let more = later_same ts rows rows' r s h.1 k.1 stop stop' cut.1 in
      let rest = more.0 in
      (cc, more.1)

  mappings_same : (ts rows rows' : List (List Elem)) (r s : List ℕ) → EachWith (IsRowFor values) ts rows
      → EachWith (IsRowFor values) ts rows' → Stopped r → Stopped s → mappings_text rows ++ r ≡ mappings_text rows' ++ s
      → (rows ≡ rows') × (r ≡ s)
  mappings_same [] [] [] r s h k stop stop' q = (refl, q)
  mappings_same [] [] (y ∷ rows') r s h k stop stop' q = absurd k
  mappings_same [] (x ∷ rows) rows' r s h k stop stop' q = absurd h
  mappings_same (t ∷ ts) [] rows' r s h k stop stop' q = absurd h
  mappings_same (t ∷ ts) (x ∷ rows) [] r s h k stop stop' q = absurd k
  mappings_same (t ∷ ts) (x ∷ rows) (y ∷ rows') r s h k stop stop' q =
      let tails : mapping_text x ++ (later_text rows ++ r) ≡ mapping_text y ++ (later_text rows' ++ s) =
      sym (append_assoc (mapping_text x) (later_text rows) r)
      ∙ (q ∙ append_assoc (mapping_text y) (later_text rows') s) in
      let cut = mapping_same values t x y (later_text rows ++ r) (later_text rows' ++ s) all h.0 k.0
      (later_stopped rows r stop) (later_stopped rows' s stop') tails in
      let one = cut.0 in
      let more = later_same ts rows rows' r s h.1 k.1 stop stop' cut.1 in
      let rest = more.0 in
      (cc, more.1)

  function_same : (types : List ℕ) (ts rows rows' : List (List Elem)) (r s : List ℕ)
      → EachWith (IsRowFor values) ts rows → EachWith (IsRowFor values) ts rows'
      → function_text types rows ++ line_end r ≡ function_text types rows' ++ line_end s → (rows ≡ rows') × (r ≡ s)
  function_same [] ts rows rows' r s h k q =
      let cut = mappings_same ts rows rows' (line_end r) (line_end s) h k (line_stops r) (line_stops s) q in
      (cut.0, rest_same cut.1)
  function_same (ty ∷ types) ts rows rows' r s h k q =
      let tails : mappings_text rows ++ brace (line_end r) ≡ mappings_text rows' ++ brace (line_end s) =
      sym (append_assoc (mappings_text rows) (codes "}") (line_end r))
      ∙ (rest_same q ∙ append_assoc (mappings_text rows') (codes "}") (line_end s)) in
      let cut = mappings_same ts rows rows' (brace (line_end r)) (brace (line_end s)) h k
      (stop_at 125 (line_end r) (λ b i. i.brace)) (stop_at 125 (line_end s) (λ b i. i.brace)) tails in
      (cut.0, rest_same (rest_same cut.1))

-- ---- lines

-- the rows that the line of a symbol shows
abbrev shown_rows : Structure → ℕ → Option ℕ → List (List Elem)
shown_rows m n None = rows_of n m.relations
shown_rows m n (Some ty) = rows_of n m.functions

-- two tables of a symbol have one text only where they are the same
abbrev ReadsBack : Structure → Structure → ℕ × Symbol → Type 0
ReadsBack m m' x =
    (r s : List ℕ) → value_text m x.0 x.1.args x.1.value ++ line_end r ≡ value_text m' x.0 x.1.args x.1.value
    ++ line_end s
    → (shown_rows m x.0 x.1.value ≡ shown_rows m' x.0 x.1.value) × (r ≡ s)

line_same : (m m' : Structure) (x : ℕ × Symbol) (r s : List ℕ) → ReadsBack m m' x
    → symbol_line m x ++ r ≡ symbol_line m' x ++ s
    → (shown_rows m x.0 x.1.value ≡ shown_rows m' x.0 x.1.value) × (r ≡ s)
line_same m m' x r s reads q =
    let v = value_text m x.0 x.1.args x.1.value in
    let w = value_text m' x.0 x.1.args x.1.value in
    let named = append_cancel_left x.1.name ((codes " = " ++ (v ++ codes "\n")) ++ r)
    ((codes " = " ++ (w ++ codes "\n")) ++ s)
    (sym (append_assoc x.1.name (codes " = " ++ (v ++ codes "\n")) r)
    ∙ (q ∙ append_assoc x.1.name (codes " = " ++ (w ++ codes "\n")) s)) in
    reads r s (sym (append_assoc v (codes "\n") r)
    ∙ (append_cancel_left (codes " = ") ((v ++ codes "\n") ++ r) ((w ++ codes "\n") ++ s) named
    ∙ append_assoc w (codes "\n") s))

lines_same : (m m' : Structure) (xs : List (ℕ × Symbol)) (r s : List ℕ)
    → ((x : ℕ × Symbol) → Has xs x → ReadsBack m m' x)
    → flat_map (symbol_line m) xs ++ r ≡ flat_map (symbol_line m') xs ++ s
    → ((x : ℕ × Symbol) → Has xs x → shown_rows m x.0 x.1.value ≡ shown_rows m' x.0 x.1.value) × (r ≡ s)
lines_same m m' [] r s reads q = (λ x h. absurd h, q)
lines_same m m' (x ∷ xs) r s reads q =
    let tails : symbol_line m x ++ (flat_map (symbol_line m) xs ++ r) ≡ symbol_line m' x
    ++ (flat_map (symbol_line m') xs ++ s) =
    sym (append_assoc (symbol_line m x) (flat_map (symbol_line m) xs) r)
    ∙ (q ∙ append_assoc (symbol_line m' x) (flat_map (symbol_line m') xs) s) in
    let cut = line_same m m' x (flat_map (symbol_line m) xs ++ r) (flat_map (symbol_line m') xs ++ s)
    (reads x (inl refl)) tails in
    let more = lines_same m m' xs r s (λ y h. reads y (inr h)) cut.1 in
    (λ y h. by y h cut.0 more.0, more.1)
  where
    by : (y : ℕ × Symbol) → Has (x ∷ xs) y → shown_rows m x.0 x.1.value ≡ shown_rows m' x.0 x.1.value
        → ((z : ℕ × Symbol) → Has xs z → shown_rows m z.0 z.1.value ≡ shown_rows m' z.0 z.1.value)
        → shown_rows m y.0 y.1.value ≡ shown_rows m' y.0 y.1.value
    by y (inl e) first others =
        subst (λ (z : ℕ × Symbol). shown_rows m z.0 z.1.value ≡ shown_rows m' z.0 z.1.value) e first
    by y (inr h) first others = others y h

-- every table of a structure is readable

all_kept : {X : Type 0} (P : X → Type 0) (b : Bool) (x : X) (xs : List X) → P x → AllByRecursion P xs
    → AllByRecursion P (cond b (x ∷ xs) xs)
all_kept P true x xs h all = (h, all)
all_kept P false x xs h all = all

all_filter : {X : Type 0} (P : X → Type 0) (test : X → Bool) (xs : List X) → AllByRecursion P xs
    → AllByRecursion P (filter test xs)
all_filter P test [] h = tt
all_filter P test (x ∷ xs) h = all_kept P (test x) x (filter test xs) h.0 (all_filter P test xs h.1)

all_append : {X : Type 0} (P : X → Type 0) (xs ys : List X) → AllByRecursion P xs → AllByRecursion P ys
    → AllByRecursion P (xs ++ ys)
all_append P [] ys h k = k
all_append P (x ∷ xs) ys h k = (h.0, all_append P xs ys h.1 k)

some_rows : (x : Elem) (tuples : List (List Elem)) → CanBeWritten x
    → AllByRecursion (AllByRecursion CanBeWritten) tuples → AllByRecursion IsSomeRow (map (λ a. x ∷ a) tuples)
some_rows x [] h k = tt
some_rows x (a ∷ tuples) h k = ((h, k.0), some_rows x tuples h k.1)

rows_over : (tuples : List (List Elem)) (d : List Elem) → AllByRecursion CanBeWritten d
    → AllByRecursion (AllByRecursion CanBeWritten) tuples
    → AllByRecursion IsSomeRow (flat_map (λ x. map (λ a. x ∷ a) tuples) d)
rows_over tuples [] h k = tt
rows_over tuples (x ∷ d) h k =
    all_append IsSomeRow (map (λ a. x ∷ a) tuples) (flat_map (λ z. map (λ a. z ∷ a) tuples) d)
    (some_rows x tuples h.0 k) (rows_over tuples d h.1 k)

row_of : (row : List Elem) → IsSomeRow row → AllByRecursion CanBeWritten row
row_of [] h = tt
row_of (x ∷ row) h = h

rows_are : (rows : List (List Elem)) → AllByRecursion IsSomeRow rows → AllByRecursion (AllByRecursion CanBeWritten) rows
rows_are [] h = tt
rows_are (x ∷ rows) h = (row_of x h.0, rows_are rows h.1)

tuples_written : (ds : List (List Elem)) → AllByRecursion (AllByRecursion CanBeWritten) ds
    → AllByRecursion (AllByRecursion CanBeWritten) (tuples_over ds)
tuples_written [] h = (tt, tt)
tuples_written (d ∷ ds) h = rows_are (flat_map (λ x. map (λ a. x ∷ a) (tuples_over ds)) d)
    (rows_over (tuples_over ds) d h.0 (tuples_written ds h.1))

domains_written : (domains : List (List Elem)) (types : List ℕ) → AllByRecursion (AllByRecursion CanBeWritten) domains
    → AllByRecursion (AllByRecursion CanBeWritten) (map (domain_at domains) types)
domains_written domains [] h = tt
domains_written domains (ty ∷ types) h = (domain_written domains ty h, domains_written domains types h)

abbrev empty_row : List (List Elem)
empty_row = [] ∷ []

truth_readable : (b : Bool) → IsReadable [] (cond b empty_row [])
truth_readable true = inr refl
truth_readable false = inl refl

readable : (domains : List (List Elem)) (types : List ℕ) (test : List Elem → Bool)
    → AllByRecursion (AllByRecursion CanBeWritten) domains → IsReadable types (filter test (tuples_of domains types))
readable domains [] test h = truth_readable (test [])
readable domains (ty ∷ types) test h =
    all_filter IsSomeRow test (tuples_of domains (ty ∷ types))
    (rows_over (tuples_of domains types) (domain_at domains ty) (domain_written domains ty h)
    (tuples_written (map (domain_at domains) types) (domains_written domains types h)))

rows_here : (n : ℕ) (t : Table) (ts : List Table) → t.symbol ≡ n → rows_of n (t ∷ ts) ≡ t.rows
rows_here n t ts e = ap (λ (b : Bool). cond b t.rows (rows_of n ts)) (eq-eqb t.symbol n e)

rows_there : (n : ℕ) (t : Table) (ts : List Table) → t.symbol ≢ n → rows_of n (t ∷ ts) ≡ rows_of n ts
rows_there n t ts e = ap (λ (b : Bool). cond b t.rows (rows_of n ts)) (ne_eqb t.symbol n e)

-- ---- the table of a symbol among tables

-- no two of the symbols have one number
abbrev NumbersApart : List (ℕ × Symbol) → Type 0
NumbersApart [] = Unit {0}
NumbersApart (x ∷ xs) = ((y : ℕ × Symbol) → Has xs y → x.0 ≢ y.0) × NumbersApart xs

numbers_from : (n : ℕ) (symbols : List Symbol) (y : ℕ × Symbol) → Has (enumerate_from n symbols) y → n ≤ y.0
numbers_from n symbols y h = let r = enumerated_has n symbols y.0 y.1 h in omega (arith, r.1)

numbered_apart : (n : ℕ) (symbols : List Symbol) → NumbersApart (enumerate_from n symbols)
numbered_apart n [] = tt
numbered_apart n (s ∷ symbols) = (
  λ y h e. let le = numbers_from (n + 1) symbols y h in
      absurd (omega (arith, le, e)),
  numbered_apart (n + 1) symbols,
)

kept_has : (test : ℕ × Symbol → Bool) (xs : List (ℕ × Symbol)) (y : ℕ × Symbol) → Has (filter test xs) y → Has xs y
kept_has test [] y h = h
kept_has test (x ∷ xs) y h = by (test x) h (kept_has test xs y)
  where
    by : (b : Bool) → Has (cond b (x ∷ filter test xs) (filter test xs)) y → (Has (filter test xs) y → Has xs y)
        → Has (x ∷ xs) y
    by true (inl e) go = inl e
    by true (inr h) go = inr (go h)
    by false h go = inr (go h)

kept_passes : (test : ℕ × Symbol → Bool) (xs : List (ℕ × Symbol)) (y : ℕ × Symbol) → Has (filter test xs) y
    → test y ≡ true
kept_passes test [] y h = absurd h
kept_passes test (x ∷ xs) y h = by (test x) refl h (kept_passes test xs y)
  where
    by : (b : Bool) → test x ≡ b → Has (cond b (x ∷ filter test xs) (filter test xs)) y
        → (Has (filter test xs) y → test y ≡ true) → test y ≡ true
    by true e (inl s) go = ap test (sym s) ∙ e
    by true e (inr h) go = go h
    by false e h go = go h

has_kept : (test : ℕ × Symbol → Bool) (xs : List (ℕ × Symbol)) (y : ℕ × Symbol) → Has xs y → test y ≡ true
    → Has (filter test xs) y
has_kept test [] y h e = h
has_kept test (x ∷ xs) y (inl s) e = subst (λ b. Has (cond b (x ∷ filter test xs) (filter test xs)) y)
    (sym (ap test s ∙ e)) (inl s)
has_kept test (x ∷ xs) y (inr h) e = by (test x) (has_kept test xs y h e)
  where
    by : (b : Bool) → Has (filter test xs) y → Has (cond b (x ∷ filter test xs) (filter test xs)) y
    by true k = inr k
    by false k = k

kept_apart : (test : ℕ × Symbol → Bool) (xs : List (ℕ × Symbol)) → NumbersApart xs → NumbersApart (filter test xs)
kept_apart test [] h = tt
kept_apart test (x ∷ xs) h = by (test x) (kept_apart test xs h.1)
  where
    by : (b : Bool) → NumbersApart (filter test xs) → NumbersApart (cond b (x ∷ filter test xs) (filter test xs))
    by true k = (λ y m. h.0 y (kept_has test xs y m), k)
    by false k = k

module _ (R : ℕ × Symbol → Table → Type 0) (number : (x : ℕ × Symbol) (t : Table) → R x t → t.symbol ≡ x.0) where
  -- each symbol has its table
  table_of : (xs : List (ℕ × Symbol)) (ts : List Table) → NumbersApart xs → EachWith R xs ts → (x : ℕ × Symbol)
      → Has xs x → (t : Table) × R x t × (rows_of x.0 ts ≡ t.rows)
  table_of [] ts apart each x h = absurd h
  table_of (y ∷ xs) [] apart each x h = absurd each
  table_of (y ∷ xs) (t ∷ ts) apart each x (inl e) =
      (t, subst (λ z. R z t) e each.0, rows_here x.0 t ts (number y t each.0 ∙ ap (λ (z : ℕ × Symbol). z.0) e))
  table_of (y ∷ xs) (t ∷ ts) apart each x (inr h) =
      let r = table_of xs ts apart.1 each.1 x h in
      (r.0, r.1, rows_there x.0 t ts (λ e. apart.0 x h (sym (number y t each.0) ∙ e)) ∙ r.2)

  -- tables with the same rows
  tables_same : (xs : List (ℕ × Symbol)) (ts us : List Table) → NumbersApart xs → EachWith R xs ts → EachWith R xs us
      → ((x : ℕ × Symbol) → Has xs x → rows_of x.0 ts ≡ rows_of x.0 us) → ts ≡ us
  tables_same [] [] [] apart each each' same = refl
  tables_same [] [] (u ∷ us) apart each each' same = absurd each'
  tables_same [] (t ∷ ts) us apart each each' same = absurd each
  tables_same (x ∷ xs) [] us apart each each' same = absurd each
  tables_same (x ∷ xs) (t ∷ ts) [] apart each each' same = absurd each'
  tables_same (x ∷ xs) (t ∷ ts) (u ∷ us) apart each each' same =
      let left = number x t each.0 in
      let right = number x u each'.0 in
      let symbol : t.symbol ≡ u.symbol = left ∙ sym right in
      let rows : t.rows ≡ u.rows = sym (rows_here x.0 t ts left) ∙ (same x (inl refl) ∙ rows_here x.0 u us right) in
      let one : t ≡ u = λ i. record { symbol = symbol i; rows = rows i } in
      let more = tables_same xs ts us apart.1 each.1 each'.1
      (λ y h. sym (rows_there y.0 t ts (λ e. apart.0 y h (sym left ∙ e)))
      ∙ (same y (inr h) ∙ rows_there y.0 u us (λ e. apart.0 y h (sym right ∙ e)))) in
      λ i. one i ∷ more i

-- ---- models

at_some : (P : ℕ → Type 0) (o : Option ℕ) (ty : ℕ) → o ≡ Some ty → IfSome o P → P ty
at_some P None ty e h = absurd (cc)
at_some P (Some u) ty e h = let same : u ≡ ty = cc in subst P same h

module _ (kb : Base) (names : HasWordNames kb) (m m' : Structure)
    (h : IsStructure kb.vocabulary m × (m.domains ≡ kb.known.domains))
    (h' : IsStructure kb.vocabulary m' × (m'.domains ≡ kb.known.domains)) where
  relations : EachWith (IsRelation kb.known.domains) (predicates_of kb.vocabulary) m.relations
  relations = subst (λ (d : List (List Elem)). EachWith (IsRelation d) (predicates_of kb.vocabulary) m.relations) h.1
      h.0.relations

  relations' : EachWith (IsRelation kb.known.domains) (predicates_of kb.vocabulary) m'.relations
  relations' = subst (λ (d : List (List Elem)). EachWith (IsRelation d) (predicates_of kb.vocabulary) m'.relations) h'.1
      h'.0.relations

  functions : EachWith (IsFunction kb.known.domains) (functions_of kb.vocabulary) m.functions
  functions = subst (λ (d : List (List Elem)). EachWith (IsFunction d) (functions_of kb.vocabulary) m.functions) h.1
      h.0.functions

  functions' : EachWith (IsFunction kb.known.domains) (functions_of kb.vocabulary) m'.functions
  functions' = subst (λ (d : List (List Elem)). EachWith (IsFunction d) (functions_of kb.vocabulary) m'.functions) h'.1
      h'.0.functions

  predicates_apart : NumbersApart (predicates_of kb.vocabulary)
  predicates_apart = kept_apart (λ s. is_none s.1.value) (enumerate_from 0 kb.vocabulary.symbols)
      (numbered_apart 0 kb.vocabulary.symbols)

  functions_apart : NumbersApart (functions_of kb.vocabulary)
  functions_apart = kept_apart (λ s. is_some s.1.value) (enumerate_from 0 kb.vocabulary.symbols)
      (numbered_apart 0 kb.vocabulary.symbols)

  predicate_readable : (ts : List Table) → EachWith (IsRelation kb.known.domains) (predicates_of kb.vocabulary) ts
      → (x : ℕ × Symbol) → Has (enumerate_from 0 kb.vocabulary.symbols) x → x.1.value ≡ None
      → IsReadable x.1.args (rows_of x.0 ts)
  predicate_readable ts each x m e =
      let kept = has_kept (λ s. is_none s.1.value) (enumerate_from 0 kb.vocabulary.symbols) x m (ap is_none e) in
      let r = table_of (IsRelation kb.known.domains) (λ y t k. k.symbol)
      (predicates_of kb.vocabulary) ts predicates_apart each x kept in
      subst (IsReadable x.1.args) (sym (r.2 ∙ r.1.rows.1))
      (readable kb.known.domains x.1.args r.1.rows.0 names.elements)

  function_rows : (ts : List Table) → EachWith (IsFunction kb.known.domains) (functions_of kb.vocabulary) ts
      → (x : ℕ × Symbol) → Has (enumerate_from 0 kb.vocabulary.symbols) x → (ty : ℕ) → x.1.value ≡ Some ty
      → EachWith (IsRowFor (domain_at kb.known.domains ty)) (tuples_of kb.known.domains x.1.args) (rows_of x.0 ts)
  function_rows ts each x m ty e =
      let kept = has_kept (λ s. is_some s.1.value) (enumerate_from 0 kb.vocabulary.symbols) x m (ap is_some e) in
      let r = table_of (IsFunction kb.known.domains) (λ y t k. k.symbol) (functions_of kb.vocabulary) ts functions_apart
      each x kept in
      subst (λ (rows : List (List Elem)). EachWith (IsRowFor (domain_at kb.known.domains ty))
      (tuples_of kb.known.domains x.1.args) rows) (sym r.2)
      (at_some (λ u. EachWith (IsRowFor (domain_at kb.known.domains u)) (tuples_of kb.known.domains x.1.args) r.0.rows)
      x.1.value ty e r.1.rows)

  reads_back : (x : ℕ × Symbol) → Has (enumerate_from 0 kb.vocabulary.symbols) x → ReadsBack m m' x
  reads_back x k = by x.1.value refl
    where
      by : (o : Option ℕ) → x.1.value ≡ o → (r s : List ℕ)
          → value_text m x.0 x.1.args x.1.value ++ line_end r ≡ value_text m' x.0 x.1.args x.1.value ++ line_end s
          → (shown_rows m x.0 x.1.value ≡ shown_rows m' x.0 x.1.value) × (r ≡ s)
      by None e r s = rw e (value_same x.1.args (rows_of x.0 m.relations) (rows_of x.0 m'.relations) r s
          (predicate_readable m.relations relations x k e) (predicate_readable m'.relations relations' x k e))
      by (Some ty) e r s =
          rw e (function_same (domain_at kb.known.domains ty) (domain_written kb.known.domains ty names.elements)
          x.1.args (tuples_of kb.known.domains x.1.args) (rows_of x.0 m.functions) (rows_of x.0 m'.functions) r s
          (function_rows m.functions functions x k ty e) (function_rows m'.functions functions' x k ty e))

  models : (a b : List ℕ) → symbol_lines kb.vocabulary m ++ (codes "done\n" ++ a) ≡ symbol_lines kb.vocabulary m'
      ++ (codes "done\n" ++ b) → (m ≡ m') × (a ≡ b)
  models a b q =
      let same = lines_same m m' (enumerate_from 0 kb.vocabulary.symbols) (codes "done\n" ++ a)
      (codes "done\n" ++ b) reads_back q in
      let domains : m.domains ≡ m'.domains = h.1 ∙ sym h'.1 in
      let first = tables_same (IsRelation kb.known.domains) (λ y t k. k.symbol)
      (predicates_of kb.vocabulary) m.relations m'.relations predicates_apart relations relations'
      (λ x k. predicate_rows x k
      (same.0 x (kept_has (λ s. is_none s.1.value) (enumerate_from 0 kb.vocabulary.symbols) x k))) in
      let second = tables_same (IsFunction kb.known.domains) (λ y t k. k.symbol)
      (functions_of kb.vocabulary) m.functions m'.functions functions_apart functions functions'
      (λ x k. functions_rows x k
      (same.0 x (kept_has (λ s. is_some s.1.value) (enumerate_from 0 kb.vocabulary.symbols) x k))) in (
        λ i. record { domains = domains i; relations = first i; functions = second i },
        append_cancel_left
            (codes "done\n") a b same.1,
      )
    where
      predicate_rows : (x : ℕ × Symbol) → Has (predicates_of kb.vocabulary) x
          → shown_rows m x.0 x.1.value ≡ shown_rows m' x.0 x.1.value
          → rows_of x.0 m.relations ≡ rows_of x.0 m'.relations
      predicate_rows x k e = by x.1.value
          (kept_passes (λ s. is_none s.1.value) (enumerate_from 0 kb.vocabulary.symbols) x k) e
        where
          by : (o : Option ℕ) → is_none o ≡ true → shown_rows m x.0 o ≡ shown_rows m' x.0 o
              → rows_of x.0 m.relations ≡ rows_of x.0 m'.relations
          by None f g = g
          by (Some ty) f g = absurd (cc)

      functions_rows : (x : ℕ × Symbol) → Has (functions_of kb.vocabulary) x
          → shown_rows m x.0 x.1.value ≡ shown_rows m' x.0 x.1.value
          → rows_of x.0 m.functions ≡ rows_of x.0 m'.functions
      functions_rows x k e = by x.1.value
          (kept_passes (λ s. is_some s.1.value) (enumerate_from 0 kb.vocabulary.symbols) x k) e
        where
          by : (o : Option ℕ) → is_some o ≡ true → shown_rows m x.0 o ≡ shown_rows m' x.0 o
              → rows_of x.0 m.functions ≡ rows_of x.0 m'.functions
          by None f g = absurd (cc)
          by (Some ty) f g = g

pub models_same : (kb : Base) (m m' : Structure) → HasWordNames kb
    → IsStructure kb.vocabulary m × (m.domains ≡ kb.known.domains)
    → IsStructure kb.vocabulary m' × (m'.domains ≡ kb.known.domains) → (a b : List ℕ)
    → symbol_lines kb.vocabulary m ++ (codes "done\n" ++ a) ≡ symbol_lines kb.vocabulary m' ++ (codes "done\n" ++ b)
    → (m ≡ m') × (a ≡ b)
models_same kb m m' names h h' a b q = models kb names m m' h h' a b q
