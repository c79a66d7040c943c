-- The texts of rows and tables.
use Rattle.std.proofs.Common.{◌≡◌, ◌≢◌, ℕ, List, [], ◌∷◌, ◌++◌, flat_map, refl, sym, ◌∙◌, codes, append_assoc, arith}
use Rattle.std.proofs.Common.{◌<◌}
use Rattle.std.specs.List.{AllByRecursion}
use Rattle.kb_logic.specs.declared.elements.Elem.{Elem}
use Rattle.literal_printer.specs.Texts.{elem_text, row_text}
use Rattle.literal_printer.specs.Tables.{rows_text}
use Rattle.consult_text.specs.OneText.{CanBeWritten}
use Rattle.consult_text.proofs.InnerBytes.{Inner, Stopped, elem_inner, elem_text_same, elem_some, split_same}

pub byte_above : (x y : ℕ) {a b : List ℕ} → y < x → x ∷ a ≡ y ∷ b → ⊥
byte_above x y lt q = let e : x ≡ y = cc in omega arith

pub rest_same : {x y : ℕ} {a b : List ℕ} → x ∷ a ≡ y ∷ b → a ≡ b
rest_same q = cc

pub byte_same : {x y : ℕ} {a b : List ℕ} → x ∷ a ≡ y ∷ b → x ≡ y
byte_same q = cc

-- a text that begins with one of the bytes between
pub stop_at : (n : ℕ) (t : List ℕ) → ((b : ℕ) → Inner b → b ≢ n) → Stopped (n ∷ t)
stop_at n t out b u q inner = out b inner (sym (byte_same q))

abbrev pub further_text : List Elem → List ℕ
further_text xs = flat_map (λ x. codes "," ++ elem_text x) xs

-- no comma comes first
abbrev pub NoComma : List ℕ → Type 0
NoComma a = (t : List ℕ) → a ≢ 44 ∷ t

further_stopped : (xs : List Elem) (r : List ℕ) → Stopped r → Stopped (further_text xs ++ r)
further_stopped [] r stop = stop
further_stopped (x ∷ xs) r stop = stop_at 44 ((elem_text x ++ further_text xs) ++ r) (λ b i. i.comma)

further_same : (xs ys : List Elem) (r s : List ℕ) → AllByRecursion CanBeWritten xs → AllByRecursion CanBeWritten ys
    → Stopped r → Stopped s → NoComma r → NoComma s → further_text xs ++ r ≡ further_text ys ++ s → (xs ≡ ys) × (r ≡ s)
further_same [] [] r s all all' stop stop' end end' q = (refl, q)
further_same [] (y ∷ ys) r s all all' stop stop' end end' q = absurd (end ((elem_text y ++ further_text ys) ++ s) q)
further_same (x ∷ xs) [] r s all all' stop stop' end end' q =
    absurd (end' ((elem_text x ++ further_text xs) ++ r) (sym q))
further_same (x ∷ xs) (y ∷ ys) r s all all' stop stop' end end' q =
    let tails : elem_text x ++ (further_text xs ++ r) ≡ elem_text y ++ (further_text ys ++ s) =
    sym (append_assoc (elem_text x) (further_text xs) r)
    ∙ (rest_same q ∙ append_assoc (elem_text y) (further_text ys) s) in
    let cut = split_same (elem_text x) (elem_text y) (further_text xs ++ r) (further_text ys ++ s) (elem_inner x all.0)
    (elem_inner y all'.0) (further_stopped xs r stop) (further_stopped ys s stop') tails in
    let one = elem_text_same x y all.0 all'.0 cut.0 in
    let more = further_same xs ys r s all.1 all'.1 stop stop' end end' cut.1 in
    let rest = more.0 in
    (cc, more.1)

-- rows with an element
pub row_same : (x y : Elem) (xs ys : List Elem) (r s : List ℕ) → AllByRecursion CanBeWritten (x ∷ xs)
    → AllByRecursion CanBeWritten (y ∷ ys) → Stopped r → Stopped s → NoComma r → NoComma s
    → row_text (x ∷ xs) ++ r ≡ row_text (y ∷ ys) ++ s → (x ∷ xs ≡ y ∷ ys) × (r ≡ s)
row_same x y xs ys r s all all' stop stop' end end' q =
    let tails : elem_text x ++ (further_text xs ++ r) ≡ elem_text y ++ (further_text ys ++ s) =
    sym (append_assoc (elem_text x) (further_text xs) r) ∙ (q ∙ append_assoc (elem_text y) (further_text ys) s) in
    let cut = split_same (elem_text x) (elem_text y) (further_text xs ++ r) (further_text ys ++ s) (elem_inner x all.0)
    (elem_inner y all'.0) (further_stopped xs r stop) (further_stopped ys s stop') tails in
    let one = elem_text_same x y all.0 all'.0 cut.0 in
    let more = further_same xs ys r s all.1 all'.1 stop stop' end end' cut.1 in
    let rest = more.0 in
    (cc, more.1)

-- a row that has an element, and its elements can be written
abbrev pub IsSomeRow : List Elem → Type 0
IsSomeRow [] = ⊥
IsSomeRow (x ∷ xs) = AllByRecursion CanBeWritten (x ∷ xs)

some_row_same : (x y : List Elem) (r s : List ℕ) → IsSomeRow x → IsSomeRow y → Stopped r → Stopped s → NoComma r
    → NoComma s → row_text x ++ r ≡ row_text y ++ s → (x ≡ y) × (r ≡ s)
some_row_same [] y r s h k stop stop' end end' q = absurd h
some_row_same (x ∷ xs) [] r s h k stop stop' end end' q = absurd k
some_row_same (x ∷ xs) (y ∷ ys) r s h k stop stop' end end' q = row_same x y xs ys r s h k stop stop' end end' q

abbrev pub others_text : List (List Elem) → List ℕ
others_text rows = flat_map (λ r. codes "; " ++ row_text r) rows

abbrev pub brace : List ℕ → List ℕ
brace r = 125 ∷ r

brace_stops : (r : List ℕ) → Stopped (brace r)
brace_stops r = stop_at 125 r (λ b i. i.brace)

others_stopped : (rows : List (List Elem)) (r : List ℕ) → Stopped (others_text rows ++ brace r)
others_stopped [] r = brace_stops r
others_stopped (x ∷ rows) r = stop_at 59 ((codes " " ++ row_text x ++ others_text rows) ++ brace r) (λ b i. i.semicolon)

others_end : (rows : List (List Elem)) (r : List ℕ) → NoComma (others_text rows ++ brace r)
others_end [] r t q = byte_above 125 44 (omega arith) q
others_end (x ∷ rows) r t q = byte_above 59 44 (omega arith) q

others_same : (rows rows' : List (List Elem)) (r s : List ℕ) → AllByRecursion IsSomeRow rows
    → AllByRecursion IsSomeRow rows' → others_text rows ++ brace r ≡ others_text rows' ++ brace s
    → (rows ≡ rows') × (r ≡ s)
others_same [] [] r s all all' q = (refl, rest_same q)
others_same [] (y ∷ rows') r s all all' q = absurd (byte_above 125 59 (omega arith) q)
others_same (x ∷ rows) [] r s all all' q = absurd (byte_above 125 59 (omega arith) (sym q))
others_same (x ∷ rows) (y ∷ rows') r s all all' q =
    let tails : row_text x ++ (others_text rows ++ brace r) ≡ row_text y ++ (others_text rows' ++ brace s) =
    sym (append_assoc (row_text x) (others_text rows) (brace r))
    ∙ (rest_same (rest_same q) ∙ append_assoc (row_text y) (others_text rows') (brace s)) in
    let cut = some_row_same x y (others_text rows ++ brace r) (others_text rows' ++ brace s) all.0 all'.0
    (others_stopped rows r) (others_stopped rows' s) (others_end rows r) (others_end rows' s) tails in
    let one = cut.0 in
    let more = others_same rows rows' r s all.1 all'.1 cut.1 in
    let rest = more.0 in
    (cc, more.1)

no_row : (y : List Elem) (r s : List ℕ) → IsSomeRow y → Stopped s → brace r ≡ row_text y ++ s → ⊥
no_row [] r s h stop q = h
no_row (y ∷ ys) r s h stop q =
    let tails : [] ++ brace r ≡ elem_text y ++ (further_text ys ++ s) = q
    ∙ append_assoc (elem_text y) (further_text ys) s in
    let cut = split_same [] (elem_text y) (brace r) (further_text ys ++ s) tt (elem_inner y h.0) (brace_stops r)
    (further_stopped ys s stop) tails in
    elem_some y h.0 cut.0

-- the rows of a table, up to its brace
pub rows_same : (rows rows' : List (List Elem)) (r s : List ℕ) → AllByRecursion IsSomeRow rows
    → AllByRecursion IsSomeRow rows' → rows_text rows ++ brace r ≡ rows_text rows' ++ brace s → (rows ≡ rows') × (r ≡ s)
rows_same [] [] r s all all' q = (refl, brace_same q)
  where
    brace_same : {r s : List ℕ} → brace r ≡ brace s → r ≡ s
    brace_same q = rest_same q
rows_same [] (y ∷ rows') r s all all' q =
    absurd (no_row y r (others_text rows' ++ brace s) all'.0 (others_stopped rows' s) (q
    ∙ append_assoc (row_text y) (others_text rows') (brace s)))
rows_same (x ∷ rows) [] r s all all' q =
    absurd (no_row x s (others_text rows ++ brace r) all.0 (others_stopped rows r) (sym q
    ∙ append_assoc (row_text x) (others_text rows) (brace r)))
rows_same (x ∷ rows) (y ∷ rows') r s all all' q =
    let tails : row_text x ++ (others_text rows ++ brace r) ≡ row_text y ++ (others_text rows' ++ brace s) =
    sym (append_assoc (row_text x) (others_text rows) (brace r))
    ∙ (q ∙ append_assoc (row_text y) (others_text rows') (brace s)) in
    let cut = some_row_same x y (others_text rows ++ brace r) (others_text rows' ++ brace s) all.0 all'.0
    (others_stopped rows r) (others_stopped rows' s) (others_end rows r) (others_end rows' s) tails in
    let one = cut.0 in
    let more = others_same rows rows' r s all.1 all'.1 cut.1 in
    let rest = more.0 in
    (cc, more.1)
