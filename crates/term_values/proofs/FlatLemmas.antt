-- Rows in flat arrays, by their indices, and one row more.
use Rattle.std.proofs.Common.{◌≡◌, ◌≤◌, ◌<◌, ◌-◌, ℕ, zero, suc, List, [], ◌∷◌, ◌++◌, map, length, take, drop}
use Rattle.std.proofs.Common.{slice_range, slice_get, Some}
use Rattle.std.proofs.Common.{refl, sym, ap, ◌∙◌, subst, arith, option_map, get_or}
use Rattle.std.proofs.lemmas.Option.{slice_get-get_or}
use Rattle.std.proofs.lemmas.List.{length-take-le, take-take, take_all, length-append, drop_at, take_at}
use Rattle.std.proofs.lemmas.Slice.{between_is}
use Rattle.std.proofs.Common.{Result, Ok, Err, OnErr}
use Rattle.std.specs.List.{AllByRecursion}
use Rattle.kb_logic.specs.Denotations.{Denotation}
use Rattle.lit_core.specs.declared.literals.Lit.{Lit}
use Rattle.term_values.specs.declared.rows.RowEnd.{RowEnd}
use Rattle.term_values.specs.declared.rows.RowValue.{RowValue}
use Rattle.term_values.specs.RowValues.{row_value}
use Rattle.term_values.specs.FlatRows.{origin, row_start, row_between, rows_between, AreEnds, first_value, single_rows}
use Rattle.term_values.specs.FlatRows.{HasOneValue}

pub start_first : (s : RowEnd) (es : List RowEnd) → row_start s es 0 ≡ s
start_first s [] = refl
start_first s (e ∷ es) = refl

pub start_later : (s : RowEnd) (es : List RowEnd) (k : ℕ) (e : RowEnd) → slice_get es k ≡ Some e
    → row_start s es (suc k) ≡ e
start_later s [] k e h = cc
start_later s (d ∷ es) zero e h = start_first d es ∙ cc
start_later s (d ∷ es) (suc k) e h = start_later d es k e h

pub length_rows : (gs : List Lit) (vs : List RowValue) (s : RowEnd) (es : List RowEnd)
    → length (rows_between gs vs s es) ≡ length es
length_rows gs vs s [] = refl
length_rows gs vs s (e ∷ es) = ap suc (length_rows gs vs e es)

-- the row with this index
pub row_at : (gs : List Lit) (vs : List RowValue) (s : RowEnd) (es : List RowEnd) (k : ℕ) (e : RowEnd)
    → slice_get es k ≡ Some e → slice_get (rows_between gs vs s es) k ≡ Some (row_between gs vs (row_start s es k) e)
row_at gs vs s [] k e h = cc
row_at gs vs s (d ∷ es) zero e h =
    let same : d ≡ e = cc in
    ap (λ x. Some (row_between gs vs s x)) same
row_at gs vs s (d ∷ es) (suc k) e h = row_at gs vs d es k e h

pub record IsSpan (s e : RowEnd) (m n : ℕ) : Type 0 where
  pub guards : s.guards ≤ e.guards
  pub guards_end : e.guards ≤ m
  pub values : s.values ≤ e.values
  pub values_end : e.values ≤ n

-- the last end is within the arrays
pub end_within : (s : RowEnd) (es : List RowEnd) (m n : ℕ) → AreEnds s es m n → (s.guards ≤ m) × (s.values ≤ n)
end_within s [] m n h = h
end_within s (e ∷ es) m n h =
    let more = end_within e es m n h.2 in
    let a = h.0 in let b = h.1 in let c = more.0 in let d = more.1 in
    (omega arith, omega arith)

pub span_at : (s : RowEnd) (es : List RowEnd) (m n : ℕ) (k : ℕ) (e : RowEnd) → AreEnds s es m n
    → slice_get es k ≡ Some e → IsSpan (row_start s es k) e m n
span_at s [] m n k e h at = cc
span_at s (d ∷ es) m n zero e h at =
    let same : d ≡ e = cc in
    let more = end_within d es m n h.2 in
    subst (λ x. IsSpan s x m n) same (record { guards = h.0; guards_end = more.0; values = h.1; values_end = more.1 })
span_at s (d ∷ es) m n (suc k) e h at = span_at d es m n k e h.2 at

pub last_within : (s : RowEnd) (es : List RowEnd) (m n : ℕ) → AreEnds s es m n
    → let z = row_start s es (length es) in (z.guards ≤ m) × (z.values ≤ n)
last_within s [] m n h = h
last_within s (e ∷ es) m n h = last_within e es m n h.2

-- the ends are the same where the arrays are longer
pub ends_kept : (s : RowEnd) (es : List RowEnd) (m n m' n' : ℕ) → AreEnds s es m n
    → (row_start s es (length es)).guards ≤ m' → (row_start s es (length es)).values ≤ n' → AreEnds s es m' n'
ends_kept s [] m n m' n' h g v = (g, v)
ends_kept s (e ∷ es) m n m' n' h g v = (h.0, h.1, ends_kept e es m n m' n' h.2 g v)

-- and with one end more
pub ends_more : (s : RowEnd) (es : List RowEnd) (m n : ℕ) (e : RowEnd) → AreEnds s es m n
    → (row_start s es (length es)).guards ≤ e.guards → (row_start s es (length es)).values ≤ e.values
    → AreEnds s (es ++ e ∷ []) e.guards e.values
ends_more s [] m n e h g v = (g, v, (omega arith, omega arith))
ends_more s (d ∷ es) m n e h g v = (h.0, h.1, ends_more d es m n e h.2 g v)

-- a part of a list is the same where the list is the same up to its end
part_kept : {X : Type 0} (xs ys : List X) (i j k : ℕ) → take k xs ≡ take k ys → j ≤ k
    → slice_range xs i j ≡ slice_range ys i j
part_kept xs ys i j k same h =
    between_is xs i j
    ∙ (ap (drop i) (sym (take-take j k xs h) ∙ (ap (take j) same ∙ take-take j k ys h)) ∙ sym (between_is ys i j))

pub rows_kept : (gs hs : List Lit) (vs ws : List RowValue) (s : RowEnd) (es : List RowEnd) (m n a b : ℕ)
    → AreEnds s es m n
    → (row_start s es (length es)).guards ≤ a → (row_start s es (length es)).values ≤ b
    → take a gs ≡ take a hs → take b vs ≡ take b ws
    → rows_between gs vs s es ≡ rows_between hs ws s es
rows_kept gs hs vs ws s [] m n a b h g v p q = refl
rows_kept gs hs vs ws s (e ∷ es) m n a b h g v p q =
    let z = row_start e es (length es) in
    let here = before_last e es m n h.2 in
    let i = here.0 in let j = here.1 in
    let x : slice_range gs s.guards e.guards ≡ slice_range hs s.guards e.guards =
    part_kept gs hs s.guards e.guards a p (omega arith) in
    let y : slice_range vs s.values e.values ≡ slice_range ws s.values e.values =
    part_kept vs ws s.values e.values b q (omega arith) in
    ap (λ c. (c, map row_value (slice_range vs s.values e.values)) ∷ rows_between gs vs e es) x
    ∙ (ap (λ c. (slice_range hs s.guards e.guards, map row_value c) ∷ rows_between gs vs e es) y
    ∙ ap (λ c. row_between hs ws s e ∷ c) (rows_kept gs hs vs ws e es m n a b h.2 g v p q))
  where
    before_last : (s : RowEnd) (es : List RowEnd) (m n : ℕ) → AreEnds s es m n
        → (s.guards ≤ (row_start s es (length es)).guards) × (s.values ≤ (row_start s es (length es)).values)
    before_last s [] m n h = (omega arith, omega arith)
    before_last s (e ∷ es) m n h =
        let more = before_last e es m n h.2 in
        let a = h.0 in let b = h.1 in let c = more.0 in let d = more.1 in
        (omega arith, omega arith)

-- one row more at the end
pub rows_more : (gs : List Lit) (vs : List RowValue) (s : RowEnd) (es : List RowEnd) (e : RowEnd)
    → rows_between gs vs s (es ++ e ∷ [])
    ≡ rows_between gs vs s es ++ row_between gs vs (row_start s es (length es)) e ∷ []
rows_more gs vs s [] e = refl
rows_more gs vs s (d ∷ es) e = ap (λ c. row_between gs vs s d ∷ c) (rows_more gs vs d es e)

-- what is put after the first items of a list
part_last : {X : Type 0} (xs ys : List X) (k n : ℕ) → k ≤ length xs → n ≡ length (take k xs ++ ys)
    → slice_range (take k xs ++ ys) k n ≡ ys
part_last xs ys k n h e =
    let front : length (take k xs) ≡ k = length-take-le k xs h in
    let size = length-append (take k xs) ys in
    ap (take (n - k)) (drop_at (take k xs) ys k front) ∙ take_all (n - k) ys (omega arith)

pub front_kept : {X : Type 0} (xs ys : List X) (k : ℕ) → k ≤ length xs → take k (take k xs ++ ys) ≡ take k xs
front_kept xs ys k h = take_at (take k xs) ys k (length-take-le k xs h)

-- a row is pushed: its guards and values are put after the last ends
pub row_pushed : (gs ms : List Lit) (vs ws : List RowValue) (es : List RowEnd) (e : RowEnd)
    → AreEnds origin es (length gs) (length vs)
    → let z = row_start origin es (length es) in
    let hs = take z.guards gs ++ ms in
    let xs = take z.values vs ++ ws in
    e.guards ≡ length hs → e.values ≡ length xs
    → rows_between hs xs origin (es ++ e ∷ []) ≡ rows_between gs vs origin es ++ (ms, map row_value ws) ∷ []
row_pushed gs ms vs ws es e h p q =
    let z = row_start origin es (length es) in
    let hs = take z.guards gs ++ ms in
    let xs = take z.values vs ++ ws in
    let within = last_within origin es (length gs) (length vs) h in
    let a : slice_range hs z.guards e.guards ≡ ms = part_last gs ms z.guards e.guards within.0 p in
    let b : slice_range xs z.values e.values ≡ ws = part_last vs ws z.values e.values within.1 q in
    let old : rows_between hs xs origin es ≡ rows_between gs vs origin es =
    rows_kept hs gs xs vs origin es (length gs) (length vs) z.guards z.values h (omega arith) (omega arith)
    (front_kept gs ms z.guards within.0) (front_kept vs ws z.values within.1) in
    rows_more hs xs origin es e
    ∙ (ap (λ c. c ++ row_between hs xs z e ∷ []) old
    ∙ (ap (λ c. rows_between gs vs origin es ++ (c, map row_value (slice_range xs z.values e.values)) ∷ []) a
    ∙ ap (λ c. rows_between gs vs origin es ++ (ms, map row_value c) ∷ []) b))

pub index_within : (gs : List Lit) (vs : List RowValue) (s : RowEnd) (es : List RowEnd)
    (rows : List (List Lit × List Denotation)) (k : ℕ) → rows_between gs vs s es ≡ rows → k < length rows
    → k < length es
index_within gs vs s es rows k v h =
    let e = length_rows gs vs s es in
    let l = ap length v in
    omega arith

pub start_at_zero : (s : RowEnd) (es : List RowEnd) (k : ℕ) → k ≡ 0 → (s.guards ≡ 0) × (s.values ≡ 0)
    → s ≡ row_start origin es k
start_at_zero s es k z h =
    let a : s ≡ origin =
    ap (λ g. record { guards = g; values = s.values }) h.0 ∙ ap (λ v. record { guards = 0; values = v }) h.1 in
    a ∙ (sym (start_first origin es) ∙ ap (row_start origin es) (sym z))

pub start_before : (s d : RowEnd) (es : List RowEnd) (k : ℕ) → (k ≡ 0 → ⊥) → k < length es
    → get_or es (k - 1) d ≡ row_start s es k
start_before s d es zero z h = absurd (z refl)
start_before s d es (suc j) z h =
    let one : suc j - 1 ≡ j = omega arith in
    let at : slice_get es j ≡ Some (get_or es j d) = slice_get-get_or es j d (omega arith) in
    ap (λ i. get_or es i d) one ∙ sym (start_later s es j (get_or es j d) at)

-- where the last row ends
pub start_after : (s d : RowEnd) (es : List RowEnd) → (length es ≡ 0 → ⊥)
    → get_or es (length es - 1) d ≡ row_start s es (length es)
start_after s d [] z = absurd (z refl)
start_after s d (e ∷ es) z =
    let n : suc (length es) - 1 ≡ length es = omega arith in
    let at : slice_get (e ∷ es) (length es) ≡ Some (get_or (e ∷ es) (length es) d) =
    slice_get-get_or (e ∷ es) (length es) d (omega arith) in
    ap (λ i. get_or (e ∷ es) i d) n
    ∙ sym (start_later s (e ∷ es) (length es) (get_or (e ∷ es) (length es) d) at)

-- ---- rows with one value

pub one_more_value : (rs : List (List Lit × List Denotation)) (r : List Lit × List Denotation)
    → AllByRecursion HasOneValue rs → HasOneValue r → AllByRecursion HasOneValue (rs ++ r ∷ [])
one_more_value [] r h one = (one, tt)
one_more_value (q ∷ rs) r h one = (h.0, one_more_value rs r h.1 one)

pub first_of_one : (vs : List RowValue) (d : RowValue) → length vs ≡ 1
    → first_value (map row_value vs) ≡ row_value (get_or vs 0 d)
first_of_one [] d h = cc
first_of_one (v ∷ vs) d h = refl

pub one_value_at : (rs : List (List Lit × List Denotation)) (k : ℕ) (vs : List Denotation)
    → AllByRecursion HasOneValue rs → option_map (λ (r : List Lit × List Denotation). r.1) (slice_get rs k) ≡ Some vs
    → (length vs ≡ 1)
    × (option_map (λ (r : List Lit × Denotation). r.1) (slice_get (single_rows rs) k) ≡ Some (first_value vs))
one_value_at [] k vs h e = cc
one_value_at (r ∷ rs) zero vs h e =
    let same : r.1 ≡ vs = cc in
    (subst (λ x. length x ≡ 1) same h.0, ap (λ x. Some (first_value x)) same)
one_value_at (r ∷ rs) (suc k) vs h e = one_value_at rs k vs h.1 e

pub single_guards : (rs : List (List Lit × List Denotation)) (k : ℕ)
    → option_map (λ (r : List Lit × Denotation). r.0) (slice_get (single_rows rs) k)
    ≡ option_map (λ (r : List Lit × List Denotation). r.0) (slice_get rs k)
single_guards [] k = refl
single_guards (r ∷ rs) zero = refl
single_guards (r ∷ rs) (suc k) = single_guards rs k

-- ---- as the code reads them

pub span_read : (xs es : List RowEnd) (m n k : ℕ) (s e : RowEnd) → xs ≡ es → AreEnds origin es m n
    → s ≡ row_start origin xs k → slice_get xs k ≡ Some e → IsSpan s e m n
span_read xs es m n k s e x h at end =
    let end' : slice_get es k ≡ Some e = subst (λ l. slice_get l k ≡ Some e) x end in
    let at' : row_start origin es k ≡ s = ap (λ l. row_start origin l k) (sym x) ∙ sym at in
    subst (λ a. IsSpan a e m n) at' (span_at origin es m n k e h end')

pub row_read : (gs : List Lit) (vs : List RowValue) (xs es : List RowEnd) (rows : List (List Lit × List Denotation))
    (k : ℕ) (s e : RowEnd) → rows_between gs vs origin es ≡ rows → xs ≡ es → s ≡ row_start origin xs k
    → slice_get xs k ≡ Some e → slice_get rows k ≡ Some (row_between gs vs s e)
row_read gs vs xs es rows k s e v x at end =
    let end' : slice_get es k ≡ Some e = subst (λ l. slice_get l k ≡ Some e) x end in
    let at' : row_start origin es k ≡ s = ap (λ l. row_start origin l k) (sym x) ∙ sym at in
    ap (λ l. slice_get l k) (sym v) ∙ row_at gs vs origin es k e end' ∙ ap (λ a. Some (row_between gs vs a e)) at'

pub last_read : (xs es : List RowEnd) (s : RowEnd) → xs ≡ es → s ≡ row_start origin xs (length xs)
    → s ≡ row_start origin es (length es)
last_read xs es s x at = at ∙ ap (λ l. row_start origin l (length l)) x

pub ends_pushed : (es new : List RowEnd) (e : RowEnd) (m n m' n' : ℕ) → AreEnds origin es m n
    → (row_start origin es (length es)).guards ≤ m' → (row_start origin es (length es)).values ≤ n'
    → e.guards ≡ m' → e.values ≡ n' → new ≡ es ++ e ∷ [] → AreEnds origin new m' n'
ends_pushed es new e m n m' n' h g v a b is =
    let g' : (row_start origin es (length es)).guards ≤ e.guards = omega (arith, g, a) in
    let v' : (row_start origin es (length es)).values ≤ e.values = omega (arith, v, b) in
    let more = ends_more origin es m n e h g' v' in
    subst (λ l. AreEnds origin l m' n') (sym is)
    (subst (λ k. AreEnds origin (es ++ e ∷ []) m' k) b (subst (λ k. AreEnds origin (es ++ e ∷ []) k e.values) a more))

pub rows_pushed : (gs hs ms : List Lit) (vs xs ws : List RowValue) (es new : List RowEnd) (e z : RowEnd)
    (rows : List (List Lit × List Denotation)) → rows_between gs vs origin es ≡ rows
    → AreEnds origin es (length gs) (length vs) → z ≡ row_start origin es (length es)
    → hs ≡ take z.guards gs ++ ms → xs ≡ take z.values vs ++ ws → new ≡ es ++ e ∷ []
    → e.guards ≡ length hs → e.values ≡ length xs
    → rows_between hs xs origin new ≡ rows ++ (ms, map row_value ws) ∷ []
rows_pushed gs hs ms vs xs ws es new e z rows v h at p q n a b =
    let y = row_start origin es (length es) in
    let p' : hs ≡ take y.guards gs ++ ms = p ∙ ap (λ (k : RowEnd). take k.guards gs ++ ms) at in
    let q' : xs ≡ take y.values vs ++ ws = q ∙ ap (λ (k : RowEnd). take k.values vs ++ ws) at in
    ap (rows_between hs xs origin) n
    ∙ (ap (λ l. rows_between l xs origin (es ++ e ∷ [])) p'
    ∙ (ap (λ l. rows_between (take y.guards gs ++ ms) l origin (es ++ e ∷ [])) q'
    ∙ (row_pushed gs ms vs ws es e h (a ∙ ap length p') (b ∙ ap length q')
    ∙ ap (λ r. r ++ (ms, map row_value ws) ∷ []) v)))

-- where nothing was pushed
pub rows_stay : (gs hs : List Lit) (vs xs : List RowValue) (es : List RowEnd) (z : RowEnd)
    (rows : List (List Lit × List Denotation)) → rows_between gs vs origin es ≡ rows
    → AreEnds origin es (length gs) (length vs) → z ≡ row_start origin es (length es)
    → take z.guards hs ≡ take z.guards gs → take z.values xs ≡ take z.values vs
    → rows_between hs xs origin es ≡ rows
rows_stay gs hs vs xs es z rows v h at p q =
    let y = row_start origin es (length es) in
    let p' : take y.guards gs ≡ take y.guards hs = subst (λ (k : RowEnd). take k.guards gs ≡ take k.guards hs)
    at (sym p) in
    let q' : take y.values vs ≡ take y.values xs = subst (λ (k : RowEnd). take k.values vs ≡ take k.values xs)
    at (sym q) in
    sym (rows_kept gs hs vs xs origin es (length gs) (length vs) y.guards y.values h (omega arith) (omega arith) p' q')
    ∙ v

pub front_put : {X : Type 0} (xs ys zs : List X) (k : ℕ) → k ≤ length xs → zs ≡ take k xs ++ ys → take k zs ≡ take k xs
front_put xs ys zs k h e = ap (take k) e ∙ front_kept xs ys k h

pub on_err : {T E P : Type 0} (r : Result T E) → P → OnErr r P
on_err (Ok x) p = tt
on_err (Err e) p = p
