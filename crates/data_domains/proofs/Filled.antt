-- Types that are given cells one entry after another.
use Rattle.std.proofs.Common.{◌≡◌, ◌==◌, ◌≤◌, ◌<◌, ◌+◌, ℕ, drop, Bool, true, false, not, ◌&&◌, List, [], ◌∷◌, ◌++◌}
use Rattle.std.proofs.Common.{Option, None, Some, length, map, filter, fold, slice_get, get_or, if◌then◌else◌, refl}
use Rattle.std.proofs.Common.{sym, ap}
use Rattle.std.proofs.Common.{◌∙◌, subst, append_assoc, ◌⊎◌, inl, inr}
use Rattle.std.specs.Prelude.{slice_set}
use Rattle.std.specs.List.{filter_map}
use Rattle.std.proofs.lemmas.Bool.{eqb-false, eqb-true, true≢false}
use Rattle.std.proofs.lemmas.Grind.{get_or-set_at}
use Rattle.std.proofs.lemmas.List.{append-nil, get_or-set_other, length-set}
use Rattle.std.proofs.lemmas.Option.{get_or_from_slice_get, slice_get-get_or, slice_get_past, slice_get_within}
use Rattle.std.proofs.lemmas.List.Elements.{filter_map-append, filter-append}
use Rattle.kb_logic.specs.declared.vocabularies.TypeDecl.{TypeDecl}
use Rattle.stage_definitions.specs.Elements.{Cell, listed, members, with_element}
use Rattle.stage_definitions.specs.DataEntries.{Said, Spot, Subject}
use Rattle.structure_entries.specs.declared.rows.Row.{Row}
use Rattle.structure_entries.specs.EntryViews.{row_view, spots_in}
use Rattle.structure_entries.proofs.Dropped.{front}
use Rattle.structure_entries.proofs.Spotted.{spots_next}
use Rattle.stage_definitions.specs.DataDomains.{cells_given, is_list_of, occurs_at}
use Rattle.data_domains.proofs.Gathering.{listed_more}
use Rattle.data_domains.specs.Shares.{is_taken, listed_share, occurring_share, IsGiven, StandsFor, Takes}
use Rattle.data_domains.specs.declared.traits.Traits.{Traits}
use Rattle.data_domains.specs.declared.types.TypeData.{TypeData}

none_beside : {X : Type 0} (xs ys : List X) (t : ℕ) → length xs ≡ length ys → slice_get xs t ≡ None
    → slice_get ys t ≡ None
none_beside {X = X} xs ys t len h = by (slice_get ys t) refl
  where
    by : (o : Option X) → slice_get ys t ≡ o → o ≡ None
    by None e = refl
    by (Some y) e =
        let within : t < length xs = subst (λ n. t < n) (sym len) (slice_get_within ys t y e) in
        let both : None ≡ Some (get_or xs t y) = sym h ∙ slice_get-get_or xs t y within in
        absurd (cc)

pub changed_at : {X : Type 0} (xs : List X) (i t : ℕ) (y x : X) → slice_get xs t ≡ Some x
    → slice_get (slice_set xs i y) t ≡ Some (if i == t then y else x)
changed_at xs i t y x h =
    let within : t < length xs = slice_get_within xs t x h in
    let still : t < length (slice_set xs i y) = subst (λ n. t < n) (sym (length-set xs i y)) within in
    slice_get-get_or (slice_set xs i y) t x still ∙ ap (λ z. Some z) (by (i == t) refl within)
  where
    by : (b : Bool) → (i == t) ≡ b → t < length xs → get_or (slice_set xs i y) t x ≡ (if b then y else x)
    by true e lt =
        let at : i ≡ t = eqb-true i t e in
        get_or-set_at xs i t y x (sym at) (subst (λ n. n < length xs) (sym at) lt)
    by false e lt = get_or-set_other xs i t y x (λ at. eqb-false i t e (sym at)) ∙ get_or_from_slice_get xs t x x h

-- the others stay
pub unchanged_at : {X : Type 0} (xs : List X) (i t : ℕ) (y : X) → (i == t) ≡ false
    → slice_get (slice_set xs i y) t ≡ slice_get xs t
unchanged_at {X = X} xs i t y ne = by (slice_get xs t) refl
  where
    by : (o : Option X) → slice_get xs t ≡ o → slice_get (slice_set xs i y) t ≡ o
    by None e = none_beside xs (slice_set xs i y) t (sym (length-set xs i y)) e
    by (Some z) e = changed_at xs i t y z e ∙ ap (λ b. Some (if b then y else z)) ne

-- nothing more is given
pub none_given : (xs : List TypeData) (t : ℕ) (x : Traits) (cs more : List Cell)
    → IsGiven xs t x cs → more ≡ [] → IsGiven xs t x (cs ++ more)
none_given xs t x cs more h none = subst (IsGiven xs t x) (sym (ap (λ ds. cs ++ ds) none ∙ append-nil cs)) h

-- the type with this number takes more, and no other one
pub given_to : (xs : List TypeData) (i : ℕ) (y z : TypeData) (extra : List Cell) (more : ℕ → Traits → List Cell)
    → slice_get xs i ≡ Some z → Takes z y extra → more i z.traits ≡ extra
    → ((t : ℕ) (x : Traits) → (i == t) ≡ false → more t x ≡ [])
    → (t : ℕ) (x : Traits) (cs : List Cell) → IsGiven xs t x cs → IsGiven (slice_set xs i y) t x (cs ++ more t x)
given_to xs i y z extra more there taken here elsewhere t x cs h = by (i == t) refl
  where
    now : slice_get (slice_set xs i y) t ≡ Some (if i == t then y else h.known)
    now = changed_at xs i t y h.known h.there

    by : (b : Bool) → (i == t) ≡ b → IsGiven (slice_set xs i y) t x (cs ++ more t x)
    by true e =
        let at : i ≡ t = eqb-true i t e in
        let both : Some h.known ≡ Some z = sym h.there ∙ sym (ap (slice_get xs) at) ∙ there in
        let same : h.known ≡ z = cc in
        let traits : z.traits ≡ x = ap (λ (k : TypeData). k.traits) (sym same) ∙ h.traits in
        let own : extra ≡ more t x = sym here ∙ ap (λ k. more k z.traits) at ∙ ap (more t) traits in
        record {
          known = y;
          there = now ∙ ap (λ b. Some (if b then y else h.known)) e;
          traits = taken.traits ∙ traits;
          stands = subst (λ ds. StandsFor (cs ++ ds) y) own (taken.stands cs (subst (StandsFor cs) same h.stands));
        }
    by false e = record {
      known = h.known;
      there = now ∙ ap (λ b. Some (if b then y else h.known)) e;
      traits = h.traits;
      stands = subst (λ ds. StandsFor ds h.known) (sym (ap (λ ds. cs ++ ds) (elsewhere t x e) ∙ append-nil cs))
          h.stands;
    }

-- a type is there, so its number is no other than those of types
pub is_not_past : (xs : List TypeData) (i t : ℕ) (x : Traits) (cs : List Cell) → length xs ≤ i → IsGiven xs t x cs
    → (i == t) ≡ false
is_not_past xs i t x cs past h = by (i == t) refl
  where
    by : (b : Bool) → (i == t) ≡ b → b ≡ false
    by false e = refl
    by true e =
        let both : None ≡ Some h.known = sym (slice_get_past xs i past) ∙ ap (slice_get xs) (eqb-true i t e)
        ∙ h.there in
        absurd (cc)

-- ---- what one type takes

pub takes_nothing : (x : TypeData) → Takes x x []
takes_nothing x = record {
  traits = refl;
  stands = λ cs h. subst (λ ds. StandsFor ds x) (sym (append-nil cs)) h;
}

pub takes_both : (x y z : TypeData) (as' bs : List Cell) → Takes x y as' → Takes y z bs → Takes x z (as' ++ bs)
takes_both x y z as' bs p q = record {
  traits = q.traits ∙ p.traits;
  stands = λ cs h. subst (λ ds. StandsFor ds z) (append_assoc cs as' bs) (q.stands (cs ++ as') (p.stands cs h));
}

pub cell_more : (xs cs : List Cell) (c : Cell) → listed xs ≡ listed cs → listed (xs ++ c ∷ []) ≡ listed (cs ++ c ∷ [])
cell_more xs cs c h = listed_more xs c ∙ ap (λ ls. fold with_element ls (members c)) h ∙ sym (listed_more cs c)

-- what one turn of a loop takes comes before the rest
pub taken_next : (x y z : TypeData) (before piece rest whole : List Cell) → Takes x y before → Takes y z piece
    → before ++ (piece ++ rest) ≡ whole
    → (all : List Cell) × Takes x z all × (all ++ rest ≡ whole)
taken_next x y z before piece rest whole p q sum =
    (before ++ piece, takes_both x y z before piece p q, append_assoc before piece rest ∙ sum)

pub taken_all : (x y : TypeData) (before rest whole : List Cell) → Takes x y before → rest ≡ []
    → before ++ rest ≡ whole → Takes x y whole
taken_all x y before rest whole p none sum = subst (Takes x y) (sym (append-nil before) ∙ ap (λ ds. before ++ ds)
    (sym none) ∙ sum) p

-- ---- what an entry that is a list gives

when_list : (a b : Bool) (cs : List Cell) → (a ≡ true) ⊎ (b ≡ false) → (if not a && b then cs else []) ≡ []
when_list true b cs h = refl
when_list false true cs (inl e) = absurd (true≢false (sym e))
when_list false true cs (inr e) = absurd (true≢false e)
when_list false false cs h = refl

pub no_list : (t : ℕ) (x : Traits) (e : Said) → is_list_of t e ≡ false → listed_share t x e ≡ []
no_list t x e h = when_list x.constructed (is_list_of t e) (cells_given e) (inr h)

pub no_own_list : (t : ℕ) (x : Traits) (e : Said) → x.constructed ≡ true → listed_share t x e ≡ []
no_own_list t x e h = when_list x.constructed (is_list_of t e) (cells_given e) (inl h)

pub own_list : (t : ℕ) (x : Traits) (e : Said) → x.constructed ≡ false → is_list_of t e ≡ true
    → listed_share t x e ≡ cells_given e
own_list t x e c l = ap (λ b. if not b && is_list_of t e then cells_given e else []) c
    ∙ ap (λ b. if b then cells_given e else []) l

-- ---- what is written at one position gives

not_both : (a : Bool) → (a && false) ≡ false
not_both true = refl
not_both false = refl

abbrev if_taken : Spot → Bool → List Cell
if_taken s b = filter_map (λ (k : Spot). k.cell) (if b then s ∷ [] else [])

pub occurs_elsewhere : (types : List TypeDecl) (t : ℕ) (x : Traits) (s : Spot) → occurs_at types t s ≡ false
    → occurring_share types t x (s ∷ []) ≡ []
occurs_elsewhere types t x s h = ap (λ b. if_taken s (x.occurs && b)) h ∙ ap (if_taken s) (not_both x.occurs)

pub takes_none : (types : List TypeDecl) (t : ℕ) (x : Traits) (s : Spot) → x.occurs ≡ false
    → occurring_share types t x (s ∷ []) ≡ []
takes_none types t x s h = ap (λ b. if_taken s (b && occurs_at types t s)) h

taken_or_not : (s : Spot) (b : Bool) → s.cell ≡ None → if_taken s b ≡ []
taken_or_not s true h = rw h refl
taken_or_not s false h = refl

pub no_cell : (types : List TypeDecl) (t : ℕ) (x : Traits) (s : Spot) → s.cell ≡ None
    → occurring_share types t x (s ∷ []) ≡ []
no_cell types t x s h = taken_or_not s (is_taken types t x s) h

cell_there : (s : Spot) (c : Cell) → s.cell ≡ Some c → if_taken s true ≡ c ∷ []
cell_there s c h = rw h refl

pub takes_cell : (types : List TypeDecl) (t : ℕ) (x : Traits) (s : Spot) (c : Cell) → x.occurs ≡ true
    → occurs_at types t s ≡ true → s.cell ≡ Some c → occurring_share types t x (s ∷ []) ≡ c ∷ []
takes_cell types t x s c o at h = ap (λ b. if_taken s (b && occurs_at types t s)) o ∙ ap (if_taken s) at
    ∙ cell_there s c h

-- ---- one after another

-- what is given by a first step and then by what is left
pub given_next : (mid new : List TypeData) (t : ℕ) (x : Traits) (ds first rest whole : List Cell)
    → IsGiven mid t x ds → (IsGiven mid t x ds → IsGiven new t x (ds ++ first)) → ds ++ (first ++ rest) ≡ whole
    → (es : List Cell) × IsGiven new t x es × (es ++ rest ≡ whole)
given_next mid new t x ds first rest whole here step sum = (ds ++ first, step here, append_assoc ds first rest ∙ sum)

-- in all, once nothing is left
pub given_all : (all : List TypeData) (t : ℕ) (x : Traits) (ds rest whole : List Cell)
    → IsGiven all t x ds → rest ≡ [] → ds ++ rest ≡ whole → IsGiven all t x whole
given_all all t x ds rest whole here none sum = subst (IsGiven all t x)
    (sym (append-nil ds) ∙ ap (λ es. ds ++ es) (sym none) ∙ sum) here

pub share_next : (types : List TypeDecl) (t : ℕ) (x : Traits) (ss us : List Spot)
    → occurring_share types t x (ss ++ us) ≡ occurring_share types t x ss ++ occurring_share types t x us
share_next types t x ss us = ap (filter_map (λ (k : Spot). k.cell)) (filter-append (is_taken types t x) ss us)
    ∙ filter_map-append (λ (k : Spot). k.cell) (filter (is_taken types t x) ss) (filter (is_taken types t x) us)

pub cell_written : (x y : TypeData) (s : Spot) (c : Cell) → s.cell ≡ Some c → Takes x y (c ∷ [])
    → Takes x y (if_taken s true)
cell_written x y s c h taken = subst (Takes x y) (sym (cell_there s c h)) taken

pub none_written : (x : TypeData) (s : Spot) → s.cell ≡ None → Takes x x (if_taken s true)
none_written x s h = subst (Takes x x) (sym (taken_or_not s true h)) (takes_nothing x)

-- ---- rows one after another

abbrev cells_in : Subject → List Row → List Cell
cells_in x rows = filter_map (λ (s : Spot). s.cell) (spots_in x (map row_view rows))

pub cells_first : (x : Subject) (rows : List Row) (i : ℕ) (r : Row) → i < length rows → r ≡ get_or rows i r
    → cells_in x (drop i rows) ≡ cells_in x (r ∷ []) ++ cells_in x (drop (i + 1) rows)
cells_first x rows i r lt is =
    ap (cells_in x) (front rows i r lt is)
    ∙ ap (filter_map (λ (s : Spot). s.cell)) (spots_next x (row_view r) (map row_view (drop (i + 1) rows)))
    ∙ filter_map-append (λ (s : Spot). s.cell) (spots_in x (row_view r ∷ []))
    (spots_in x (map row_view (drop (i + 1) rows)))

pub cells_next : (x : Subject) (rows : List Row) (i : ℕ) (r : Row) (old new whole : List Cell)
    → i < length rows → r ≡ get_or rows i r → new ≡ old ++ cells_in x (r ∷ [])
    → old ++ cells_in x (drop i rows) ≡ whole → new ++ cells_in x (drop (i + 1) rows) ≡ whole
cells_next x rows i r old new whole lt is more inv =
    ap (λ cs. cs ++ cells_in x (drop (i + 1) rows)) more
    ∙ append_assoc old (cells_in x (r ∷ [])) (cells_in x (drop (i + 1) rows))
    ∙ ap (λ cs. old ++ cs) (sym (cells_first x rows i r lt is)) ∙ inv

-- what was looked up is there
pub found_there : {X : Type 0} (xs : List X) (i : ℕ) (x : X) → i < length xs → x ≡ get_or xs i x
    → slice_get xs i ≡ Some x
found_there xs i x lt is = slice_get-get_or xs i x lt ∙ ap (λ y. Some y) (sym is)
