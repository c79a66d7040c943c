-- The least places of names, as more blocks are seen.
use Rattle.std.proofs.Common.{◌≡◌, ◌||◌, ◌&&◌, ℕ, Bool, true, false, nat_lt, cond, if◌then◌else◌, map, take, length}
use Rattle.std.proofs.Common.{get_or, ◌+◌, ◌<◌, List, [], ◌∷◌, ◌++◌, Option, None, Some, refl, ap, ◌∙◌, sym, Bor}
use Rattle.std.proofs.Common.{unwrap_or}
use Rattle.std.specs.Map.{lookup}
use Rattle.std.specs.Str.{bytes_eq}
use Rattle.std.specs.List.{list_any}
use Rattle.std.proofs.lemmas.List.{map-append, take_more, append_assoc}
use Rattle.std.proofs.lemmas.List.Folds.{list_any-append}
use Rattle.std.proofs.Math.Bool.{or-false}
use Rattle.std.proofs.lemmas.Slice.Eq.{bytes_eq-Decides}
use Rattle.indexmap.specs.IndexMap.{insert_entry}
use Rattle.grammar.specs.Trees.{Name}
use Rattle.grammar.specs.declared.raw_blocks.RawKb.{RawKb}
use Rattle.grammar.specs.declared.raw_blocks.RawTheory.{RawTheory}
use Rattle.grammar.specs.declared.raw_blocks.RawStructure.{RawStructure}
use Rattle.grammar.specs.declared.raw_blocks.RawTerm.{RawTerm}
use Rattle.stage_definitions.specs.FileView.{file_in, header_in, theory_in, term_in}
use Rattle.stage_definitions.specs.Names.{text_of, place_of_name}
use Rattle.stage_definitions.specs.BlocksStage.{is_again, is_called, header_names, headers_of}
use Rattle.stage_definitions.specs.Files.{Header, File, TheoryBlock, TermBlock}
use Rattle.block_choice.specs.declared.first_places.FirstPlaces.{FirstPlaces}
use Rattle.block_choice.specs.Choices.{is_before, place_kept, AreFirstPlaces}

abbrev Entries : Type 0
Entries = List (Bor (List ℕ) × ℕ)

abbrev place_of_word : Entries → List ℕ → Option ℕ
place_of_word es w = lookup (λ (k : Bor (List ℕ)). bytes_eq w k.now) es

abbrev inserted : Entries → Bor (List ℕ) → ℕ → Entries
inserted es k v = insert_entry (λ (x y : Bor (List ℕ)). bytes_eq x.now y.now) es k v

once : (c : Bool) (v u : ℕ) (o : Option ℕ) → cond c (Some v) o ≡ cond c (Some v) (cond c (Some u) o)
once true v u o = refl
once false v u o = refl

apart : (b c : Bool) (v u : ℕ) (o : Option ℕ) → (b ≡ true → c ≡ true → ⊥) → cond b (Some u) (cond c (Some v) o)
    ≡ cond c (Some v) (cond b (Some u) o)
apart true true v u o never = absurd (never refl refl)
apart true false v u o never = refl
apart false true v u o never = refl
apart false false v u o never = refl

unequal : (k e w : List ℕ) → bytes_eq k e ≡ false → bytes_eq w e ≡ true → bytes_eq w k ≡ true → ⊥
unequal k e w is f g =
    let same : k ≡ e = sym ((bytes_eq-Decides w k).0 g) ∙ (bytes_eq-Decides w e).0 f in
    let yes : bytes_eq k e ≡ true = (bytes_eq-Decides k e).1 same in
    absurd (let n : ⊥ = cc in n)

-- a word finds the new place exactly where it is the key
lookup_inserted : (es : Entries) (k : Bor (List ℕ)) (v : ℕ) (w : List ℕ)
    → place_of_word (inserted es k v) w ≡ cond (bytes_eq w k.now) (Some v) (place_of_word es w)
lookup_inserted [] k v w = refl
lookup_inserted (e ∷ es) k v w = by (bytes_eq k.now e.0.now) refl (lookup_inserted es k v w)
  where
    by : (b : Bool) → bytes_eq k.now e.0.now ≡ b
        → place_of_word (inserted es k v) w ≡ cond (bytes_eq w k.now) (Some v) (place_of_word es w)
        → place_of_word (if b then (e.0, v) ∷ es else e ∷ inserted es k v) w ≡ cond (bytes_eq w k.now) (Some v)
        (place_of_word (e ∷ es) w)
    by true is more =
        let same : k.now ≡ e.0.now = (bytes_eq-Decides k.now e.0.now).0 is in
        rw same (once (bytes_eq w e.0.now) v e.1 (place_of_word es w))
    by false is more =
        let differ : bytes_eq w e.0.now ≡ true → bytes_eq w k.now ≡ true → ⊥ = λ f g. unequal k.now e.0.now w is f g in
        rw more (apart (bytes_eq w e.0.now) (bytes_eq w k.now) v e.1 (place_of_word es w) differ)

again_added : (names : List Name) (n w : Name)
    → is_again (names ++ n ∷ []) w ≡ (is_again names w || (is_called (text_of w) n && nat_lt (place_of_name n)
    (place_of_name w)))
again_added names n w =
    list_any-append (λ (m : Name). is_called (text_of w) m && nat_lt (place_of_name m) (place_of_name w)) names (n ∷ [])
    ∙ ap (λ (b : Bool). is_again names w || b) (or-false (is_called (text_of w) n && nat_lt (place_of_name n)
    (place_of_name w)))

-- with one name more, kept at the lesser of its places
pub place_noted : (old new : Entries) (k : Bor (List ℕ)) (v : ℕ) (names : List Name) (n : Name)
    → new ≡ inserted old k v → k.now ≡ text_of n
    → ((later : ℕ) → nat_lt v later ≡ (is_before (place_of_word old k.now) later || nat_lt (place_of_name n) later))
    → ((w : Name) → is_before (place_of_word old (text_of w)) (place_of_name w) ≡ is_again names w)
    → (w : Name) → is_before (place_of_word new (text_of w)) (place_of_name w) ≡ is_again (names ++ n ∷ []) w
place_noted old new k v names n more same least before w =
    rw (more, lookup_inserted old k v (text_of w), again_added names n w) (by (bytes_eq (text_of w) k.now) refl)
  where
    by : (b : Bool) → bytes_eq (text_of w) k.now ≡ b
        → is_before (cond b (Some v) (place_of_word old (text_of w))) (place_of_name w)
        ≡ (is_again names w || (is_called (text_of w) n && nat_lt (place_of_name n) (place_of_name w)))
    by true is =
        let equal : text_of w ≡ k.now = (bytes_eq-Decides (text_of w) k.now).0 is in
        let called : is_called (text_of w) n ≡ true = ap (λ (t : List ℕ). bytes_eq (text_of w) t) (sym same) ∙ is in
        least (place_of_name w)
        ∙ ap (λ (b : Bool). b || nat_lt (place_of_name n) (place_of_name w))
        (ap (λ (t : List ℕ). is_before (place_of_word old t) (place_of_name w)) (sym equal) ∙ before w)
        ∙ ap (λ (b : Bool). is_again names w || (b && nat_lt (place_of_name n) (place_of_name w))) (sym called)
    by false is =
        let other : is_called (text_of w) n ≡ false = ap (λ (t : List ℕ). bytes_eq (text_of w) t) (sym same) ∙ is in
        before w ∙ sym (or-false (is_again names w))
        ∙ ap (λ (b : Bool). is_again names w || (b && nat_lt (place_of_name n) (place_of_name w))) (sym other)

-- the names of the blocks up to the next one
next_names : {B : Type 0} (h : B → Header) (bs : List B) (i : ℕ) (b : B) → i < length bs → b ≡ get_or bs i b
    → header_names (map h (take (i + 1) bs)) ≡ header_names (map h (take i bs)) ++ (h b).name ∷ []
next_names h bs i b within is =
    ap (λ (xs : List _). header_names (map h xs)) (take_more bs i b within ∙ ap (λ x. take i bs ++ x ∷ []) (sym is))
    ∙ ap header_names (map-append h (take i bs) (b ∷ []))
    ∙ map-append (λ (x : Header). x.name) (map h (take i bs)) (h b ∷ [])

-- the places are those of one block more
pub more_places : {B : Type 0} (h : B → Header) (bs : List B) (i : ℕ) (b : B) (names : List Name) (n : Name)
    (first : FirstPlaces)
    → i < length bs → b ≡ get_or bs i b → (h b).name ≡ n
    → AreFirstPlaces ((names ++ header_names (map h (take i bs))) ++ n ∷ []) first
    → AreFirstPlaces (names ++ header_names (map h (take (i + 1) bs))) first
more_places h bs i b names n first within is same are w =
    are w
    ∙ ap (λ (ns : List Name). is_again ns w)
    (append_assoc names (header_names (map h (take i bs))) (n ∷ [])
    ∙ ap (λ (m : Name). names ++ (header_names (map h (take i bs)) ++ m ∷ [])) (sym same)
    ∙ ap (λ (ns : List Name). names ++ ns) (sym (next_names h bs i b within is)))

-- what theories and term blocks are called
names_of_theories : (ts : List RawTheory)
    → header_names (map (λ (t : TheoryBlock). t.header) (map theory_in ts)) ≡ header_names
    (map (λ (t : RawTheory). header_in t.header) ts)
names_of_theories [] = refl
names_of_theories (t ∷ ts) = ap (λ (ns : List Name). (header_in t.header).name ∷ ns) (names_of_theories ts)

names_of_terms : (ts : List RawTerm)
    → header_names (map (λ (t : TermBlock). t.header) (map term_in ts)) ≡ header_names
    (map (λ (t : RawTerm). header_in t.header) ts)
names_of_terms [] = refl
names_of_terms (t ∷ ts) = ap (λ (ns : List Name). (header_in t.header).name ∷ ns) (names_of_terms ts)

names_by_kind : (f : File)
    → header_names (headers_of f)
    ≡ header_names (map (λ (t : TheoryBlock). t.header) f.theories)
    ++ (header_names f.structures ++ header_names (map (λ (t : TermBlock). t.header) f.terms))
names_by_kind f =
    map-append (λ (h : Header). h.name) (map (λ (t : TheoryBlock). t.header) f.theories)
    (f.structures ++ map (λ (t : TermBlock). t.header) f.terms)
    ∙ ap (λ (ns : List Name). header_names (map (λ (t : TheoryBlock). t.header) f.theories) ++ ns)
    (map-append (λ (h : Header). h.name) f.structures (map (λ (t : TermBlock). t.header) f.terms))

-- the places of a file's blocks, kind by kind
pub all_places : (raw : RawKb) (first : FirstPlaces)
    → AreFirstPlaces ((([] ++ header_names (map (λ (t : RawTheory). header_in t.header) raw.theories))
    ++ header_names (map (λ (s : RawStructure). header_in s.header) raw.structures))
    ++ header_names (map (λ (t : RawTerm). header_in t.header) raw.terms)) first
    → AreFirstPlaces (header_names (headers_of (file_in raw))) first
all_places raw first are w =
    let ts : List Name = header_names (map (λ (t : RawTheory). header_in t.header) raw.theories) in
    let ss : List Name = header_names (map (λ (s : RawStructure). header_in s.header) raw.structures) in
    let ms : List Name = header_names (map (λ (t : RawTerm). header_in t.header) raw.terms) in
    are w
    ∙ ap (λ (ns : List Name). is_again ns w)
    (append_assoc ts ss ms
    ∙ ap (λ (ns : List Name). ns ++ (ss ++ ms)) (sym (names_of_theories raw.theories))
    ∙ ap (λ (ns : List Name). header_names (map (λ (t : TheoryBlock). t.header) (map theory_in raw.theories)) ++
    (ss ++ ns)) (sym (names_of_terms raw.terms))
    ∙ sym (names_by_kind (file_in raw)))
