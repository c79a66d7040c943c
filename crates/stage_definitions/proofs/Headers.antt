-- Blocks by their headers.
use Rattle.std.proofs.Common.{◌≡◌, ◌+◌, ◌||◌, ◌&&◌, ℕ, Bool, true, false, not, nat_lt, cond, List, [], ◌∷◌, ◌++◌}
use Rattle.std.proofs.Common.{Option, None, unwrap_or, map, fold, refl, ap, ◌∙◌, sym}
use Rattle.std.specs.List.{flat_map, position, prefix_len}
use Rattle.std.proofs.lemmas.Grind.{fold-append, flat_map-append}
use Rattle.std.proofs.lemmas.List.{length-map, map-append}
use Rattle.std.proofs.lemmas.List.Folds.{list_any-append}
use Rattle.kb_text.specs.declared.fault.KbFault.{KbFault}
use Rattle.grammar.specs.declared.raw_blocks.RawKb.{RawKb}
use Rattle.grammar.specs.declared.raw_blocks.RawVocabulary.{RawVocabulary}
use Rattle.grammar.specs.declared.raw_blocks.RawTheory.{RawTheory}
use Rattle.grammar.specs.declared.raw_blocks.RawStructure.{RawStructure}
use Rattle.grammar.specs.declared.raw_blocks.RawTerm.{RawTerm}
use Rattle.stage_definitions.specs.BlocksStage.{BlockUse, wanted, block_noted, block_uses, chosen, header_names}
use Rattle.stage_definitions.specs.BlocksStage.{headers_of, is_again, is_called, one_of_each, one_unless_named}
use Rattle.stage_definitions.specs.BlocksStage.{uses_of_header}
use Rattle.stage_definitions.specs.FileView.{file_in, header_in, term_in, theory_in, vocabulary_in}
use Rattle.stage_definitions.specs.Files.{Header, TermBlock, TheoryBlock, VocabularyBlock}
use Rattle.stage_definitions.specs.Names.{place_of_name, text_of}
use Rattle.stage_definitions.specs.Scopes.{Text}
use Rattle.grammar.specs.Trees.{Name}

prefix_len-map : {X Y : Type 0} (f : X → Y) (p : Y → Bool) (xs : List X) → prefix_len p (map f xs) ≡ prefix_len
    (λ x. p (f x)) xs
prefix_len-map f p [] = refl
prefix_len-map f p (x ∷ xs) = ap (λ (n : ℕ). cond (p (f x)) (1 + n) 0) (prefix_len-map f p xs)

position-map : {X Y : Type 0} (f : X → Y) (p : Y → Bool) (xs : List X) → position p (map f xs)
    ≡ position (λ x. p (f x)) xs
position-map f p xs = rw (prefix_len-map f (λ y. not (p y)) xs, length-map xs f) refl

pub position_named : {X : Type 0} (h : X → Header) (word : Text) (xs : List X)
    → position (is_called word) (header_names (map h xs)) ≡ position (λ x. is_called word (h x).name) xs
position_named h word xs = position-map (λ (x : Header). x.name) (is_called word) (map h xs)
    ∙ position-map h (λ x. is_called word x.name) xs

-- ---- the headers of a file

-- what theories and terms have in their headers
theories_by : {X : Type 0} (g : Header → X) (xs : List RawTheory) → map (λ (t : TheoryBlock). g t.header)
    (map theory_in xs) ≡ map g (map (λ (t : RawTheory). header_in t.header) xs)
theories_by g [] = refl
theories_by g (x ∷ xs) = ap (λ (ys : List _). g (header_in x.header) ∷ ys) (theories_by g xs)

terms_by : {X : Type 0} (g : Header → X) (xs : List RawTerm) → map (λ (t : TermBlock). g t.header) (map term_in xs)
    ≡ map g (map (λ (t : RawTerm). header_in t.header) xs)
terms_by g [] = refl
terms_by g (x ∷ xs) = ap (λ (ys : List _). g (header_in x.header) ∷ ys) (terms_by g xs)

map-itself : (hs : List Header) → map (λ (h : Header). h) hs ≡ hs
map-itself [] = refl
map-itself (h ∷ hs) = ap (λ (ys : List Header). h ∷ ys) (map-itself hs)

abbrev theory_headers : RawKb → List Header
theory_headers raw = map (λ (t : RawTheory). header_in t.header) raw.theories

abbrev structure_headers : RawKb → List Header
structure_headers raw = map (λ (s : RawStructure). header_in s.header) raw.structures

abbrev term_headers : RawKb → List Header
term_headers raw = map (λ (t : RawTerm). header_in t.header) raw.terms

headers_are : (raw : RawKb) → headers_of (file_in raw) ≡ theory_headers raw ++
    (structure_headers raw ++ term_headers raw)
headers_are raw =
    ap (λ (hs : List Header). hs ++ (structure_headers raw ++ map (λ (t : TermBlock). t.header)
    (map term_in raw.terms)))
    (theories_by (λ (h : Header). h) raw.theories ∙ map-itself (theory_headers raw))
    ∙ ap (λ (hs : List Header). theory_headers raw ++ (structure_headers raw ++ hs))
    (terms_by (λ (h : Header). h) raw.terms ∙ map-itself (term_headers raw))

-- ---- a name that stands before

again-append : (hs js : List Header) (w : Name) → is_again (header_names (hs ++ js)) w
    ≡ (is_again (header_names hs) w || is_again (header_names js) w)
again-append hs js w =
    ap (λ (ns : List Name). is_again ns w) (map-append (λ (h : Header). h.name) hs js)
    ∙ list_any-append (λ (n : Name). is_called (text_of w) n && nat_lt (place_of_name n) (place_of_name w))
    (header_names hs) (header_names js)

again_is : (raw : RawKb) (w : Name) → is_again (header_names (headers_of (file_in raw))) w
    ≡ (is_again (header_names (theory_headers raw)) w || (is_again (header_names (structure_headers raw)) w || is_again
    (header_names (term_headers raw)) w))
again_is raw w =
    ap (λ (hs : List Header). is_again (header_names hs) w) (headers_are raw)
    ∙ again-append (theory_headers raw) (structure_headers raw ++ term_headers raw) w
    ∙ ap (λ (b : Bool). is_again (header_names (theory_headers raw)) w || b)
    (again-append (structure_headers raw) (term_headers raw) w)

module _ (raw : RawKb) (w : Name) (a : Bool) (ts : List RawTheory) (are : ts ≡ raw.theories)
    (first : a ≡ is_again (header_names (map (λ (t : RawTheory). header_in t.header) ts)) w) where
  theory_again : a ≡ is_again (header_names (theory_headers raw)) w
  theory_again = first ∙ ap (λ (xs : List RawTheory). is_again
      (header_names (map (λ (t : RawTheory). header_in t.header) xs)) w) are

  pub again_first : a ≡ true → true ≡ is_again (header_names (headers_of (file_in raw))) w
  again_first e = rw (again_is raw w, ← theory_again, e) refl

  module _ (b : Bool) (ss : List RawStructure) (be : ss ≡ raw.structures)
      (second : b ≡ is_again (header_names (map (λ (s : RawStructure). header_in s.header) ss)) w) where
    structure_again : b ≡ is_again (header_names (structure_headers raw)) w
    structure_again = second ∙ ap (λ (xs : List RawStructure).
        is_again (header_names (map (λ (s : RawStructure). header_in s.header) xs)) w) be

    pub again_second : a ≡ false → b ≡ true → true ≡ is_again (header_names (headers_of (file_in raw))) w
    again_second e f = rw (again_is raw w, ← theory_again, ← structure_again, e, f) refl

    pub again_third : (c : Bool) (ms : List RawTerm) → ms ≡ raw.terms
        → c ≡ is_again (header_names (map (λ (t : RawTerm). header_in t.header) ms)) w
        → a ≡ false → b ≡ false → c ≡ is_again (header_names (headers_of (file_in raw))) w
    again_third c ms ce third e f =
        let third_again : c ≡ is_again (header_names (term_headers raw)) w = third
        ∙ ap (λ (xs : List RawTerm). is_again (header_names (map (λ (t : RawTerm). header_in t.header) xs)) w) ce in
        rw (again_is raw w, ← theory_again, ← structure_again, ← third_again, e, f) refl

-- ---- what is noted

abbrev over_headers : RawKb → List Header → List BlockUse
over_headers raw hs = flat_map (uses_of_header (file_in raw)) hs

pub noted_headers : (raw : RawKb) (o e1 e2 e3 : Option KbFault) (ts : List RawTheory) (ss : List RawStructure)
    (ms : List RawTerm)
    → ts ≡ raw.theories → ss ≡ raw.structures → ms ≡ raw.terms
    → e1 ≡ fold block_noted o (over_headers raw (map (λ (t : RawTheory). header_in t.header) ts))
    → e2 ≡ fold block_noted e1 (over_headers raw (map (λ (s : RawStructure). header_in s.header) ss))
    → e3 ≡ fold block_noted e2 (over_headers raw (map (λ (t : RawTerm). header_in t.header) ms))
    → e3 ≡ fold block_noted o (flat_map (uses_of_header (file_in raw)) (headers_of (file_in raw)))
noted_headers raw o e1 e2 e3 ts ss ms are be ce first second third =
    let u : Header → List BlockUse = uses_of_header (file_in raw) in
    third ∙ rw (second, first, are, be, ce)
    (sym
    (ap (λ (hs : List Header). fold block_noted o (flat_map u hs)) (headers_are raw)
    ∙ ap (fold block_noted o) (flat_map-append u (theory_headers raw) (structure_headers raw ++ term_headers raw))
    ∙ fold-append block_noted o (flat_map u (theory_headers raw))
    (flat_map u (structure_headers raw ++ term_headers raw))
    ∙ ap (fold block_noted (fold block_noted o (flat_map u (theory_headers raw))))
    (flat_map-append u (structure_headers raw) (term_headers raw))
    ∙ fold-append block_noted (fold block_noted o (flat_map u (theory_headers raw)))
    (flat_map u (structure_headers raw)) (flat_map u (term_headers raw))))

pub chosen_theory : (raw : RawKb) (choice : Option Text) (ts : List RawTheory) (n : ℕ) → ts ≡ raw.theories
    → n ≡ unwrap_or (chosen (header_names (map (λ (t : RawTheory). header_in t.header) ts)) choice) 0
    → n ≡ unwrap_or (chosen (map (λ (t : TheoryBlock). t.header.name) (file_in raw).theories) choice) 0
chosen_theory raw choice ts n are e = e ∙ rw (are, theories_by (λ (h : Header). h.name) raw.theories) refl

-- the uses of a file, one part after another
all_uses : (raw : RawKb) (theory structure : Option Text) (o : Option KbFault)
    → fold block_noted o (block_uses (file_in raw) theory structure)
    ≡ block_noted
    (block_noted
    (block_noted
    (fold block_noted
    (fold block_noted
    (fold block_noted
    (fold block_noted o (flat_map (uses_of_header (file_in raw)) (headers_of (file_in raw))))
    (one_of_each 0 (map (λ (v : VocabularyBlock). v.place) (map vocabulary_in raw.vocabularies))))
    (one_unless_named theory (map (λ (h : Header). h.place) (theory_headers raw))))
    (one_unless_named structure (map (λ (h : Header). h.place) (structure_headers raw))))
    (wanted (map (λ (v : VocabularyBlock). v.name) (map vocabulary_in raw.vocabularies)) None raw.end))
    (wanted (header_names (theory_headers raw)) theory raw.end))
    (wanted (header_names (structure_headers raw)) structure raw.end)
all_uses raw theory structure o =
    rw (
      fold-append,
      fold-append,
      fold-append,
      fold-append,
      theories_by (λ (h : Header). h.place) raw.theories,
      theories_by (λ (h : Header). h.name) raw.theories,
    ) refl

pub noted_blocks : (raw : RawKb) (theory structure : Option Text) (o e1 e2 e3 e4 e5 e6 e7 : Option KbFault)
    (vs : List RawVocabulary) (ts ts2 : List RawTheory) (ss ss2 : List RawStructure)
    → vs ≡ raw.vocabularies → ts ≡ raw.theories → ts2 ≡ raw.theories → ss ≡ raw.structures → ss2 ≡ raw.structures
    → e1 ≡ fold block_noted o (flat_map (uses_of_header (file_in raw)) (headers_of (file_in raw)))
    → e2 ≡ fold block_noted e1 (one_of_each 0 (map (λ (v : VocabularyBlock). v.place) (map vocabulary_in vs)))
    → e3 ≡ fold block_noted e2 (one_unless_named theory (map (λ (h : Header). h.place)
    (map (λ (t : RawTheory). header_in t.header) ts)))
    → e4 ≡ fold block_noted e3 (one_unless_named structure (map (λ (h : Header). h.place)
    (map (λ (s : RawStructure). header_in s.header) ss)))
    → e5 ≡ block_noted e4 (wanted (map (λ (v : VocabularyBlock). v.name) (map vocabulary_in raw.vocabularies))
    None raw.end)
    → e6 ≡ block_noted e5 (wanted (header_names (map (λ (t : RawTheory). header_in t.header) ts2)) theory raw.end)
    → e7 ≡ block_noted e6 (wanted (header_names (map (λ (s : RawStructure). header_in s.header) ss2)) structure raw.end)
    → e7 ≡ fold block_noted o (block_uses (file_in raw) theory structure)
noted_blocks raw theory structure o e1 e2 e3 e4 e5 e6 e7 vs ts ts2 ss ss2 ve te te2 se se2 h1 h2 h3 h4 h5 h6 h7 =
    h7 ∙ rw (h6, h5, h4, h3, h2, h1, ve, te, te2, se, se2, ← all_uses raw theory structure o) refl
