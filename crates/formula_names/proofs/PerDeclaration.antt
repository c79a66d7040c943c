-- What one declaration more adds.
use Rattle.std.proofs.Common.{◌≡◌, ◌<◌, ℕ, ◌+◌, List, [], ◌∷◌, ◌++◌, Option, length, get_or, drop, map, fold, refl, ap}
use Rattle.std.proofs.Common.{◌∙◌, sym, add-zero, append-nil, append_assoc}
use Rattle.std.proofs.lemmas.Grind.{fold-append}
use Rattle.std.proofs.lemmas.List.{length-append}
use Rattle.kb_logic.specs.declared.vocabularies.TypeDecl.{TypeDecl}
use Rattle.kb_logic.specs.declared.vocabularies.Symbol.{Symbol}
use Rattle.kb_text.specs.declared.fault.KbFault.{KbFault}
use Rattle.grammar.specs.declared.raw_blocks.RawDeclaration.{RawDeclaration}
use Rattle.stage_definitions.specs.FileView.{declaration_in}
use Rattle.stage_definitions.specs.Files.{Declaration, type_under, constructed_type, symbol}
use Rattle.stage_definitions.specs.Names.{Names}
use Rattle.stage_definitions.specs.Numbering.{types_in, symbols_in, type_places, symbol_places}
use Rattle.stage_definitions.specs.Uses.{Use, counted, position, parent_uses, position_uses, uses_in_declarations}
use Rattle.stage_definitions.specs.Uses.{parents_in}
use Rattle.formula_names.specs.Tails.{type_count, symbol_count}
use Rattle.formula_names.proofs.Declared.{front}

-- ---- lists that each declaration adds to

pub types_in-next : (names : Names) (d : Declaration) (ds : List Declaration) → types_in names (d ∷ ds) ≡ types_in names
    (d ∷ []) ++ types_in names ds
types_in-next names (type_under n p) ds = refl
types_in-next names (constructed_type n ns) ds = refl
types_in-next names (symbol n args to) ds = refl

pub symbols_in-next : (names : Names) (d : Declaration) (ds : List Declaration) → symbols_in names (d ∷ ds)
    ≡ symbols_in names (d ∷ []) ++ symbols_in names ds
symbols_in-next names (type_under n p) ds = refl
symbols_in-next names (constructed_type n ns) ds = refl
symbols_in-next names (symbol n args to) ds = refl

pub parents_in-next : (names : Names) (d : Declaration) (ds : List Declaration) → parents_in names (d ∷ ds)
    ≡ parents_in names (d ∷ []) ++ parents_in names ds
parents_in-next names (type_under n p) ds = refl
parents_in-next names (constructed_type n ns) ds = refl
parents_in-next names (symbol n args to) ds = refl

pub type_places-next : (d : Declaration) (ds : List Declaration) → type_places (d ∷ ds) ≡ type_places (d ∷ [])
    ++ type_places ds
type_places-next (type_under n p) ds = refl
type_places-next (constructed_type n ns) ds = refl
type_places-next (symbol n args to) ds = refl

pub symbol_places-next : (d : Declaration) (ds : List Declaration) → symbol_places (d ∷ ds) ≡ symbol_places (d ∷ [])
    ++ symbol_places ds
symbol_places-next (type_under n p) ds = refl
symbol_places-next (constructed_type n ns) ds = refl
symbol_places-next (symbol n args to) ds = refl

pub next_added : {X : Type 0} (F : List Declaration → List X) (i : ℕ) (ds : List RawDeclaration) (x : RawDeclaration)
    (old new whole : List X)
    → i < length ds → x ≡ get_or ds i x
    → ((d : Declaration) (es : List Declaration) → F (d ∷ es) ≡ F (d ∷ []) ++ F es)
    → new ≡ old ++ F (declaration_in x ∷ [])
    → old ++ F (map declaration_in (drop i ds)) ≡ whole
    → new ++ F (map declaration_in (drop (i + 1) ds)) ≡ whole
next_added F i ds x old new whole lt is next e h =
    let there : drop i ds ≡ x ∷ drop (i + 1) ds = front ds i x lt is in
    let h' : old ++ F (declaration_in x ∷ map declaration_in (drop (i + 1) ds)) ≡ whole = rw there at h in
    rw (e, append_assoc old (F (declaration_in x ∷ [])) (F (map declaration_in (drop (i + 1) ds))))
    (rw (next (declaration_in x) (map declaration_in (drop (i + 1) ds))) at h')

-- ---- what is noted of it

pub uses_in_declarations-next : (t s : ℕ) (d : Declaration) (ds : List Declaration)
    → uses_in_declarations t s (d ∷ ds) ≡ uses_in_declarations t s (d ∷ []) ++ uses_in_declarations (t + type_count d)
    (s + symbol_count d) ds
uses_in_declarations-next t s (type_under n p) ds =
    rw (add-zero s) (ap (λ (us : List Use). counted 256 (t + 1) n ∷ (us ++ uses_in_declarations (t + 1) s ds))
    (sym (append-nil (parent_uses p))))
uses_in_declarations-next t s (constructed_type n ns) ds = rw (add-zero s) refl
uses_in_declarations-next t s (symbol n args to) ds =
    rw (add-zero t) (ap (λ (us : List Use). counted 1024 (s + 1) n ∷
    (counted 8 (length args) n ∷ (us ++ uses_in_declarations t (s + 1) ds)))
    (sym (append-nil (map position args ++ position_uses to))))

types_counted : (names : Names) (d : Declaration) → length (types_in names (d ∷ [])) ≡ type_count d
types_counted names (type_under n p) = refl
types_counted names (constructed_type n ns) = refl
types_counted names (symbol n args to) = refl

symbols_counted : (names : Names) (d : Declaration) → length (symbols_in names (d ∷ [])) ≡ symbol_count d
symbols_counted names (type_under n p) = refl
symbols_counted names (constructed_type n ns) = refl
symbols_counted names (symbol n args to) = refl

pub more_types : (names : Names) (d : Declaration) (old new : List TypeDecl) → new ≡ old ++ types_in names (d ∷ [])
    → length new ≡ length old + type_count d
more_types names d old new e = rw (e, length-append, types_counted names d) refl

pub more_symbols : (names : Names) (d : Declaration) (old new : List Symbol) → new ≡ old ++ symbols_in names (d ∷ [])
    → length new ≡ length old + symbol_count d
more_symbols names d old new e = rw (e, length-append, symbols_counted names d) refl

pub next_noted : (N : Option KbFault → Use → Option KbFault) (o next whole : Option KbFault) (t s t' s' i : ℕ)
    (ds : List RawDeclaration) (x : RawDeclaration)
    → i < length ds → x ≡ get_or ds i x
    → t' ≡ t + type_count (declaration_in x) → s' ≡ s + symbol_count (declaration_in x)
    → next ≡ fold N o (uses_in_declarations t s (declaration_in x ∷ []))
    → fold N o (uses_in_declarations t s (map declaration_in (drop i ds))) ≡ whole
    → fold N next (uses_in_declarations t' s' (map declaration_in (drop (i + 1) ds))) ≡ whole
next_noted N o next whole t s t' s' i ds x lt is et es e h =
    let there : drop i ds ≡ x ∷ drop (i + 1) ds = front ds i x lt is in
    let first : fold N o (uses_in_declarations t s (declaration_in x ∷ map declaration_in (drop (i + 1) ds))) ≡ whole =
    rw there at h in
    let split : fold N o (uses_in_declarations t s (declaration_in x ∷ []) ++ uses_in_declarations
    (t + type_count (declaration_in x)) (s + symbol_count (declaration_in x))
    (map declaration_in (drop (i + 1) ds))) ≡ whole =
    rw (uses_in_declarations-next t s (declaration_in x) (map declaration_in (drop (i + 1) ds))) at first in
    rw (et, es, e) (sym (fold-append N o (uses_in_declarations t s (declaration_in x ∷ [])) _) ∙ split)

-- ---- the parts of one declaration

pub type_noted : (N : Option KbFault → Use → Option KbFault) (start a b : Option KbFault) (u : Use) (us : List Use)
    → a ≡ N start u → b ≡ fold N a us → b ≡ fold N start (u ∷ us)
type_noted N start a b u us e f = f ∙ rw e refl

pub symbol_noted : (N : Option KbFault → Use → Option KbFault) (start a b c d : Option KbFault) (u v : Use)
    (us ws : List Use)
    → a ≡ N start u → b ≡ N a v → c ≡ fold N b us → d ≡ fold N c ws → d ≡ fold N start (u ∷ v ∷ (us ++ ws))
symbol_noted N start a b c d u v us ws e f g h = h ∙ rw (g, f, e) (sym (fold-append N (N (N start u) v) us ws))

pub alone : (N : Option KbFault → Use → Option KbFault) (start after : Option KbFault) (us : List Use)
    → after ≡ fold N start us → after ≡ fold N start (us ++ [])
alone N start after us e = e ∙ ap (fold N start) (sym (append-nil us))

-- ---- a whole file

pub file_noted : (N : Option KbFault → Use → Option KbFault) (start a b c d e : Option KbFault)
    (us vs ws xs ys : List Use)
    → a ≡ fold N start us → b ≡ fold N a vs → c ≡ fold N b ws → d ≡ fold N c xs → e ≡ fold N d ys
    → e ≡ fold N start (((us ++ vs) ++ ws) ++ (xs ++ ys))
file_noted N start a b c d e us vs ws xs ys p q r s t =
    let last : e ≡ fold N c (xs ++ ys) = t ∙ rw s (sym (fold-append N c xs ys)) in
    let two : b ≡ fold N start (us ++ vs) = q ∙ rw p (sym (fold-append N start us vs)) in
    let three : c ≡ fold N start ((us ++ vs) ++ ws) = r ∙ rw two (sym (fold-append N start (us ++ vs) ws)) in
    last ∙ rw three (sym (fold-append N start ((us ++ vs) ++ ws) (xs ++ ys)))
