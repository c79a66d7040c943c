-- A look-up in a table of names is one in the names that it lists.
use Rattle.std.proofs.Common.{◌≡◌, ◌<◌, ◌+◌, ℕ, Bool, true, false, List, [], ◌∷◌, ◌++◌, Option, None, Some, is_some}
use Rattle.std.proofs.Common.{if◌then◌else◌, cond, drop, get_or, length, refl, sym, ap, ◌∙◌, map, Bor}
use Rattle.std.proofs.lemmas.List.{map-append}
use Rattle.std.specs.List.{enumerate_from}
use Rattle.std.specs.Map.{lookup}
use Rattle.std.specs.Str.{bytes_eq}
use Rattle.std.proofs.lemmas.Slice.Eq.{bytes_eq-Decides}
use Rattle.kb_logic.specs.declared.vocabularies.TypeDecl.{TypeDecl}
use Rattle.kb_logic.specs.declared.vocabularies.Symbol.{Symbol}
use Rattle.stage_definitions.specs.Scopes.{Text}
use Rattle.structure_entries.proofs.Dropped.{front}
use Rattle.stage_definitions.specs.DataEntries as said
use Rattle.structure_entries.specs.EntryViews.{found_in, subject_view}
use Rattle.structure_entries.specs.declared.subjects.Subject.{Subject}

abbrev Names : Type 0
Names = List (Bor (List ℕ) × Subject)

abbrev pub names_of : List (Bor (List ℕ) × Subject) → List (Text × said.Subject)
names_of es = map (λ (e : Bor (List ℕ) × Subject). (e.0.now, subject_view e.1)) es

-- what was looked up, or else what else the word names
abbrev or_other : Option Subject → said.Subject → said.Subject
or_other None other = other
or_other (Some s) other = subject_view s

looked_up_by : (b : Bool) (s : Subject) (o : Option Subject) (rest other : said.Subject) → rest ≡ or_other o other
    → (if b then subject_view s else rest) ≡ or_other (cond b (Some s) o) other
looked_up_by true s o rest other e = refl
looked_up_by false s o rest other e = e

pub looked_up : (es : List (Bor (List ℕ) × Subject)) (w : Text) (other : said.Subject)
    → found_in w (names_of es) other ≡ or_other (lookup (λ k. bytes_eq w k.now) es) other
looked_up [] w other = refl
looked_up (e ∷ es) w other = looked_up_by (bytes_eq w e.0.now) e.1 (lookup (λ k. bytes_eq w k.now) es) _ other
    (looked_up es w other)

pub word_found : (es : List (Bor (List ℕ) × Subject)) (w : Text) (s : Subject)
    → Some s ≡ lookup (λ k. bytes_eq w k.now) es
    → subject_view s ≡ found_in w (names_of es) said.nothing_named
word_found es w s e = ap (λ o. or_other o said.nothing_named) e ∙ sym (looked_up es w said.nothing_named)

pub word_missing : (es : List (Bor (List ℕ) × Subject)) (w : Text) → None ≡ lookup (λ k. bytes_eq w k.now) es
    → said.nothing_named ≡ found_in w (names_of es) said.nothing_named
word_missing es w e = ap (λ o. or_other o said.nothing_named) e ∙ sym (looked_up es w said.nothing_named)

some_other : (o : Option Subject) (x y : said.Subject) → is_some o ≡ true → or_other o x ≡ or_other o y
some_other None x y h = let n : ⊥ = cc in absurd n
some_other (Some s) x y h = refl

-- a name that is there already names what it did
pub kept : (es : List (Bor (List ℕ) × Subject)) (word : Text) (s : said.Subject)
    → is_some (lookup (λ k. bytes_eq word k.now) es) ≡ true
    → (w : Text) (other : said.Subject) → found_in w (names_of es) other ≡ found_in w (names_of es)
    (if bytes_eq w word then s else other)
kept es word s h w other = by (bytes_eq w word) refl
  where
    by : (b : Bool) → bytes_eq w word ≡ b → found_in w (names_of es) other ≡ found_in w (names_of es) (if b then
        s else other)
    by false e = refl
    by true e =
        let same : w ≡ word = (bytes_eq-Decides w word).0 e in
        looked_up es w other
        ∙ some_other (lookup (λ k. bytes_eq w k.now) es) other s
        (ap (λ v. is_some (lookup (λ k. bytes_eq v k.now) es)) same ∙ h)
        ∙ sym (looked_up es w s)

found-append : (w : Text) (xs ys : List (Text × said.Subject)) (other : said.Subject) → found_in w (xs ++ ys) other
    ≡ found_in w xs (found_in w ys other)
found-append w [] ys other = refl
found-append w (x ∷ xs) ys other = ap (λ r. if bytes_eq w x.0 then x.1 else r) (found-append w xs ys other)

-- a name that is added is found after the others
pub added : (es new : List (Bor (List ℕ) × Subject)) (k : Bor (List ℕ)) (s : Subject) → new ≡ es ++ (k, s) ∷ []
    → (w : Text) (other : said.Subject) → found_in w (names_of new) other ≡ found_in w (names_of es)
    (if bytes_eq w k.now then subject_view s else other)
added es new k s e w other =
    ap (λ ns. found_in w (names_of ns) other) e
    ∙ ap (λ ns. found_in w ns other) (map-append (λ (e : Bor (List ℕ) × Subject). (e.0.now, subject_view e.1)) es
    ((k, s) ∷ []))
    ∙ found-append w (names_of es) ((k.now, subject_view s) ∷ []) other

-- ---- one name more

pub type_next : (w : Text) (types : List TypeDecl) (t : ℕ) (d : TypeDecl) (other : said.Subject) → t < length types
    → d ≡ get_or types t d
    → said.named_in_types w (enumerate_from t (drop t types)) other ≡ (if bytes_eq w d.name then said.a_type t d else
    said.named_in_types w (enumerate_from (t + 1) (drop (t + 1) types)) other)
type_next w types t d other lt is = ap (λ ds. said.named_in_types w (enumerate_from t ds) other) (front types t d lt is)

pub symbol_next : (w : Text) (symbols : List Symbol) (s : ℕ) (d : Symbol) (other : said.Subject) → s < length symbols
    → d ≡ get_or symbols s d
    → said.named_in_symbols w (enumerate_from s (drop s symbols)) other ≡ (if bytes_eq w d.name then
    said.a_symbol s d else said.named_in_symbols w (enumerate_from (s + 1) (drop (s + 1) symbols)) other)
symbol_next w symbols s d other lt is = ap (λ ds. said.named_in_symbols w (enumerate_from s ds) other)
    (front symbols s d lt is)

pub none_of : (o : Option Subject) → is_some o ≡ false → o ≡ None
none_of None e = refl
none_of (Some m) e = absurd (let n : ⊥ = cc in n)
