-- The vocabulary of what the stage of names accepts is well formed.
use Rattle.std.proofs.Common.{◌≡◌, ◌<◌, ◌≤◌, ℕ, ◌+◌, false, List, [], ◌∷◌, ◌++◌, length, map, Option, None, Some, refl}
use Rattle.std.proofs.Common.{sym, subst, arith}
use Rattle.std.specs.Prelude.{flat_map}
use Rattle.std.specs.List.{AllByRecursion}
use Rattle.std.proofs.lemmas.Bool.{true≢false, false_from_ne_true}
use Rattle.std.proofs.lemmas.List.{length-map}
use Rattle.kb_text.specs.declared.fault.KbFault.{KbFault}
use Rattle.kb_logic.specs.declared.vocabularies.TypeDecl.{TypeDecl}
use Rattle.kb_logic.specs.declared.vocabularies.Symbol.{Symbol}
use Rattle.kb_logic.proofs.Members.{in_all}
use Rattle.grammar.specs.Trees.{Name}
use Rattle.stage_definitions.specs.Scopes.{Text}
use Rattle.stage_definitions.specs.Files.{Declaration, type_under, constructed_type, symbol, File}
use Rattle.stage_definitions.specs.Names.{Meaning, undeclared, integers, naturals, a_type, predicate, function, made}
use Rattle.stage_definitions.specs.Names.{variable, Names, meaning_of, number_types, declared_names, names_of, text_of}
use Rattle.stage_definitions.specs.NamesStage.{is_undeclared, is_no_type, is_redeclared, redeclared, NamesRefuse}
use Rattle.stage_definitions.specs.NamesStage.{declarations_of, uses_of_file}
use Rattle.stage_definitions.specs.Uses.{Use, counted, position, parent_uses, position_uses, declared_uses}
use Rattle.stage_definitions.specs.Uses.{uses_in_declarations, cycle_uses, uses_of_declarations, uses_in_theory}
use Rattle.stage_definitions.specs.Uses.{uses_in_block}
use Rattle.stage_definitions.specs.Numbering.{parent_of, parent_named, type_number_of, types_in, symbols_in}
use Rattle.stage_definitions.specs.Numbering.{vocabulary_name, vocabulary_of, NamedFile}
use Rattle.stage_definitions.specs.TypedFiles.{TypedFile}
use Rattle.reading_laws.specs.Vocabularies.{IsParentAmong, IsTypeAmong, IsSymbolOver, IsWellFormed, DerivedIsWellFormed}
use Rattle.reading_laws.proofs.Alls.{all_left, all_right}
use Rattle.reading_laws.proofs.Meanings.{IsFine, AreFine, IsMeaning, words_mean, kept, at_most, no_more}
use Rattle.reading_laws.proofs.Numbered.{AreTypes}
use Rattle.reading_laws.proofs.Words.{symbols_have_types}
use Rattle.reading_laws.proofs.Names.{AreNew, texts_differ, names_apart}
use Rattle.reading_laws.proofs.Derived.{names_fine}

-- ---- numbers of declarations

few_types : (names : Names) (t s : ℕ) (ds : List Declaration) → AreFine names (uses_in_declarations t s ds) → t ≤ 256
    → t + length (types_in names ds) ≤ 256
few_types names t s [] fine le = omega (arith, le)
few_types names t s (type_under n p ∷ ds) fine le =
    let more = at_most t 256 fine.0.few in
    let rest : t + 1 + length (types_in names ds) ≤ 256 =
    few_types names (t + 1) s ds (all_right (IsFine names) (counted 256 (t + 1) n ∷ parent_uses p)
    (uses_in_declarations (t + 1) s ds) fine) (omega (arith, more)) in
    omega (arith, rest)
few_types names t s (constructed_type n ns ∷ ds) fine le =
    let more = at_most t 256 fine.0.few in
    let rest : t + 1 + length (types_in names ds) ≤ 256 = few_types names (t + 1) s ds fine.1.1 (omega (arith, more)) in
    omega (arith, rest)
few_types names t s (symbol n args to ∷ ds) fine le =
    few_types names t (s + 1) ds (all_right (IsFine names) (counted 1024 (s + 1) n ∷ counted 8 (length args) n ∷
    (map position args ++ position_uses to)) (uses_in_declarations t (s + 1) ds) fine) le

few_symbols : (names : Names) (t s : ℕ) (ds : List Declaration) → AreFine names (uses_in_declarations t s ds) → s ≤ 1024
    → s + length (symbols_in names ds) ≤ 1024
few_symbols names t s [] fine le = omega (arith, le)
few_symbols names t s (type_under n p ∷ ds) fine le =
    few_symbols names (t + 1) s ds (all_right (IsFine names) (counted 256 (t + 1) n ∷ parent_uses p)
    (uses_in_declarations (t + 1) s ds) fine) le
few_symbols names t s (constructed_type n ns ∷ ds) fine le = few_symbols names (t + 1) s ds fine.1.1 le
few_symbols names t s (symbol n args to ∷ ds) fine le =
    let more = at_most s 1024 fine.0.few in
    let rest : s + 1 + length (symbols_in names ds) ≤ 1024 =
    few_symbols names t (s + 1) ds (all_right (IsFine names) (counted 1024 (s + 1) n ∷ counted 8 (length args) n ∷
    (map position args ++ position_uses to)) (uses_in_declarations t (s + 1) ds) fine)
    (omega (arith, more)) in
    omega (arith, rest)

-- ---- types and symbols

parent_is : (types : List TypeDecl) (symbols : List Symbol) (k : ℕ) (m : Meaning) → IsMeaning types symbols k m
    → is_undeclared m ≡ false → is_no_type m ≡ false
    → IsParentAmong types (parent_of m)
parent_is types symbols k undeclared h known right = absurd (true≢false known)
parent_is types symbols k integers h known right = tt
parent_is types symbols k naturals h known right = tt
parent_is types symbols k (a_type t) h known right = subst (λ (n : ℕ). n < length types) (sym (kept t 256 h.1)) h.0
parent_is types symbols k (predicate s n) h known right = absurd (true≢false right)
parent_is types symbols k (function s n) h known right = absurd (true≢false right)
parent_is types symbols k (made t i) h known right = absurd (true≢false right)
parent_is types symbols k (variable level) h known right = absurd (true≢false right)

module _ (types : List TypeDecl) (symbols : List Symbol) (names : Names)
    (means : (k : ℕ) (w : Text) → IsMeaning types symbols k (meaning_of names w)) where
  parent_among : (p : Option Name) → AreFine names (parent_uses p) → IsParentAmong types (parent_named names p)
  parent_among None fine = tt
  parent_among (Some w) fine = parent_is types symbols 0 (meaning_of names (text_of w))
      (means 0 (text_of w)) fine.0.known fine.0.right

  each_type : (t s : ℕ) (ds : List Declaration) → AreFine names (uses_in_declarations t s ds)
      → AllByRecursion (IsTypeAmong types) (types_in names ds)
  each_type t s [] fine = tt
  each_type t s (type_under n p ∷ ds) fine =
      let later = uses_in_declarations (t + 1) s ds in (
        record {
          parent = parent_among p (all_left (IsFine names) (parent_uses p) later fine.1);
          few = omega arith;
          alone = λ e. absurd (e refl);
        },
        each_type (t + 1) s ds (all_right (IsFine names) (parent_uses p) later fine.1),
      )
  each_type t s (constructed_type n ns ∷ ds) fine =
      let few = no_more (length ns) 65536 fine.1.0.few in
      let long : length (map text_of ns) ≡ length ns = length-map ns text_of in
      (record { parent = tt; few = omega (arith, few, long); alone = λ e. refl }, each_type (t + 1) s ds fine.1.1)
  each_type t s (symbol n args to ∷ ds) fine =
      each_type t (s + 1) ds (all_right (IsFine names) (counted 1024 (s + 1) n ∷ counted 8 (length args) n ∷
      (map position args ++ position_uses to)) (uses_in_declarations t (s + 1) ds) fine)

each_symbol : (types : List TypeDecl) (names : Names) (t s : ℕ) (ds : List Declaration)
    → AreFine names (uses_in_declarations t s ds)
    → AllByRecursion (AreTypes types) (symbols_in names ds) → AllByRecursion (IsSymbolOver types) (symbols_in names ds)
each_symbol types names t s [] fine h = tt
each_symbol types names t s (type_under n p ∷ ds) fine h =
    each_symbol types names (t + 1) s ds (all_right (IsFine names) (counted 256 (t + 1) n ∷ parent_uses p)
    (uses_in_declarations (t + 1) s ds) fine) h
each_symbol types names t s (constructed_type n ns ∷ ds) fine h = each_symbol types names (t + 1) s ds fine.1.1 h
each_symbol types names t s (symbol n args to ∷ ds) fine h =
    let few = no_more (length args) 8 fine.1.0.few in
    let long : length (map (type_number_of names) args) ≡ length args = length-map args (type_number_of names) in (
      record { few = omega (arith, few, long); args = h.0.args; value = h.0.value },
      each_symbol types names t (s + 1) ds (all_right (IsFine names) (map position args ++ position_uses to)
          (uses_in_declarations t (s + 1) ds) fine.1.1) h.1,
    )

-- ---- a file

all_new : (f : File) → ((q : KbFault) → NamesRefuse f q → ⊥) → AreNew (uses_of_file f)
all_new f accepted = in_all (λ (u : Use). is_redeclared u ≡ false) (uses_of_file f)
    (λ u c. false_from_ne_true (is_redeclared u) (λ h. accepted _ (redeclared u c h)))

-- what no row of the stage of names says of the declarations of a file
pub declarations_fine : (f : File) → ((q : KbFault) → NamesRefuse f q → ⊥)
    → AreFine (names_of (declarations_of f.vocabularies)) (uses_in_declarations 0 0 (declarations_of f.vocabularies))
declarations_fine f accepted =
    let ds = declarations_of f.vocabularies in
    let names = names_of ds in
    let rest = flat_map (uses_in_theory (names_of ds)) f.theories ++ flat_map uses_in_block f.terms in
    let words = declared_uses number_types (declared_names 0 0 ds) in
    let second = uses_in_declarations 0 0 ds in
    all_right (IsFine names) words second (all_left (IsFine names) (words ++ second) (cycle_uses ds)
    (all_left (IsFine names) (uses_of_declarations ds) rest (names_fine f accepted)))

pub declarations_new : (f : File) → ((q : KbFault) → NamesRefuse f q → ⊥)
    → AreNew (declared_uses number_types (declared_names 0 0 (declarations_of f.vocabularies)))
declarations_new f accepted =
    let ds = declarations_of f.vocabularies in
    let rest = flat_map (uses_in_theory (names_of ds)) f.theories ++ flat_map uses_in_block f.terms in
    let words = declared_uses number_types (declared_names 0 0 ds) in
    let second = uses_in_declarations 0 0 ds in
    let such = λ (u : Use). is_redeclared u ≡ false in
    all_left such words second (all_left such (words ++ second) (cycle_uses ds)
    (all_left such (uses_of_declarations ds) rest (all_new f accepted)))

vocabulary_is : (f : File) → ((q : KbFault) → NamesRefuse f q → ⊥)
    → IsWellFormed (vocabulary_of (vocabulary_name f.vocabularies) (declarations_of f.vocabularies))
vocabulary_is f accepted =
    let ds = declarations_of f.vocabularies in
    let names = names_of ds in
    let v = vocabulary_of (vocabulary_name f.vocabularies) ds in
    let fine = declarations_fine f accepted in
    let new = declarations_new f accepted in
    let means : (k : ℕ) (w : Text) → IsMeaning v.types v.symbols k (meaning_of names w) =
    λ k w. words_mean names ds k refl fine w in
    let few : 0 + length v.types ≤ 256 = few_types names 0 0 ds fine (omega arith) in
    let low : 0 + length v.symbols ≤ 1024 = few_symbols names 0 0 ds fine (omega arith) in
    record {
      few_types = omega (arith, few);
      few_symbols = omega (arith, low);
      types = each_type v.types v.symbols names means 0 0 ds fine;
      symbols = each_symbol v.types names 0 0 ds fine (symbols_have_types v names means ds 0 0 fine);
      names = (names_apart names 0 0 ds (texts_differ number_types (declared_names 0 0 ds) new).0).0;
    }

pub derived_is_well_formed : DerivedIsWellFormed
derived_is_well_formed f n typed named_of typed_of =
    subst (λ (g : TypedFile). IsWellFormed g.vocabulary) (sym typed_of.tree)
    (subst (λ (m : NamedFile). IsWellFormed m.vocabulary) (sym named_of.tree) (vocabulary_is f named_of.accepted))
