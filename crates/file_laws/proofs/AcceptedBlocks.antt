-- An accepted structure can be printed, and is read back.
use Rattle.std.proofs.Common.{ℕ, List, [], ◌∷◌, ◌++◌, map, flat_map, ap}
use Rattle.std.specs.List.{AllByRecursion}
use Rattle.kb_logic.specs.declared.elements.Elem.{Elem}
use Rattle.kb_logic.specs.declared.elements.Elem.TheVariants.{Named, Num}
use Rattle.kb_logic.specs.declared.vocabularies.TypeDecl.{TypeDecl}
use Rattle.kb_logic.specs.declared.vocabularies.Symbol.{Symbol}
use Rattle.kb_logic.specs.declared.vocabularies.Vocabulary.{Vocabulary}
use Rattle.kb_logic.specs.Domains.{IsDomainOf}
use Rattle.kb_logic.specs.KnownAtoms.{KnownAtoms}
use Rattle.kb_logic.specs.Structures.{IsDistinct, EachWith}
use Rattle.stage_definitions.specs.Below.{type_above}
use Rattle.stage_definitions.specs.FileTrees.{file_of, structure_of}
use Rattle.stage_definitions.specs.Names.{text_of}
use Rattle.reading_laws.proofs.Rows.{accepted_is_given}
use Rattle.reading_laws.proofs.GivenDomains.{accepted_have_domains}
use Rattle.reading_laws.specs.Vocabularies.{IsTypeAmong, names_declared}
use Rattle.reading_laws.proofs.WellFormed.{derived_is_well_formed}
use Rattle.reading_laws.specs.Words.{IsFreeWord, IsSpelled, IsSpelledType}
use Rattle.reading_laws.proofs.AcceptedWords.{names_are_words, data_are_words}
use Rattle.printed_texts.proofs.Words.{word_of_piece}
use Rattle.printed_texts.specs.Names.{IsName}
use Rattle.printed_texts.specs.ReadBlocks.{declared_names, StandsAlone, IsNamedWell}
use Rattle.printed_texts.proofs.Each.{distinct_left}
use Rattle.printed_texts.proofs.BlocksReadBack.{blocks_are_read_back}
use Rattle.file_laws.specs.Accepted.{AcceptedAreWritable, AcceptedAreReadBack}
use Rattle.file_laws.proofs.Given.{accepted_are_listed}

-- ---- names

is_name : (n : List ℕ) → IsFreeWord n → IsName n
is_name n h = record { word = word_of_piece n h.spelled; read = h.read; free = h.free }

type_names : (ts : List TypeDecl) (rest : List (List ℕ)) → AllByRecursion IsSpelledType ts → AllByRecursion IsName rest
    → AllByRecursion IsName (map (λ (d : TypeDecl). d.name) ts ++ rest)
type_names [] rest h r = r
type_names (t ∷ ts) rest h r = (is_name t.name h.0.name, type_names ts rest h.1 r)

symbol_names : (ss : List Symbol) → AllByRecursion (λ (s : Symbol). IsFreeWord s.name) ss
    → AllByRecursion IsName (map (λ (s : Symbol). s.name) ss)
symbol_names [] h = tt
symbol_names (s ∷ ss) h = (is_name s.name h.0, symbol_names ss h.1)

element_named : (x : Elem) → IsSpelled x → IsNamedWell x
element_named (Named n) h = is_name n h
element_named (Num z) h = tt

elements_named : (xs : List Elem) → AllByRecursion IsSpelled xs → AllByRecursion IsNamedWell xs
elements_named [] h = tt
elements_named (x ∷ xs) h = (element_named x h.0, elements_named xs h.1)

domains_named : (ds : List (List Elem)) → AllByRecursion (AllByRecursion IsSpelled) ds
    → AllByRecursion (AllByRecursion IsNamedWell) ds
domains_named [] h = tt
domains_named (d ∷ ds) h = (elements_named d h.0, domains_named ds h.1)

-- ---- types and domains

stand_alone : (types ts : List TypeDecl) → AllByRecursion (IsTypeAmong types) ts → AllByRecursion StandsAlone ts
stand_alone types [] h = tt
stand_alone types (t ∷ ts) h = (λ some. ap type_above (h.0.alone some), stand_alone types ts h.1)

distinct_of : (all : List (List Elem)) (ts : List TypeDecl) (ds : List (List Elem)) → EachWith (IsDomainOf all) ts ds
    → AllByRecursion IsDistinct ds
distinct_of all [] [] h = tt
distinct_of all [] (d ∷ ds) h = absurd h
distinct_of all (t ∷ ts) [] h = absurd h
distinct_of all (t ∷ ts) (d ∷ ds) h = (h.0.distinct, distinct_of all ts ds h.1)

-- ---- what is accepted

all_apart : (v : Vocabulary) → IsDistinct (names_declared v) → IsDistinct (declared_names v)
all_apart v h =
    distinct_left (declared_names v) (flat_map (λ (d : TypeDecl). d.made) v.types) h

pub accepted_are_writable : AcceptedAreWritable
accepted_are_writable bytes blocks typed s k a =
    let spelled = names_are_words bytes blocks typed a.file in
    let words = data_are_words bytes blocks typed a.file s a.structure in
    let formed = derived_is_well_formed (file_of blocks a.file.len) a.file.named typed a.file.names a.file.types in
    record {
      title_word = is_name (text_of (structure_of s).name) words.0;
      vocabulary_word = is_name typed.vocabulary.name (spelled.1 a.vocabulary);
      words = type_names typed.vocabulary.types (map (λ (d : Symbol). d.name) typed.vocabulary.symbols) spelled.0.types
          (symbol_names typed.vocabulary.symbols spelled.0.symbols);
      apart = all_apart typed.vocabulary formed.names;
      alone = stand_alone typed.vocabulary.types typed.vocabulary.types formed.types;
      symbols = ap (λ (j : KnownAtoms). j.symbols) a.given.given;
      domains = accepted_have_domains (file_of blocks a.file.len) a.file.named typed a.file.names a.file.types a.theory
          s k a.given;
      elements = domains_named k.domains (words.1 a.theory k a.given);
    }

pub accepted_are_read_back : AcceptedAreReadBack
accepted_are_read_back bytes blocks typed s k a =
    let writable = accepted_are_writable bytes blocks typed s k a in
    let listed = accepted_are_listed typed.vocabulary typed.places.types s k
    (accepted_is_given typed a.theory s k a.given)
    (distinct_of k.domains typed.vocabulary.types k.domains writable.domains) in
    blocks_are_read_back typed.vocabulary (text_of (structure_of s).name) k writable listed.0 listed.1
