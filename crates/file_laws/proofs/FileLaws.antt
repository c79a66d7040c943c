-- What a file means is said so that it can be read.
use Rattle.std.proofs.Common.{◌≡◌, ◌≢◌, ℕ, ℤ, pos, negsuc, ◌≤ℤ◌, ◌<◌, ◌^◌, List, [], ◌∷◌, length, map, Ok, Result, refl}
use Rattle.std.proofs.Common.{sym, subst, arith}
use Rattle.std.specs.Prelude.{nat_abs, neg_ℤ}
use Rattle.std.specs.List.{AllByRecursion, filter_map}
use Rattle.std.proofs.lemmas.Int.{ints}
use Rattle.kb_text.specs.Pieces.{WordText, IsPiece}
use Rattle.kb_text.specs.declared.fault.KbFault.{KbFault}
use Rattle.kb_logic.specs.declared.elements.Elem.{Elem}
use Rattle.kb_logic.specs.declared.elements.Elem.TheVariants.{Named, Num}
use Rattle.kb_logic.specs.declared.vocabularies.TypeDecl.{TypeDecl}
use Rattle.kb_logic.specs.declared.vocabularies.Symbol.{Symbol}
use Rattle.kb_logic.specs.Domains.{IsInRange, IsDomainOf}
use Rattle.kb_logic.specs.Structures.{EachWith}
use Rattle.kb_logic.proofs.Has.{has_get, contains_from}
use Rattle.grammar.specs.BlockTrees as raw
use Rattle.grammar.specs.BlockTrees.{Block}
use Rattle.grammar.specs.BlockFine.{IsFile, FineFile}
use Rattle.grammar.specs.BlockSpelling.{put_file}
use Rattle.grammar.specs.BlockView.{as_vocabulary, as_structure}
use Rattle.grammar.specs.FileReads.{KbReads, too_long, fits}
use Rattle.grammar.specs.Items.{IsTokens}
use Rattle.grammar.specs.Terminals.{Tok}
use Rattle.grammar.specs.Whole.{Reads, parsed, unscanned, ungrammatical}
use Rattle.stage_definitions.specs.FileTrees.{vocabulary_of}
use Rattle.fo_reader.proofs.InFile.{one_kb_reading}
use Rattle.reading_laws.specs.Words.{IsFreeWord, IsSpelled, IsAccepted}
use Rattle.reading_laws.proofs.AcceptedWords.{names_are_words, data_are_words}
use Rattle.printed_texts.specs.ReadBlocks.{IsReadBack}
use Rattle.printed_texts.proofs.Each.{distinct_right}
use Rattle.file_laws.specs.Accepted.{IsAcceptedData}
use Rattle.file_laws.proofs.AcceptedBlocks.{accepted_are_writable, accepted_are_read_back}
use Rattle.file_laws.specs.Spoken.{names_in, IsSpokenFile, SentencesAreReadAgain}
use Rattle.file_laws.proofs.SpokenAccepted.{accepted_are_spoken, accepted_are_read_again}
use Rattle.consult_text.specs.OneText.{CanBeWritten}
use Rattle.base_reader.specs.FileMeanings.{Choice, Meaning, FileMeans}
use Rattle.file_laws.specs.FileLaws.{FilesHaveWordNames, StructuresAreReadBack, FilesAreSpoken, SentencesAreReadBack}

-- ---- the tokens of a file that is read

record HasTokens (src : List ℕ) (blocks : List Block) : Type 0 where
  tokens : List Tok
  scanned : IsTokens src tokens
  is : IsFile tokens blocks

tokens_of : (src : List ℕ) (blocks : List Block) (r : Result (List Block) KbFault) → Reads put_file FineFile src r
    → r ≡ Ok blocks → HasTokens src blocks
tokens_of src blocks r (parsed ts a scanned is) e =
    let same : a ≡ blocks = cc in
    record { tokens = ts; scanned = scanned; is = subst (λ (bs : List Block). IsFile ts bs) same is }
tokens_of src blocks r (unscanned f h) e = absurd (cc)
tokens_of src blocks r (ungrammatical ts f h k) e = absurd (cc)

tokens_in : (src : List ℕ) (blocks : List Block) (r : Result (List Block) KbFault) → KbReads src r → r ≡ Ok blocks
    → HasTokens src blocks
tokens_in src blocks r (too_long h) e = absurd (cc)
tokens_in src blocks r (fits x short h) e = tokens_of src blocks x h e

some_vocabulary : (vs : List raw.Vocabulary) → length (map vocabulary_of vs) ≡ 1 → vs ≢ []
some_vocabulary [] h e = let none : 0 ≡ 1 = h in absurd (cc)
some_vocabulary (v ∷ vs) h e = absurd (cc)

-- ---- what a file means

accepted_file : (c : Choice) (bytes : List ℕ) (m : Meaning) (f : FileMeans c bytes m)
    → IsAccepted bytes f.typed.blocks m.file
accepted_file c bytes m f =
    let has = tokens_in bytes f.typed.blocks (Ok f.typed.blocks) f.typed.names.has.read refl in
    record {
      tokens = has.tokens;
      len = length bytes;
      named = f.typed.named;
      scanned = has.scanned;
      parsed = has.is;
      names = f.typed.names.is;
      types = f.typed.typed;
    }

accepted_data : (c : Choice) (bytes : List ℕ) (m : Meaning) (f : FileMeans c bytes m)
    → IsAcceptedData bytes f.typed.blocks m.file f.structure m.known
accepted_data c bytes m f = record {
  file = accepted_file c bytes m f;
  vocabulary = some_vocabulary (filter_map as_vocabulary f.typed.blocks) f.typed.names.has.picked.one_vocabulary;
  structure = contains_from (filter_map as_structure f.typed.blocks) f.structure
      (has_get (filter_map as_structure f.typed.blocks) f.typed.number f.structure f.typed.structure);
  theory = m.theory;
  given = f.given;
}

pub structures_are_read_back : StructuresAreReadBack
structures_are_read_back c bytes m f =
    subst (λ (n : List ℕ). IsReadBack m.file.vocabulary n m.known) (sym f.name)
    (accepted_are_read_back bytes f.typed.blocks m.file f.structure m.known (accepted_data c bytes m f))

-- ---- sentences

same_blocks : (bytes : List ℕ) (xs ys : List Block) → KbReads bytes (Ok xs) → KbReads bytes (Ok ys) → xs ≡ ys
same_blocks bytes xs ys h k =
    let same = one_kb_reading bytes (Ok xs) (Ok ys) h k in
    cc

pub files_are_spoken : FilesAreSpoken
files_are_spoken c bytes blocks m read f =
    subst (λ (bs : List Block). IsSpokenFile (names_in bs) m.file)
    (same_blocks bytes f.typed.blocks blocks f.typed.names.has.read read)
    (accepted_are_spoken bytes f.typed.blocks m.file (accepted_file c bytes m f))

pub sentences_are_read_back : SentencesAreReadBack
sentences_are_read_back c bytes blocks m read f =
    subst (λ (bs : List Block). SentencesAreReadAgain (names_in bs) m.file)
    (same_blocks bytes f.typed.blocks blocks f.typed.names.has.read read)
    (accepted_are_read_again bytes f.typed.blocks m.file (accepted_file c bytes m f))

-- ---- words

small : (z : ℤ) → neg_ℤ (pos 1000000) ≤ℤ z → z ≤ℤ pos 1000000 → nat_abs z < 2 ^ 63
small (pos n) h k = omega (arith, ints, h, k)
small (negsuc n) h k = omega (arith, ints, h, k)

written : (x : Elem) → IsSpelled x → IsInRange x → CanBeWritten x
written (Named n) h r = h.spelled
written (Num z) h r = small z r.0 r.1

elements_written : (xs : List Elem) → AllByRecursion IsSpelled xs → AllByRecursion IsInRange xs
    → AllByRecursion CanBeWritten xs
elements_written [] h r = tt
elements_written (x ∷ xs) h r = (written x h.0 r.0, elements_written xs h.1 r.1)

domains_written : (all : List (List Elem)) (ts : List TypeDecl) (ds : List (List Elem))
    → EachWith (IsDomainOf all) ts ds → AllByRecursion (AllByRecursion IsSpelled) ds
    → AllByRecursion (AllByRecursion CanBeWritten) ds
domains_written all [] [] e h = tt
domains_written all [] (d ∷ ds) e h = absurd e
domains_written all (t ∷ ts) [] e h = absurd e
domains_written all (t ∷ ts) (d ∷ ds) e h = (elements_written d h.0 e.0.range, domains_written all ts ds e.1 h.1)

words_of : (ss : List Symbol) → AllByRecursion (λ (s : Symbol). IsFreeWord s.name) ss
    → AllByRecursion (λ (s : Symbol). IsPiece WordText s.name) ss
words_of [] h = tt
words_of (s ∷ ss) h = (h.0.spelled, words_of ss h.1)

pub files_have_word_names : FilesHaveWordNames
files_have_word_names c bytes m f =
    let a = accepted_data c bytes m f in
    let writable = accepted_are_writable bytes f.typed.blocks m.file f.structure m.known a in
    let spelled = names_are_words bytes f.typed.blocks m.file a.file in
    let words = data_are_words bytes f.typed.blocks m.file a.file f.structure a.structure in
    record {
      words = words_of m.file.vocabulary.symbols spelled.0.symbols;
      apart = distinct_right (map (λ (d : TypeDecl). d.name) m.file.vocabulary.types)
          (map (λ (s : Symbol). s.name) m.file.vocabulary.symbols) writable.apart;
      elements = domains_written m.known.domains m.file.vocabulary.types m.known.domains writable.domains
          (words.1 m.theory m.known f.given);
    }
