-- A printed block is read back.
use Rattle.std.proofs.Common.{◌≡◌, ℕ, List, [], ◌∷◌, map, Ok, refl, sym, ap, subst, ◌∙◌}
use Rattle.std.proofs.lemmas.Bool.{true≢false}
use Rattle.kb_text.specs.declared.fault.KbFault.{KbFault}
use Rattle.kb_logic.specs.declared.vocabularies.Vocabulary.{Vocabulary}
use Rattle.kb_logic.specs.Structures.{EachWith}
use Rattle.kb_logic.specs.KnownAtoms.{KnownAtoms}
use Rattle.kb_logic.proofs.Has.{has_from}
use Rattle.kb_text.specs.Tokens.{Lexeme}
use Rattle.kb_text.proofs.Exact as tokens
use Rattle.grammar.specs.BlockTrees as raw
use Rattle.grammar.specs.BlockFine.{IsFile}
use Rattle.grammar.specs.Items.{IsTokens, tok_of}
use Rattle.grammar.specs.Terminals.{Tok}
use Rattle.fo_reader.proofs.TheoryFormats.{file_law}
use Rattle.partial_structures.specs.Consistency.{IsConsistent, IsListed}
use Rattle.stage_definitions.specs.Earliest.{row}
use Rattle.stage_definitions.specs.DataEntries.{said_in, entries_in}
use Rattle.stage_definitions.specs.DataStage.{EntriesRefuse, structure_uses}
use Rattle.stage_definitions.specs.DataAnswer.{IsGivenBy, given_by}
use Rattle.printed_texts.specs.Entries.{entries_of}
use Rattle.printed_texts.specs.Saying.{SaysEntry, name_in}
use Rattle.printed_texts.specs.Texts.{block_text}
use Rattle.printed_texts.proofs.Spelled.{is_spelled}
use Rattle.printed_texts.specs.ReadBlocks.{IsWritable, BlocksAreReadBack, NoTwoHaveOneText}
use Rattle.printed_texts.proofs.Writable.{entries_written}
use Rattle.printed_texts.proofs.ReadFacts.{known_are}
use Rattle.printed_texts.proofs.Accepted.{all_accepted}

module _ (v : Vocabulary) (title : List ℕ) (k : KnownAtoms) (w : IsWritable v title k) (c : IsConsistent k)
    (l : IsListed k) where
  none_refused : (tree : raw.Structure) → EachWith SaysEntry (entries_of v k) (entries_in tree)
      → (places : List ℕ) (q : KbFault) → EntriesRefuse v places tree q → ⊥
  none_refused tree says places q (row u cause among of h) =
      true≢false (sym h ∙ all_accepted v title k w c l (entries_in tree) says places u
      (has_from (structure_uses v.types places (said_in v tree)) u among) cause)

  pub is_given : (tree : raw.Structure) → EachWith SaysEntry (entries_of v k) (entries_in tree) → (places : List ℕ)
      → IsGivenBy v places tree k
  is_given tree says places =
      record { accepted = none_refused tree says places; given = known_are v title k w c l (entries_in tree) says }

-- a text has one list of tokens
one_list : (src : List ℕ) (ts us : List Tok) → IsTokens src ts → IsTokens src us → ts ≡ us
one_list src ts us a b =
    let same = tokens.only a.scanned (Ok b.lexemes) b.scanned in
    let lexemes : a.lexemes ≡ b.lexemes = cc in
    a.same ∙ ap (λ (ls : List Lexeme). map tok_of ls) lexemes ∙ sym b.same

one_file : (src : List ℕ) (ts us : List Tok) (f g : List raw.Block) → IsTokens src ts → IsTokens src us → IsFile ts f
    → IsFile us g → f ≡ g
one_file src ts us f g a b h j = (file_law.only f g [] [] h.1 j.1 refl refl (sym h.0 ∙ one_list src ts us a b ∙ j.0)).0

pub blocks_are_read_back : BlocksAreReadBack
blocks_are_read_back v title k w c l =
    let b = is_spelled (record { name = title; of = v.name; entries = entries_of v k })
    (record { name = w.title_word; of = w.vocabulary_word; entries = entries_written v title k w }) in
    record {
      tokens = b.tokens;
      scanned = b.scanned;
      tree = b.tree;
      spelled = b.spelled;
      only = λ ts blocks scanned file. one_file (block_text v title k) ts b.tokens blocks
          (raw.structure_block b.tree ∷ []) scanned b.scanned file b.spelled;
      name = b.says.name;
      of = b.says.of;
      given = is_given v title k w c l b.tree b.says.entries;
    }

pub no_two_have_one_text : NoTwoHaveOneText
no_two_have_one_text v title other k j a b same =
    let scanned : IsTokens (block_text v title k) b.tokens =
    subst (λ text. IsTokens text b.tokens) (sym same) b.scanned in
    let files : raw.structure_block b.tree ∷ [] ≡ raw.structure_block a.tree ∷ [] =
    a.only b.tokens (raw.structure_block b.tree ∷ []) scanned b.spelled in
    let trees : b.tree ≡ a.tree = cc in (
      sym a.name ∙ ap name_in (sym trees) ∙ b.name,
      (a.given []).given ∙ ap (λ t. given_by v (said_in v t)) (sym trees) ∙ sym (b.given []).given,
    )
