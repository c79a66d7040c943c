-- What each stage returns, put together.
use Rattle.std.proofs.Common.{◌≡◌, ℕ, ◌<◌, ◌≤◌, List, length, map, arith, sym, ap, subst, Some}
use Rattle.std.proofs.Common.{Ok, Err, inl, inr}
use Rattle.std.specs.List.{filter_map, slice_get}
use Rattle.kb_logic.specs.KnownAtoms.{KnownAtoms}
use Rattle.grammar.specs.BlockTrees as raw
use Rattle.grammar.specs.BlockTrees.{Block}
use Rattle.grammar.specs.BlockView.{IsKb, as_structure, structure_view}
use Rattle.grammar.specs.FileReads.{KbRead}
use Rattle.grammar.specs.declared.raw_blocks.RawKb.{RawKb}
use Rattle.grammar.specs.declared.error.KbError.{KbError}
use Rattle.grammar.specs.declared.error.KbError.TheVariants.{Refused, Memory}
use Rattle.block_choice.specs.Choices as blocks
use Rattle.stage_definitions.specs.Scopes.{Text}
use Rattle.stage_definitions.specs.Files.{File}
use Rattle.stage_definitions.specs.FileTrees.{file_of}
use Rattle.stage_definitions.specs.FileView.{file_in}
use Rattle.stage_definitions.specs.BlocksStage.{IsPicked}
use Rattle.stage_definitions.specs.Failures as names
use Rattle.stage_definitions.specs.Numbering.{NamedFile, IsNamed}
use Rattle.stage_definitions.specs.SizesStage.{Sizes}
use Rattle.stage_definitions.specs.TypedFiles.{TypedFile}
use Rattle.type_derivation.specs.Failures as types
use Rattle.structure_reader.specs.DataReads.{DataOrSizesFail, IsMeasuredData}
use Rattle.std.proofs.lemmas.List.{length-map}
use Rattle.grammar.specs.declared.raw_blocks.RawStructure.{RawStructure}
use Rattle.stage_definitions.specs.Earliest.{IsEarliest}
use Rattle.stage_definitions.specs.NamesStage.{NamesRefuse}
use Rattle.stage_definitions.specs.Files.{Header, TheoryBlock}
use Rattle.stage_definitions.specs.FileTrees.{structure_of}
use Rattle.base_reader.specs.FileMeanings.{Choice, Picked, Meaning, HasBlocks, HasNames, HasTypes, FileMeans, IsRefused}
use Rattle.type_derivation.specs.TypedViews.{typed_view, named_theory_view}
use Rattle.type_derivation.specs.declared.typed.TypedKb.{TypedKb}
use Rattle.base_reader.specs.Groundable.{AcceptedCanBeGrounded, AcceptedIsBounded}
use Rattle.base_reader.specs.Groundable.{IsBoundedBase}
use Rattle.stage_definitions.specs.FileBases.{base_of_file}
use Rattle.def_ground.specs.Groundings.{IsGroundTheory}
use Rattle.narrowed_bases.specs.declared.narrowings.Narrowing.{Narrowing}
use Rattle.consult_base.specs.Opened.{Opened, opened, IsKnowledgeBase}
use Rattle.base_reader.proofs.Facts.{chosen_within, theories_many, read_map}
use Rattle.base_reader.specs.FileMeanings as refused
use Rattle.base_reader.specs.Readings.{AreBlocksOf, AreNarrowedData, DataFail, FailsWith, HasTypedFile, IsOpenedOn}
use Rattle.base_reader.specs.Readings.{meaning_of, NamesOrTypes, OpenFails}

-- a law on raw files: what the stages see in one is what they see in its blocks
abbrev pub FilesAreTheirBlocks : Type 0
FilesAreTheirBlocks = (blocks : List Block) (len : ℕ) (kb : RawKb) → IsKb blocks len kb
    → file_in kb ≡ file_of blocks len

-- reading fails
pub text_fails : (c : Choice) (bytes : List ℕ) (e : KbError) → KbRead bytes (Err e) → FailsWith c bytes e
text_fails c bytes Memory h = tt
text_fails c bytes (Refused q) h = refused.text q h

module _ (same : FilesAreTheirBlocks) where
  -- the choice fails
  pub choice_fails : (c : Choice) (bytes : List ℕ) (kb : RawKb) (e : KbError) → KbRead bytes (Ok kb)
      → blocks.FailsWith (file_in kb) c.theory c.structure e → FailsWith c bytes e
  choice_fails c bytes kb Memory read h = tt
  choice_fails c bytes kb (Refused q) read h =
      let at = subst (λ (f : File). blocks.FailsWith f c.theory c.structure (Refused q))
      (same read.0 (length bytes) kb read.2) h in
      refused.blocks read.0 q read.1 at

  pub has_blocks : (c : Choice) (bytes : List ℕ) (kb : RawKb) (t s : ℕ) → KbRead bytes (Ok kb)
      → IsPicked (file_in kb) c.theory c.structure t s → AreBlocksOf c bytes kb t s
  has_blocks c bytes kb t s read h = record {
    blocks = read.0;
    has = record {
      read = read.1;
      picked = subst (λ (f : File). IsPicked f c.theory c.structure t s) (same read.0 (length bytes) kb read.2) h;
    };
    is = read.2;
  }

-- the stage of names fails
pub names_fail : (f : File) (e : KbError) → names.FailsWith f e → NamesOrTypes f e
names_fail f Memory h = tt
names_fail f (Refused q) h = inl h

-- the stage of types fails
pub types_fail : (f : File) (named : NamedFile) (e : KbError) → IsNamed f named → types.FailsWith named e
    → NamesOrTypes f e
types_fail f named Memory is h = tt
types_fail f named (Refused q) is h = inr (named, is, h)

module _ (same : FilesAreTheirBlocks) (c : Choice) (bytes : List ℕ) (kb : RawKb) (t s : ℕ)
    (blocks : AreBlocksOf c bytes kb t s) where
  at_blocks : file_in kb ≡ file_of blocks.blocks (length bytes)
  at_blocks = same blocks.blocks (length bytes) kb blocks.is

  has_names : (named : NamedFile) → IsNamed (file_in kb) named → HasNames c bytes blocks.blocks t s named
  has_names named is = record { has = blocks.has; is = subst (λ (f : File). IsNamed f named) at_blocks is }

  -- the stage of names or that of types refuses the file
  pub types_refused : (e : KbError) → NamesOrTypes (file_in kb) e → FailsWith c bytes e
  types_refused Memory h = tt
  types_refused (Refused q) (inl names) =
      refused.names blocks.blocks t s q blocks.has (subst (λ (f : File). IsEarliest (NamesRefuse f) q) at_blocks names)
  types_refused (Refused q) (inr types) =
      refused.types blocks.blocks t s types.0 q (has_names types.0 types.1) types.2

  structure_there : (x : RawStructure) → slice_get kb.structures s ≡ Some x
      → slice_get (filter_map as_structure blocks.blocks) s ≡ Some (structure_view x)
  structure_there x at =
      subst (λ (xs : List raw.Structure). slice_get xs s ≡ Some (structure_view x)) blocks.is.structures
      (read_map structure_view kb.structures s x at)

  has_types : (typed : TypedFile) (x : RawStructure) → HasTypedFile (file_in kb) typed
      → slice_get kb.structures s ≡ Some x
      → HasTypes c bytes (record { file = typed; theory = t; structure = structure_view x })
  has_types typed x is at = record {
    blocks = blocks.blocks;
    number = s;
    named = is.0;
    names = has_names is.0 is.1;
    typed = is.2;
    structure = structure_there x at;
  }

  -- the stage of data or that of sizes refuses the structure, or what it leaves open is refused
  pub data_refused : (typed : TypedFile) (x : RawStructure) → HasTypedFile (file_in kb) typed
      → slice_get kb.structures s ≡ Some x
      → (e : KbError) → DataFail typed t (structure_view x) e → FailsWith c bytes e
  data_refused typed x is at Memory h = tt
  data_refused typed x is at (Refused q) (inl (inl entries)) =
      refused.entries (record { file = typed; theory = t; structure = structure_view x }) q
      (has_types typed x is at) entries
  data_refused typed x is at (Refused q) (inl (inr sizes)) =
      refused.sizes (record { file = typed; theory = t; structure = structure_view x }) sizes.0 q
      (has_types typed x is at) sizes.1 sizes.2
  data_refused typed x is at (Refused q) (inr h) =
      refused.left_open (record { file = typed; theory = t; structure = structure_view x }) h.0 q
      (has_types typed x is at) h.1 h.2 h.3

  -- the file means what is opened
  pub means : (typed : TypedKb) (x : RawStructure) → HasTypedFile (file_in kb) (typed_view typed)
      → slice_get kb.structures s ≡ Some x → (k : Opened) → IsOpenedOn typed t x k → FileMeans c bytes (meaning_of k)
  means typed x is at k on =
      let same : k.typed ≡ typed = on.typed in
      of (k.typed) k.theory (sym same) (sym on.theory_is)
    where
      of : (u : TypedKb) (n : ℕ) → typed ≡ u → t ≡ n → FileMeans c bytes (record {
        file = typed_view u;
        theory = n;
        structure = k.structure;
        known = k.known;
      })
      of u n e f = subst (λ (m : ℕ). FileMeans c bytes (record {
        file = typed_view u;
        theory = m;
        structure = k.structure;
        known = k.known;
      })) f (subst (λ (v : TypedKb). FileMeans c bytes (record {
        file = typed_view v;
        theory = t;
        structure = k.structure;
        known = k.known;
      })) e (record {
        structure = structure_view x;
        typed = has_types (typed_view typed) x is at;
        name = on.named;
        given = on.known.given;
        sized = on.known.sized;
        light = on.known.light;
      }))

  -- the number of the chosen structure is that of one
  pub structure_within : s < length kb.structures
  structure_within =
      let within = chosen_within _ c.structure s blocks.has.picked.structure_chosen in
      omega (
        arith,
        within,
        length-map (map structure_of (filter_map as_structure blocks.blocks)) (λ (h : Header). h.name),
        length-map (filter_map as_structure blocks.blocks) structure_of,
        ap length blocks.is.structures,
        length-map kb.structures structure_view,
      )

  -- and that of the chosen theory
  pub theory_within : (typed : TypedFile) → HasTypedFile (file_in kb) typed → t < length typed.theories
  theory_within typed is =
      let within = chosen_within _ c.theory t blocks.has.picked.theory_chosen in
      let many = theories_many (file_in kb) is.0 typed is.1 is.2 in
      omega (
        arith,
        within,
        many,
        ap (λ (f : File). length f.theories) at_blocks,
        length-map (file_of blocks.blocks (length bytes)).theories (λ (b : TheoryBlock). b.header.name),
      )

  pub theory_there : (typed : TypedKb) → HasTypedFile (file_in kb) (typed_view typed) → t < length typed.theories
  theory_there typed is =
      omega (arith, theory_within (typed_view typed) is, length-map typed.theories named_theory_view)

-- what is opened is a knowledge base
pub is_opened : (typed : TypedKb) (theory : ℕ) (s : raw.Structure) (known : KnownAtoms) (n : Narrowing) (title : Text)
    → theory < length typed.theories → length typed.vocab.symbols ≤ 1024
    → AreNarrowedData (typed_view typed) theory s known n → IsKnowledgeBase (opened typed theory title known n)
is_opened typed theory s known n title within few are = record {
  theory = within;
  ground = are.ground;
  bounded = are.bounded.theory;
  asked = are.bounded.terms;
  sized = are.sized;
  narrowing = are.narrowing;
  numbered = few;
}

module _ (f : File) (typed : TypedFile) (is : HasTypedFile f typed) (theory : ℕ) (s : raw.Structure)
    (known : KnownAtoms) (sizes : Sizes) (measured : IsMeasuredData typed theory s known sizes) where
  -- what is measured can be grounded, and is bounded
  pub data_ground : AcceptedCanBeGrounded → IsGroundTheory (base_of_file typed theory known)
  data_ground grounded = grounded f is.0 typed is.1 is.2 theory s known measured.given

  pub data_bounded : AcceptedIsBounded → IsBoundedBase (base_of_file typed theory known)
  data_bounded bounded = bounded is.0 typed is.2 theory known sizes measured.sized

  -- what it leaves open is refused
  pub open_fails : (e : KbError) → OpenFails typed theory known e → DataFail typed theory s e
  open_fails Memory h = tt
  open_fails (Refused q) h = inr (known, measured.given, measured.sized.accepted, h)

-- or an earlier stage refuses
pub stage_fails : (f : TypedFile) (theory : ℕ) (s : raw.Structure) (e : KbError) → DataOrSizesFail f theory s e
    → DataFail f theory s e
stage_fails f theory s Memory h = tt
stage_fails f theory s (Refused q) h = inl h
