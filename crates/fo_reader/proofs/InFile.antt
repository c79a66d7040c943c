-- Where a file is stuck, and its blocks by kind.
use Rattle.std.proofs.Common.{◌≡◌, ◌≤◌, ℕ, List, [], ◌∷◌, ◌++◌, length, map, append-nil, Option, Some, None, inl, inr}
use Rattle.std.proofs.Common.{Result, Ok, Err, refl, sym, ap, ◌∙◌, arith}
use Rattle.std.specs.List.{filter_map, cons_option}
use Rattle.std.proofs.lemmas.List.Elements.{filter_map-append}
use Rattle.std.proofs.lemmas.List.{map-append}
use Rattle.kb_text.specs.declared.fault.KbFault.{KbFault}
use Rattle.grammar.specs.declared.error.KbError.{KbError}
use Rattle.grammar.specs.declared.error.KbError.TheVariants as errors
use Rattle.grammar.specs.declared.stops.ReadError.{ReadError}
use Rattle.grammar.specs.declared.stops.ReadError.TheVariants.{Memory, Stuck}
use Rattle.grammar.specs.declared.raw_blocks.RawKb.{RawKb}
use Rattle.grammar.specs.declared.raw_blocks.RawVocabulary.{RawVocabulary}
use Rattle.grammar.specs.declared.raw_blocks.RawTheory.{RawTheory}
use Rattle.grammar.specs.declared.raw_blocks.RawStructure.{RawStructure}
use Rattle.grammar.specs.declared.raw_blocks.RawTerm.{RawTerm}
use Rattle.fo_reader.specs.declared.file.RawBlock.{RawBlock}
use Rattle.fo_reader.specs.declared.file.RawBlock.TheVariants as raw
use Rattle.grammar.specs.declared.terminal.Terminal.TheVariants as t
use Rattle.grammar.specs.declared.terminal.Outer.TheVariants as o
use Rattle.grammar.specs.Terminals.{Tok, sign}
use Rattle.grammar.specs.Texts.{FirstStuck}
use Rattle.grammar.specs.Items.{IsTokens, ItemsOf}
use Rattle.grammar.specs.Whole.{parsed, unscanned, ungrammatical, refusal_of}
use Rattle.token_reader.specs.Binders.{Whole}
use Rattle.grammar.specs.BlockTrees.{Block}
use Rattle.grammar.specs.BlockSpelling.{put_vocabulary, put_theory, put_structure, put_term_block, put_block}
use Rattle.grammar.specs.BlockSpelling.{put_file}
use Rattle.grammar.specs.BlockFine.{FineTheory, FineTermBlock, FineBlock, FineFile}
use Rattle.grammar.specs.BlockView.{vocabulary_view, theory_view, structure_view, term_block_view, as_vocabulary}
use Rattle.grammar.specs.BlockView.{as_theory, as_structure, as_term_block, IsKb}
use Rattle.block_reader.specs.BlockParts.{Anything, StuckIn, StuckAt}
use Rattle.token_reader.specs.Signs.{next, No}
use Rattle.grammar.specs.FileReads.{most_bytes, KbReads, too_long, fits, KbRead}
use Rattle.fo_reader.specs.FileResults.{FileRead, block_view}
use Rattle.block_reader.proofs.Formats.{Here, at_same, not_first, either_left, either_right, same_in, each_in}
use Rattle.block_reader.proofs.BlockFormats.{vocabulary_format}
use Rattle.block_reader.proofs.StructureFormats.{structure_format}
use Rattle.fo_reader.proofs.TheoryFormats.{theory_format, term_block_format, value_alternatives, structure_alternatives}
use Rattle.fo_reader.proofs.TheoryFormats.{theory_alternatives, block_alternatives, block_format, block_same, block_law}
use Rattle.fo_reader.proofs.TheoryFormats.{blocks_several, file_format, file_law}
use Rattle.block_reader.proofs.BlockReadings.{neither}
use Rattle.formula_reader.proofs.OneReading.{one_reading}

-- ---- one block

pub in_vocabulary_block : (place : ℕ) (us : List Tok) (len : ℕ) (e : ReadError) → StuckAt put_vocabulary Whole Anything
    (sign (t.Outer o.Vocabulary) place ∷ us) len e → StuckAt put_block FineBlock Anything
    (sign (t.Outer o.Vocabulary) place ∷ us) len e
in_vocabulary_block place us len e h =
    let ts = sign (t.Outer o.Vocabulary) place ∷ us in
    at_same vocabulary_format block_format ts ts (λ rest k. same_in block_same ts rest
    (either_left block_alternatives ts rest (block_alternatives.apart (next ts) refl) k)) len e h

pub in_theory_block : (place : ℕ) (us : List Tok) (len : ℕ) (e : ReadError) → StuckAt put_theory FineTheory Anything
    (sign (t.Outer o.Theory) place ∷ us) len e → StuckAt put_block FineBlock Anything
    (sign (t.Outer o.Theory) place ∷ us) len e
in_theory_block place us len e h =
    let ts = sign (t.Outer o.Theory) place ∷ us in
    at_same theory_format block_format ts ts (λ rest k. same_in block_same ts rest
    (either_right block_alternatives ts rest (λ f. block_alternatives.apart (next ts) f (inl refl))
    (either_left theory_alternatives ts rest (theory_alternatives.apart (next ts) refl) k))) len e h

pub in_structure_block : (place : ℕ) (us : List Tok) (len : ℕ) (e : ReadError) → StuckAt put_structure Whole Anything
    (sign (t.Outer o.Structure) place ∷ us) len e → StuckAt put_block FineBlock Anything
    (sign (t.Outer o.Structure) place ∷ us) len e
in_structure_block place us len e h =
    let ts = sign (t.Outer o.Structure) place ∷ us in
    at_same structure_format block_format ts ts (λ rest k. same_in block_same ts rest
    (either_right block_alternatives ts rest (λ f. block_alternatives.apart (next ts) f (inr (inl refl)))
    (either_right theory_alternatives ts rest (λ f. theory_alternatives.apart (next ts) f (inl refl))
    (either_left structure_alternatives ts rest (structure_alternatives.apart (next ts) refl) k)))) len e h

pub in_term_block : (place : ℕ) (us : List Tok) (len : ℕ) (e : ReadError)
    → StuckAt put_term_block FineTermBlock Anything (sign (t.Outer o.Term) place ∷ us) len e
    → StuckAt put_block FineBlock Anything (sign (t.Outer o.Term) place ∷ us) len e
in_term_block place us len e h =
    let ts = sign (t.Outer o.Term) place ∷ us in
    at_same term_block_format block_format ts ts (λ rest k. same_in block_same ts rest
    (either_right block_alternatives ts rest (λ f. block_alternatives.apart (next ts) f (inr (inr (inl refl))))
    (either_right theory_alternatives ts rest (λ f. theory_alternatives.apart (next ts) f (inr (inl refl)))
    (either_right structure_alternatives ts rest (λ f. structure_alternatives.apart (next ts) f (inl refl))
    (either_left value_alternatives ts rest (value_alternatives.apart (next ts) refl) k))))) len e h

pub no_block : (ts : List Tok) → No (t.Outer o.Vocabulary) (next ts) → No (t.Outer o.Theory) (next ts)
    → No (t.Outer o.Structure) (next ts) → No (t.Outer o.Term) (next ts) → No (t.Outer o.Procedure) (next ts)
    → StuckIn put_block FineBlock Anything ts ts
no_block ts vocabulary theory structure term procedure = not_first block_law ts
    (neither vocabulary (neither theory (neither structure (neither term procedure))))

-- ---- the file

pub first_stuck : (ts rest : List Tok) → Here file_format ts rest → FirstStuck put_file FineFile ts rest
first_stuck ts rest h =
    let v = h.viable [] in
    record {
      front = h.front;
      split = h.split;
      begun = (v.0, v.1, (v.3, v.2));
      ended = λ a more same k. h.dead a more [] same k.1 refl k.0;
    }

-- after these blocks more comes, and they do not go on with it
pub file_fails : (blocks : List Block) (ts us : List Tok) (len : ℕ) (e : ReadError) → ts ≡ put_file blocks us
    → FineFile blocks → (next us ≡ None → ⊥) → StuckAt put_block FineBlock Anything us len e
    → FileRead ts len (Err (refusal_of e))
file_fails blocks ts us len Memory is fine more h = tt
file_fails blocks ts us len (Stuck place) is fine more h = record {
  rest = h.0;
  first = first_stuck ts h.0 (each_in blocks_several blocks fine ts us h.0 is tt more h.1);
  cause = refl;
  place = h.2;
}

-- ---- the blocks by kind

pub kept : {X Y : Type 0} (f : X → Option Y) (xs : List X) (x : X) (y : Y) → f x ≡ Some y → filter_map f (xs ++ x ∷ [])
    ≡ filter_map f xs ++ y ∷ []
kept {X} {Y} f xs x y e = filter_map-append f xs (x ∷ []) ∙ ap (λ (v : Option Y). filter_map f xs ++ cons_option v []) e

pub left_out : {X Y : Type 0} (f : X → Option Y) (xs : List X) (x : X) → f x ≡ None → filter_map f (xs ++ x ∷ [])
    ≡ filter_map f xs
left_out {X} {Y} f xs x e = filter_map-append f xs (x ∷ []) ∙ ap (λ (v : Option Y). filter_map f xs ++ cons_option v [])
    e ∙ append-nil (filter_map f xs)

grown : {R A : Type 0} (view : R → A) (f : Block → Option A) (xs ys : List R) (x : R) (blocks : List Block) (b : Block)
    → ys ≡ xs ++ x ∷ [] → f b ≡ Some (view x) → map view xs ≡ filter_map f blocks
    → map view ys ≡ filter_map f (blocks ++ b ∷ [])
grown {R} {A} view f xs ys x blocks b e is k = ap (λ (v : List R). map view v) e ∙ map-append view xs (x ∷ [])
    ∙ ap (λ (v : List A). v ++ view x ∷ []) k ∙ sym (kept f blocks b (view x) is)

same_kind : {A : Type 0} (f : Block → Option A) (zs : List A) (blocks : List Block) (b : Block) → f b ≡ None
    → zs ≡ filter_map f blocks → zs ≡ filter_map f (blocks ++ b ∷ [])
same_kind f zs blocks b none k = k ∙ sym (left_out f blocks b none)

pub one_vocabulary : (kb : RawKb) (x : RawVocabulary) (xs : List RawVocabulary) (b : RawBlock) → b ≡ raw.Vocabulary x
    → xs ≡ kb.vocabularies ++ x ∷ [] → (blocks : List Block) (len : ℕ) → IsKb blocks len kb
    → IsKb (blocks ++ block_view b ∷ []) len (record kb { vocabularies = xs })
one_vocabulary kb x xs b is e blocks len k = record {
  vocabularies = grown vocabulary_view as_vocabulary kb.vocabularies xs x blocks (block_view b) e
      (ap (λ (v : RawBlock). as_vocabulary (block_view v)) is) k.vocabularies;
  theories = same_kind as_theory (map theory_view kb.theories) blocks (block_view b)
      (ap (λ (v : RawBlock). as_theory (block_view v)) is) k.theories;
  structures = same_kind as_structure (map structure_view kb.structures) blocks (block_view b)
      (ap (λ (v : RawBlock). as_structure (block_view v)) is) k.structures;
  terms = same_kind as_term_block (map term_block_view kb.terms) blocks (block_view b)
      (ap (λ (v : RawBlock). as_term_block (block_view v)) is) k.terms;
  end = k.end;
}

pub one_theory : (kb : RawKb) (x : RawTheory) (xs : List RawTheory) (b : RawBlock) → b ≡ raw.Theory x
    → xs ≡ kb.theories ++ x ∷ [] → (blocks : List Block) (len : ℕ) → IsKb blocks len kb
    → IsKb (blocks ++ block_view b ∷ []) len (record kb { theories = xs })
one_theory kb x xs b is e blocks len k = record {
  vocabularies = same_kind as_vocabulary (map vocabulary_view kb.vocabularies) blocks (block_view b)
      (ap (λ (v : RawBlock). as_vocabulary (block_view v)) is) k.vocabularies;
  theories = grown theory_view as_theory kb.theories xs x blocks (block_view b) e
      (ap (λ (v : RawBlock). as_theory (block_view v)) is) k.theories;
  structures = same_kind as_structure (map structure_view kb.structures) blocks (block_view b)
      (ap (λ (v : RawBlock). as_structure (block_view v)) is) k.structures;
  terms = same_kind as_term_block (map term_block_view kb.terms) blocks (block_view b)
      (ap (λ (v : RawBlock). as_term_block (block_view v)) is) k.terms;
  end = k.end;
}

pub one_structure : (kb : RawKb) (x : RawStructure) (xs : List RawStructure) (b : RawBlock) → b ≡ raw.Structure x
    → xs ≡ kb.structures ++ x ∷ [] → (blocks : List Block) (len : ℕ) → IsKb blocks len kb
    → IsKb (blocks ++ block_view b ∷ []) len (record kb { structures = xs })
one_structure kb x xs b is e blocks len k = record {
  vocabularies = same_kind as_vocabulary (map vocabulary_view kb.vocabularies) blocks (block_view b)
      (ap (λ (v : RawBlock). as_vocabulary (block_view v)) is) k.vocabularies;
  theories = same_kind as_theory (map theory_view kb.theories) blocks (block_view b)
      (ap (λ (v : RawBlock). as_theory (block_view v)) is) k.theories;
  structures = grown structure_view as_structure kb.structures xs x blocks (block_view b) e
      (ap (λ (v : RawBlock). as_structure (block_view v)) is) k.structures;
  terms = same_kind as_term_block (map term_block_view kb.terms) blocks (block_view b)
      (ap (λ (v : RawBlock). as_term_block (block_view v)) is) k.terms;
  end = k.end;
}

pub one_term : (kb : RawKb) (x : RawTerm) (xs : List RawTerm) (b : RawBlock) → b ≡ raw.Term x → xs ≡ kb.terms ++ x ∷ []
    → (blocks : List Block) (len : ℕ) → IsKb blocks len kb → IsKb (blocks ++ block_view b ∷ []) len
    (record kb { terms = xs })
one_term kb x xs b is e blocks len k = record {
  vocabularies = same_kind as_vocabulary (map vocabulary_view kb.vocabularies) blocks (block_view b)
      (ap (λ (v : RawBlock). as_vocabulary (block_view v)) is) k.vocabularies;
  theories = same_kind as_theory (map theory_view kb.theories) blocks (block_view b)
      (ap (λ (v : RawBlock). as_theory (block_view v)) is) k.theories;
  structures = same_kind as_structure (map structure_view kb.structures) blocks (block_view b)
      (ap (λ (v : RawBlock). as_structure (block_view v)) is) k.structures;
  terms = grown term_block_view as_term_block kb.terms xs x blocks (block_view b) e
      (ap (λ (v : RawBlock). as_term_block (block_view v)) is) k.terms;
  end = k.end;
}

pub one_procedure : (kb : RawKb) (place : ℕ) (b : RawBlock) → b ≡ raw.Procedure place → (blocks : List Block) (len : ℕ)
    → IsKb blocks len kb → IsKb (blocks ++ block_view b ∷ []) len kb
one_procedure kb place b is blocks len k = record {
  vocabularies = same_kind as_vocabulary (map vocabulary_view kb.vocabularies) blocks (block_view b)
      (ap (λ (v : RawBlock). as_vocabulary (block_view v)) is) k.vocabularies;
  theories = same_kind as_theory (map theory_view kb.theories) blocks (block_view b)
      (ap (λ (v : RawBlock). as_theory (block_view v)) is) k.theories;
  structures = same_kind as_structure (map structure_view kb.structures) blocks (block_view b)
      (ap (λ (v : RawBlock). as_structure (block_view v)) is) k.structures;
  terms = same_kind as_term_block (map term_block_view kb.terms) blocks (block_view b)
      (ap (λ (v : RawBlock). as_term_block (block_view v)) is) k.terms;
  end = k.end;
}

-- ---- from the tokens to the text

pub file_answered : (src : List ℕ) (ts : List Tok) (r : Result RawKb KbError) → length src ≤ most_bytes
    → IsTokens src ts → FileRead ts (length src) r → KbRead src r
file_answered src ts (Ok kb) short h p = (p.0, fits (Ok p.0) short (parsed ts p.0 h p.1), p.2)
file_answered src ts (Err errors.Memory) short h p = tt
file_answered src ts (Err (errors.Refused f)) short h p = fits (Err f) short (ungrammatical ts f h p)

pub file_refused_early : (src : List ℕ) (e : KbError) → length src ≤ most_bytes → ItemsOf src (Err e)
    → KbRead src (Err e)
file_refused_early src errors.Memory short h = tt
file_refused_early src (errors.Refused f) short h = fits (Err f) short (unscanned f h)

-- ---- one reading

pub one_kb_reading : (src : List ℕ) (r s : Result (List Block) KbFault) → KbReads src r → KbReads src s → r ≡ s
one_kb_reading src r s (too_long h) (too_long k) = refl
one_kb_reading src r s (too_long h) (fits y short k) = absurd (omega (arith, h, short))
one_kb_reading src r s (fits x short h) (too_long k) = absurd (omega (arith, k, short))
one_kb_reading src r s (fits x a h) (fits y b k) = one_reading put_file FineFile
    (λ f g m n e. (file_law.only f g [] [] m n refl refl e).0) src x y h k
