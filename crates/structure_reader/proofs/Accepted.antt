-- What an accepted structure says is filled without a clash, and its sizes are those of what it means.
use Rattle.std.proofs.Common.{◌≡◌, ℕ, List, refl, sym, ap, ◌∙◌, subst, inl, inr}
use Rattle.kb_logic.specs.KnownAtoms.{KnownAtoms}
use Rattle.grammar.specs.BlockTrees as raw
use Rattle.grammar.specs.declared.error.KbError.{KbError}
use Rattle.grammar.specs.declared.error.KbError.TheVariants.{Refused, Memory}
use Rattle.stage_definitions.specs.DataAnswer.{given_by, IsDataOf}
use Rattle.stage_definitions.specs.DataDomains.{domains_of}
use Rattle.stage_definitions.specs.DataEntries.{Said}
use Rattle.stage_definitions.specs.SizesStage.{Sizes, AreSizesOf}
use Rattle.stage_definitions.specs.TypedFiles.{TypedFile}
use Rattle.reading_laws.proofs.Rows.{refusals_are_parted}
use Rattle.data_domains.specs.declared.types.TypeData.{TypeData}
use Rattle.data_filling.specs.Filling.{AreAccepted}
use Rattle.size_stage.specs.Measures.{FailsWith}
use Rattle.structure_reader.specs.DataReads.{DataOrSizesFail, IsAccepted, IsMeasuredData}

pub can_be_filled : (f : TypedFile) (theory : ℕ) (s : raw.Structure) (es : List Said) (types : List TypeData)
    → IsAccepted f theory s es types → AreAccepted f.vocabulary es
can_be_filled f theory s es types h = record {
  structure = s;
  places = f.places.types;
  said = h.said;
  accepted = λ q r. h.accepted q ((refusals_are_parted f theory s q).1 (inl r));
}

is_meant : (f : TypedFile) (theory : ℕ) (s : raw.Structure) (es : List Said) (types : List TypeData)
    → IsAccepted f theory s es types → (known : KnownAtoms) → known ≡ given_by f.vocabulary es
    → IsDataOf f theory s known
is_meant f theory s es types h known is = record {
  accepted = h.accepted;
  given = is ∙ ap (given_by f.vocabulary) h.said;
}

pub is_measured : (f : TypedFile) (theory : ℕ) (s : raw.Structure) (es : List Said) (types : List TypeData)
    → IsAccepted f theory s es types → (known : KnownAtoms) → known ≡ given_by f.vocabulary es → (sizes : Sizes)
    → AreSizesOf f theory (domains_of f.vocabulary.types es) sizes → IsMeasuredData f theory s known sizes
is_measured f theory s es types h known is sizes sized = record {
  given = is_meant f theory s es types h known is;
  sized = subst (λ (k : KnownAtoms). AreSizesOf f theory k.domains sizes) (sym is) sized;
}

pub sizes_refused : (f : TypedFile) (theory : ℕ) (s : raw.Structure) (es : List Said) (types : List TypeData)
    → IsAccepted f theory s es types → (e : KbError) → FailsWith f theory (domains_of f.vocabulary.types es) e
    → DataOrSizesFail f theory s e
sizes_refused f theory s es types h Memory refused = tt
sizes_refused f theory s es types h (Refused q) refused =
    inr (given_by f.vocabulary es, is_meant f theory s es types h (given_by f.vocabulary es) refl, refused)
