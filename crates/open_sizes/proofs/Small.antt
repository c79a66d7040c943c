-- A theory and terms that have small static bounds can be weighed.
use Rattle.std.proofs.Common.{[], sym}
use Rattle.kb_logic.specs.Bounds.{types_of}
use Rattle.kb_logic.specs.Structures.{choices}
use Rattle.kb_logic.proofs.Atoms.{tuple_elements}
use Rattle.kb_logic.proofs.Members.{all_in, in_all}
use Rattle.certain_truth.specs.KnownArithmetic.{CertaintyFits}
use Rattle.certain_truth.proofs.KnownBounds.{small_bounds_fit, small_terms_fit}
use Rattle.open_sizes.specs.Laws.{SmallBasesFit}

pub small_bases_fit : SmallBasesFit
small_bases_fit v k same c t terms small asked = record {
  sentences = in_all _ t.sentences (λ f at.
      small_bounds_fit v k (sym same) c f [] [] tt (all_in _ t.sentences small.sentences f at));
  definitions = in_all _ t.definitions (λ d at. in_all _ d.rules (λ r there.
      let bounded = all_in _ d.rules (all_in _ t.definitions small.definitions d at) r there in
      in_all (CertaintyFits k r.body) (choices k.domains r.vars) (λ e here.
      small_bounds_fit v k (sym same) c r.body (types_of r.vars) e
      (tuple_elements k.domains (types_of r.vars) e here) bounded.body)));
  terms = in_all _ terms (λ u at. small_terms_fit v k (sym same) c u [] [] tt (all_in _ terms asked u at));
}
