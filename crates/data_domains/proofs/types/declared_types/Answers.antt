use Rattle.std.proofs.Common.{◌+◌, ◌∙◌, ap, sym, length, map}
use Rattle.std.proofs.lemmas.List.{length_push}
use Rattle.structure_entries.specs.SaidViews.{said_view}
use Rattle.stage_definitions.specs.DataDomains.{made_cells}
use Rattle.data_domains.specs.Shares.{IsDeclaredSo, StandsFor}
use Rattle.data_domains.specs.Traits.{AreTraitsOf}
use Rattle.std.proofs.Common.{[], false, get_or, if◌then◌else◌, subst}
use Rattle.data_domains.proofs.Looked.{pushed_each}
use Rattle.data_domains.proofs.types.declared_types.Goals as goal

pub loop-ty-preserved : goal.loop-ty-preserved
loop-ty-preserved c =
    let types = c.args.types.now in
    let es = map said_view c.args.entries.now in
    let ty = c.loop-ty.ty in
    let d = c.index-types-ty.result in
    let x = c.in_ok-declared.field-0 in
    let more = c.in_ok-push.ensures.items in
    let traits = c.traits_of-traits.ensures es (c.flag_at.ensures ∙ ap (λ bs. get_or bs ty false) c.deref.ensures.value
    ∙ c.in_ok-listed.ensures.listed ty c.loop-ty-test.true) in
    record {
      count = ap length more ∙ length_push c.loop-ty.all.items x ∙ ap (λ n. n + 1) c.loop-ty.invariant.count;
      each = pushed_each (IsDeclaredSo types es) types c.loop-ty.all.items _ x ty d c.loop-ty.invariant.count
          c.loop-ty-test.true c.index-types-ty.is more (record {
            traits = subst (AreTraitsOf types es ty d) (sym c.in_ok-declared.ensures.traits) traits;
            stands = subst (λ k. StandsFor (if k.constructed then made_cells d else []) x)
                (sym c.in_ok-declared.ensures.traits) c.in_ok-declared.ensures.stands;
          }) c.loop-ty.invariant.each;
    }
