use Rattle.std.proofs.Common.{◌≡◌, ◌∙◌, ◌+◌, arith, rules, ap, sym, length, map, drop, List, ℕ, Option}
use Rattle.std.proofs.lemmas.Grind.{common_steps}
use Rattle.std.proofs.lemmas.List.{length-map, drop-map}
use Rattle.stage_definitions.specs.Demands as said
use Rattle.type_constraints.specs.Gathering.{gathered_in, gathered_at, part_by, after, settled_from}
use Rattle.type_constraints.specs.PartViews.{binding_view, finding_view, part_view, parts_view}
use Rattle.type_constraints.specs.declared.constraints.Binding.{Binding}
use Rattle.type_constraints.specs.declared.constraints.Part as Part
use Rattle.type_constraints.specs.declared.constraints.Part.{the_lemmas}
use Rattle.type_constraints.proofs.Seen.{opened_length}
use Rattle.type_constraints.proofs.Settled.{opening, scope_settled, scope_findings, parts_next, findings_next}
use Rattle.type_constraints.proofs.Settled.{findings_done, same_length, parts_by-is}
use Rattle.type_constraints.proofs.infer.+gather.Goals as goal

pub part-leave-requires : goal.part-leave-requires
part-leave-requires t c =
    let opened =
    opening c.args.types.now (λ n. gathered_in c.args.source c.enter.new.scope.items n
    (parts_view c.deref-in-Scope-2.result.now)) c.len-outer.result (length c.deref-in-Scope.result.now)
    (map finding_view c.args.findings.now.items) (map finding_view c.enter.new.findings.items)
    (map finding_view c.parts.new.findings.items)
    (c.len-outer.ensures ∙ c.args.findings.now.ok.0 ∙ sym (length-map c.args.findings.now.items finding_view))
    c.in_ok-enter-in-Scope.ensures.findings c.in_ok-inner-in-Scope.ensures.findings in
    let same : c.deref-in-Scope.result.now ≡ c.deref-in-Scope-3.result.now = c.deref-in-Scope.ensures.value
    ∙ sym c.deref-in-Scope-3.ensures.value in
    sym (length-map c.parts.new.findings.items finding_view)
    ∙ opened_length c.args.types.now (λ n. gathered_in c.args.source c.enter.new.scope.items n
    (parts_view c.deref-in-Scope-2.result.now)) (map finding_view c.args.findings.now.items)
    (map finding_view c.parts.new.findings.items) c.len-outer.result (length c.deref-in-Scope.result.now) opened
    ∙ ap (λ (bs : List Binding). c.len-outer.result + length bs) same

pub part-returns-in_ok-bindings-in-Scope-clause-part : goal.part-returns-in_ok-bindings-in-Scope-clause-part
part-returns-in_ok-bindings-in-Scope-clause-part t c =
    let outer : c.len-outer.result ≡ length c.args.findings.now.items = c.len-outer.ensures
    ∙ c.args.findings.now.ok.0 in
    let opened =
    opening c.args.types.now (λ n. gathered_in c.args.source c.enter.new.scope.items n
    (parts_view c.deref-in-Scope-2.result.now)) c.len-outer.result (length c.deref-in-Scope.result.now)
    (map finding_view c.args.findings.now.items) (map finding_view c.enter.new.findings.items)
    (map finding_view c.parts.new.findings.items)
    (outer ∙ sym (length-map c.args.findings.now.items finding_view)) c.in_ok-enter-in-Scope.ensures.findings
    c.in_ok-inner-in-Scope.ensures.findings in
    let same : c.deref-in-Scope-3.result.now ≡ c.deref-in-Scope.result.now = c.deref-in-Scope-3.ensures.value
    ∙ sym c.deref-in-Scope.ensures.value in
    let plain : part_view c.args.listed.now ≡ said.scope (map binding_view c.in-Scope.bindings.items)
    (parts_view c.in-Scope.inner.items) = rw c.in-Scope.is (search (rules, the_lemmas)) in
    let listed : part_view c.args.listed.now ≡ said.scope (map binding_view c.deref-in-Scope.result.now)
    (parts_view c.deref-in-Scope-2.result.now) =
    plain ∙ ap (λ (bs : List Binding). said.scope (map binding_view bs) (parts_view c.in-Scope.inner.items))
    (sym c.deref-in-Scope.ensures.value)
    ∙ ap (λ (ps : List Part.Part). said.scope (map binding_view c.deref-in-Scope.result.now) (parts_view ps))
    (sym c.deref-in-Scope-2.ensures.value) in
    let built : part_view (Part.Scope c.in_ok-bindings-in-Scope.bindings c.in_ok-inner-in-Scope.inner) ≡ said.scope
    (map binding_view c.in_ok-bindings-in-Scope.bindings.items) (parts_view c.in_ok-inner-in-Scope.inner.items) =
    search (rules, the_lemmas) in
    let bindings : map binding_view c.in_ok-bindings-in-Scope.bindings.items ≡ settled_from
    (map binding_view c.deref-in-Scope.result.now) (drop c.len-outer.result
    (map finding_view c.parts.new.findings.items)) =
    c.in_ok-bindings-in-Scope.ensures.bindings
    ∙ ap (λ (bs : List Binding). settled_from (map binding_view bs)
    (map finding_view (drop c.len-outer.result c.parts.new.findings.items))) same
    ∙ ap (λ (fs : List said.Finding). settled_from (map binding_view c.deref-in-Scope.result.now) fs)
    (sym (drop-map finding_view c.len-outer.result c.parts.new.findings.items)) in
    let whole : said.scope (map binding_view c.in_ok-bindings-in-Scope.bindings.items)
    (parts_view c.in_ok-inner-in-Scope.inner.items)
    ≡ part_by c.args.source c.args.types.now c.args.scope.now.items
    (said.scope (map binding_view c.deref-in-Scope.result.now) (parts_view c.deref-in-Scope-2.result.now)) =
    scope_settled c.args.types.now c.requires.acyclic c.args.source c.args.scope.now.items c.enter.new.scope.items
    (map binding_view c.deref-in-Scope.result.now) (map binding_view c.in_ok-bindings-in-Scope.bindings.items)
    (parts_view c.deref-in-Scope-2.result.now) (parts_view c.in_ok-inner-in-Scope.inner.items)
    (map finding_view c.args.findings.now.items) (map finding_view c.parts.new.findings.items) c.len-outer.result
    (length c.deref-in-Scope.result.now)
    c.in_ok-enter-in-Scope.ensures.scope (c.requires.aligned ∙ sym outer)
    (sym (length-map c.deref-in-Scope.result.now binding_view)) opened bindings
    c.in_ok-inner-in-Scope.ensures.parts in
    built ∙ whole ∙ ap (part_by c.args.source c.args.types.now c.args.scope.now.items) (sym listed)

pub part-returns-in_ok-bindings-in-Scope-clause-findings : goal.part-returns-in_ok-bindings-in-Scope-clause-findings
part-returns-in_ok-bindings-in-Scope-clause-findings t c =
    let opened =
    opening c.args.types.now (λ n. gathered_in c.args.source c.enter.new.scope.items n
    (parts_view c.deref-in-Scope-2.result.now)) c.len-outer.result (length c.deref-in-Scope.result.now)
    (map finding_view c.args.findings.now.items) (map finding_view c.enter.new.findings.items)
    (map finding_view c.parts.new.findings.items)
    (c.len-outer.ensures ∙ c.args.findings.now.ok.0 ∙ sym (length-map c.args.findings.now.items finding_view))
    c.in_ok-enter-in-Scope.ensures.findings c.in_ok-inner-in-Scope.ensures.findings in
    let plain : part_view c.args.listed.now ≡ said.scope (map binding_view c.in-Scope.bindings.items)
    (parts_view c.in-Scope.inner.items) = rw c.in-Scope.is (search (rules, the_lemmas)) in
    let listed : part_view c.args.listed.now ≡ said.scope (map binding_view c.deref-in-Scope.result.now)
    (parts_view c.deref-in-Scope-2.result.now) =
    plain ∙ ap (λ (bs : List Binding). said.scope (map binding_view bs) (parts_view c.in-Scope.inner.items))
    (sym c.deref-in-Scope.ensures.value)
    ∙ ap (λ (ps : List Part.Part). said.scope (map binding_view c.deref-in-Scope.result.now) (parts_view ps))
    (sym c.deref-in-Scope-2.ensures.value) in
    scope_findings c.args.types.now c.args.source c.args.scope.now.items c.enter.new.scope.items
    (map binding_view c.deref-in-Scope.result.now) (parts_view c.deref-in-Scope-2.result.now)
    (map finding_view c.args.findings.now.items) c.parts.new.findings.items c.leave.new.findings.items
    c.len-outer.result (length c.deref-in-Scope.result.now)
    c.in_ok-enter-in-Scope.ensures.scope opened c.in_ok-bindings-in-Scope.ensures.findings
    ∙ ap (λ (p : said.Part). after c.args.types.now (λ n. gathered_at c.args.source c.args.scope.now.items n p) 0
    (map finding_view c.args.findings.now.items)) (sym listed)

pub parts-loop-item-preserved : goal.parts-loop-item-preserved
parts-loop-item-preserved t c =
    let next = parts_next c.args.listed.now _ _ c.loop-item-test.true c.item-item.is in
    let part : part_view c.in_ok-part.field-0 ≡ part_by c.args.source c.args.types.now c.args.scope.now.items
    (part_view c.item-item.result) =
    c.in_ok-part.ensures.part ∙ ap (λ (sc : List (Option ℕ)). part_by c.args.source c.args.types.now sc
    (part_view c.item-item.result)) c.loop-item.invariant.scope in
    let step : map finding_view c.part.new.findings.items ≡ after c.args.types.now
    (λ n. gathered_at c.args.source c.args.scope.now.items n (part_view c.item-item.result)) 0
    (map finding_view c.loop-item.findings.items) =
    c.in_ok-part.ensures.findings ∙ ap (λ (sc : List (Option ℕ)). after c.args.types.now
    (λ n. gathered_at c.args.source sc n (part_view c.item-item.result)) 0
    (map finding_view c.loop-item.findings.items)) c.loop-item.invariant.scope in
    record {
      parts = grind (arith, common_steps, part);
      scope = c.in_ok-part.ensures.scope ∙ c.loop-item.invariant.scope;
      same_length = same_length c.args.types.now (λ n. gathered_at c.args.source c.args.scope.now.items n
          (part_view c.item-item.result)) c.loop-item.findings.items c.part.new.findings.items step
          ∙ c.loop-item.invariant.same_length;
      findings = findings_next c.args.types.now c.args.source c.args.scope.now.items _ (part_view c.item-item.result) _
          _ _ _ next c.loop-item.invariant.findings step;
    }

pub parts-returns-clause-parts : goal.parts-returns-clause-parts
parts-returns-clause-parts t c = rw parts_by-is (ap said.parts_of (grind (arith, common_steps)))

pub parts-returns-clause-findings : goal.parts-returns-clause-findings
parts-returns-clause-findings t c = findings_done c.args.types.now c.args.source c.args.scope.now.items
    c.args.listed.now _ _ _ c.loop-item-test.false c.loop-item.invariant.findings
