use Rattle.std.proofs.Common.{rules, ◌≡◌, ◌∙◌, ap, sym, true, List, None}
use Rattle.std.specs.Prelude.{is_some}
use Rattle.indexmap.specs.IndexMap.{get, insert_entry}
use Rattle.indexmap.specs.Entry.{entry_index}
use Rattle.row_tries.specs.Rows.{child_of, blank, is_tree}
use Rattle.row_tries.specs.contracts.rows.EdgePartialEq.TheImpl.{ghosts as edge_equality}
use Rattle.row_tries.specs.declared.rows.Edge.{Edge}
use Rattle.row_tries.specs.declared.rows.Mark.{Mark}
use Rattle.row_tries.proofs.Labels.{edge_test}
use Rattle.row_tries.proofs.Entered.{entered_child, no_child}
use Rattle.row_tries.proofs.Growth.{inserted_tree, inserted_child, inserted_Grows}
use Rattle.row_tries.proofs.rows.Rows.child_or_new.Goals as goal

pub invariant_of-self-in-Vacant : goal.invariant_of-self-in-Vacant
invariant_of-self-in-Vacant c =
    let es = c.args.self.now.nodes.entries in
    let none : get edge_equality.eq c.args.self.now.nodes (record { parent = c.args.parent; label = c.args.label })
    ≡ None = search rules in
    let tree : (new : List (Edge × Mark)) → new ≡ insert_entry edge_equality.eq es
    (record { parent = c.args.parent; label = c.args.label }) blank → is_tree new ≡ true = λ new is.
    inserted_tree edge_equality.eq es new c.args.parent c.args.label is (λ e. edge_test _ e)
    (no_child edge_equality.eq es c.args.parent c.args.label (λ e. edge_test _ e) none)
    c.args.self.now.tree c.requires in
    record { tree = search (rules, tree) }

pub returns-in-Occupied-clause-child : goal.returns-in-Occupied-clause-child
returns-in-Occupied-clause-child c =
    let es = c.args.self.now.nodes.entries in
    let there : is_some (get edge_equality.eq c.args.self.now.nodes
    (record { parent = c.args.parent; label = c.args.label })) ≡ true = search rules in
    ap (λ ds. child_of ds c.args.parent c.args.label) (search rules)
    ∙ entered_child edge_equality.eq es c.args.parent c.args.label (λ e. edge_test _ e) c.index.result there
    (c.index.ensures ∙ ap entry_index (sym c.in-Occupied.is) ∙ c.in_ok-entry.ensures.index)

pub returns-in-Vacant-clause-child : goal.returns-in-Vacant-clause-child
returns-in-Vacant-clause-child c =
    let es = c.args.self.now.nodes.entries in
    let none : get edge_equality.eq c.args.self.now.nodes (record { parent = c.args.parent; label = c.args.label })
    ≡ None = search rules in
    inserted_child edge_equality.eq es _ c.args.parent c.args.label _ (search rules) (λ e. edge_test _ e)
    (no_child edge_equality.eq es c.args.parent c.args.label (λ e. edge_test _ e) none) c.len-next.ensures.len

pub returns-in-Vacant-clause-grows : goal.returns-in-Vacant-clause-grows
returns-in-Vacant-clause-grows c =
    let es = c.args.self.now.nodes.entries in
    let none : get edge_equality.eq c.args.self.now.nodes (record { parent = c.args.parent; label = c.args.label })
    ≡ None = search rules in
    inserted_Grows edge_equality.eq es _ c.args.parent c.args.label (search rules) (λ e. edge_test _ e)
    (no_child edge_equality.eq es c.args.parent c.args.label (λ e. edge_test _ e) none)
    c.args.self.now.tree c.requires
