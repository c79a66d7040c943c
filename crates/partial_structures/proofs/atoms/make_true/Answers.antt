use Rattle.std.proofs.Common.{◌≡◌, ◌∙◌, ◌+◌, Err, Some, option_map, refl, sym, ap, subst, reverse}
use Rattle.row_tries.specs.Lent.{lent_view}
use Rattle.row_tries.specs.Words.{words_in}
use Rattle.partial_structures.specs.AtomRows.{MadeTrue, status_of}
use Rattle.row_tries.specs.Rows.{node_of}
use Rattle.partial_structures.specs.Counts.{added_by}
use Rattle.partial_structures.specs.declared.errors.SetError.TheVariants.{DataClash}
use Rattle.row_tries.proofs.Growth.{node_within}
use Rattle.partial_structures.proofs.Statuses.{grown_MadeTrue}
use Rattle.partial_structures.proofs.Statuses.{read_behind, status_kept}
use Rattle.partial_structures.proofs.atoms.make_true.Goals as goal

pub affirm-requires : goal.affirm-requires
affirm-requires c =
    let rows = c.reach.new.self in
    node_within (words_in rows.words) rows.nodes.entries c.args.atom.now.symbol (reverse c.as_slice.result.now)
    c.in-Ok.node c.in-Ok.ensures.node

pub returns-in_default-clause-clash : goal.returns-in_default-clause-clash
returns-in_default-clause-clash c =
    let a = c.args.atom.now in
    let old = c.args.rows.now in
    let rows = c.reach.new.self in
    let was : c.status.result ≡ status_of (words_in old.words) old.nodes.entries c.args.closed a.symbol a.args a.value =
    c.status.ensures ∙ status_kept (words_in old.words) (words_in rows.words) old.nodes.entries rows.nodes.entries
    c.args.closed a.symbol a.args a.value (ap words_in c.reach.ensures.words) c.reach.ensures.grows in (
      λ e. sym was ∙ c.unaffirmed.ensures.0 (let n : c.unaffirmed.result ≡ DataClash = cc in n),
      λ e. ap (λ x. Err x) (c.unaffirmed.ensures.1 (was ∙ e)),
    )

pub returns-in-No-clause-clash : goal.returns-in-No-clause-clash
returns-in-No-clause-clash c =
    let a = c.args.atom.now in
    let old = c.args.rows.now in
    let rows = c.reach.new.self in
    let at : node_of (words_in rows.words) rows.nodes.entries a.symbol (reverse a.args) ≡ Some c.in-Ok.node =
    ap (λ xs. node_of (words_in rows.words) rows.nodes.entries a.symbol (reverse xs)) (sym c.as_slice.ensures)
    ∙ c.in-Ok.ensures.node in
    let was : c.known_behind.result ≡ status_of (words_in old.words) old.nodes.entries c.args.closed a.symbol a.args
    a.value =
    read_behind (words_in old.words) (words_in rows.words) old.nodes.entries rows.nodes.entries c.args.closed a.symbol
    c.in-Ok.node a.args (option_map lent_view c.lent_value-value.result) c.known_behind.result
    (ap words_in c.reach.ensures.words) c.reach.ensures.grows at c.known_behind.ensures
    ∙ ap (λ v. status_of (words_in old.words) old.nodes.entries c.args.closed a.symbol a.args v)
    c.lent_value-value.ensures in
    (λ e. sym was ∙ c.in-No.is, λ e. refl)

pub returns-in-None-clause-clash : goal.returns-in-None-clause-clash
returns-in-None-clause-clash c =
    let a = c.args.atom.now in
    let old = c.args.rows.now in
    let rows = c.reach.new.self in
    let at : node_of (words_in rows.words) rows.nodes.entries a.symbol (reverse a.args) ≡ Some c.in-Ok.node =
    ap (λ xs. node_of (words_in rows.words) rows.nodes.entries a.symbol (reverse xs)) (sym c.as_slice.ensures)
    ∙ c.in-Ok.ensures.node in
    let was : c.known_behind.result ≡ status_of (words_in old.words) old.nodes.entries c.args.closed a.symbol a.args
    a.value =
    read_behind (words_in old.words) (words_in rows.words) old.nodes.entries rows.nodes.entries c.args.closed a.symbol
    c.in-Ok.node a.args (option_map lent_view c.lent_value-value.result) c.known_behind.result
    (ap words_in c.reach.ensures.words) c.reach.ensures.grows at c.known_behind.ensures
    ∙ ap (λ v. status_of (words_in old.words) old.nodes.entries c.args.closed a.symbol a.args v)
    c.lent_value-value.ensures in (
      λ e. absurd (let n : ⊥ = cc in n),
      λ v. absurd (c.in_default-known_behind.not-No (was ∙ v)),
    )

pub returns-in-Some-clause-clash : goal.returns-in-Some-clause-clash
returns-in-Some-clause-clash c =
    let a = c.args.atom.now in
    let old = c.args.rows.now in
    let rows = c.reach.new.self in
    let at : node_of (words_in rows.words) rows.nodes.entries a.symbol (reverse a.args) ≡ Some c.in-Ok.node =
    ap (λ xs. node_of (words_in rows.words) rows.nodes.entries a.symbol (reverse xs)) (sym c.as_slice.ensures)
    ∙ c.in-Ok.ensures.node in
    let was : c.known_behind.result ≡ status_of (words_in old.words) old.nodes.entries c.args.closed a.symbol a.args
    a.value =
    read_behind (words_in old.words) (words_in rows.words) old.nodes.entries rows.nodes.entries c.args.closed a.symbol
    c.in-Ok.node a.args (option_map lent_view c.lent_value-value.result) c.known_behind.result
    (ap words_in c.reach.ensures.words) c.reach.ensures.grows at c.known_behind.ensures
    ∙ ap (λ v. status_of (words_in old.words) old.nodes.entries c.args.closed a.symbol a.args v)
    c.lent_value-value.ensures in (
      λ e. absurd (let n : ⊥ = cc in n),
      λ v. absurd (c.in_default-known_behind.not-No (was ∙ v)),
    )

pub returns-in-Some-clause-ok : goal.returns-in-Some-clause-ok
returns-in-Some-clause-ok c =
    let a = c.args.atom.now in
    let old = c.args.rows.now in
    let rows = c.reach.new.self in
    let at : node_of (words_in rows.words) rows.nodes.entries a.symbol (reverse a.args) ≡ Some c.in-Ok.node =
    ap (λ xs. node_of (words_in rows.words) rows.nodes.entries a.symbol (reverse xs)) (sym c.as_slice.ensures)
    ∙ c.in-Ok.ensures.node in
    grown_MadeTrue (words_in old.words) old.nodes.entries rows.nodes.entries c.affirm.new.rows.nodes.entries a.symbol
    a.args a.value c.reach.ensures.grows (subst (λ v. MadeTrue (words_in old.words) rows.nodes.entries
    c.affirm.new.rows.nodes.entries a.symbol a.args v) c.lent_value-value.ensures
    (subst (λ w. MadeTrue (words_in w) rows.nodes.entries c.affirm.new.rows.nodes.entries a.symbol a.args
    (option_map lent_view c.lent_value-value.result)) c.reach.ensures.words (c.affirm.ensures.made a.symbol a.args at)))

pub returns-in-Some-clause-count : goal.returns-in-Some-clause-count
returns-in-Some-clause-count c =
    let a = c.args.atom.now in
    let old = c.args.rows.now in
    let rows = c.reach.new.self in
    let at : node_of (words_in rows.words) rows.nodes.entries a.symbol (reverse a.args) ≡ Some c.in-Ok.node =
    ap (λ xs. node_of (words_in rows.words) rows.nodes.entries a.symbol (reverse xs)) (sym c.as_slice.ensures)
    ∙ c.in-Ok.ensures.node in
    let was : c.known_behind.result ≡ status_of (words_in old.words) old.nodes.entries c.args.closed a.symbol a.args
    a.value =
    read_behind (words_in old.words) (words_in rows.words) old.nodes.entries rows.nodes.entries c.args.closed a.symbol
    c.in-Ok.node a.args (option_map lent_view c.lent_value-value.result) c.known_behind.result
    (ap words_in c.reach.ensures.words) c.reach.ensures.grows at c.known_behind.ensures
    ∙ ap (λ v. status_of (words_in old.words) old.nodes.entries c.args.closed a.symbol a.args v)
    c.lent_value-value.ensures in
    c.in-Some.ensures ∙ ap (λ t. c.args.count + added_by t) was
