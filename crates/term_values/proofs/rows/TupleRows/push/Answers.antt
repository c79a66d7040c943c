use Rattle.std.proofs.Common.{◌≤◌, sym, ap, ◌∙◌, ◌++◌, subst, length, refl}
use Rattle.term_values.specs.FlatRows.{origin, rows_between, AreEnds}
use Rattle.term_values.proofs.FlatLemmas.{last_read, last_within, ends_kept, ends_pushed, rows_pushed, rows_stay}
use Rattle.term_values.proofs.FlatLemmas.{front_put, on_err}
use Rattle.term_values.proofs.rows.TupleRows.push.Goals as goal

pub put_guards-requires : goal.put_guards-requires
put_guards-requires c =
    let i = c.self.inside in
    let w = last_within origin i.ends.items (length i.guards.items) (length i.values.items) c.self.invariant in
    let at = last_read c.as_slice.result.now i.ends.items c.end_of-start.result c.as_slice.ensures
    c.end_of-start.ensures in
    subst (λ z. z.guards ≤ length i.guards.items) (sym at) w.0

pub put_values-requires : goal.put_values-requires
put_values-requires c =
    let i = c.self.inside in
    let w = last_within origin i.ends.items (length i.guards.items) (length i.values.items) c.self.invariant in
    let at = last_read c.as_slice.result.now i.ends.items c.end_of-start.result c.as_slice.ensures
    c.end_of-start.ensures in
    subst (λ z. z.values ≤ length i.values.items) (sym at) w.1

pub invariant_of-self : goal.invariant_of-self
invariant_of-self c =
    let i = c.self.inside in
    let at = last_read c.as_slice.result.now i.ends.items c.end_of-start.result c.as_slice.ensures
    c.end_of-start.ensures in
    let w = last_within origin i.ends.items (length i.guards.items) (length i.values.items) c.self.invariant in
    let g = subst (λ z. z.guards ≤ length c.put_guards.new.guards.items) at c.put_guards.ensures.kept in
    ends_kept origin i.ends.items (length i.guards.items) (length i.values.items) (length c.put_guards.new.guards.items)
    (length i.values.items) c.self.invariant g w.1

pub invariant_of-self-in_err-put_values : goal.invariant_of-self-in_err-put_values
invariant_of-self-in_err-put_values c =
    let i = c.self.inside in
    let at = last_read c.as_slice.result.now i.ends.items c.end_of-start.result c.as_slice.ensures
    c.end_of-start.ensures in
    let g = subst (λ z. z.guards ≤ length c.put_guards.new.guards.items) at c.put_guards.ensures.kept in
    let v = subst (λ z. z.values ≤ length c.put_values.new.values.items) at c.put_values.ensures.kept in
    ends_kept origin i.ends.items (length i.guards.items) (length i.values.items) (length c.put_guards.new.guards.items)
    (length c.put_values.new.values.items) c.self.invariant g v

pub invariant_of-self-in_err-push : goal.invariant_of-self-in_err-push
invariant_of-self-in_err-push c =
    let i = c.self.inside in
    let at = last_read c.as_slice.result.now i.ends.items c.end_of-start.result c.as_slice.ensures
    c.end_of-start.ensures in
    let g = subst (λ z. z.guards ≤ length c.put_guards.new.guards.items) at c.put_guards.ensures.kept in
    let v = subst (λ z. z.values ≤ length c.put_values.new.values.items) at c.put_values.ensures.kept in
    let kept = ends_kept origin i.ends.items (length i.guards.items) (length i.values.items)
    (length c.put_guards.new.guards.items) (length c.put_values.new.values.items) c.self.invariant g v in
    let same = ap (λ l. l.items) c.in_err-push.ensures.err in
    subst (λ l. AreEnds origin l (length c.put_guards.new.guards.items) (length c.put_values.new.values.items))
    (sym same) kept

pub invariant_of-self-2 : goal.invariant_of-self-2
invariant_of-self-2 c =
    let i = c.self.inside in
    let at = last_read c.as_slice.result.now i.ends.items c.end_of-start.result c.as_slice.ensures
    c.end_of-start.ensures in
    let g = subst (λ z. z.guards ≤ length c.put_guards.new.guards.items) at c.put_guards.ensures.kept in
    let v = subst (λ z. z.values ≤ length c.put_values.new.values.items) at c.put_values.ensures.kept in
    ends_pushed i.ends.items c.push.new.self.items (record { guards = c.len.result; values = c.len-2.result })
    (length i.guards.items) (length i.values.items) (length c.put_guards.new.guards.items)
    (length c.put_values.new.values.items) c.self.invariant g v c.len.ensures.value c.len-2.ensures.value
    c.in_ok-push.ensures.ok

pub returns : goal.returns
returns c =
    let i = c.self.inside in
    let at = last_read c.as_slice.result.now i.ends.items c.end_of-start.result c.as_slice.ensures
    c.end_of-start.ensures in
    record {
      ok =
          rows_pushed i.guards.items c.put_guards.new.guards.items (c.args.guards.now ++ c.args.more_guards.now)
          i.values.items c.put_values.new.values.items (c.args.values.now ++ c.args.more_values.now)
          i.ends.items c.push.new.self.items (record { guards = c.len.result; values = c.len-2.result })
          c.end_of-start.result
          c.args.self.now c.self.view_is c.self.invariant at c.in_ok-put_guards.ensures.ok c.in_ok-put_values.ensures.ok
          c.in_ok-push.ensures.ok c.len.ensures.value c.len-2.ensures.value;
      err = tt;
    }

pub returns-in_err-put_guards-clause-err : goal.returns-in_err-put_guards-clause-err
returns-in_err-put_guards-clause-err c =
    let i = c.self.inside in
    let at = last_read c.as_slice.result.now i.ends.items c.end_of-start.result c.as_slice.ensures
    c.end_of-start.ensures in
    on_err c.from_residual.result
    (rows_stay i.guards.items c.put_guards.new.guards.items i.values.items i.values.items i.ends.items
    c.end_of-start.result
    c.args.self.now c.self.view_is c.self.invariant at c.in_err-put_guards.ensures.err refl)

pub returns-in_err-put_values-clause-err : goal.returns-in_err-put_values-clause-err
returns-in_err-put_values-clause-err c =
    let i = c.self.inside in
    let at = last_read c.as_slice.result.now i.ends.items c.end_of-start.result c.as_slice.ensures
    c.end_of-start.ensures in
    let within = last_within origin i.ends.items (length i.guards.items) (length i.values.items) c.self.invariant in
    let wg = subst (λ z. z.guards ≤ length i.guards.items) (sym at) within.0 in
    let wv = subst (λ z. z.values ≤ length i.values.items) (sym at) within.1 in
    let ms = c.args.guards.now ++ c.args.more_guards.now in
    let g = front_put i.guards.items ms c.put_guards.new.guards.items c.end_of-start.result.guards wg
    c.in_ok-put_guards.ensures.ok in
    on_err c.from_residual-in_err-put_values.result
    (rows_stay i.guards.items c.put_guards.new.guards.items i.values.items c.put_values.new.values.items i.ends.items
    c.end_of-start.result c.args.self.now c.self.view_is c.self.invariant at g c.in_err-put_values.ensures.err)

pub returns-in_err-push-clause-err : goal.returns-in_err-push-clause-err
returns-in_err-push-clause-err c =
    let i = c.self.inside in
    let at = last_read c.as_slice.result.now i.ends.items c.end_of-start.result c.as_slice.ensures
    c.end_of-start.ensures in
    let within = last_within origin i.ends.items (length i.guards.items) (length i.values.items) c.self.invariant in
    let wg = subst (λ z. z.guards ≤ length i.guards.items) (sym at) within.0 in
    let wv = subst (λ z. z.values ≤ length i.values.items) (sym at) within.1 in
    let ms = c.args.guards.now ++ c.args.more_guards.now in
    let ws = c.args.values.now ++ c.args.more_values.now in
    let g = front_put i.guards.items ms c.put_guards.new.guards.items c.end_of-start.result.guards wg
    c.in_ok-put_guards.ensures.ok in
    let v = front_put i.values.items ws c.put_values.new.values.items c.end_of-start.result.values wv
    c.in_ok-put_values.ensures.ok in
    let same = ap (λ l. l.items) c.in_err-push.ensures.err in
    on_err c.from_residual-in_err-push.result
    (ap (rows_between c.put_guards.new.guards.items c.put_values.new.values.items origin) same
    ∙ rows_stay i.guards.items c.put_guards.new.guards.items i.values.items c.put_values.new.values.items i.ends.items
    c.end_of-start.result c.args.self.now c.self.view_is c.self.invariant at g v)
