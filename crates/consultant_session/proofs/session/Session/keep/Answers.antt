use Rattle.std.proofs.Common.{ap, sym, subst}
use Rattle.ground_task.specs.Tasks.{atom_base}
use Rattle.consult_base.specs.Opened.{base_of}
use Rattle.consult_text.specs.RightReplies.{RightReply}
use Rattle.session_queries.specs.Queries.{CoversReply, Refutes}
use Rattle.consultant_session.specs.Sessions.{SessionState}
use Rattle.consultant_session.proofs.ReplyLemmas.{answers-after, is-decided, lasts, on-err, on-ok-map, undecided-last}
use Rattle.consultant_session.proofs.session.Session.keep.Goals as goal

pub returns-then-is_undecided-clause-last : goal.returns-then-is_undecided-clause-last
returns-then-is_undecided-clause-last g c = λ query.
    undecided-last c.args.self.now.answered c.args.command.now c.args.reply.now c.if-is_undecided.ensures

pub invariant_of-self : goal.invariant_of-self
invariant_of-self g c =
    let r = c.args.reply.now in
    let back = sym c.self.view_is in
    record {
      choices = c.self.invariant.choices;
      hashed = c.self.invariant.hashed;
      unknown = c.self.invariant.unknown;
      found = c.self.invariant.found;
      over = c.self.invariant.over;
      supports = c.self.invariant.supports;
      answered = answers-after (base_of c.self.inside.kb)
          (record { choices = c.self.inside.choices; budget = c.self.inside.budget }) c.self.inside.supports
          c.self.inside.task.solver.kept c.self.inside.answered c.keep.new.self c.args.command.now r c.keep.result
          c.keep.ensures.kept c.keep.ensures.lost (record {
            right = subst (λ (s : SessionState). RightReply (base_of s.kb) s.state c.args.command.now r) back
                (c.requires.right c.if-not-is_query.ensures);
            decided = is-decided r c.if-is_undecided.ensures;
            refuted = subst (λ (s : SessionState). Refutes (atom_base (base_of s.kb)) s.state.choices s.solver.cores r)
                back c.requires.refuted;
            covers = subst (λ (s : SessionState). CoversReply (base_of s.kb) s.state.choices s.supports r) back
                c.requires.covers;
          }) c.self.invariant.answered;
    }

pub returns : goal.returns
returns g c = record {
  last = on-ok-map c.keep.result (λ is query. lasts c.self.inside.answered c.keep.new.self c.args.command.now
      c.args.reply.now is query) c.keep.ensures.kept;
  prompt = on-err c.keep.result c.if-not-is_query.ensures;
  same = record {
    kb = ap (λ (s : SessionState). s.kb) c.self.view_is;
    state = ap (λ (s : SessionState). s.state) c.self.view_is;
    solver = ap (λ (s : SessionState). s.solver) c.self.view_is;
    supports = ap (λ (s : SessionState). s.supports) c.self.view_is;
  };
}
