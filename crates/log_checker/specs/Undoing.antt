-- How an earlier state comes back.
use Rattle.std.specs.Prelude.{length, take}
use Rattle.derivation_log.specs.Steps.{CheckState}
use Rattle.log_checker.specs.declared.checked.Ends.{Ends}

-- the numbers of a state, and where its lists end
abbrev pub ends_of : CheckState → Ends
ends_of st = record {
  vars = st.vars;
  clauses = length st.clauses;
  bounds = length st.bounds;
  line = st.line;
  claims = length st.claims;
}

-- with these numbers, and its lists up to these ends
abbrev pub cut_back : CheckState → Ends → CheckState
cut_back st e = record {
  vars = e.vars;
  clauses = take e.clauses st.clauses;
  bounds = take e.bounds st.bounds;
  line = e.line;
  claims = take e.claims st.claims;
}
