-- No two trees are written alike.
use Rattle.std.proofs.Common.{◌≡◌, List, ◌∷◌, sym, ap, subst}
use Rattle.grammar.specs.Fine.{FineFormula, FineLinks, FineOr, FineAnd, FineUnary, FinePrim, FineTerm, FineProduct}
use Rattle.grammar.specs.Fine.{FineFactor, FineApp, FineTerms}
use Rattle.token_reader.specs.Parts.{EndsFactor, EndsTerm, EndsPrim}
use Rattle.token_reader.proofs.Ends.{EndsName, EndsVars, EndsNumber, EndsProduct, EndsList, stops_unary, stops_and}
use Rattle.token_reader.proofs.Ends.{stops_or, stops_links, stops_formula, prim_no_compare, product_ends, term_ends}
use Rattle.token_reader.proofs.Ends.{prim_ends, prim_ends_factor, vars_end_var, closed_unary_stops, closed_and_stops}
use Rattle.token_reader.proofs.Ends.{closed_or_stops, all_stop_formula, vars_no_square, vars_no_number, vars_no_comma}
use Rattle.token_reader.proofs.Ends.{terms_no_close, same_start_unary, same_start_prim, same_start_factor, goes_name}
use Rattle.token_reader.proofs.Ends.{goes_vars, goes_integer, goes_compare, goes_factor, goes_product, goes_term}
use Rattle.token_reader.proofs.Ends.{goes_formula, goes_beside}
use Rattle.token_reader.proofs.Signs.{goes_sign}
use Rattle.grammar.specs.declared.terminal.Terminal.TheVariants as t
use Rattle.grammar.specs.declared.terminal.Arrow.{Arrow}
use Rattle.grammar.specs.Terminals.{Tok, sign}
use Rattle.grammar.specs.Trees.{Name, name, Var, untyped, typed, Vars, var, beside, comma, Number, any, exactly}
use Rattle.grammar.specs.Trees.{compared, Formula, alone, linked, Links, last, link, Or, one, or, And, single, and}
use Rattle.grammar.specs.Trees.{Unary, not, every, some, prim, Prim, group, truth, atom, compare, Term, product, sum}
use Rattle.grammar.specs.Trees.{Product, factor, times, Factor, integer, value, brackets, negative, count, aggregate}
use Rattle.grammar.specs.Trees.{App, constant, empty, apply, Terms, final, then}
use Rattle.grammar.specs.Spelling.{put_name, put_var, put_vars, put_number, put_formula, put_links, put_or, put_and}
use Rattle.grammar.specs.Spelling.{put_unary, put_prim, put_term, put_product, put_factor, put_app, put_terms}

pub only_name : (x y : Name) (m n : List Tok) → put_name x m ≡ put_name y n → (x ≡ y) × (m ≡ n)
only_name (name text p) (name text2 p2) m n e = (cc, cc)

pub only_var : (x y : Var) (m n : List Tok) → EndsName m → EndsName n → put_var x m ≡ put_var y n → (x ≡ y) × (m ≡ n)
only_var (untyped n0) (untyped n02) m n z w e =
    let s0 = only_name n0 n02 m n e in let l0 = s0.0 in let r0 = s0.1 in
    (ap untyped l0, r0)
only_var (untyped n0) (typed n02 p2 type2 q2) m n z w e = absurd
    (goes_name p2 (put_name type2 (sign t.CloseSquare q2 ∷ n)) m z
    (sym (only_name n0 n02 m (sign t.OpenSquare p2 ∷ put_name type2 (sign t.CloseSquare q2 ∷ n)) e).1))
only_var (typed n0 p type q) (untyped n02) m n z w e = absurd (goes_name p (put_name type (sign t.CloseSquare q ∷ m)) n
    w (only_name n0 n02 (sign t.OpenSquare p ∷ put_name type (sign t.CloseSquare q ∷ m)) n e).1)
only_var (typed n0 p type q) (typed n02 p2 type2 q2) m n z w e =
    let s0 = only_name n0 n02 (sign t.OpenSquare p ∷ put_name type (sign t.CloseSquare q ∷ m))
    (sign t.OpenSquare p2 ∷ put_name type2 (sign t.CloseSquare q2 ∷ n)) e in let l0 = s0.0 in let r0 = s0.1 in
    let t1 : put_name type (sign t.CloseSquare q ∷ m) ≡ put_name type2 (sign t.CloseSquare q2 ∷ n) = cc in
    let s1 = only_name type type2 (sign t.CloseSquare q ∷ m) (sign t.CloseSquare q2 ∷ n) t1 in let l1 = s1.0 in
    let r1 = s1.1 in
    (cc, cc)

pub only_vars : (x y : Vars) (m n : List Tok) → EndsVars m → EndsVars n → put_vars x m ≡ put_vars y n
    → (x ≡ y) × (m ≡ n)
only_vars (var v) (var v2) m n z w e =
    let s0 = only_var v v2 m n (vars_end_var m z) (vars_end_var n w) e in let l0 = s0.0 in let r0 = s0.1 in
    (ap var l0, r0)
only_vars (var v) (beside v2 vs2) m n z w e = absurd (goes_beside vs2 n m z
    (sym (only_var v v2 m (put_vars vs2 n) (vars_end_var m z) (vars_no_square vs2 n) e).1))
only_vars (var v) (comma v2 p2 vs2) m n z w e = absurd (goes_vars p2 (put_vars vs2 n) m z
    (sym (only_var v v2 m (sign t.Comma p2 ∷ put_vars vs2 n) (vars_end_var m z) tt e).1))
only_vars (beside v vs) (var v2) m n z w e = absurd (goes_beside vs m n w
    (only_var v v2 (put_vars vs m) n (vars_no_square vs m) (vars_end_var n w) e).1)
only_vars (beside v vs) (beside v2 vs2) m n z w e =
    let s0 = only_var v v2 (put_vars vs m) (put_vars vs2 n) (vars_no_square vs (m)) (vars_no_square vs2 (n)) e in
    let l0 = s0.0 in let r0 = s0.1 in
    let t1 : put_vars vs m ≡ put_vars vs2 n = cc in
    let s1 = only_vars vs vs2 m n z w t1 in let l1 = s1.0 in let r1 = s1.1 in
    (cc, cc)
only_vars (beside v vs) (comma v2 p2 vs2) m n z w e = absurd
    (vars_no_comma vs m p2 (put_vars vs2 n) (only_var v v2 (put_vars vs m) (sign t.Comma p2 ∷ put_vars vs2 n)
    (vars_no_square vs m) tt e).1)
only_vars (comma v p vs) (var v2) m n z w e = absurd (goes_vars p (put_vars vs m) n w
    (only_var v v2 (sign t.Comma p ∷ put_vars vs m) n tt (vars_end_var n w) e).1)
only_vars (comma v p vs) (beside v2 vs2) m n z w e = absurd (vars_no_comma vs2 n p (put_vars vs m)
    (sym (only_var v v2 (sign t.Comma p ∷ put_vars vs m) (put_vars vs2 n) tt (vars_no_square vs2 n) e).1))
only_vars (comma v p vs) (comma v2 p2 vs2) m n z w e =
    let s0 = only_var v v2 (sign t.Comma p ∷ put_vars vs m) (sign t.Comma p2 ∷ put_vars vs2 n) tt tt e in let l0 =
    s0.0 in let r0 = s0.1 in
    let t1 : put_vars vs m ≡ put_vars vs2 n = cc in
    let s1 = only_vars vs vs2 m n z w t1 in let l1 = s1.0 in let r1 = s1.1 in
    (cc, cc)

pub only_number : (x y : Number) (m n : List Tok) → EndsNumber m → EndsNumber n → put_number x m ≡ put_number y n
    → (x ≡ y) × (m ≡ n)
only_number any any m n z w e = (cc, cc)
only_number any (exactly n02 p2) m n z w e = absurd (goes_integer n02 p2 n m z (sym e))
only_number any (compared c2 p2 n02 q2) m n z w e = absurd (goes_compare c2 p2
    (sign (t.Integer n02) q2 ∷ n) m z (sym e))
only_number (exactly n0 p) any m n z w e = absurd (goes_integer n0 p m n w e)
only_number (exactly n0 p) (exactly n02 p2) m n z w e = (cc, cc)
only_number (exactly n0 p) (compared c2 p2 n02 q2) m n z w e = absurd (cc)
only_number (compared c p n0 q) any m n z w e = absurd (goes_compare c p (sign (t.Integer n0) q ∷ m) n w e)
only_number (compared c p n0 q) (exactly n02 p2) m n z w e = absurd (cc)
only_number (compared c p n0 q) (compared c2 p2 n02 q2) m n z w e = (cc, cc)

mutual
  pub only_formula : (x y : Formula) (m n : List Tok) → FineFormula x → FineFormula y → stops_formula x m
      → stops_formula y n → put_formula x m ≡ put_formula y n → (x ≡ y) × (m ≡ n)
  only_formula (alone o) (alone o2) m n h k z w e =
      let s0 = only_or o o2 m n h k z.0 w.0 e in let l0 = s0.0 in let r0 = s0.1 in
      (ap alone l0, r0)
  only_formula (alone o) (linked a2 o2 p2 os2) m n h k z w e =
      absurd (goes_formula a2 p2 (put_links a2 os2 n) m z.1 (sym
      (only_or o o2 m (sign (t.Arrow a2) p2 ∷ put_links a2 os2 n) h k.1 z.0
      (closed_or_stops o2 (sign (t.Arrow a2) p2 ∷ put_links a2 os2 n) k.0 tt) e).1))
  only_formula (linked a o p os) (alone o2) m n h k z w e = absurd (goes_formula a p (put_links a os m) n w.1
      (only_or o o2 (sign (t.Arrow a) p ∷ put_links a os m) n h.1 k
      (closed_or_stops o (sign (t.Arrow a) p ∷ put_links a os m) h.0 tt) w.0 e).1)
  only_formula (linked a o p os) (linked a2 o2 p2 os2) m n h k z w e =
      let s0 = only_or o o2 (sign (t.Arrow a) p ∷ put_links a os m) (sign (t.Arrow a2) p2 ∷ put_links a2 os2 n) h.1 k.1
      (closed_or_stops o (sign (t.Arrow a) p ∷ put_links a os m) h.0 tt)
      (closed_or_stops o2 (sign (t.Arrow a2) p2 ∷ put_links a2 os2 n) k.0 tt) e in let l0 = s0.0 in let r0 = s0.1 in
      let t1 : put_links a os m ≡ put_links a os2 n = cc in
      let s1 = only_links a os os2 m n h.2 k.2 z (let q0 : a2 ≡ a = cc in
      subst (λ (b : Arrow). stops_links b os2 n) q0 w) t1 in let l1 = s1.0 in let r1 = s1.1 in
      (cc, cc)

  pub only_links : (a : Arrow) (x y : Links) (m n : List Tok) → FineLinks x → FineLinks y → stops_links a x m
      → stops_links a y n → put_links a x m ≡ put_links a y n → (x ≡ y) × (m ≡ n)
  only_links a (last o) (last o2) m n h k z w e =
      let s0 = only_or o o2 m n h k z.0 w.0 e in let l0 = s0.0 in let r0 = s0.1 in
      (ap last l0, r0)
  only_links a (last o) (link o2 p2 os2) m n h k z w e = absurd (goes_sign (t.Arrow a) p2 (put_links a os2 n) m z.1
      (sym (only_or o o2 m (sign (t.Arrow a) p2 ∷ put_links a os2 n) h k.1 z.0
      (closed_or_stops o2 (sign (t.Arrow a) p2 ∷ put_links a os2 n) k.0 tt) e).1))
  only_links a (link o p os) (last o2) m n h k z w e = absurd (goes_sign (t.Arrow a) p (put_links a os m) n w.1
      (only_or o o2 (sign (t.Arrow a) p ∷ put_links a os m) n h.1 k
      (closed_or_stops o (sign (t.Arrow a) p ∷ put_links a os m) h.0 tt) w.0 e).1)
  only_links a (link o p os) (link o2 p2 os2) m n h k z w e =
      let s0 = only_or o o2 (sign (t.Arrow a) p ∷ put_links a os m) (sign (t.Arrow a) p2 ∷ put_links a os2 n) h.1 k.1
      (closed_or_stops o (sign (t.Arrow a) p ∷ put_links a os m) h.0 tt)
      (closed_or_stops o2 (sign (t.Arrow a) p2 ∷ put_links a os2 n) k.0 tt) e in let l0 = s0.0 in let r0 = s0.1 in
      let t1 : put_links a os m ≡ put_links a os2 n = cc in
      let s1 = only_links a os os2 m n h.2 k.2 z w t1 in let l1 = s1.0 in let r1 = s1.1 in
      (cc, cc)

  pub only_or : (x y : Or) (m n : List Tok) → FineOr x → FineOr y → stops_or x m → stops_or y n
      → put_or x m ≡ put_or y n → (x ≡ y) × (m ≡ n)
  only_or (one a) (one a2) m n h k z w e =
      let s0 = only_and a a2 m n h k z.0 w.0 e in let l0 = s0.0 in let r0 = s0.1 in
      (ap one l0, r0)
  only_or (one a) (or a2 p2 o2) m n h k z w e = absurd (goes_sign t.Or p2 (put_or o2 n) m z.1
      (sym (only_and a a2 m (sign t.Or p2 ∷ put_or o2 n) h k.1 z.0
      (closed_and_stops a2 (sign t.Or p2 ∷ put_or o2 n) k.0 tt) e).1))
  only_or (or a p o) (one a2) m n h k z w e = absurd (goes_sign t.Or p (put_or o m) n w.1
      (only_and a a2 (sign t.Or p ∷ put_or o m) n h.1 k (closed_and_stops a (sign t.Or p ∷ put_or o m) h.0 tt) w.0 e).1)
  only_or (or a p o) (or a2 p2 o2) m n h k z w e =
      let s0 = only_and a a2 (sign t.Or p ∷ put_or o m) (sign t.Or p2 ∷ put_or o2 n) h.1 k.1
      (closed_and_stops a (sign t.Or p ∷ put_or o m) h.0 tt) (closed_and_stops a2 (sign t.Or p2 ∷ put_or o2 n) k.0
      tt) e in let l0 = s0.0 in let r0 = s0.1 in
      let t1 : put_or o m ≡ put_or o2 n = cc in
      let s1 = only_or o o2 m n h.2 k.2 z w t1 in let l1 = s1.0 in let r1 = s1.1 in
      (cc, cc)

  pub only_and : (x y : And) (m n : List Tok) → FineAnd x → FineAnd y → stops_and x m → stops_and y n
      → put_and x m ≡ put_and y n → (x ≡ y) × (m ≡ n)
  only_and (single u) (single u2) m n h k z w e =
      let s0 = only_unary u u2 m n h k z.0 w.0 e in let l0 = s0.0 in let r0 = s0.1 in
      (ap single l0, r0)
  only_and (single u) (and u2 p2 a2) m n h k z w e = absurd (goes_sign t.And p2 (put_and a2 n) m z.1
      (sym (only_unary u u2 m (sign t.And p2 ∷ put_and a2 n) h k.1 z.0
      (closed_unary_stops u2 (sign t.And p2 ∷ put_and a2 n) k.0 tt) e).1))
  only_and (and u p a) (single u2) m n h k z w e = absurd (goes_sign t.And p (put_and a m) n w.1
      (only_unary u u2 (sign t.And p ∷ put_and a m) n h.1 k (closed_unary_stops u (sign t.And p ∷ put_and a m) h.0
      tt) w.0 e).1)
  only_and (and u p a) (and u2 p2 a2) m n h k z w e =
      let s0 = only_unary u u2 (sign t.And p ∷ put_and a m) (sign t.And p2 ∷ put_and a2 n) h.1 k.1
      (closed_unary_stops u (sign t.And p ∷ put_and a m) h.0 tt)
      (closed_unary_stops u2 (sign t.And p2 ∷ put_and a2 n) k.0 tt) e in let l0 = s0.0 in let r0 = s0.1 in
      let t1 : put_and a m ≡ put_and a2 n = cc in
      let s1 = only_and a a2 m n h.2 k.2 z w t1 in let l1 = s1.0 in let r1 = s1.1 in
      (cc, cc)

  pub only_unary : (x y : Unary) (m n : List Tok) → FineUnary x → FineUnary y → stops_unary x m → stops_unary y n
      → put_unary x m ≡ put_unary y n → (x ≡ y) × (m ≡ n)
  only_unary (not p u) (not p2 u2) m n h k z w e =
      let t0 : put_unary u m ≡ put_unary u2 n = cc in
      let s0 = only_unary u u2 m n h k z w t0 in let l0 = s0.0 in let r0 = s0.1 in
      (cc, cc)
  only_unary (not p u) (every p2 vs2 q2 f2) m n h k z w e = absurd (let d =
      same_start_unary (not p u) (every p2 vs2 q2 f2) m n e in cc)
  only_unary (not p u) (some p2 n02 vs2 q2 f2) m n h k z w e =
      absurd (let d = same_start_unary (not p u) (some p2 n02 vs2 q2 f2) m n e in cc)
  only_unary (not p u) (prim x2) m n h k z w e = absurd (let d = same_start_unary (not p u) (prim x2) m n e in cc)
  only_unary (every p vs q f) (not p2 u2) m n h k z w e = absurd (let d = same_start_unary (every p vs q f)
      (not p2 u2) m n e in cc)
  only_unary (every p vs q f) (every p2 vs2 q2 f2) m n h k z w e =
      let t0 : put_vars vs (sign t.Colon q ∷ put_formula f m) ≡ put_vars vs2 (sign t.Colon q2 ∷ put_formula f2 n) =
      cc in
      let s0 = only_vars vs vs2 (sign t.Colon q ∷ put_formula f m) (sign t.Colon q2 ∷ put_formula f2 n) tt tt t0 in
      let l0 = s0.0 in let r0 = s0.1 in
      let t1 : put_formula f m ≡ put_formula f2 n = cc in
      let s1 = only_formula f f2 m n h k z w t1 in let l1 = s1.0 in let r1 = s1.1 in
      (cc, cc)
  only_unary (every p vs q f) (some p2 n02 vs2 q2 f2) m n h k z w e =
      absurd (let d = same_start_unary (every p vs q f) (some p2 n02 vs2 q2 f2) m n e in cc)
  only_unary (every p vs q f) (prim x2) m n h k z w e = absurd (let d = same_start_unary (every p vs q f)
      (prim x2) m n e in cc)
  only_unary (some p n0 vs q f) (not p2 u2) m n h k z w e = absurd (let d = same_start_unary (some p n0 vs q f)
      (not p2 u2) m n e in cc)
  only_unary (some p n0 vs q f) (every p2 vs2 q2 f2) m n h k z w e =
      absurd (let d = same_start_unary (some p n0 vs q f) (every p2 vs2 q2 f2) m n e in cc)
  only_unary (some p n0 vs q f) (some p2 n02 vs2 q2 f2) m n h k z w e =
      let t0 : put_number n0 (put_vars vs (sign t.Colon q ∷ put_formula f m)) ≡ put_number n02
      (put_vars vs2 (sign t.Colon q2 ∷ put_formula f2 n)) = cc in
      let s0 = only_number n0 n02 (put_vars vs (sign t.Colon q ∷ put_formula f m))
      (put_vars vs2 (sign t.Colon q2 ∷ put_formula f2 n)) (vars_no_number vs (sign t.Colon q ∷ put_formula f m))
      (vars_no_number vs2 (sign t.Colon q2 ∷ put_formula f2 n)) t0 in let l0 = s0.0 in let r0 = s0.1 in
      let t1 : put_vars vs (sign t.Colon q ∷ put_formula f m) ≡ put_vars vs2 (sign t.Colon q2 ∷ put_formula f2 n) =
      cc in
      let s1 = only_vars vs vs2 (sign t.Colon q ∷ put_formula f m) (sign t.Colon q2 ∷ put_formula f2 n) tt tt t1 in
      let l1 = s1.0 in let r1 = s1.1 in
      let t2 : put_formula f m ≡ put_formula f2 n = cc in
      let s2 = only_formula f f2 m n h.1 k.1 z w t2 in let l2 = s2.0 in let r2 = s2.1 in
      (cc, cc)
  only_unary (some p n0 vs q f) (prim x2) m n h k z w e = absurd (let d = same_start_unary (some p n0 vs q f)
      (prim x2) m n e in cc)
  only_unary (prim x) (not p2 u2) m n h k z w e = absurd (let d = same_start_unary (prim x) (not p2 u2) m n e in cc)
  only_unary (prim x) (every p2 vs2 q2 f2) m n h k z w e = absurd (let d =
      same_start_unary (prim x) (every p2 vs2 q2 f2) m n e in cc)
  only_unary (prim x) (some p2 n02 vs2 q2 f2) m n h k z w e =
      absurd (let d = same_start_unary (prim x) (some p2 n02 vs2 q2 f2) m n e in cc)
  only_unary (prim x) (prim x2) m n h k z w e =
      let s0 = only_prim x x2 m n h k z w e in let l0 = s0.0 in let r0 = s0.1 in
      (ap prim l0, r0)

  pub only_prim : (x y : Prim) (m n : List Tok) → FinePrim x → FinePrim y → EndsPrim m → EndsPrim n
      → put_prim x m ≡ put_prim y n → (x ≡ y) × (m ≡ n)
  only_prim (group p f q) (group p2 f2 q2) m n h k z w e =
      let t0 : put_formula f (sign t.Close q ∷ m) ≡ put_formula f2 (sign t.Close q2 ∷ n) = cc in
      let s0 = only_formula f f2 (sign t.Close q ∷ m) (sign t.Close q2 ∷ n) h k
      (all_stop_formula f (sign t.Close q ∷ m) tt) (all_stop_formula f2 (sign t.Close q2 ∷ n) tt) t0 in let l0 =
      s0.0 in let r0 = s0.1 in
      (cc, cc)
  only_prim (group p f q) (truth b2 p2) m n h k z w e = absurd (let d =
      same_start_prim (group p f q) (truth b2 p2) m n e in cc)
  only_prim (group p f q) (atom a2) m n h k z w e = absurd (let d = same_start_prim (group p f q) (atom a2) m n e in cc)
  only_prim (group p f q) (compare x2 c2 p2 y2) m n h k z w e =
      absurd (prim_no_compare (group p f q) tt m x2 c2 p2 (put_term y2 n) z e)
  only_prim (truth b p) (group p2 f2 q2) m n h k z w e = absurd (let d =
      same_start_prim (truth b p) (group p2 f2 q2) m n e in cc)
  only_prim (truth b p) (truth b2 p2) m n h k z w e = (cc, cc)
  only_prim (truth b p) (atom a2) m n h k z w e = absurd (let d = same_start_prim (truth b p) (atom a2) m n e in cc)
  only_prim (truth b p) (compare x2 c2 p2 y2) m n h k z w e =
      absurd (prim_no_compare (truth b p) tt m x2 c2 p2 (put_term y2 n) z e)
  only_prim (atom a) (group p2 f2 q2) m n h k z w e = absurd (let d =
      same_start_prim (atom a) (group p2 f2 q2) m n e in cc)
  only_prim (atom a) (truth b2 p2) m n h k z w e = absurd (let d = same_start_prim (atom a) (truth b2 p2) m n e in cc)
  only_prim (atom a) (atom a2) m n h k z w e =
      let s0 = only_app a a2 m n h k (prim_ends_factor m z) (prim_ends_factor n w) e in let l0 = s0.0 in
      let r0 = s0.1 in
      (ap atom l0, r0)
  only_prim (atom a) (compare x2 c2 p2 y2) m n h k z w e = absurd
      (prim_no_compare (atom a) tt m x2 c2 p2 (put_term y2 n) z e)
  only_prim (compare x c p y) (group p2 f2 q2) m n h k z w e =
      absurd (prim_no_compare (group p2 f2 q2) tt n x c p (put_term y m) w (sym e))
  only_prim (compare x c p y) (truth b2 p2) m n h k z w e = absurd (prim_no_compare (truth b2 p2) tt n x c p
      (put_term y m) w (sym e))
  only_prim (compare x c p y) (atom a2) m n h k z w e = absurd
      (prim_no_compare (atom a2) tt n x c p (put_term y m) w (sym e))
  only_prim (compare x c p y) (compare x2 c2 p2 y2) m n h k z w e =
      let s0 = only_term x x2 (sign (t.Compare c) p ∷ put_term y m) (sign (t.Compare c2) p2 ∷ put_term y2 n) h.0 k.0 tt
      tt e in let l0 = s0.0 in let r0 = s0.1 in
      let t1 : put_term y m ≡ put_term y2 n = cc in
      let s1 = only_term y y2 m n h.1 k.1 (prim_ends m z) (prim_ends n w) t1 in let l1 = s1.0 in let r1 = s1.1 in
      (cc, cc)

  pub only_term : (x y : Term) (m n : List Tok) → FineTerm x → FineTerm y → EndsTerm m → EndsTerm n
      → put_term x m ≡ put_term y n → (x ≡ y) × (m ≡ n)
  only_term (product x) (product x2) m n h k z w e =
      let s0 = only_product x x2 m n h k (term_ends m z) (term_ends n w) e in let l0 = s0.0 in let r0 = s0.1 in
      (ap product l0, r0)
  only_term (product x) (sum x2 s2 p2 y2) m n h k z w e = absurd
      (goes_term s2 p2 (put_term y2 n) m z (sym (only_product x x2 m (sign (t.Add s2) p2 ∷ put_term y2 n) h k.0
      (term_ends m z) tt e).1))
  only_term (sum x s p y) (product x2) m n h k z w e = absurd
      (goes_term s p (put_term y m) n w (only_product x x2 (sign (t.Add s) p ∷ put_term y m) n h.0 k tt
      (term_ends n w) e).1)
  only_term (sum x s p y) (sum x2 s2 p2 y2) m n h k z w e =
      let s0 = only_product x x2 (sign (t.Add s) p ∷ put_term y m) (sign (t.Add s2) p2 ∷ put_term y2 n) h.0 k.0 tt tt e
      in let l0 = s0.0 in let r0 = s0.1 in
      let t1 : put_term y m ≡ put_term y2 n = cc in
      let s1 = only_term y y2 m n h.1 k.1 z w t1 in let l1 = s1.0 in let r1 = s1.1 in
      (cc, cc)

  pub only_product : (x y : Product) (m n : List Tok) → FineProduct x → FineProduct y → EndsProduct m → EndsProduct n
      → put_product x m ≡ put_product y n → (x ≡ y) × (m ≡ n)
  only_product (factor x) (factor x2) m n h k z w e =
      let s0 = only_factor x x2 m n h k (product_ends m z) (product_ends n w) e in let l0 = s0.0 in let r0 = s0.1 in
      (ap factor l0, r0)
  only_product (factor x) (times x2 p2 y2) m n h k z w e = absurd
      (goes_product p2 (put_product y2 n) m z (sym (only_factor x x2 m (sign t.Times p2 ∷ put_product y2 n) h k.0
      (product_ends m z) tt e).1))
  only_product (times x p y) (factor x2) m n h k z w e = absurd
      (goes_product p (put_product y m) n w (only_factor x x2 (sign t.Times p ∷ put_product y m) n h.0 k tt
      (product_ends n w) e).1)
  only_product (times x p y) (times x2 p2 y2) m n h k z w e =
      let s0 = only_factor x x2 (sign t.Times p ∷ put_product y m) (sign t.Times p2 ∷ put_product y2 n) h.0 k.0 tt tt e
      in let l0 = s0.0 in let r0 = s0.1 in
      let t1 : put_product y m ≡ put_product y2 n = cc in
      let s1 = only_product y y2 m n h.1 k.1 z w t1 in let l1 = s1.0 in let r1 = s1.1 in
      (cc, cc)

  pub only_factor : (x y : Factor) (m n : List Tok) → FineFactor x → FineFactor y → EndsFactor m → EndsFactor n
      → put_factor x m ≡ put_factor y n → (x ≡ y) × (m ≡ n)
  only_factor (integer n0 p) (integer n02 p2) m n h k z w e = (cc, cc)
  only_factor (integer n0 p) (value a2) m n h k z w e = absurd (let d = same_start_factor (integer n0 p)
      (value a2) m n e in cc)
  only_factor (integer n0 p) (brackets p2 x2 q2) m n h k z w e =
      absurd (let d = same_start_factor (integer n0 p) (brackets p2 x2 q2) m n e in cc)
  only_factor (integer n0 p) (negative p2 x2) m n h k z w e =
      absurd (let d = same_start_factor (integer n0 p) (negative p2 x2) m n e in cc)
  only_factor (integer n0 p) (count p2 b2 vs2 c2 f2 d2) m n h k z w e =
      absurd (let d = same_start_factor (integer n0 p) (count p2 b2 vs2 c2 f2 d2) m n e in cc)
  only_factor (integer n0 p) (aggregate a2 p2 b2 vs2 c2 f2 d2 x2 e12) m n h k z w e =
      absurd (let d = same_start_factor (integer n0 p) (aggregate a2 p2 b2 vs2 c2 f2 d2 x2 e12) m n e in cc)
  only_factor (value a) (integer n02 p2) m n h k z w e = absurd (let d =
      same_start_factor (value a) (integer n02 p2) m n e in cc)
  only_factor (value a) (value a2) m n h k z w e =
      let s0 = only_app a a2 m n h k z w e in let l0 = s0.0 in let r0 = s0.1 in
      (ap value l0, r0)
  only_factor (value a) (brackets p2 x2 q2) m n h k z w e = absurd (let d =
      same_start_factor (value a) (brackets p2 x2 q2) m n e in cc)
  only_factor (value a) (negative p2 x2) m n h k z w e = absurd (let d =
      same_start_factor (value a) (negative p2 x2) m n e in cc)
  only_factor (value a) (count p2 b2 vs2 c2 f2 d2) m n h k z w e =
      absurd (let d = same_start_factor (value a) (count p2 b2 vs2 c2 f2 d2) m n e in cc)
  only_factor (value a) (aggregate a2 p2 b2 vs2 c2 f2 d2 x2 e12) m n h k z w e =
      absurd (let d = same_start_factor (value a) (aggregate a2 p2 b2 vs2 c2 f2 d2 x2 e12) m n e in cc)
  only_factor (brackets p x q) (integer n02 p2) m n h k z w e =
      absurd (let d = same_start_factor (brackets p x q) (integer n02 p2) m n e in cc)
  only_factor (brackets p x q) (value a2) m n h k z w e = absurd (let d = same_start_factor (brackets p x q)
      (value a2) m n e in cc)
  only_factor (brackets p x q) (brackets p2 x2 q2) m n h k z w e =
      let t0 : put_term x (sign t.Close q ∷ m) ≡ put_term x2 (sign t.Close q2 ∷ n) = cc in
      let s0 = only_term x x2 (sign t.Close q ∷ m) (sign t.Close q2 ∷ n) h k tt tt t0 in let l0 = s0.0 in
      let r0 = s0.1 in
      (cc, cc)
  only_factor (brackets p x q) (negative p2 x2) m n h k z w e =
      absurd (let d = same_start_factor (brackets p x q) (negative p2 x2) m n e in cc)
  only_factor (brackets p x q) (count p2 b2 vs2 c2 f2 d2) m n h k z w e =
      absurd (let d = same_start_factor (brackets p x q) (count p2 b2 vs2 c2 f2 d2) m n e in cc)
  only_factor (brackets p x q) (aggregate a2 p2 b2 vs2 c2 f2 d2 x2 e12) m n h k z w e =
      absurd (let d = same_start_factor (brackets p x q) (aggregate a2 p2 b2 vs2 c2 f2 d2 x2 e12) m n e in cc)
  only_factor (negative p x) (integer n02 p2) m n h k z w e =
      absurd (let d = same_start_factor (negative p x) (integer n02 p2) m n e in cc)
  only_factor (negative p x) (value a2) m n h k z w e = absurd (let d = same_start_factor (negative p x)
      (value a2) m n e in cc)
  only_factor (negative p x) (brackets p2 x2 q2) m n h k z w e =
      absurd (let d = same_start_factor (negative p x) (brackets p2 x2 q2) m n e in cc)
  only_factor (negative p x) (negative p2 x2) m n h k z w e =
      let t0 : put_factor x m ≡ put_factor x2 n = cc in
      let s0 = only_factor x x2 m n h k z w t0 in let l0 = s0.0 in let r0 = s0.1 in
      (cc, cc)
  only_factor (negative p x) (count p2 b2 vs2 c2 f2 d2) m n h k z w e =
      absurd (let d = same_start_factor (negative p x) (count p2 b2 vs2 c2 f2 d2) m n e in cc)
  only_factor (negative p x) (aggregate a2 p2 b2 vs2 c2 f2 d2 x2 e12) m n h k z w e =
      absurd (let d = same_start_factor (negative p x) (aggregate a2 p2 b2 vs2 c2 f2 d2 x2 e12) m n e in cc)
  only_factor (count p b vs c f d) (integer n02 p2) m n h k z w e =
      absurd (let d = same_start_factor (count p b vs c f d) (integer n02 p2) m n e in cc)
  only_factor (count p b vs c f d) (value a2) m n h k z w e =
      absurd (let d = same_start_factor (count p b vs c f d) (value a2) m n e in cc)
  only_factor (count p b vs c f d) (brackets p2 x2 q2) m n h k z w e =
      absurd (let d = same_start_factor (count p b vs c f d) (brackets p2 x2 q2) m n e in cc)
  only_factor (count p b vs c f d) (negative p2 x2) m n h k z w e =
      absurd (let d = same_start_factor (count p b vs c f d) (negative p2 x2) m n e in cc)
  only_factor (count p b vs c f d) (count p2 b2 vs2 c2 f2 d2) m n h k z w e =
      let t0 : put_vars vs (sign t.Colon c ∷ put_formula f (sign t.CloseBrace d ∷ m)) ≡ put_vars vs2
      (sign t.Colon c2 ∷ put_formula f2 (sign t.CloseBrace d2 ∷ n)) = cc in
      let s0 = only_vars vs vs2 (sign t.Colon c ∷ put_formula f (sign t.CloseBrace d ∷ m))
      (sign t.Colon c2 ∷ put_formula f2 (sign t.CloseBrace d2 ∷ n)) tt tt t0 in let l0 = s0.0 in let r0 = s0.1 in
      let t1 : put_formula f (sign t.CloseBrace d ∷ m) ≡ put_formula f2 (sign t.CloseBrace d2 ∷ n) = cc in
      let s1 = only_formula f f2 (sign t.CloseBrace d ∷ m) (sign t.CloseBrace d2 ∷ n) h k
      (all_stop_formula f (sign t.CloseBrace d ∷ m) tt) (all_stop_formula f2 (sign t.CloseBrace d2 ∷ n) tt) t1 in
      let l1 = s1.0 in let r1 = s1.1 in
      (cc, cc)
  only_factor (count p b vs c f d) (aggregate a2 p2 b2 vs2 c2 f2 d2 x2 e12) m n h k z w e =
      absurd (let d = same_start_factor (count p b vs c f d) (aggregate a2 p2 b2 vs2 c2 f2 d2 x2 e12) m n e in cc)
  only_factor (aggregate a p b vs c f d x e1) (integer n02 p2) m n h k z w e =
      absurd (let d = same_start_factor (aggregate a p b vs c f d x e1) (integer n02 p2) m n e in cc)
  only_factor (aggregate a p b vs c f d x e1) (value a2) m n h k z w e =
      absurd (let d = same_start_factor (aggregate a p b vs c f d x e1) (value a2) m n e in cc)
  only_factor (aggregate a p b vs c f d x e1) (brackets p2 x2 q2) m n h k z w e =
      absurd (let d = same_start_factor (aggregate a p b vs c f d x e1) (brackets p2 x2 q2) m n e in cc)
  only_factor (aggregate a p b vs c f d x e1) (negative p2 x2) m n h k z w e =
      absurd (let d = same_start_factor (aggregate a p b vs c f d x e1) (negative p2 x2) m n e in cc)
  only_factor (aggregate a p b vs c f d x e1) (count p2 b2 vs2 c2 f2 d2) m n h k z w e =
      absurd (let d = same_start_factor (aggregate a p b vs c f d x e1) (count p2 b2 vs2 c2 f2 d2) m n e in cc)
  only_factor (aggregate a p b vs c f d x e1) (aggregate a2 p2 b2 vs2 c2 f2 d2 x2 e12) m n h k z w e =
      let t0 : put_vars vs (sign t.Colon c ∷ put_formula f (sign t.Colon d ∷ put_term x (sign t.CloseBrace e1 ∷ m)))
      ≡ put_vars vs2 (sign t.Colon c2 ∷ put_formula f2 (sign t.Colon d2 ∷ put_term x2 (sign t.CloseBrace e12 ∷ n)))
      = cc in
      let s0 = only_vars vs vs2 (sign t.Colon c ∷ put_formula f
      (sign t.Colon d ∷ put_term x (sign t.CloseBrace e1 ∷ m)))
      (sign t.Colon c2 ∷ put_formula f2 (sign t.Colon d2 ∷ put_term x2 (sign t.CloseBrace e12 ∷ n))) tt tt t0 in
      let l0 = s0.0 in let r0 = s0.1 in
      let t1 : put_formula f (sign t.Colon d ∷ put_term x (sign t.CloseBrace e1 ∷ m)) ≡ put_formula f2
      (sign t.Colon d2 ∷ put_term x2 (sign t.CloseBrace e12 ∷ n)) = cc in
      let s1 = only_formula f f2 (sign t.Colon d ∷ put_term x (sign t.CloseBrace e1 ∷ m))
      (sign t.Colon d2 ∷ put_term x2 (sign t.CloseBrace e12 ∷ n)) h.0 k.0
      (all_stop_formula f (sign t.Colon d ∷ put_term x (sign t.CloseBrace e1 ∷ m)) tt)
      (all_stop_formula f2 (sign t.Colon d2 ∷ put_term x2 (sign t.CloseBrace e12 ∷ n)) tt) t1 in let l1 = s1.0 in
      let r1 = s1.1 in
      let t2 : put_term x (sign t.CloseBrace e1 ∷ m) ≡ put_term x2 (sign t.CloseBrace e12 ∷ n) = cc in
      let s2 = only_term x x2 (sign t.CloseBrace e1 ∷ m) (sign t.CloseBrace e12 ∷ n) h.1 k.1 tt tt t2 in let l2 =
      s2.0 in let r2 = s2.1 in
      (cc, cc)

  pub only_app : (x y : App) (m n : List Tok) → FineApp x → FineApp y → EndsFactor m → EndsFactor n
      → put_app x m ≡ put_app y n → (x ≡ y) × (m ≡ n)
  only_app (constant n0) (constant n02) m n h k z w e =
      let s0 = only_name n0 n02 m n e in let l0 = s0.0 in let r0 = s0.1 in
      (ap constant l0, r0)
  only_app (constant n0) (empty n02 p2 q2) m n h k z w e = absurd (goes_factor p2 (sign t.Close q2 ∷ n) m z
      (sym (only_name n0 n02 m (sign t.Open p2 ∷ sign t.Close q2 ∷ n) e).1))
  only_app (constant n0) (apply n02 p2 xs2 q2) m n h k z w e =
      absurd (goes_factor p2 (put_terms xs2 (sign t.Close q2 ∷ n)) m z
      (sym (only_name n0 n02 m (sign t.Open p2 ∷ put_terms xs2 (sign t.Close q2 ∷ n)) e).1))
  only_app (empty n0 p q) (constant n02) m n h k z w e = absurd (goes_factor p (sign t.Close q ∷ m) n w
      (only_name n0 n02 (sign t.Open p ∷ sign t.Close q ∷ m) n e).1)
  only_app (empty n0 p q) (empty n02 p2 q2) m n h k z w e =
      let s0 = only_name n0 n02 (sign t.Open p ∷ sign t.Close q ∷ m) (sign t.Open p2 ∷ sign t.Close q2 ∷ n) e in
      let l0 = s0.0 in let r0 = s0.1 in
      (cc, cc)
  only_app (empty n0 p q) (apply n02 p2 xs2 q2) m n h k z w e = let r =
      (only_name n0 n02 (sign t.Open p ∷ sign t.Close q ∷ m) (sign t.Open p2 ∷ put_terms xs2 (sign t.Close q2 ∷ n)) e).1
      in let f : sign t.Close q ∷ m ≡ put_terms xs2 (sign t.Close q2 ∷ n) = cc in
      absurd (terms_no_close xs2 q m (sign t.Close q2 ∷ n) f)
  only_app (apply n0 p xs q) (constant n02) m n h k z w e = absurd
      (goes_factor p (put_terms xs (sign t.Close q ∷ m)) n w (only_name n0 n02
      (sign t.Open p ∷ put_terms xs (sign t.Close q ∷ m)) n e).1)
  only_app (apply n0 p xs q) (empty n02 p2 q2) m n h k z w e = let r =
      (only_name n0 n02 (sign t.Open p ∷ put_terms xs (sign t.Close q ∷ m)) (sign t.Open p2 ∷ sign t.Close q2 ∷ n) e).1
      in let f : sign t.Close q2 ∷ n ≡ put_terms xs (sign t.Close q ∷ m) = cc in
      absurd (terms_no_close xs q2 n (sign t.Close q ∷ m) f)
  only_app (apply n0 p xs q) (apply n02 p2 xs2 q2) m n h k z w e =
      let s0 = only_name n0 n02 (sign t.Open p ∷ put_terms xs (sign t.Close q ∷ m))
      (sign t.Open p2 ∷ put_terms xs2 (sign t.Close q2 ∷ n)) e in let l0 = s0.0 in let r0 = s0.1 in
      let t1 : put_terms xs (sign t.Close q ∷ m) ≡ put_terms xs2 (sign t.Close q2 ∷ n) = cc in
      let s1 = only_terms xs xs2 (sign t.Close q ∷ m) (sign t.Close q2 ∷ n) h k (tt, λ f. cc)
      (tt, λ f. cc) t1 in let l1 =
      s1.0 in let r1 = s1.1 in
      (cc, cc)

  pub only_terms : (x y : Terms) (m n : List Tok) → FineTerms x → FineTerms y → EndsList m → EndsList n
      → put_terms x m ≡ put_terms y n → (x ≡ y) × (m ≡ n)
  only_terms (final x) (final x2) m n h k z w e =
      let s0 = only_term x x2 m n h k z.0 w.0 e in let l0 = s0.0 in let r0 = s0.1 in
      (ap final l0, r0)
  only_terms (final x) (then x2 p2 xs2) m n h k z w e = absurd
      (goes_sign t.Comma p2 (put_terms xs2 n) m z.1 (sym (only_term x x2 m (sign t.Comma p2 ∷ put_terms xs2 n) h k.0
      z.0 tt e).1))
  only_terms (then x p xs) (final x2) m n h k z w e = absurd (goes_sign t.Comma p (put_terms xs m) n w.1
      (only_term x x2 (sign t.Comma p ∷ put_terms xs m) n h.0 k tt w.0 e).1)
  only_terms (then x p xs) (then x2 p2 xs2) m n h k z w e =
      let s0 = only_term x x2 (sign t.Comma p ∷ put_terms xs m) (sign t.Comma p2 ∷ put_terms xs2 n) h.0 k.0 tt tt e in
      let l0 = s0.0 in let r0 = s0.1 in
      let t1 : put_terms xs m ≡ put_terms xs2 n = cc in
      let s1 = only_terms xs xs2 m n h.1 k.1 z w t1 in let l1 = s1.0 in let r1 = s1.1 in
      (cc, cc)
