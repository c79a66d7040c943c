-- Facts on the findings of variables, one variable after another.
use Rattle.std.proofs.Common.{◌≡◌, ◌≤◌, ◌<◌, ◌==◌, ◌⊎◌, inl, inr, ℕ, ◌+◌, zero, suc, true, false, List, [], ◌∷◌, ◌++◌}
use Rattle.std.proofs.Common.{length, fold, refl, ap, ◌∙◌, sym, get_or, take, drop, arith, set, map, replicate, subst}
use Rattle.std.proofs.Common.{length-append, if◌then◌else◌, Bool, Option}
use Rattle.std.proofs.Math.ListN.{length-replicate}
use Rattle.std.proofs.lemmas.Grind.{fold-append}
use Rattle.std.proofs.lemmas.Bool.Decides.{nat_tests}
use Rattle.std.proofs.Math.Seq.{drop-append_seam, take-append_seam}
use Rattle.kb_logic.specs.declared.vocabularies.TypeDecl.{TypeDecl}
use Rattle.stage_definitions.specs.Below.{HasNoCycle, type_parents}
use Rattle.std.proofs.lemmas.List.{length-map, map-set}
use Rattle.std.proofs.Math.ListN.{get_or-map}
use Rattle.stage_definitions.specs.Demands.{TermType, Kind, of_variable, by_itself, Finding, nothing, Binding}
use Rattle.stage_definitions.specs.Typing.{settled_binding, settled_bindings, is_variable, types_known, type_in}
use Rattle.stage_definitions.specs.Typing.{side_given}
use Rattle.type_constraints.specs.PartViews.{finding_view}
use Rattle.type_constraints.specs.declared.constraints.Finding.{Finding as Found}
use Rattle.type_constraints.specs.Gathering.{seen, after, if_variable, settled_by, settled_from}
use Rattle.type_constraints.proofs.Least.{seen_all}

pub after-none : (types : List TypeDecl) (P : ℕ → List ℕ) (n : ℕ) (fs : List Finding) → ((m : ℕ) → P m ≡ [])
    → after types P n fs ≡ fs
after-none types P n [] none = refl
after-none types P n (f ∷ fs) none = rw (none n, after-none types P (n + 1) fs none) refl

pub after-append : (types : List TypeDecl) (P Q : ℕ → List ℕ) (n : ℕ) (fs : List Finding)
    → after types (λ m. P m ++ Q m) n fs ≡ after types Q n (after types P n fs)
after-append types P Q n [] = refl
after-append types P Q n (f ∷ fs) = rw (fold-append (seen types) f (P n) (Q n), after-append types P Q (n + 1) fs) refl

pub after-length : (types : List TypeDecl) (P : ℕ → List ℕ) (n : ℕ) (fs : List Finding)
    → length (after types P n fs) ≡ length fs
after-length types P n [] = refl
after-length types P n (f ∷ fs) = ap suc (after-length types P (n + 1) fs)

pub after-both : (types : List TypeDecl) (P : ℕ → List ℕ) (n : ℕ) (fs gs : List Finding)
    → after types P n (fs ++ gs) ≡ after types P n fs ++ after types P (n + length fs) gs
after-both types P n [] gs = ap (λ k. after types P k gs) (let e : n ≡ n + 0 = omega arith in e)
after-both types P n (f ∷ fs) gs =
    ap (λ rest. fold (seen types) f (P n) ∷ rest)
    (after-both types P (n + 1) fs gs
    ∙ ap (λ k. after types P (n + 1) fs ++ after types P k gs) (let e : n + 1 + length fs ≡ n + suc (length fs) =
    omega arith in e))

-- the bindings of new variables come to what their types say
pub settled_from-after : (types : List TypeDecl) → HasNoCycle (type_parents types)
    → (P : ℕ → List ℕ) (n : ℕ) (bs : List Binding)
    → settled_from bs (after types P n (replicate (length bs) nothing)) ≡ settled_bindings types n bs P
settled_from-after types none P n [] = refl
settled_from-after types none P n (b ∷ bs) =
    let here : settled_by b (fold (seen types) nothing (P n)) ≡ settled_binding types b (P n) =
    rw (seen_all types none (P n)) refl in
    let later : settled_from bs (after types P (n + 1) (replicate (length bs) nothing)) ≡ settled_bindings types
    (n + 1) bs P = settled_from-after types none P (n + 1) bs in
    ap (λ (c : Binding). c ∷ settled_from bs (after types P (n + 1) (replicate (length bs) nothing))) here
    ∙ ap (λ (cs : List Binding). settled_binding types b (P n) ∷ cs) later

-- ---- one type of one variable

after_past : (types : List TypeDecl) (m t n : ℕ) (fs : List Finding) → (m < n) ⊎ (n + length fs ≤ m)
    → after types (if_variable (of_variable m) t) n fs ≡ fs
after_past types m t n [] far = refl
after_past types m t n (f ∷ fs) far =
    let other : (m == n) ≡ false = elim far [
      | inl below ↦ grind (arith, nat_tests)
      | inr above ↦ (let more : n + suc (length fs) ≤ m = above in grind (arith, nat_tests))
    ] in
    let later : (m < n + 1) ⊎ (n + 1 + length fs ≤ m) = elim far [
      | inl below ↦ inl (omega arith)
      | inr above ↦ inr (let more : n + suc (length fs) ≤ m = above in omega arith)
    ] in
    rw (other, after_past types m t (n + 1) fs later) refl

after_at : (types : List TypeDecl) (m t n k : ℕ) (fs : List Finding) (d : Finding) → m ≡ n + k → k < length fs
    → after types (if_variable (of_variable m) t) n fs ≡ set fs k (seen types (get_or fs k d) t)
after_at types m t n k [] d e lt = absurd (let no_room : k < 0 = lt in omega arith)
after_at types m t n zero (f ∷ fs) d e lt =
    let same : (m == n) ≡ true = grind (arith, nat_tests) in
    let later : (m < n + 1) ⊎ (n + 1 + length fs ≤ m) = inl (omega arith) in
    rw (same, after_past types m t (n + 1) fs later) refl
after_at types m t n (suc k) (f ∷ fs) d e lt =
    let other : (m == n) ≡ false = grind (arith, nat_tests) in
    let more : suc k < suc (length fs) = lt in
    rw (other, after_at types m t (n + 1) k fs d (omega arith) (omega arith)) refl

pub seen_here : (types : List TypeDecl) (m t : ℕ) (fs : List Finding) (d : Finding) → m < length fs
    → set fs m (seen types (get_or fs m d) t) ≡ after types (if_variable (of_variable m) t) 0 fs
seen_here types m t fs d lt = sym (after_at types m t 0 m fs d (omega arith) lt)

pub seen_beyond : (types : List TypeDecl) (m t : ℕ) (fs : List Finding) → length fs ≤ m
    → fs ≡ after types (if_variable (of_variable m) t) 0 fs
seen_beyond types m t fs le = sym (after_past types m t 0 fs (inr (omega arith)))

-- ---- a list of variables: they stand at the end while what is in their scope is gone through

pub record IsOpened (types : List TypeDecl) (P : ℕ → List ℕ) (outer count : ℕ) (fs end : List Finding) : Type 0 where
  pub start : outer ≡ length fs
  pub findings : end ≡ after types P 0 (fs ++ replicate count nothing)

opened_parts : (types : List TypeDecl) (P : ℕ → List ℕ) (fs end : List Finding) (outer count : ℕ)
    → IsOpened types P outer count fs end
    → end ≡ after types P 0 fs ++ after types P outer (replicate count nothing)
opened_parts types P fs end outer count h =
    h.findings ∙ after-both types P 0 fs (replicate count nothing)
    ∙ ap (λ k. after types P 0 fs ++ after types P k (replicate count nothing)) (let e : 0 + length fs ≡ outer =
    omega (arith, h.start) in e)

opened_outer : (types : List TypeDecl) (P : ℕ → List ℕ) (fs end : List Finding) (outer count : ℕ)
    → IsOpened types P outer count fs end
    → outer ≡ length (after types P 0 fs)
opened_outer types P fs end outer count h = h.start ∙ sym (after-length types P 0 fs)

pub opened_length : (types : List TypeDecl) (P : ℕ → List ℕ) (fs end : List Finding) (outer count : ℕ)
    → IsOpened types P outer count fs end
    → length end ≡ outer + count
opened_length types P fs end outer count h =
    rw (opened_parts types P fs end outer count h, length-append, after-length, after-length, length-replicate)
    (omega (arith, h.start))

pub opened_before : (types : List TypeDecl) (P : ℕ → List ℕ) (fs end : List Finding) (outer count : ℕ)
    → IsOpened types P outer count fs end
    → take outer end ≡ after types P 0 fs
opened_before types P fs end outer count h =
    rw (opened_parts types P fs end outer count h)
    (subst (λ (k : ℕ). take k (after types P 0 fs ++ after types P outer (replicate count nothing))
    ≡ after types P 0 fs)
    (sym (opened_outer types P fs end outer count h)) (take-append_seam (after types P 0 fs)
    (after types P outer (replicate count nothing))))

pub opened_fresh : (types : List TypeDecl) (P : ℕ → List ℕ) (fs end : List Finding) (outer count : ℕ)
    → IsOpened types P outer count fs end
    → drop outer end ≡ after types P outer (replicate count nothing)
opened_fresh types P fs end outer count h =
    rw (opened_parts types P fs end outer count h)
    (subst (λ (k : ℕ). drop k (after types P 0 fs ++ after types P outer (replicate count nothing))
    ≡ after types P outer (replicate count nothing))
    (sym (opened_outer types P fs end outer count h)) (drop-append_seam (after types P 0 fs)
    (after types P outer (replicate count nothing))))

pub opened_bindings : (types : List TypeDecl) → HasNoCycle (type_parents types)
    → (P : ℕ → List ℕ) (fs end : List Finding) (outer : ℕ) (bs : List Binding)
    → IsOpened types P outer (length bs) fs end → settled_from bs (drop outer end) ≡ settled_bindings types outer bs P
opened_bindings types none P fs end outer bs h =
    rw (opened_fresh types P fs end outer (length bs) h) (settled_from-after types none P outer bs)

-- ---- in memory

pub noted_here : (types : List TypeDecl) (kind : Kind) (t n : ℕ) (fs : List Found) (f new : Found)
    → kind ≡ of_variable n → n < length fs → f ≡ get_or fs n f → finding_view new ≡ seen types (finding_view f) t
    → map finding_view (set fs n new) ≡ after types (if_variable kind t) 0 (map finding_view fs)
noted_here types kind t n fs f new is lt there e =
    let long : n < length (map finding_view fs) = subst (λ (k : ℕ). n < k) (sym (length-map fs finding_view)) lt in
    let seen_there : get_or (map finding_view fs) n (finding_view f) ≡ finding_view f = get_or-map finding_view fs n f
    ∙ ap finding_view (sym there) in
    map-set finding_view fs n new
    ∙ ap (λ (g : Finding). set (map finding_view fs) n g) (e ∙ ap (λ (g : Finding). seen types g t) (sym seen_there))
    ∙ seen_here types n t (map finding_view fs) (finding_view f) long
    ∙ ap (λ (k : Kind). after types (if_variable k t) 0 (map finding_view fs)) (sym is)

pub noted_beyond : (types : List TypeDecl) (kind : Kind) (t n : ℕ) (fs : List Found) → kind ≡ of_variable n
    → length fs ≤ n
    → map finding_view fs ≡ after types (if_variable kind t) 0 (map finding_view fs)
noted_beyond types kind t n fs is le =
    let short : length (map finding_view fs) ≤ n = subst (λ (k : ℕ). k ≤ n) (sym (length-map fs finding_view)) le in
    seen_beyond types n t (map finding_view fs) short
    ∙ ap (λ (k : Kind). after types (if_variable k t) 0 (map finding_view fs)) (sym is)

pub noted_by_itself : (types : List TypeDecl) (kind : Kind) (t : ℕ) (u : TermType) (fs : List Finding)
    → kind ≡ by_itself u
    → fs ≡ after types (if_variable kind t) 0 fs
noted_by_itself types kind t u fs is = rw is (sym (after-none types (if_variable (by_itself u) t) 0 fs (λ m. refl)))

pub after-nothing : (types : List TypeDecl) (fs : List Finding) → fs ≡ after types (λ m. []) 0 fs
after-nothing types fs = sym (after-none types (λ m. []) 0 fs (λ m. refl))

same_branches : (b : Bool) (ts : List ℕ) → ts ≡ [] → (if b then ts else []) ≡ []
same_branches true ts e = e
same_branches false ts e = refl

pub no_side : (types : List TypeDecl) (sc : List (Option ℕ)) (x y : Kind) (fs : List Finding)
    → types_known (type_in sc y) ≡ []
    → fs ≡ after types (λ n. side_given sc n x y) 0 fs
no_side types sc x y fs e =
    sym (after-none types (λ n. side_given sc n x y) 0 fs (λ m. same_branches (is_variable m x)
    (types_known (type_in sc y)) e))
