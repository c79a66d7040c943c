-- Parts with what is found of their variables' types.
use Rattle.std.proofs.Common.{◌≡◌, ◌≤◌, ◌<◌, ℕ, ◌+◌, List, [], ◌∷◌, ◌++◌, length, refl, ap, ◌∙◌, sym, add-one, get_or}
use Rattle.std.proofs.Common.{take, drop, drop-cons, arith, map, replicate, subst, Option, length-append}
use Rattle.std.proofs.lemmas.Grind.{common_steps}
use Rattle.std.proofs.lemmas.List.{length-map, take-map}
use Rattle.kb_logic.specs.declared.vocabularies.TypeDecl.{TypeDecl}
use Rattle.stage_definitions.specs.Below.{HasNoCycle, type_parents}
use Rattle.stage_definitions.specs.Demands.{Finding, nothing, Binding, Part, demand, scope, Parts, no_parts, more_parts}
use Rattle.stage_definitions.specs.Demands.{parts_of}
use Rattle.stage_definitions.specs.Typing.{within, settled_bindings, settled_binding, places_at, places_in, sides_at}
use Rattle.stage_definitions.specs.Typing.{sides_in, part_by_places, by_places, part_by_sides, by_sides, type_found}
use Rattle.type_constraints.specs.Gathering.{after, settled_from, gathered_at, gathered_in, part_by, parts_by}
use Rattle.type_constraints.specs.PartViews.{part_view, parts_view, finding_view}
use Rattle.type_constraints.specs.declared.constraints.Part.{Part as Kept}
use Rattle.type_constraints.specs.declared.constraints.Finding.{Finding as Found}
use Rattle.type_constraints.specs.declared.infer.Source.{Source}
use Rattle.type_constraints.specs.declared.infer.Source.TheVariants.{Places, Sides}
use Rattle.type_constraints.proofs.Seen.{after-append, after-nothing, after-length, IsOpened, opened_before}
use Rattle.type_constraints.proofs.Seen.{opened_bindings}

-- ---- a list of variables and what is in its scope

pub opening : (types : List TypeDecl) (P : ℕ → List ℕ) (outer count : ℕ) (fs opened end : List Finding)
    → outer ≡ length fs → opened ≡ fs ++ replicate count nothing → end ≡ after types P 0 opened
    → IsOpened types P outer count fs end
opening types P outer count fs opened end e f g = record { start = e; findings = g ∙ ap (after types P 0) f }

pub scope_settled : (types : List TypeDecl) → HasNoCycle (type_parents types)
    → (source : Source) (sc inside : List (Option ℕ)) (bs new : List Binding)
    (ps inner : Parts) (fs end : List Finding) (outer count : ℕ)
    → inside ≡ within sc bs → length sc ≡ outer → count ≡ length bs
    → IsOpened types (λ n. gathered_in source inside n ps) outer count fs end
    → new ≡ settled_from bs (drop outer end) → inner ≡ parts_by source types inside ps
    → scope new inner ≡ part_by source types sc (scope bs ps)
scope_settled types none source sc inside bs new ps inner fs end outer count e o same h n i =
    let opened : IsOpened types (λ n. gathered_in source inside n ps) outer (length bs) fs end =
    subst (λ (k : ℕ). IsOpened types (λ n. gathered_in source inside n ps) outer k fs end) same h in
    let bindings : new ≡ settled_bindings types (length sc) bs (λ n. gathered_in source inside n ps) =
    n ∙ opened_bindings types none (λ n. gathered_in source inside n ps) fs end outer bs opened
    ∙ ap (λ k. settled_bindings types k bs (λ n. gathered_in source inside n ps)) (sym o) in
    subst (λ (w : List (Option ℕ)). scope new inner ≡ scope (settled_bindings types (length sc) bs
    (λ n. gathered_in source w n ps)) (parts_by source types w ps)) e
    (rw (bindings, i) refl)

pub scope_findings : (types : List TypeDecl) (source : Source) (sc inside : List (Option ℕ)) (bs : List Binding)
    (ps : Parts) (fs : List Finding)
    (end left : List Found) (outer count : ℕ)
    → inside ≡ within sc bs → IsOpened types (λ n. gathered_in source inside n ps) outer count fs (map finding_view end)
    → left ≡ take outer end
    → map finding_view left ≡ after types (λ n. gathered_at source sc n (scope bs ps)) 0 fs
scope_findings types source sc inside bs ps fs end left outer count e h l =
    ap (map finding_view) l ∙ sym (take-map finding_view outer end)
    ∙ opened_before types (λ n. gathered_in source inside n ps) fs (map finding_view end) outer count h
    ∙ ap (λ (w : List (Option ℕ)). after types (λ n. gathered_in source w n ps) 0 fs) e

-- ---- one part after another

pub parts_next : (items : List Kept) (i : ℕ) (x : Kept) → i < length items → x ≡ get_or items i x
    → parts_view (drop i items) ≡ more_parts (part_view x) (parts_view (drop (i + 1) items))
parts_next items i x lt e = rw (drop-cons items i x lt, ← e, add-one i) refl

pub findings_next : (types : List TypeDecl) (source : Source) (sc : List (Option ℕ)) (whole : Parts) (p : Part)
    (ps : Parts) (now new total : List Finding)
    → whole ≡ more_parts p ps → after types (λ n. gathered_in source sc n whole) 0 now ≡ total
    → new ≡ after types (λ n. gathered_at source sc n p) 0 now
    → after types (λ n. gathered_in source sc n ps) 0 new ≡ total
findings_next types source sc whole p ps now new total e so_far step =
    ap (after types (λ n. gathered_in source sc n ps) 0) step
    ∙ sym (after-append types (λ n. gathered_at source sc n p) (λ n. gathered_in source sc n ps) 0 now)
    ∙ subst (λ (qs : Parts). after types (λ n. gathered_in source sc n qs) 0 now ≡ total) e so_far

pub findings_done : (types : List TypeDecl) (source : Source) (sc : List (Option ℕ)) (items : List Kept) (i : ℕ)
    (now total : List Finding)
    → length items ≤ i → after types (λ n. gathered_in source sc n (parts_view (drop i items))) 0 now ≡ total
    → now ≡ total
findings_done types source sc items i now total le e =
    let none : drop i items ≡ [] = grind (arith, common_steps) in
    after-nothing types now ∙ subst (λ (xs : List Kept). after types (λ n. gathered_in source sc n (parts_view xs)) 0
    now ≡ total) none e

pub same_length : (types : List TypeDecl) (P : ℕ → List ℕ) (now new : List Found) → map finding_view new
    ≡ after types P 0 (map finding_view now)
    → length new ≡ length now
same_length types P now new e =
    sym (length-map new finding_view) ∙ ap length e ∙ after-length types P 0 (map finding_view now)
    ∙ length-map now finding_view

pub parts_by-is : (source : Source) (types : List TypeDecl) (sc : List (Option ℕ)) (ps : List Part)
    → parts_by source types sc (parts_of ps) ≡ parts_of (map (part_by source types sc) ps)
parts_by-is source types sc [] = refl
parts_by-is source types sc (p ∷ ps) = ap (more_parts (part_by source types sc p)) (parts_by-is source types sc ps)

-- ---- the two sources, in the words of the definitions

settled_same : (types : List TypeDecl) (n : ℕ) (bs : List Binding) (P Q : ℕ → List ℕ) → ((m : ℕ) → P m ≡ Q m)
    → settled_bindings types n bs P ≡ settled_bindings types n bs Q
settled_same types n [] P Q same = refl
settled_same types n (b ∷ bs) P Q same =
    ap (λ (ts : List ℕ). settled_binding types b ts ∷ settled_bindings types (n + 1) bs P) (same n)
    ∙ ap (λ (cs : List Binding). settled_binding types b (Q n) ∷ cs) (settled_same types (n + 1) bs P Q same)

mutual
  place_at-is : (sc : List (Option ℕ)) (n : ℕ) (p : Part) → gathered_at Places sc n p ≡ places_at n p
  place_at-is sc n (demand d) = refl
  place_at-is sc n (scope bs ps) = places-are (within sc bs) n ps

  places-are : (sc : List (Option ℕ)) (n : ℕ) (ps : Parts) → gathered_in Places sc n ps ≡ places_in n ps
  places-are sc n no_parts = refl
  places-are sc n (more_parts p ps) = rw (place_at-is sc n p, places-are sc n ps) refl

mutual
  side_at-is : (sc : List (Option ℕ)) (n : ℕ) (p : Part) → gathered_at Sides sc n p ≡ sides_at sc n p
  side_at-is sc n (demand d) = refl
  side_at-is sc n (scope bs ps) = sides-are (within sc bs) n ps

  sides-are : (sc : List (Option ℕ)) (n : ℕ) (ps : Parts) → gathered_in Sides sc n ps ≡ sides_in sc n ps
  sides-are sc n no_parts = refl
  sides-are sc n (more_parts p ps) = rw (side_at-is sc n p, sides-are sc n ps) refl

within-length : (sc : List (Option ℕ)) (bs : List Binding) → length (within sc bs) ≡ length sc + length bs
within-length sc bs = length-append sc (map (λ (b : Binding). type_found b.finding) bs)
    ∙ ap (λ k. length sc + k) (length-map bs (λ (b : Binding). type_found b.finding))

mutual
  part_by_places-is : (types : List TypeDecl) (sc : List (Option ℕ)) (p : Part) → part_by Places types sc p
      ≡ part_by_places types (length sc) p
  part_by_places-is types sc (demand d) = refl
  part_by_places-is types sc (scope bs ps) =
      let bindings : settled_bindings types (length sc) bs (λ n. gathered_in Places (within sc bs) n ps)
      ≡ settled_bindings types (length sc) bs (λ n. places_in n ps) =
      settled_same types (length sc) bs _ _ (λ m. places-are (within sc bs) m ps) in
      let inner : parts_by Places types (within sc bs) ps ≡ by_places types (length sc + length bs) ps =
      by_places-is types (within sc bs) ps ∙ ap (λ k. by_places types k ps) (within-length sc bs) in
      rw (bindings, inner) refl

  by_places-is : (types : List TypeDecl) (sc : List (Option ℕ)) (ps : Parts) → parts_by Places types sc ps
      ≡ by_places types (length sc) ps
  by_places-is types sc no_parts = refl
  by_places-is types sc (more_parts p ps) = rw (part_by_places-is types sc p, by_places-is types sc ps) refl

mutual
  part_by_sides-is : (types : List TypeDecl) (sc : List (Option ℕ)) (p : Part) → part_by Sides types sc p
      ≡ part_by_sides types sc p
  part_by_sides-is types sc (demand d) = refl
  part_by_sides-is types sc (scope bs ps) =
      let bindings : settled_bindings types (length sc) bs (λ n. gathered_in Sides (within sc bs) n ps)
      ≡ settled_bindings types (length sc) bs (λ n. sides_in (within sc bs) n ps) =
      settled_same types (length sc) bs _ _ (λ m. sides-are (within sc bs) m ps) in
      rw (bindings, by_sides-is types (within sc bs) ps) refl

  by_sides-is : (types : List TypeDecl) (sc : List (Option ℕ)) (ps : Parts) → parts_by Sides types sc ps
      ≡ by_sides types sc ps
  by_sides-is types sc no_parts = refl
  by_sides-is types sc (more_parts p ps) = rw (part_by_sides-is types sc p, by_sides-is types sc ps) refl

pub settled_twice : (types : List TypeDecl) (ps placed settled : Parts) → placed ≡ parts_by Places types [] ps
    → settled ≡ parts_by Sides types [] placed
    → settled ≡ by_sides types [] (by_places types 0 ps)
settled_twice types ps placed settled e f =
    f ∙ by_sides-is types [] placed ∙ ap (by_sides types []) (e ∙ by_places-is types [] ps)
