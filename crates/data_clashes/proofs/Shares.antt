-- Rows of cells that share, cell by cell.
use Rattle.std.proofs.Common.{◌≡◌, ◌<◌, ◌≤◌, ◌+◌, ◌-◌, ◌==◌, ℕ, suc, Bool, false, ◌&&◌, leb, List, [], ◌∷◌, drop}
use Rattle.std.proofs.Common.{get_or, length, map, refl, sym, ap, ◌∙◌, arith}
use Rattle.std.proofs.lemmas.Bool.Decides.{nat_tests}
use Rattle.std.proofs.lemmas.List.{drop_all, drop_more, length-drop, length-map}
use Rattle.stage_definitions.specs.Elements as set
use Rattle.stage_definitions.specs.DataFacts.{all_share}
use Rattle.structure_entries.specs.EntryViews.{cell_view}
use Rattle.structure_entries.specs.declared.elements.Cell.{Cell}

module _ (xs ys : List Cell) (i : ℕ) where
  abbrev pub shared : ℕ → Bool
  shared n = all_share (map cell_view (drop n xs)) (map cell_view (drop n ys))

  pub share_next : (d e : Cell) → i < length xs → i < length ys
      → shared i ≡ (set.do_share (cell_view (get_or xs i d)) (cell_view (get_or ys i e)) && shared (i + 1))
  share_next d e h k = ap (λ zs. all_share (map cell_view zs) (map cell_view (drop i ys))) (drop_more xs i d h)
      ∙ ap (λ zs. all_share (map cell_view (get_or xs i d ∷ drop (i + 1) xs)) (map cell_view zs)) (drop_more ys i e k)

  behind : (us : List Cell) → i < length us → (c : Cell) × (drop i us ≡ c ∷ drop (i + 1) us)
  behind [] h = absurd (omega arith)
  behind (u ∷ us) h = (get_or (u ∷ us) i u, drop_more (u ∷ us) i u h)

  pub share_short : i < length xs → length ys ≤ i → false ≡ shared i
  share_short h k =
      let x = behind xs h in
      sym (ap (λ zs. all_share (map cell_view zs) (map cell_view (drop i ys))) x.1
      ∙ ap (λ zs. all_share (map cell_view (x.0 ∷ drop (i + 1) xs)) (map cell_view zs)) (drop_all i ys k))

  not_zero : (n : ℕ) → (suc n == 0) ≡ false
  not_zero n = grind (arith, nat_tests)

  nothing : (us : List set.Cell) → all_share [] us ≡ (length us == 0)
  nothing [] = refl
  nothing (u ∷ us) = sym (not_zero (length us))

  leaves : (m n : ℕ) → leb m n ≡ (m - n == 0)
  leaves m n = grind (arith, nat_tests)

  pub share_end : length xs ≡ i → leb (length ys) (length xs) ≡ shared i
  share_end h =
      let none : drop i xs ≡ [] = drop_all i xs (omega (arith, h)) in
      let left : length (map cell_view (drop i ys)) ≡ length ys - i = length-map (drop i ys) cell_view
      ∙ length-drop i ys in
      leaves (length ys) (length xs) ∙ ap (λ n. length ys - n == 0) h ∙ ap (λ n. n == 0) (sym left)
      ∙ sym (nothing (map cell_view (drop i ys)))
      ∙ ap (λ zs. all_share (map cell_view zs) (map cell_view (drop i ys))) (sym none)
