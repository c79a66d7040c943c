-- The value of an integer's digits.
use Rattle.std.proofs.Common.{◌≡◌, ℕ, ◌+◌, ◌-◌, ◌*◌, ◌≤◌, ◌<◌, List, [], ◌∷◌, length, get_or, take, drop, sym, ap, ◌∙◌}
use Rattle.std.proofs.Common.{arith}
use Rattle.std.specs.List.{fold}
use Rattle.std.proofs.lemmas.List.{take-append-drop}
use Rattle.std.proofs.lemmas.List.Sums.{fold-append, fold_more}
use Rattle.kb_text.specs.Tokens.{decimal}

grows : (n : ℕ) (bs : List ℕ) → n ≤ fold (λ n b. 10 * n + (b - 48)) n bs
grows n [] = omega arith
grows n (b ∷ bs) = omega (arith, grows (10 * n + (b - 48)) bs)

-- more digits make no smaller value
decimal_front : (i : ℕ) (text : List ℕ) → decimal (take i text) ≤ decimal text
decimal_front i text =
    let f : ℕ → ℕ → ℕ = λ n b. 10 * n + (b - 48) in
    let whole : decimal text ≡ fold f (decimal (take i text)) (drop i text) = ap decimal (sym (take-append-drop i text))
    ∙ fold-append f 0 (take i text) (drop i text) in
    rw whole (grows (decimal (take i text)) (drop i text))

-- the value with one more digit is no greater than the whole one
pub digit_fits : (text : List ℕ) (i n : ℕ) → i < length text → n ≡ decimal (take i text)
    → 10 * n + (get_or text i 0 - 48) ≤ decimal text
digit_fits text i n lt value =
    let more = fold_more (λ n b. 10 * n + (b - 48)) 0 text i 0 lt in
    omega (arith, more, decimal_front (i + 1) text)
