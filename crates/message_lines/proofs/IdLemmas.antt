-- Ids, and the digits of one that is drawn.
use Rattle.std.proofs.Common.{◌≡◌, ◌≢◌, ℕ, zero, suc, ◌+◌, ◌-◌, ◌<◌, length, drop, get_or, drop-cons, add-one, ◌/◌, ◌%◌, List, [], ◌∷◌, ◌++◌, map, refl, sym, ap, ◌∙◌, subst, arith}
use Rattle.std.proofs.lemmas.List.{append_assoc}
use Rattle.message_lines.specs.declared.folding.Line.{Line}
use Rattle.message_lines.specs.Folding.{FieldPiece, plain_piece, laid, line_after, next_line}
use Rattle.message_lines.specs.Ids.{bracketed, id_piece, AreIdTexts, hex_digit, hex_digits}
use Rattle.message_lines.proofs.LineLemmas.{Goes, goes_on}

-- the element at a place of a list, and what follows it
pub item_first : (ids items : List (List ℕ)) (at : ℕ) (item id : List ℕ) → items ≡ ids → at < length items → item ≡ get_or items at item → id ≡ item
    → drop at ids ≡ id ∷ drop (at + 1) ids
item_first ids items at item id e lt is f =
    let here : at < length ids = omega (arith, ap length e) in
    let same : get_or ids at item ≡ id = ap (λ (xs : List (List ℕ)). get_or xs at item) (sym e) ∙ sym is ∙ sym f in
    drop-cons ids at item here ∙ ap (λ (x : List ℕ). x ∷ drop (suc at) ids) same ∙ ap (λ (n : ℕ). id ∷ drop n ids) (sym (add-one at))

-- an id is written, and those behind it are left
pub id_written : (ids rest behind : List (List ℕ)) (id : List ℕ) (begun : Line) (before : List ℕ) (line after : Line) (text new piece : List ℕ)
    → Goes (AreIdTexts ids) (AreIdTexts rest) begun before line text → rest ≡ id ∷ behind → piece ≡ bracketed id
    → new ≡ text ++ laid line (plain_piece piece ∷ []) → after ≡ next_line line (plain_piece piece) → Goes (AreIdTexts ids) (AreIdTexts behind) begun before after new
unfolding line_after
id_written ids rest behind id begun before line after text new piece g e f h k =
    goes_on (AreIdTexts ids) (AreIdTexts rest) (AreIdTexts behind) begun before line after text new (plain_piece piece ∷ []) g h k
    (λ qs a. ap (λ (ps : List FieldPiece). plain_piece piece ∷ ps) a ∙ ap (λ (t : List ℕ). plain_piece t ∷ map id_piece behind) f ∙ sym (ap (map id_piece) e))

-- the digits of a number are those of what it is without its last one, and that one
pub digit_more : (count number : ℕ) (old front new : List ℕ) → count ≢ 0 → front ≡ old ++ hex_digits (count - 1) (number / 16)
    → new ≡ front ++ hex_digit (number % 16) ∷ [] → new ≡ old ++ hex_digits count number
digit_more zero number old front new n e f = absurd (n refl)
digit_more (suc k) number old front new n e f =
    let one : suc k - 1 ≡ k = omega arith in
    let front_is : front ≡ old ++ hex_digits k (number / 16) = subst (λ (j : ℕ). front ≡ old ++ hex_digits j (number / 16)) one e in
    f ∙ ap (λ (u : List ℕ). u ++ hex_digit (number % 16) ∷ []) front_is ∙ append_assoc old (hex_digits k (number / 16)) (hex_digit (number % 16) ∷ [])
