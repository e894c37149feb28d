-- Octets that are kept, when some are taken and when some are put behind them.
use Rattle.std.proofs.Common.{◌≡◌, ◌+◌, ◌≤◌, ◌++◌, ◌∙◌, ℕ, List, length, take, drop, sym, ap, arith}
use Rattle.std.proofs.lemmas.List.{drop-append-le, drop-drop, length-drop}
use Rattle.client_streams.specs.Kept.{Kept}
use Rattle.client_streams.specs.Sending.{kept_more, sent_more}

-- so many more are taken
pub taken-more : (items : List ℕ) (taken count stored : ℕ) (kept : Kept) → record { unsent = drop taken items; stored = stored } ≡ kept
    → record { unsent = drop (taken + count) items; stored = stored } ≡ sent_more count kept
taken-more items taken count stored kept is =
    ap (λ (l : List ℕ). record { unsent = l; stored = stored }) (sym (drop-drop count taken items)) ∙ ap (sent_more count) is

-- no more are taken than there were
pub taken-within : (items : List ℕ) (taken count stored : ℕ) (kept : Kept) → record { unsent = drop taken items; stored = stored } ≡ kept
    → taken ≤ length items → count ≤ length kept.unsent → taken + count ≤ length items
taken-within items taken count stored kept is within fits =
    let same : length (drop taken items) ≡ length kept.unsent = ap (λ (k : Kept). length k.unsent) is in
    omega (arith, length-drop taken items, same, within, fits)

-- these are put behind them
pub put-behind : (items from : List ℕ) (taken count stored : ℕ) (kept : Kept) → record { unsent = drop taken items; stored = stored } ≡ kept
    → taken ≤ length items → record { unsent = drop taken (items ++ take count from); stored = stored + length (take count from) } ≡ kept_more (take count from) kept
put-behind items from taken count stored kept is within =
    ap (λ (l : List ℕ). record { unsent = l; stored = stored + length (take count from) }) (drop-append-le taken items (take count from) within)
    ∙ ap (kept_more (take count from)) is
