-- What a client gives, piece by piece.
use Rattle.std.proofs.Common.{◌≡◌, ◌<◌, ◌≤◌, ◌-◌, ◌++◌, ℕ, Bool, true, false, min, List, length, sym, ap, subst, arith, length-append, Ok}
use Rattle.gate_world.specs.declared.event.Event.{Event}
use Rattle.gate_world.specs.Octets.{Asks}
use Rattle.gate_world.specs.Unread.{ClientFills, ClientTells}
use Rattle.gate_world.proofs.Joins.{Asks-append, Asks-one}

-- one piece more
pub piece_asked : {now : List ℕ} {xs : List Event} (ys : List Event) (after : List ℕ) (came : Bool) → came ≡ true → Asks now xs → ClientTells now after (Ok came) ys
    → Asks after (xs ++ ys)
piece_asked ys after false is asks tells = absurd cc
piece_asked {now} {xs} ys after true is asks (gave, grew, one) =
    subst (λ (l : List ℕ). Asks l (xs ++ ys)) (sym grew) (subst (λ (l : List Event). Asks (now ++ gave) (xs ++ l)) (sym one) (Asks-append asks (Asks-one gave)))

-- no more than the most
pub piece_within : (now after held : List ℕ) (most room : ℕ) (came : Bool) → came ≡ true → held ≡ now → length now < most
    → ClientFills (min (most - length held) room) now after (Ok came) → length after ≤ most
piece_within now after held most room false is same short fills = absurd cc
piece_within now after held most room true is same short (gave, grew, some, few) =
    omega (arith, ap length grew, length-append now gave, few, short, ap length same)
