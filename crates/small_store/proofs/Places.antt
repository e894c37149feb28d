-- Messages among all, in the order of folders.
use Rattle.std.proofs.Common.{◌≡◌, ℕ, zero, suc, ◌+◌, ◌-◌, ◌<◌, ◌≤◌, List, [], ◌∷◌, ◌++◌, map, length, drop, get_or, Option, Some, refl, sym, ap, ◌∙◌, arith}
use Rattle.std.specs.List.{slice_get}
use Rattle.std.proofs.lemmas.List.{at_drop_more}
use Rattle.std.proofs.lemmas.Option.{get_or_from_slice_get, slice_get_read}
use Rattle.honest_store.specs.StoreMail.{StoreMessage, StoreFolder}
use Rattle.small_answers.specs.OwnersCalls.{messages_in_order}
use Rattle.small_mail.proofs.Ways.{element}

abbrev pub with_folder : StoreFolder → List StoreMessage → List (StoreFolder × StoreMessage)
with_folder f ms = map (λ (m : StoreMessage). (f, m)) ms

pub at_front : (f : StoreFolder) (ms : List StoreMessage) (rest : List (StoreFolder × StoreMessage)) (n : ℕ) (d : StoreMessage) → n < length ms
    → slice_get (with_folder f ms ++ rest) n ≡ Some (f, get_or ms n d)
at_front f [] rest n d l = absurd (omega (arith, l))
at_front f (m ∷ ms) rest zero d l = refl
at_front f (m ∷ ms) rest (suc n) d l = at_front f ms rest n d (omega (arith, l))

pub behind : (f : StoreFolder) (ms : List StoreMessage) (rest : List (StoreFolder × StoreMessage)) (k n : ℕ) → k ≡ length ms + n
    → slice_get (with_folder f ms ++ rest) k ≡ slice_get rest n
behind f [] rest k n e = ap (slice_get rest) (omega (arith, e))
behind f (m ∷ ms) rest zero n e = absurd (omega (arith, e))
behind f (m ∷ ms) rest (suc k) n e = behind f ms rest k n (omega (arith, e))

-- one folder on
pub folder_more : (fs : List StoreFolder) (i : ℕ) (f : StoreFolder) → i < length fs → f ≡ get_or fs i f
    → messages_in_order (drop i fs) ≡ with_folder f f.messages ++ messages_in_order (drop (i + 1) fs)
folder_more fs i f l is =
    at_drop_more messages_in_order fs i f l ∙ ap (λ (g : StoreFolder). with_folder g g.messages ++ messages_in_order (drop (i + 1) fs)) (sym is)

-- the place is in this folder
pub placed_here : (fs : List StoreFolder) (i n : ℕ) (f : StoreFolder) (o : Option (StoreFolder × StoreMessage)) → i < length fs → f ≡ get_or fs i f → n < length f.messages
    → slice_get (messages_in_order (drop i fs)) n ≡ o
    → (g : StoreFolder) × (m : StoreMessage) × (slice_get fs i ≡ Some g) × (slice_get g.messages n ≡ Some m) × (o ≡ Some (g, m))
placed_here fs i n f o l is within so_far =
    let m = element f.messages n within in (
      f,
      m.0,
      slice_get_read fs (length fs) i f refl l is,
      m.1,
      sym so_far ∙ (ap (λ (ps : List (StoreFolder × StoreMessage)). slice_get ps n) (folder_more fs i f l is)
          ∙ (at_front f f.messages (messages_in_order (drop (i + 1) fs)) n m.0 within ∙ ap (λ (x : StoreMessage). Some (f, x)) (get_or_from_slice_get f.messages n m.0 m.0 m.1))),
    )

-- it is behind this folder
pub placed_behind : (fs : List StoreFolder) (i n : ℕ) (f : StoreFolder) (o : Option (StoreFolder × StoreMessage)) → i < length fs → f ≡ get_or fs i f → length f.messages ≤ n
    → slice_get (messages_in_order (drop i fs)) n ≡ o → slice_get (messages_in_order (drop (i + 1) fs)) (n - length f.messages) ≡ o
placed_behind fs i n f o l is beyond so_far =
    sym (ap (λ (ps : List (StoreFolder × StoreMessage)). slice_get ps n) (folder_more fs i f l is)
    ∙ behind f f.messages (messages_in_order (drop (i + 1) fs)) n (n - length f.messages) (omega (arith, beyond))) ∙ so_far
