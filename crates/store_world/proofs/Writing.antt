-- What a write leaves.
use Rattle.std.proofs.Common.{◌≡◌, ℕ, List, ◌++◌, Option, Some, None, IsNone, IsSome, IsOk, Result, Ok, Err, refl, ap, subst, ◌∙◌}
use Rattle.gate_world.specs.declared.outside.Failed.{Failed}
use Rattle.honest_store.specs.Sessions.{StoreSession}
use Rattle.scripted_world.specs.Script.{Scripted}
use Rattle.store_world.specs.Replies.{AnswersSome, Replies}
use Rattle.store_world.specs.StoreBehindLink.{Broken, IsButForLink, IsButForTape, Replied, StoreBehindLink, Unlinked, Writes, broken, replied}
use Rattle.store_world.proofs.StoreBehindLink.{but_for_tape}

pub none_there : {A : Type 0} (o : Option A) → (IsSome o → ⊥) → IsNone o
none_there None other = refl
none_there (Some x) other = absurd (other refl)

pub unlinked : (octets : List ℕ) (w : StoreBehindLink) (now : Scripted) (result : Result ℕ Failed) → IsNone w.steady.left.link → now.faults ≡ w.steady.faults
    → now.hidden ≡ w.steady.hidden → now.left ≡ w.steady.left → IsOk result → Writes octets w (record w { steady = now }) result
unlinked octets w now (Ok count) none faults hidden left never =
    Unlinked none (but_for_tape (record w { steady = now }) w faults hidden left refl refl refl refl refl refl)
unlinked octets w now (Err failed) none faults hidden left never = absurd (cc)

pub replied_to : (octets : List ℕ) (w taken : StoreBehindLink) (now : Scripted) (result : Result ℕ Failed) → IsSome w.steady.left.link
    → (told : List ℕ) × (rest : List ℕ) × (session : StoreSession) × Replies w.session (w.unread ++ octets) told session rest
    × (taken ≡ replied told session rest w)
    → now.faults ≡ taken.steady.faults → now.hidden ≡ taken.steady.hidden → now.left ≡ taken.steady.left → IsOk result
    → Writes octets w (record taken { steady = now }) result
replied_to octets w taken now (Ok count) linked (told, rest, session, replies, is) faults hidden left never =
    Replied linked replies
    (but_for_tape (record taken { steady = now }) (replied told session rest w) (faults ∙ ap (λ (x : StoreBehindLink). x.steady.faults) is)
    (hidden ∙ ap (λ (x : StoreBehindLink). x.steady.hidden) is) (left ∙ ap (λ (x : StoreBehindLink). x.steady.left) is) (ap (λ (x : StoreBehindLink). x.session) is)
    (ap (λ (x : StoreBehindLink). x.unread) is) (ap (λ (x : StoreBehindLink). x.ready) is) (ap (λ (x : StoreBehindLink). x.link_faults) is)
    (ap (λ (x : StoreBehindLink). x.keep_faults) is) (ap (λ (x : StoreBehindLink). x.sent) is))
replied_to octets w taken now (Err failed) linked came faults hidden left never = absurd (cc)

pub broken_off : (octets : List ℕ) (w taken after : StoreBehindLink) (failed : Failed) → IsSome w.steady.left.link
    → AnswersSome w.session (w.unread ++ octets) taken.session × IsButForLink taken w → IsButForTape after (broken taken.session taken)
    → Writes octets w after (Err failed)
broken_off octets w taken after failed linked (answers, link) ends =
    let steady : taken.steady ≡ w.steady = ap (λ (x : StoreBehindLink). x.steady) link in
    let faults : taken.link_faults ≡ w.link_faults = ap (λ (x : StoreBehindLink). x.link_faults) link in
    let keeping : taken.keep_faults ≡ w.keep_faults = ap (λ (x : StoreBehindLink). x.keep_faults) link in
    let first : IsButForTape after (broken taken.session (record w { link_faults = taken.link_faults; keep_faults = taken.keep_faults })) =
    subst (λ (x : Scripted). IsButForTape after (broken taken.session (record w { steady = x; link_faults = taken.link_faults; keep_faults = taken.keep_faults })))
    steady ends in
    let second : IsButForTape after (broken taken.session (record w { keep_faults = taken.keep_faults })) =
    subst (λ (n : ℕ). IsButForTape after (broken taken.session (record w { link_faults = n; keep_faults = taken.keep_faults }))) faults first in
    Broken linked answers (subst (λ (n : ℕ). IsButForTape after (broken taken.session (record w { keep_faults = n }))) keeping second)
