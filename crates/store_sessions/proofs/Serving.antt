-- Clients one after another.
use Rattle.std.proofs.Common.{◌≡◌, ◌≢◌, ℕ, ◌+◌, ◌<◌, ◌≤◌, List, [], ◌∷◌, ◌++◌, Result, Ok, Err, refl, sym, ap, subst, ◌∙◌, arith}
use Rattle.gate_world.specs.Causes.{Rose, RoseBy}
use Rattle.gate_world.specs.declared.event.Event.{Event}
use Rattle.gate_world.specs.declared.event.Event.TheVariants.{Accepted, NoMore, FrontFailed}
use Rattle.honest_store.specs.Sessions.{StoreSession}
use Rattle.store_sessions.specs.declared.next.SessionError.{SessionError}
use Rattle.store_sessions.specs.declared.next.SessionError.TheVariants.{Failed, Memory}
use Rattle.store_sessions.specs.Sessions.{ServesClient}
use Rattle.store_sessions.specs.reading.Going.{HaveBeen}
use Rattle.store_sessions.specs.Clients.{ServedSession, OneMore, ServesAll, AllServed, NoneLeft, NotAccepted, OutOfMemory, failures_of}

pub rose_none : (n : ℕ) → RoseBy 0 n n
rose_none n = omega arith

pub rose_later : (times was mid now : ℕ) → RoseBy times was mid → mid ≤ now → RoseBy times was now
rose_later times was mid now rose later = omega (arith, rose, later)

pub rose_more : (times was mid now : ℕ) → RoseBy times was mid → Rose mid now → RoseBy (times + 1) was now
rose_more times was mid now rose once = omega (arith, rose, once)

-- the front failed with this client, or didn't
pub rose_with : (how : Result (Unit {0}) SessionError) (times was mid now : ℕ) → RoseBy times was mid → mid ≤ now → (how ≡ Err Failed → Rose mid now)
    → RoseBy (times + failures_of how) was now
rose_with (Ok u) times was mid now rose later failed = omega (arith, rose, later)
rose_with (Err Memory) times was mid now rose later failed = omega (arith, rose, later)
rose_with (Err Failed) times was mid now rose later failed = rose_more times was mid now rose (failed refl)

pub served_all : {s t : StoreSession} {count was mid : ℕ} {xs : List Event} (most : ℕ) → HaveBeen s t count was mid xs → count ≡ most → ServesAll s t most was mid 0 xs
served_all {s} {t} {count} {was} {mid} {xs} most so is =
    record { failed = so.failed; serves = AllServed (subst (λ (n : ℕ). ServedSession s n so.failed xs t) is so.served); rose = so.rose }

pub none_left : {s t : StoreSession} {count was mid : ℕ} {xs : List Event} (most now : ℕ) → HaveBeen s t count was mid xs → count < most → mid ≤ now
    → ServesAll s t most was now 0 (xs ++ NoMore ∷ [])
none_left {was = was} {mid = mid} most now so more later =
    record { failed = so.failed; serves = NoneLeft more so.served; rose = rose_later so.failed was mid now so.rose later }

pub not_accepted : {s t : StoreSession} {count was mid : ℕ} {xs : List Event} (most now : ℕ) → HaveBeen s t count was mid xs → count < most → Rose mid now
    → ServesAll s t most was now 6 (xs ++ FrontFailed ∷ [])
not_accepted {was = was} {mid = mid} most now so more once =
    record { failed = so.failed + 1; serves = NotAccepted more so.served; rose = rose_more so.failed was mid now so.rose once }

pub out_of_memory : {s t u : StoreSession} {count was mid : ℕ} {xs : List Event} (most now : ℕ) (ys zs : List Event) → HaveBeen s t count was mid xs → count < most
    → ys ≡ Accepted ∷ [] → ServesClient t zs u (Err Memory) → mid ≤ now → ServesAll s u most was now 5 (xs ++ (ys ++ zs))
out_of_memory {s} {t} {u} {count} {was} {mid} {xs} most now ys zs so more is serves later =
    subst (λ (l : List Event). ServesAll s u most was now 5 (xs ++ (l ++ zs))) (sym is)
    (record { failed = so.failed; serves = OutOfMemory more so.served serves; rose = rose_later so.failed was mid now so.rose later })

pub one_more : {s t u : StoreSession} {count was mid : ℕ} {xs : List Event} (at now : ℕ) (how : Result (Unit {0}) SessionError) (ys zs : List Event) → HaveBeen s t count was mid xs
    → ys ≡ Accepted ∷ [] → ServesClient t zs u how → how ≢ Err Memory → mid ≤ at → at ≤ now → (how ≡ Err Failed → Rose at now)
    → HaveBeen s u (count + 1) was now (xs ++ (ys ++ zs))
one_more {s} {t} {u} {count} {was} {mid} {xs} at now how ys zs so is serves well first later failed = record {
  failed = so.failed + failures_of how;
  served = subst (λ (l : List Event). ServedSession s (count + 1) (so.failed + failures_of how) (xs ++ (l ++ zs)) u) (sym is) (OneMore so.served serves well);
  rose = rose_with how so.failed was at now (rose_later so.failed was mid at so.rose first) later failed;
}

pub ok_is_no_error : {r : Result (Unit {0}) SessionError} {u : Unit {0}} → r ≡ Ok u → r ≢ Err Memory
ok_is_no_error {u = u} is other = let both : Ok u ≡ Err Memory = sym is ∙ other in absurd (cc)

pub failed_is_not_memory : {r : Result (Unit {0}) SessionError} {e : SessionError} → r ≡ Err e → e ≡ Failed → r ≢ Err Memory
failed_is_not_memory {e = e} is failed other =
    let both : Err Failed ≡ Err Memory = sym (is ∙ ap (λ (f : SessionError). Err f) failed) ∙ other in absurd (cc)
