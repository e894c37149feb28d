-- Steps one after another, and how a session ends.
use Rattle.std.proofs.Common.{◌≡◌, inl, inr, ℕ, zero, suc, ◌+◌, ◌-◌, ◌<◌, ◌≤◌, List, [], ◌∷◌, ◌++◌, length, Option, Ok, Err, refl, sym, ap, subst, ◌∙◌, arith}
use Rattle.std.proofs.lemmas.List.{append-nil}
use Rattle.gate_world.specs.Tape.{Adds}
use Rattle.gate_world.specs.declared.event.Event.{Event}
use Rattle.gate_world.specs.declared.event.Event.TheVariants.{ClientGave}
use Rattle.gate_world.proofs.Joins.{join}
use Rattle.honest_store.specs.Sessions.{StoreSession}
use Rattle.store_sessions.specs.declared.next.Next.{Next}
use Rattle.store_sessions.specs.declared.next.Next.TheVariants as next
use Rattle.store_sessions.specs.declared.next.SessionError.{SessionError}
use Rattle.store_sessions.specs.declared.next.SessionError.TheVariants.{Failed, Memory}
use Rattle.store_sessions.specs.Sessions.{Steps, SoFar, Begun, Read, Came, Session, Broken, Waited, Full, InputEnded, ReceiveFailed, NoRoom, octet_limit}
use Rattle.store_sessions.specs.Sessions as spec
use Rattle.store_sessions.specs.reading.Fills.{Receives}
use Rattle.store_sessions.specs.reading.Going.{Stands}

-- three calls
record Two (Q R : List Event → Type 0) (events : List Event) : Type 0 where
  second : List Event
  third : List Event
  whole : events ≡ second ++ third
  q : Q second
  r : R third

pub join_three : {a b c d : Option (List Event)} {P Q R : List Event → Type 0} (S : List Event → Type 0) → Adds a b P → Adds b c Q → Adds c d R
    → ((x y z : List Event) → P x → Q y → R z → S (x ++ (y ++ z))) → Adds a d S
join_three {Q = Q} {R = R} S first second third all =
    join S first (join (Two Q R) second third (λ y z q r. record { second = y; third = z; whole = refl; q = q; r = r }))
    (λ x es p two. subst (λ (l : List Event). S (x ++ l)) (sym two.whole) (all x two.second two.third p two.q two.r))

pub begins : (s : StoreSession) (u : List ℕ) → u ≡ [] → SoFar s [] s u 0
begins s u is = subst (λ (v : List ℕ). SoFar s [] s v 0) (sym is) Begun

under : {s t : StoreSession} {u : List ℕ} {left : ℕ} {xs : List Event} (so : Stands s t u left xs) → (left ≡ 0 → ⊥) → so.came < octet_limit
under {left = zero} so some = absurd (some refl)
under {left = suc n} so some = omega (arith, so.count)

as_next : {t v : StoreSession} {u w : List ℕ} {ys : List Event} {n m : Next} → n ≡ m → Steps t u v w (Ok n) ys → Steps t u v w (Ok m) ys
as_next {t} {v} {u} {w} {ys} is step = subst (λ (k : Next). Steps t u v w (Ok k) ys) is step

pub read_on : {s t v : StoreSession} {u w : List ℕ} {left : ℕ} {xs ys : List Event} {n : Next} → Stands s t u left xs → n ≡ next.Read → Steps t u v w (Ok n) ys
    → Stands s v w left (xs ++ ys)
read_on so is step = record { came = so.came; so_far = Read so.so_far (as_next is step); count = so.count }

pub breaks : {s t v : StoreSession} {u w : List ℕ} {left : ℕ} {xs ys : List Event} {e : SessionError} → Stands s t u left xs → Steps t u v w (Err e) ys
    → Session s (xs ++ ys) v (Err e)
breaks so step = Broken so.so_far step

pub ends : {s t v : StoreSession} {u w : List ℕ} {left : ℕ} {xs ys : List Event} {n : Next} → Stands s t u left xs → n ≡ next.End → Steps t u v w (Ok n) ys
    → Session s (xs ++ ys) v (Ok tt)
ends so is step = spec.NoCommand so.so_far (as_next is step)

pub fills_up : {s t v : StoreSession} {u w : List ℕ} {left : ℕ} {xs ys : List Event} {n : Next} → Stands s t u left xs → n ≡ next.Wait → left ≡ 0
    → Steps t u v w (Ok n) ys → Session s (xs ++ ys) v (Ok tt)
fills_up {s} {t} {v} {u} {w} {left} {xs} {ys} so is none step =
    let all : so.came ≡ octet_limit = omega (arith, so.count, none) in
    subst (λ (l : List Event). Session s (xs ++ l) v (Ok tt)) (append-nil ys) (Waited so.so_far (as_next is step) (Full all))

pub input_ends : {s t v : StoreSession} {u w : List ℕ} {left : ℕ} {xs ys : List Event} {n : Next} (after : List ℕ) (count : ℕ) (zs : List Event) → Stands s t u left xs
    → n ≡ next.Wait → (left ≡ 0 → ⊥) → Steps t u v w (Ok n) ys → Receives w after (Ok count) zs → count ≡ 0 → Session s (xs ++ (ys ++ zs)) v (Ok tt)
input_ends after count zs so is some step (gave, whole, long, inl given) none = absurd (omega (arith, given.0, none))
input_ends {s} {t} {v} {u} {w} {left} {xs} {ys} after count zs so is some step (gave, whole, long, inr ended) none =
    subst (λ (l : List Event). Session s (xs ++ (ys ++ l)) v (Ok tt)) (sym ended.1) (Waited so.so_far (as_next is step) (InputEnded (under so some)))

pub nothing_comes : {s t v : StoreSession} {u w : List ℕ} {left : ℕ} {xs ys : List Event} {n : Next} (after : List ℕ) (e : SessionError) (zs : List Event) → Stands s t u left xs
    → n ≡ next.Wait → (left ≡ 0 → ⊥) → Steps t u v w (Ok n) ys → Receives w after (Err e) zs → Session s (xs ++ (ys ++ zs)) v (Err e)
nothing_comes {s} {t} {v} {u} {w} {left} {xs} {ys} after Failed zs so is some step given =
    subst (λ (l : List Event). Session s (xs ++ (ys ++ l)) v (Err Failed)) (sym given.1) (Waited so.so_far (as_next is step) (ReceiveFailed (under so some)))
nothing_comes {s} {t} {v} {u} {w} {left} {xs} {ys} after Memory zs so is some step given =
    subst (λ (l : List Event). Session s (xs ++ (ys ++ l)) v (Err Memory)) (sym given.1) (Waited so.so_far (as_next is step) (NoRoom (under so some)))

pub comes : {s t v : StoreSession} {u w : List ℕ} {left : ℕ} {xs ys : List Event} {n : Next} (after : List ℕ) (count : ℕ) (zs : List Event) → Stands s t u left xs
    → n ≡ next.Wait → Steps t u v w (Ok n) ys → Receives w after (Ok count) zs → (count ≡ 0 → ⊥) → count ≤ left
    → Stands s v after (left - count) (xs ++ (ys ++ zs))
comes after count zs so is step (gave, whole, long, inr ended) some most = absurd (some ended.0)
comes {s} {t} {v} {u} {w} {left} {xs} {ys} after count zs so is step (gave, whole, long, inl given) some most = record {
  came = so.came + length gave;
  so_far = subst (λ (l : List Event). SoFar s (xs ++ (ys ++ l)) v after (so.came + length gave)) (sym given.1)
      (subst (λ (l : List ℕ). SoFar s (xs ++ (ys ++ ClientGave gave ∷ [])) v l (so.came + length gave)) (sym whole) (Came gave (omega (arith, given.0, long)) (omega (arith, so.count, long, most)) so.so_far (as_next is step)));
  count = omega (arith, so.count, long, most);
}
