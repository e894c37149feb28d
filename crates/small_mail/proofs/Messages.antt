-- A message by its place and by its UID.
use Rattle.std.proofs.Common.{◌≡◌, ℕ, zero, suc, ◌+◌, ◌<◌, ◌≤◌, not, List, [], ◌∷◌, length, filter, set, get_or, Some, refl, sym, ap, ◌∙◌, subst, arith, eq-eqb, ne_eqb, ◌==◌}
use Rattle.std.specs.List.{remove, slice_get}
use Rattle.std.proofs.lemmas.Option.{get_or_from_slice_get, slice_get_within}
use Rattle.honest_store.specs.StoreMail.{StoreMessage, StoreFolder}
use Rattle.honest_store.specs.WellFormed.{AscendByUid}
use Rattle.honest_store.specs.MessageChanges.{with_flags_at, flagged_messages, folder_flagged}
use Rattle.small_mail.proofs.Only.{NonePasses, OnlyPasses, map_only, filter_only}

uid_above : (u : ℕ) (ms : List StoreMessage) (n : ℕ) (d : StoreMessage) → AscendByUid u ms → n < length ms → u < (get_or ms n d).uid
uid_above u [] n d h l = absurd (omega (arith, l))
uid_above u (m ∷ ms) zero d h l = h.0
uid_above u (m ∷ ms) (suc n) d h l = omega (arith, h.0, uid_above m.uid ms n d h.1 (omega (arith, l)))

none_above : (u v : ℕ) (ms : List StoreMessage) → u ≤ v → AscendByUid v ms → NonePasses (λ (m : StoreMessage). m.uid == u) ms
none_above u v [] l h = tt
none_above u v (m ∷ ms) l h = (ne_eqb m.uid u (λ e. omega (arith, e, l, h.0)), none_above u m.uid ms (omega (arith, l, h.0)) h.1)

only_uid : (u : ℕ) (ms : List StoreMessage) (n : ℕ) (d : StoreMessage) → AscendByUid u ms → n < length ms
    → OnlyPasses (λ (m : StoreMessage). m.uid == (get_or ms n d).uid) ms n
only_uid u [] n d h l = absurd (omega (arith, l))
only_uid u (m ∷ ms) zero d h l = (eq-eqb m.uid m.uid refl, none_above m.uid m.uid ms (omega arith) h.1)
only_uid u (m ∷ ms) (suc n) d h l =
    let within : n < length ms = omega (arith, l) in
    (ne_eqb m.uid (get_or ms n d).uid (λ e. omega (arith, e, uid_above m.uid ms n d h.1 within)), only_uid m.uid ms n d h.1 within)

module _ (ms : List StoreMessage) (n : ℕ) (m : StoreMessage) (ascend : AscendByUid 0 ms) (there : slice_get ms n ≡ Some m) where
  only : OnlyPasses (λ (x : StoreMessage). x.uid == m.uid) ms n
  only = subst (λ (y : StoreMessage). OnlyPasses (λ (x : StoreMessage). x.uid == y.uid) ms n) (get_or_from_slice_get ms n m m there)
      (only_uid 0 ms n m ascend (slice_get_within ms n m there))

  -- other flags at its place
  pub flagged_is : (flags : List (List ℕ)) (modseq : ℕ) → set ms n (with_flags_at m flags modseq) ≡ flagged_messages ms m.uid flags modseq
  flagged_is flags modseq =
      sym (map_only (λ (x : StoreMessage). x.uid == m.uid) (λ x. with_flags_at x flags modseq) ms n m only
      ∙ ap (λ y. set ms n (with_flags_at y flags modseq)) (get_or_from_slice_get ms n m m there))

  -- without what stands at its place
  pub removed_is : remove ms n ≡ filter (λ (x : StoreMessage). not (x.uid == m.uid)) ms
  removed_is = sym (filter_only (λ (x : StoreMessage). x.uid == m.uid) ms n only)

-- the folder once the message at this place has other flags
pub flagged_folder : (f : StoreFolder) (at : ℕ) (x z m : StoreMessage) (flags : List (List ℕ)) → AscendByUid 0 f.messages → x ≡ get_or f.messages at x
    → z ≡ with_flags_at x flags (f.highest + 1) → slice_get f.messages at ≡ Some m
    → record f { highest = f.highest + 1; messages = set f.messages at z } ≡ folder_flagged f m.uid flags (f.highest + 1)
flagged_folder f at x z m flags ascend x_is z_is there =
    let x_m : x ≡ m = x_is ∙ get_or_from_slice_get f.messages at m x there in
    let changed : set f.messages at z ≡ flagged_messages f.messages m.uid flags (f.highest + 1) =
    ap (λ (y : StoreMessage). set f.messages at y) (z_is ∙ ap (λ (y : StoreMessage). with_flags_at y flags (f.highest + 1)) x_m)
    ∙ flagged_is f.messages at m ascend there flags (f.highest + 1) in
    ap (λ (ms : List StoreMessage). record f { highest = f.highest + 1; messages = ms }) changed
