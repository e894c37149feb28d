-- What a STORE tells: the one message, at its place.
use Rattle.std.proofs.Common.{◌≡◌, ℕ, zero, suc, ◌+◌, ◌<◌, ◌≤◌, ◌==◌, Bool, cond, List, [], ◌∷◌, map, filter, length, get_or, Some, refl, sym, ap, ◌∙◌, subst, arith, eq-eqb, ne_eqb, if◌then◌else◌}
use Rattle.std.specs.Prelude.{option_map}
use Rattle.std.specs.List.{slice_get}
use Rattle.std.proofs.lemmas.Option.{get_or_from_slice_get, slice_get_within, slice_get-map}
use Rattle.imap_types.specs.declared.response.Response.TheVariants as response
use Rattle.imap_types.specs.Items.{no_items}
use Rattle.honest_store.specs.StoreMail.{StoreMessage}
use Rattle.honest_store.specs.WellFormed.{AscendByUid}
use Rattle.honest_store.specs.MessageChanges.{with_flags_at, flagged_messages}
use Rattle.small_answers.specs.ToldResponses.{change_response}
use Rattle.small_answers.specs.Answers.{told_change}
use Rattle.small_answers.proofs.FoldersKept.{ascend_flagged}
use Rattle.small_store.proofs.Fetching.{above, sequence_is}

abbrev has_uid : ℕ → StoreMessage → Bool
has_uid u m = m.uid == u

none_of : (u v : ℕ) (ms : List StoreMessage) → u ≤ v → AscendByUid v ms → filter (has_uid u) ms ≡ []
none_of u v [] l h = refl
none_of u v (m ∷ ms) l h =
    ap (λ (b : Bool). cond b (m ∷ filter (has_uid u) ms) (filter (has_uid u) ms)) (ne_eqb m.uid u (λ e. omega (arith, e, l, h.0))) ∙ none_of u m.uid ms (omega (arith, l, h.0)) h.1

one_at : (u : ℕ) (ms : List StoreMessage) (i : ℕ) (d : StoreMessage) → AscendByUid u ms → i < length ms → filter (has_uid (get_or ms i d).uid) ms ≡ get_or ms i d ∷ []
one_at u [] i d h l = absurd (omega (arith, l))
one_at u (m ∷ ms) zero d h l =
    ap (λ (b : Bool). cond b (m ∷ filter (has_uid m.uid) ms) (filter (has_uid m.uid) ms)) (eq-eqb m.uid m.uid refl)
    ∙ ap (λ (xs : List StoreMessage). m ∷ xs) (none_of m.uid m.uid ms (omega arith) h.1)
one_at u (m ∷ ms) (suc i) d h l =
    let within : i < length ms = omega (arith, l) in
    let x : StoreMessage = get_or ms i d in
    ap (λ (b : Bool). cond b (m ∷ filter (has_uid x.uid) ms) (filter (has_uid x.uid) ms)) (ne_eqb m.uid x.uid (λ e. omega (arith, e, above m.uid ms i d h.1 within)))
    ∙ one_at m.uid ms i d h.1 within

module _ (ms : List StoreMessage) (i : ℕ) (m : StoreMessage) (ascend : AscendByUid 0 ms) (there : slice_get ms i ≡ Some m) where
  is_there : get_or ms i m ≡ m
  is_there = get_or_from_slice_get ms i m m there

  pub change_told : told_change ms m.uid ≡ response.Fetch (i + 1) (record no_items { uid = Some m.uid; flags = Some m.flags; modseq = Some m.modseq }) ∷ []
  change_told =
      ap (λ (xs : List StoreMessage). map (change_response ms) xs)
      (subst (λ (x : StoreMessage). filter (has_uid x.uid) ms ≡ x ∷ []) is_there (one_at 0 ms i m ascend (slice_get_within ms i m there)))
      ∙ ap (λ (n : ℕ). response.Fetch n (record no_items { uid = Some m.uid; flags = Some m.flags; modseq = Some m.modseq }) ∷ [])
      (sequence_is ms i m ascend (slice_get_within ms i m there) (sym is_there))

-- ---- with other flags

abbrev flagged : ℕ → List (List ℕ) → ℕ → StoreMessage → StoreMessage
flagged u flags q m = if m.uid == u then with_flags_at m flags q else m

flagged_there : (u : ℕ) (flags : List (List ℕ)) (q : ℕ) (ms : List StoreMessage) (i : ℕ) (m : StoreMessage) → slice_get ms i ≡ Some m
    → slice_get (flagged_messages ms u flags q) i ≡ Some (flagged u flags q m)
flagged_there u flags q ms i m e = slice_get-map (flagged u flags q) ms i ∙ ap (option_map (flagged u flags q)) e

pub flags_told : (ms : List StoreMessage) (i : ℕ) (m : StoreMessage) (flags : List (List ℕ)) (q : ℕ) → AscendByUid 0 ms → slice_get ms i ≡ Some m
    → told_change (flagged_messages ms m.uid flags q) m.uid ≡ response.Fetch (i + 1) (record no_items { uid = Some m.uid; flags = Some flags; modseq = Some q }) ∷ []
flags_told ms i m flags q ascend there =
    let there_now : slice_get (flagged_messages ms m.uid flags q) i ≡ Some (with_flags_at m flags q) =
    flagged_there m.uid flags q ms i m there ∙ ap (λ (b : Bool). Some (if b then with_flags_at m flags q else m)) (eq-eqb m.uid m.uid refl) in
    change_told (flagged_messages ms m.uid flags q) i (with_flags_at m flags q) (ascend_flagged m.uid flags q 0 ms ascend) there_now
