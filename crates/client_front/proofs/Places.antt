-- An idle client at an index, and how it leaves.
use Rattle.std.proofs.Common.{◌≡◌, ◌≢◌, ◌<◌, ◌++◌, ℕ, All, Bool, List, [], ◌∷◌, true, false, length, take, drop, zero, suc, sym, ap, subst, refl, ◌∙◌, add-one, arith, inr, slice_index_or, slice_set}
use Rattle.std.specs.List.{remove}
use Rattle.std.specs.Prelude.{Option}
use Rattle.std.proofs.Math.Seq.{drop-cons}
use Rattle.std.proofs.lemmas.Bool.{false≢true}
use Rattle.std.proofs.lemmas.List.{length-take-le, take-append-drop, take-set, get_or-take}
use Rattle.std.proofs.lemmas.Grind.{drop-set_at}
use Rattle.client_front.specs.Scanning.{IsComing}
use Rattle.client_front.specs.Waiting.{Becomes, ClosedUnless, FirstWith, Held, IsAsked, LateBecomes, LooksAtLate, OldestLeaves, Place, asks, asks_if, is_late}
use Rattle.client_front.specs.declared.scan.Coming.{Coming}
use Rattle.client_front.specs.declared.waiting.Idle.{Idle}

-- some octets were seen where it isn't so that none were
pub some-seen : (seen : ℕ) → (seen ≡ 0 → false ≡ true) → 0 < seen
some-seen zero none = absurd (false≢true (none refl))
some-seen (suc seen) none = omega arith

module _ {S : Type 0} where
  -- those who wait are two lists
  pub held-is : (new : Held S) (idle : List (Idle S)) (asking : List S) → new.idle ≡ idle → new.asking ≡ asking
      → new ≡ record { idle = idle; asking = asking }
  held-is new idle asking same_idle same_asking =
      let first : new ≡ record { idle = idle; asking = new.asking } = ap (λ (i : List (Idle S)). record { idle = i; asking = new.asking }) same_idle in
      first ∙ ap (λ (a : List S). record { idle = idle; asking = a }) same_asking

  -- none before the index has the key
  pub none-earlier : (key : ℕ) (idle : List (Idle S)) (at : ℕ) → at < length idle
      → ((k : ℕ) (e : Idle S) → k < at → (slice_index_or idle k e).key ≢ key) → All (λ other. other.key ≢ key) (take at idle)
  none-earlier key idle at within earlier =
      let taken : length (take at idle) ≡ at = length-take-le at idle (omega arith) in
      λ k e below. let under : k < at = omega (arith, taken) in rw (get_or-take at idle k e under) (earlier k e under)

  -- none before the index is late
  pub none-late : (now : ℕ) (idle : List (Idle S)) (at : ℕ) → at < length idle
      → ((k : ℕ) (e : Idle S) → k < at → is_late now (slice_index_or idle k e) ≡ false) → All (λ other. is_late now other ≡ false) (take at idle)
  none-late now idle at within earlier =
      let taken : length (take at idle) ≡ at = length-take-le at idle (omega arith) in
      λ k e below. let under : k < at = omega (arith, taken) in rw (get_or-take at idle k e under) (earlier k e under)

  -- the client at an index, those before it and those after it
  abbrev pub place-at : (idle : List (Idle S)) (at : ℕ) (d : Idle S) → at < length idle → Place idle
  place-at idle at d within = record {
    before = take at idle;
    client = slice_index_or idle at d;
    after = drop (suc at) idle;
    whole = sym (take-append-drop at idle) ∙ ap (λ (l : List (Idle S)). take at idle ++ l) (drop-cons idle at d within);
  }

  -- the first client with the key stands at an index
  abbrev pub first-with : (key : ℕ) (idle : List (Idle S)) (at : ℕ) (d : Idle S) → at < length idle → (slice_index_or idle at d).key ≡ key
      → ((k : ℕ) (e : Idle S) → k < at → (slice_index_or idle k e).key ≢ key) → FirstWith key idle
  first-with key idle at d within has_key earlier = record {
    place = place-at idle at d within;
    earlier = none-earlier key idle at within earlier;
    has_key = has_key;
  }

  -- the client at an index, changed
  pub changed-at : (idle : List (Idle S)) (at : ℕ) (now : Idle S) → at < length idle → slice_set idle at now ≡ take at idle ++ now ∷ drop (suc at) idle
  changed-at idle at now within =
      sym (take-append-drop at (slice_set idle at now))
      ∙ ap (λ (l : List (Idle S)). l ++ drop at (slice_set idle at now)) (take-set idle at now)
      ∙ ap (λ (l : List (Idle S)). take at idle ++ l) (drop-set_at idle at at now refl within)
      ∙ ap (λ (n : ℕ). take at idle ++ now ∷ drop n idle) (add-one at)

  module _ (shows : S → ℕ → Option (List ℕ) → Type 0) (closes : S → Type 0) where
    -- the client at an index, the first that is late, was looked at
    pub was-late : (now : ℕ) (idle : List (Idle S)) (asking : List S) (new : Held S) (at : ℕ) (it : Coming) → at < length idle
        → ((d : Idle S) → is_late now (slice_index_or idle at d) ≡ true)
        → ((k : ℕ) (e : Idle S) → k < at → is_late now (slice_index_or idle k e) ≡ false)
        → ((d : Idle S) → IsComing shows (slice_index_or idle at d).scan (slice_index_or idle at d).stream it)
        → ((d : Idle S) (within : at < length idle) → LateBecomes closes now (record { idle = idle; asking = asking }) (place-at idle at d within) it new)
        → LooksAtLate shows closes now (record { idle = idle; asking = asking }) new
    was-late now [] asking new at it within late earlier shown becomes = absurd (omega (arith, within))
    was-late now (first ∷ rest) asking new at it within late earlier shown becomes = record {
      place = place-at (first ∷ rest) at first within;
      late = late first;
      earlier = none-late now (first ∷ rest) at within earlier;
      it = it;
      shown = shown first;
      becomes = becomes first within;
    }

    -- the client that came first leaves
    pub oldest-leaves : (idle : List (Idle S)) (asking : List S) (new : Held S) (it : Coming) (so asked : Bool) → 0 < length idle
        → ((d : Idle S) → IsComing shows (slice_index_or idle 0 d).scan (slice_index_or idle 0 d).stream it) → so ≡ asks it → so ≡ asked
        → new.idle ≡ remove idle 0 → ((d : Idle S) → new.asking ≡ asking ++ asks_if so (slice_index_or idle 0 d).stream)
        → ((d : Idle S) → ClosedUnless closes so (slice_index_or idle 0 d).stream)
        → OldestLeaves shows closes asked (record { idle = idle; asking = asking }) new
    oldest-leaves [] asking new it so asked within shown is was left joined closed = absurd (omega (arith, within))
    oldest-leaves (first ∷ rest) asking new it so asked within shown is was left joined closed = record {
      place = record { before = []; client = first; after = rest; whole = refl };
      oldest = refl;
      it = it;
      shown = shown first;
      so = sym is ∙ was;
      leaves = (
        held-is new _ _ left (joined first ∙ ap (λ (b : Bool). asking ++ asks_if b first.stream) was),
        subst (λ (b : Bool). ClosedUnless closes b first.stream) was (closed first),
      );
    }

    -- the client with the key was looked at
    pub was-asked : (now key : ℕ) (idle : List (Idle S)) (asking : List S) (new : Held S) (at : ℕ) (it : Coming) → at < length idle
        → ((d : Idle S) → (slice_index_or idle at d).key ≡ key) → ((k : ℕ) (e : Idle S) → k < at → (slice_index_or idle k e).key ≢ key)
        → ((d : Idle S) → IsComing shows (slice_index_or idle at d).scan (slice_index_or idle at d).stream it)
        → ((d : Idle S) (within : at < length idle) → Becomes closes now (record { idle = idle; asking = asking }) (place-at idle at d within) it new)
        → IsAsked shows closes now key (record { idle = idle; asking = asking }) new
    was-asked now key [] asking new at it within has_key earlier shown becomes = absurd (omega (arith, within))
    was-asked now key (first ∷ rest) asking new at it within has_key earlier shown becomes = inr (record {
      found = first-with key (first ∷ rest) at first within (has_key first) earlier;
      it = it;
      shown = shown first;
      becomes = becomes first within;
    })
