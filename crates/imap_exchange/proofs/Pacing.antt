-- What was taken at each moment of some events.
use Rattle.std.proofs.Common.{◌≡◌, ◌⊎◌, ◌≤◌, ◌++◌, ◌+◌, ℕ, zero, suc, List, [], ◌∷◌, length, take, min, refl, sym, ◌∙◌, ap, subst, append_assoc, add-one, arith, inl, inr}
use Rattle.std.specs.List.{flat_map}
use Rattle.std.proofs.lemmas.List.{append-nil, take_all}
use Rattle.std.proofs.lemmas.List.Concat.{flat_map-append}
use Rattle.std.proofs.lemmas.List.Elements.{All-nil}
use Rattle.gate_world.specs.declared.event.Event.{Event}
use Rattle.gate_world.specs.Octets.{store_gave_in, store_took_in, Talk}
use Rattle.imap_types.specs.declared.response.Response.{Response}
use Rattle.imap_types.specs.Commands.{joined_pieces}
use Rattle.imap_exchange.specs.Exchanges.{IsOpen, Passes, pieces_due, IsDuePart, IsPaced}
use Rattle.imap_exchange.specs.reading.Sending.{piece_at}
use Rattle.imap_exchange.proofs.Verdicts.{Passes-more}

-- where a list of two parts is cut
abbrev pub Cut : {A : Type 0} → List A → List A → List A → List A → Type 0
Cut {A} xs ys ps qs = ((cs : List A) × (ps ≡ xs ++ cs)) ⊎ ((cs : List A) × (xs ≡ ps ++ cs) × (qs ≡ cs ++ ys))

tail_same : {A : Type 0} (x y : A) (xs ys : List A) → x ∷ xs ≡ y ∷ ys → (x ≡ y) × (xs ≡ ys)
tail_same x y xs ys is = (cc, cc)

-- where a list is cut in two at two places, the part before the later place begins with the part before the earlier one
pub cut_of : {A : Type 0} (xs ys ps qs : List A) → ps ++ qs ≡ xs ++ ys → Cut xs ys ps qs
cut_of [] ys ps qs is = inl (ps, refl)
cut_of (x ∷ xs) ys [] qs is = inr (x ∷ xs, refl, is)
cut_of (x ∷ xs) ys (p ∷ ps) qs is =
    let same = tail_same p x (ps ++ qs) (xs ++ ys) is in
    let x_is : x ≡ p = sym same.0 in
    elim (cut_of xs ys ps qs same.1) as (λ c. Cut (x ∷ xs) ys (p ∷ ps) qs) [
      | inl so ↦ inl (so.0, λ i. same.0 i ∷ so.1 i)
      | inr so ↦ inr (so.0, (λ i. x_is i ∷ so.1 i), so.2)
    ]

-- parts of no octets
pub nil_left : (x y : List ℕ) → x ++ y ≡ [] → x ≡ []
nil_left [] y is = refl
nil_left (c ∷ x) y is = absurd (cc is)

-- ---- parts of a command

-- where no more was taken than some octets let go, no more was taken than those and further ones let go
pub IsPart-more : {pieces : List (List ℕ)} {octets took : List ℕ} (g : List ℕ) → IsDuePart pieces octets took → IsDuePart pieces (octets ++ g) took
IsPart-more g so = record { responses = so.responses; remaining = so.remaining ++ g; passed = Passes-more g so.passed; left = so.left; within = so.within }

-- at the end of the events
pub paced_whole : {pieces : List (List ℕ)} {held gave took : List ℕ} {talk : List Event} → Talk gave took talk → IsPaced pieces held talk → IsDuePart pieces (held ++ gave) took
paced_whole {pieces} {held} {gave} {took} {talk} said paced =
    subst (λ (g : List ℕ). IsDuePart pieces (held ++ g) took) said.gave_is
    (subst (λ (t : List ℕ). IsDuePart pieces (held ++ flat_map store_gave_in talk) t) said.took_is (paced.at_each talk [] (sym (append-nil talk))))

-- further events
pub paced_more : {pieces : List (List ℕ)} {held gave took : List ℕ} {talk : List Event} (ys : List Event) → Talk gave took talk → IsPaced pieces held talk
    → ((zs ws : List Event) → ys ≡ zs ++ ws → IsDuePart pieces (held ++ (gave ++ flat_map store_gave_in zs)) (took ++ flat_map store_took_in zs)) → IsPaced pieces held (talk ++ ys)
paced_more {pieces} {held} {gave} {took} {talk} ys said paced then_so = record { at_each = at_each }
  where
    at_each : (so_far later : List Event) → talk ++ ys ≡ so_far ++ later → IsDuePart pieces (held ++ flat_map store_gave_in so_far) (flat_map store_took_in so_far)
    at_each so_far later is =
        elim (cut_of so_far later talk ys is) as (λ c. IsDuePart pieces (held ++ flat_map store_gave_in so_far) (flat_map store_took_in so_far)) [
          | inl so ↦ paced.at_each so_far so.0 so.1
          | inr so ↦
              let gave_is : flat_map store_gave_in so_far ≡ gave ++ flat_map store_gave_in so.0 = ap (λ (l : List Event). flat_map store_gave_in l) so.1
              ∙ flat_map-append store_gave_in talk so.0 ∙ ap (λ (l : List ℕ). l ++ flat_map store_gave_in so.0) said.gave_is in
              let took_is : flat_map store_took_in so_far ≡ took ++ flat_map store_took_in so.0 = ap (λ (l : List Event). flat_map store_took_in l) so.1
              ∙ flat_map-append store_took_in talk so.0 ∙ ap (λ (l : List ℕ). l ++ flat_map store_took_in so.0) said.took_is in
              subst (λ (g : List ℕ). IsDuePart pieces (held ++ g) (flat_map store_took_in so_far)) (sym gave_is)
              (subst (λ (t : List ℕ). IsDuePart pieces (held ++ (gave ++ flat_map store_gave_in so.0)) t) (sym took_is) (then_so so.0 later so.2))
        ]

-- octets come
pub paced_reading : {pieces : List (List ℕ)} {held gave took : List ℕ} {talk : List Event} (g : List ℕ) (ys : List Event) → Talk gave took talk → IsPaced pieces held talk
    → Talk g [] ys → IsPaced pieces held (talk ++ ys)
paced_reading {pieces} {held} {gave} {took} {talk} g ys said paced reads =
    paced_more ys said paced (λ zs ws is.
    let took_none : flat_map store_took_in zs ≡ [] = nil_left (flat_map store_took_in zs) (flat_map store_took_in ws)
    (sym (flat_map-append store_took_in zs ws) ∙ ap (λ (l : List Event). flat_map store_took_in l) (sym is) ∙ reads.took_is) in
    let part = IsPart-more (flat_map store_gave_in zs) (paced_whole said paced) in
    subst (λ (o : List ℕ). IsDuePart pieces o (took ++ flat_map store_took_in zs)) (append_assoc held gave (flat_map store_gave_in zs))
    (subst (λ (t : List ℕ). IsDuePart pieces ((held ++ gave) ++ flat_map store_gave_in zs) t) (sym (append-nil took) ∙ ap (λ (l : List ℕ). took ++ l) (sym took_none)) part))

-- octets are taken that are due by these responses
pub paced_writing : {pieces : List (List ℕ)} {held gave took remaining : List ℕ} {talk : List Event} {responses : List Response} (t left : List ℕ) (ys : List Event)
    → Talk gave took talk → IsPaced pieces held talk → Talk [] t ys → Passes responses remaining (held ++ gave) → took ++ (t ++ left) ≡ joined_pieces (pieces_due pieces responses)
    → IsPaced pieces held (talk ++ ys)
paced_writing {pieces} {held} {gave} {took} {remaining} {talk} {responses} t left ys said paced writes passed within =
    paced_more ys said paced (λ zs ws is.
    let gave_none : flat_map store_gave_in zs ≡ [] = nil_left (flat_map store_gave_in zs) (flat_map store_gave_in ws)
    (sym (flat_map-append store_gave_in zs ws) ∙ ap (λ (l : List Event). flat_map store_gave_in l) (sym is) ∙ writes.gave_is) in
    let parts : flat_map store_took_in zs ++ flat_map store_took_in ws ≡ t = sym (flat_map-append store_took_in zs ws) ∙ ap (λ (l : List Event). flat_map store_took_in l) (sym is)
    ∙ writes.took_is in
    let octets_are : held ++ gave ≡ held ++ (gave ++ flat_map store_gave_in zs) = ap (λ (l : List ℕ). held ++ l)
    (sym (append-nil gave) ∙ ap (λ (l : List ℕ). gave ++ l) (sym gave_none)) in
    record {
      responses = responses;
      remaining = remaining;
      passed = subst (λ (o : List ℕ). Passes responses remaining o) octets_are passed;
      left = flat_map store_took_in ws ++ left;
      within = append_assoc took (flat_map store_took_in zs) (flat_map store_took_in ws ++ left) ∙ ap (λ (l : List ℕ). took ++ l)
          (sym (append_assoc (flat_map store_took_in zs) (flat_map store_took_in ws) left) ∙ ap (λ (l : List ℕ). l ++ left) parts) ∙ within;
    })

-- no events yet
pub paced_none : (pieces : List (List ℕ)) (held : List ℕ) → IsPaced pieces held []
paced_none pieces held = record { at_each = at_each }
  where
    at_each : (so_far later : List Event) → [] ≡ so_far ++ later → IsDuePart pieces (held ++ flat_map store_gave_in so_far) (flat_map store_took_in so_far)
    at_each [] later is =
        record { responses = []; remaining = held ++ []; passed = record { all_open = All-nil IsOpen; spelled = refl }; left = joined_pieces (pieces_due pieces []); within = refl }
    at_each (e ∷ so_far) later is = absurd (cc is)

-- ---- the pieces up to a place

-- the first pieces and the next one
joined_suc : (pieces : List (List ℕ)) (at : ℕ) → joined_pieces (take (suc at) pieces) ≡ joined_pieces (take at pieces) ++ piece_at pieces at
joined_suc [] zero = refl
joined_suc [] (suc at) = refl
joined_suc (p ∷ ps) zero = append-nil p
joined_suc (p ∷ ps) (suc at) = ap (λ (l : List ℕ). p ++ l) (joined_suc ps at) ∙ sym (append_assoc p (joined_pieces (take at ps)) (piece_at ps at))

-- the octets of the pieces up to a place and the one there are those of the pieces before it, and then its own
pub joined_more : (pieces : List (List ℕ)) (at : ℕ) → joined_pieces (take (at + 1) pieces) ≡ joined_pieces (take at pieces) ++ piece_at pieces at
joined_more pieces at = ap (λ (k : ℕ). joined_pieces (take k pieces)) (add-one at) ∙ joined_suc pieces at

-- no more pieces than there are
pub take_min : (pieces : List (List ℕ)) (n at : ℕ) → at ≡ min n (length pieces) → take n pieces ≡ take at pieces
take_min pieces n at is =
    elim (min_or n (length pieces)) as (λ c. take n pieces ≡ take at pieces) [
      | inl so ↦ ap (λ (k : ℕ). take k pieces) (sym (is ∙ so))
      | inr so ↦ take_all n pieces so.1 ∙ sym (take_all at pieces (omega (arith, is, so.0)))
    ]
  where
    min_or : (n m : ℕ) → (min n m ≡ n) ⊎ ((min n m ≡ m) × (m ≤ n))
    min_or n m = grind arith
