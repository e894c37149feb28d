-- Octets that are read while they are awaited.
use Rattle.std.proofs.Common.{◌≡◌, ◌⊎◌, ◌++◌, ℕ, List, [], ◌∷◌, refl, sym, ◌∙◌, ap, subst, inl, inr}
use Rattle.std.specs.List.{flat_map}
use Rattle.std.proofs.lemmas.List.Concat.{flat_map-append}
use Rattle.gate_world.specs.declared.event.Event.{Event}
use Rattle.gate_world.specs.declared.event.Event.TheVariants.{StoreGave}
use Rattle.gate_world.specs.Octets.{store_gave_in, store_took_in, Talk}
use Rattle.imap_exchange.specs.Needed.{ReadsWhile}
use Rattle.imap_exchange.proofs.Pacing.{nil_left}

-- where a list of two parts is cut before one of its elements
abbrev pub CutAt : {A : Type 0} → List A → List A → List A → List A → A → Type 0
CutAt {A} es fs so_far later y = ((cs : List A) × (es ≡ so_far ++ y ∷ cs)) ⊎ ((cs : List A) × (so_far ≡ es ++ cs) × (fs ≡ cs ++ y ∷ later))

tail_same : {A : Type 0} (x y : A) (xs ys : List A) → x ∷ xs ≡ y ∷ ys → (x ≡ y) × (xs ≡ ys)
tail_same x y xs ys is = (cc, cc)

cut_at : {A : Type 0} (es fs so_far later : List A) (y : A) → es ++ fs ≡ so_far ++ y ∷ later → CutAt es fs so_far later y
cut_at [] fs so_far later y is = inr (so_far, refl, is)
cut_at (e ∷ es) fs [] later y is =
    let same = tail_same e y (es ++ fs) later is in
    inl (es, λ i. same.0 i ∷ es)
cut_at (e ∷ es) fs (s ∷ so_far) later y is =
    let same = tail_same e s (es ++ fs) (so_far ++ y ∷ later) is in
    let s_is : s ≡ e = sym same.0 in
    elim (cut_at es fs so_far later y same.1) as (λ c. CutAt (e ∷ es) fs (s ∷ so_far) later y) [
      | inl so ↦ inl (so.0, λ i. same.0 i ∷ so.1 i)
      | inr so ↦ inr (so.0, (λ i. s_is i ∷ so.1 i), so.2)
    ]

nil_not_more : {A : Type 0} (xs ys : List A) (y : A) → [] ≡ xs ++ y ∷ ys → ⊥
nil_not_more [] ys y is = cc
nil_not_more (x ∷ xs) ys y is = cc

-- no events
pub reads_none : (P : List ℕ → List ℕ → Type 0) → ReadsWhile P []
reads_none P = record { at_each = λ so_far later octet octets is. absurd (nil_not_more so_far later (StoreGave (octet ∷ octets)) is) }

-- octets came once
pub reads_one : (P : List ℕ → List ℕ → Type 0) (gave : List ℕ) → P [] [] → ReadsWhile P (StoreGave gave ∷ [])
reads_one P gave here = record { at_each = at_each }
  where
    at_each : (so_far later : List Event) (octet : ℕ) (octets : List ℕ) → StoreGave gave ∷ [] ≡ so_far ++ StoreGave (octet ∷ octets) ∷ later
        → P (flat_map store_gave_in so_far) (flat_map store_took_in so_far)
    at_each [] later octet octets is = here
    at_each (e ∷ so_far) later octet octets is = absurd (nil_not_more so_far later (StoreGave (octet ∷ octets))
        (tail_same (StoreGave gave) e [] (so_far ++ StoreGave (octet ∷ octets) ∷ later) is).1)

-- further events
pub reads_append : (P : List ℕ → List ℕ → Type 0) {gave took : List ℕ} {es : List Event} (fs : List Event) → Talk gave took es → ReadsWhile P es
    → ReadsWhile (λ g t. P (gave ++ g) (took ++ t)) fs → ReadsWhile P (es ++ fs)
reads_append P {gave} {took} {es} fs said first second = record { at_each = at_each }
  where
    at_each : (so_far later : List Event) (octet : ℕ) (octets : List ℕ) → es ++ fs ≡ so_far ++ StoreGave (octet ∷ octets) ∷ later
        → P (flat_map store_gave_in so_far) (flat_map store_took_in so_far)
    at_each so_far later octet octets is =
        elim (cut_at es fs so_far later (StoreGave (octet ∷ octets)) is) as (λ c. P (flat_map store_gave_in so_far) (flat_map store_took_in so_far)) [
          | inl so ↦ first.at_each so_far so.0 octet octets so.1
          | inr so ↦
              let gave_is : flat_map store_gave_in so_far ≡ gave ++ flat_map store_gave_in so.0 = ap (λ (l : List Event). flat_map store_gave_in l) so.1
              ∙ flat_map-append store_gave_in es so.0 ∙ ap (λ (l : List ℕ). l ++ flat_map store_gave_in so.0) said.gave_is in
              let took_is : flat_map store_took_in so_far ≡ took ++ flat_map store_took_in so.0 = ap (λ (l : List Event). flat_map store_took_in l) so.1
              ∙ flat_map-append store_took_in es so.0 ∙ ap (λ (l : List ℕ). l ++ flat_map store_took_in so.0) said.took_is in
              subst (λ (g : List ℕ). P g (flat_map store_took_in so_far)) (sym gave_is)
              (subst (λ (t : List ℕ). P (gave ++ flat_map store_gave_in so.0) t) (sym took_is) (second.at_each so.0 later octet octets so.2))
        ]

-- events by which octets were taken alone
pub reads_taking : (P : List ℕ → List ℕ → Type 0) {took : List ℕ} {events : List Event} → Talk [] took events → ReadsWhile P events
reads_taking P {took} {events} said = record { at_each = λ so_far later octet octets is. absurd (none_given so_far later octet octets is) }
  where
    none_given : (so_far later : List Event) (octet : ℕ) (octets : List ℕ) → events ≡ so_far ++ StoreGave (octet ∷ octets) ∷ later → ⊥
    none_given so_far later octet octets is =
        nil_not_more (flat_map store_gave_in so_far) (octets ++ flat_map store_gave_in later) octet
        (sym said.gave_is ∙ ap (λ (l : List Event). flat_map store_gave_in l) is ∙ flat_map-append store_gave_in so_far (StoreGave (octet ∷ octets) ∷ later))

-- octets that are awaited for one reason, in events by which nothing was taken, are for another
pub reads_widen : (P Q : List ℕ → List ℕ → Type 0) {gave : List ℕ} {events : List Event} → ((g : List ℕ) → P g [] → Q g []) → Talk gave [] events → ReadsWhile P events
    → ReadsWhile Q events
reads_widen P Q {gave} {events} wider said so = record { at_each = at_each }
  where
    none_taken : (so_far later : List Event) (e : Event) → events ≡ so_far ++ e ∷ later → flat_map store_took_in so_far ≡ []
    none_taken so_far later e is = nil_left (flat_map store_took_in so_far) (flat_map store_took_in (e ∷ later))
        (sym (flat_map-append store_took_in so_far (e ∷ later)) ∙ ap (λ (l : List Event). flat_map store_took_in l) (sym is) ∙ said.took_is)

    at_each : (so_far later : List Event) (octet : ℕ) (octets : List ℕ) → events ≡ so_far ++ StoreGave (octet ∷ octets) ∷ later
        → Q (flat_map store_gave_in so_far) (flat_map store_took_in so_far)
    at_each so_far later octet octets is =
        let none = none_taken so_far later (StoreGave (octet ∷ octets)) is in
        subst (λ (t : List ℕ). Q (flat_map store_gave_in so_far) t) (sym none)
        (wider (flat_map store_gave_in so_far) (subst (λ (t : List ℕ). P (flat_map store_gave_in so_far) t) none (so.at_each so_far later octet octets is)))
