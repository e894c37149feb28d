-- The first of texts of which something is so.
use Rattle.std.proofs.Common.{◌≡◌, ◌≢◌, ◌⊎◌, ◌∙◌, inl, inr, ℕ, Bool, true, false, cond, List, Option, Some, None, Ordering, Less, Equal, Greater, nat_cmp, refl, sym, ap}
use Rattle.std.specs.Cmp.Lexicographic.{slice_cmp}
use Rattle.std.specs.Ordering.{ordering_reverse, is_lt}
use Rattle.std.proofs.lemmas.Cmp.{nat_list_cmp_total, tied_itself}
use Rattle.std.proofs.lemmas.Map.Lookups.{exact_bytes}
use Rattle.email_import.specs.Asked.{AreNone, IsFirst}
use Rattle.email_import.specs.reading.Checked.{first_of}

abbrev cmp : List ℕ → List ℕ → Ordering
cmp = slice_cmp nat_cmp

pub turned : (a b : List ℕ) → slice_cmp nat_cmp b a ≡ Less → slice_cmp nat_cmp a b ≡ Greater
turned a b is = nat_list_cmp_total.antisymm a b ∙ ap ordering_reverse is

pub turned_back : (a b : List ℕ) → slice_cmp nat_cmp b a ≡ Greater → slice_cmp nat_cmp a b ≡ Less
turned_back a b is = nat_list_cmp_total.antisymm a b ∙ ap ordering_reverse is

pub not_equal : (a b : List ℕ) → a ≡ b → slice_cmp nat_cmp a b ≡ Greater → ⊥
not_equal a b same over = let e : Equal ≡ Greater = sym (tied_itself nat_list_cmp_total a) ∙ ap (slice_cmp nat_cmp a) same ∙ over in cc

-- none, or the first one
abbrev pub FirstIs : (List ℕ → Type 0) → Option (List ℕ) → Type 0
FirstIs Is None = AreNone Is
FirstIs Is (Some key) = IsFirst Is key

module _ (Is : List ℕ → Type 0) (key named : List ℕ) (f : IsFirst Is key) where
  -- the first one isn't before it, so no other is
  not_before : (other : List ℕ) → Is other → (o : Ordering) → slice_cmp nat_cmp key named ≡ o → is_lt o ≡ false → slice_cmp nat_cmp named other ≡ Greater → ⊥
  not_before other is Less at isnt over = let e : true ≡ false = isnt in cc
  not_before other is Equal at isnt over = f.first other is (ap (λ (k : List ℕ). slice_cmp nat_cmp k other) (exact_bytes key named at) ∙ over)
  not_before other is Greater at isnt over =
      f.first other is (turned key other (nat_list_cmp_total.trans other named key (turned_back other named over) (turned_back named key at)))

  below : (o : Ordering) → is_lt o ≡ true → o ≡ Less
  below Less is = refl
  below Equal is = let e : false ≡ true = is in absurd (cc)
  below Greater is = let e : false ≡ true = is in absurd (cc)

  -- the first one is before it, and so before what isn't before that
  before : (other : List ℕ) → slice_cmp nat_cmp key named ≡ Less → (o : Ordering) → slice_cmp nat_cmp named other ≡ o → o ≢ Greater → slice_cmp nat_cmp key other ≡ Greater → ⊥
  before other less Less at not over = let e : Less ≡ Greater = sym (nat_list_cmp_total.trans key named other less at) ∙ over in cc
  before other less Equal at not over = let e : Less ≡ Greater = sym less ∙ ap (slice_cmp nat_cmp key) (exact_bytes named other at) ∙ over in cc
  before other less Greater at not over = not refl

-- each that is so of `P` is so of `Is`, or isn't before one that is so of `P`: the first of that one and the first of `Is`
pub first_is : (Is P : List ℕ → Type 0) (named : List ℕ) → ((k : List ℕ) → Is k → P k) → P named
    → ((other : List ℕ) → P other → Is other ⊎ (slice_cmp nat_cmp named other ≢ Greater)) → (member : Option (List ℕ)) → FirstIs Is member → IsFirst P (first_of member named)
first_is Is P named so at others None none = record { is = at; first = λ other p over. by other over (others other p) }
  where
    by : (other : List ℕ) → slice_cmp nat_cmp named other ≡ Greater → Is other ⊎ (slice_cmp nat_cmp named other ≢ Greater) → ⊥
    by other over (inl is) = none other is
    by other over (inr not) = not over
first_is Is P named so at others (Some key) f = either (is_lt (slice_cmp nat_cmp key named)) refl
  where
    first_key : is_lt (slice_cmp nat_cmp key named) ≡ true → (other : List ℕ) → slice_cmp nat_cmp key other ≡ Greater → Is other ⊎ (slice_cmp nat_cmp named other ≢ Greater) → ⊥
    first_key so_is other over (inl is) = f.first other is over
    first_key so_is other over (inr not) =
        before Is key named f other (below Is key named f (slice_cmp nat_cmp key named) so_is) (slice_cmp nat_cmp named other) refl not over

    first_named : is_lt (slice_cmp nat_cmp key named) ≡ false → (other : List ℕ) → slice_cmp nat_cmp named other ≡ Greater → Is other ⊎ (slice_cmp nat_cmp named other ≢ Greater) → ⊥
    first_named isnt other over (inl is) = not_before Is key named f other is (slice_cmp nat_cmp key named) refl isnt over
    first_named isnt other over (inr not) = not over

    either : (b : Bool) → is_lt (slice_cmp nat_cmp key named) ≡ b → IsFirst P (cond b key named)
    either true so_is = record { is = so key f.is; first = λ other p over. first_key so_is other over (others other p) }
    either false isnt = record { is = at; first = λ other p over. first_named isnt other over (others other p) }

-- two that are the first are one
pub one_first : (Is : List ℕ → Type 0) (one other : List ℕ) → IsFirst Is one → IsFirst Is other → one ≡ other
one_first Is one other a b = by (slice_cmp nat_cmp one other) refl
  where
    by : (o : Ordering) → slice_cmp nat_cmp one other ≡ o → one ≡ other
    by Less is = absurd (b.first one a.is (turned other one is))
    by Equal is = exact_bytes one other is
    by Greater is = absurd (a.first other b.is is)
