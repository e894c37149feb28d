-- The text of a set of UIDs spells the set.
use Rattle.std.proofs.Common.{◌≡◌, ℕ, ◌≤◌, Bool, true, List, [], ◌∷◌, ◌++◌, inr, refl, sym, subst, arith, decimal, All}
use Rattle.std.specs.Prelude.{nat_le}
use Rattle.std.proofs.lemmas.Bool.{cond-true, le-leb}
use Rattle.std.proofs.lemmas.List.{append-nil}
use Rattle.std.proofs.lemmas.List.Elements.{All-head, All-tail}
use Rattle.imap_types.proofs.EachLemmas.{each_append}
use Rattle.imap_types.specs.declared.uid_set.UidRange.{UidRange}
use Rattle.imap_types.specs.Octets.{is_digit}
use Rattle.imap_types.specs.Texts.{Each}
use Rattle.imap_types.specs.UidSets.{range_of, IsRange, IsSet}
use Rattle.store_responses.specs.ResponseTexts.{range_text, more_ranges_text, ranges_text}
use Rattle.store_responses.specs.Sendable.{IsSendableRange, IsSendableSet}
use Rattle.store_responses.proofs.Numerals.{decimal_class, nonzero_text}

in_order : (r : UidRange) → r.first ≤ r.last → r ≡ range_of r.first r.last
in_order r le =
    sym (cond-true (nat_le r.first r.last) (record { first = r.first; last = r.last }) (record { first = r.last; last = r.first }) (le-leb r.first r.last le))

range_spelled : (r : UidRange) → IsSendableRange r → IsRange r (range_text r)
range_spelled r h = inr (
  r.first,
  r.last,
  decimal r.first,
  decimal r.last,
  refl,
  nonzero_text r.first (h.first, omega (arith, h.in_order, h.last)),
  nonzero_text r.last (omega (arith, h.first, h.in_order), h.last),
  in_order r h.in_order,
)

set_spelled : (r : UidRange) (rs : List UidRange) → IsSendableRange r → All IsSendableRange rs → IsSet (r ∷ rs) (range_text r ++ more_ranges_text rs)
set_spelled r [] h all = subst (IsRange r) (sym (append-nil (range_text r))) (range_spelled r h)
set_spelled r (q ∷ rs) h all =
    (range_text r, range_text q ++ more_ranges_text rs, refl, range_spelled r h, set_spelled q rs (All-head IsSendableRange q rs all) (All-tail IsSendableRange q rs all))

pub set_text : (rs : List UidRange) → IsSendableSet rs → IsSet rs (ranges_text rs)
set_text [] h = absurd (h.some refl)
set_text (r ∷ rs) h = set_spelled r rs (All-head IsSendableRange r rs h.ranges) (All-tail IsSendableRange r rs h.ranges)

-- ---- its octets are digits, commas and colons

record SetClass (p : ℕ → Bool) : Type 0 where
  digits : (c : ℕ) → is_digit c ≡ true → p c ≡ true
  comma : p 44 ≡ true
  colon : p 58 ≡ true

range_class : (p : ℕ → Bool) (r : UidRange) → SetClass p → IsSendableRange r → Each p (range_text r)
range_class p r k h = each_append p (decimal r.first) (58 ∷ decimal r.last) (decimal_class p r.first k.digits (omega (arith, h.in_order, h.last)))
    (k.colon, decimal_class p r.last k.digits (omega (arith, h.last)))

more_class : (p : ℕ → Bool) (rs : List UidRange) → SetClass p → All IsSendableRange rs → Each p (more_ranges_text rs)
more_class p [] k all = tt
more_class p (r ∷ rs) k all = (
  k.comma,
  each_append p (range_text r) (more_ranges_text rs) (range_class p r k (All-head IsSendableRange r rs all))
      (more_class p rs k (All-tail IsSendableRange r rs all)),
)

ranges_class : (p : ℕ → Bool) (rs : List UidRange) → SetClass p → All IsSendableRange rs → Each p (ranges_text rs)
ranges_class p [] k all = tt
ranges_class p (r ∷ rs) k all = each_append p (range_text r) (more_ranges_text rs) (range_class p r k (All-head IsSendableRange r rs all))
    (more_class p rs k (All-tail IsSendableRange r rs all))

pub set_class : (p : ℕ → Bool) (rs : List UidRange) → ((c : ℕ) → is_digit c ≡ true → p c ≡ true) → p 44 ≡ true → p 58 ≡ true → IsSendableSet rs
    → Each p (ranges_text rs)
set_class p rs digits comma colon h = ranges_class p rs (record { digits = digits; comma = comma; colon = colon }) h.ranges
