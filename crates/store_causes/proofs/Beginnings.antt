-- Beginnings that are told.
use Rattle.std.proofs.Common.{◌≡◌, ◌≢◌, ◌+◌, ◌<◌, ◌≤◌, ◌++◌, ◌==◌, ◌||◌, ◌&&◌, ◌⊎◌, inl, inr, ℕ, zero, suc, Bool, true, false, List, [], ◌∷◌, Option, Some, None, if◌then◌else◌, nat_eq, length, drop, take, not, refl, sym, ◌∙◌, ap, subst, arith, length-append, append_assoc}
use Rattle.std.specs.List.{list_any, prefix_len, range_with_len, starts_with}
use Rattle.std.specs.Cmp.Lexicographic.{bytes_decides, pointwise}
use Rattle.std.proofs.Math.Dec.{eqb-suc-zero}
use Rattle.std.proofs.Math.Seq.{drop-append_seam, take-append_seam}
use Rattle.std.proofs.lemmas.Bool.{cases_lt}
use Rattle.std.proofs.lemmas.List.{take-append-drop}
use Rattle.store_causes.specs.declared.cause.Asked.{Asked}
use Rattle.store_causes.specs.Beginnings.{beginning_after, beginning_of, beginning_told, is_told, may_tell, stands_in}
use Rattle.store_causes.specs.declared.cause.Breach.TheVariants as breach
use Rattle.store_causes.specs.declared.cause.StoreCause.{StoreCause}
use Rattle.store_causes.specs.declared.cause.StoreCause.TheVariants as cause

-- ---- a word in octets

-- what begins with a word
begins_so : (word rest : List ℕ) → starts_with nat_eq (word ++ rest) word ≡ true
begins_so word rest = ap (pointwise nat_eq word) (take-append_seam word rest) ∙ (bytes_decides word word).1 refl

or_left_false : (a b : Bool) → (a || b) ≡ false → a ≡ false
or_left_false false b is = refl
or_left_false true b is = absurd (cc is)

or_right_false : (a b : Bool) → (a || b) ≡ false → b ≡ false
or_right_false false b is = is
or_right_false true b is = absurd (cc is)

-- it holds at no place
at_none : (p : ℕ → Bool) (from n at : ℕ) → list_any p (range_with_len from n) ≡ false → at < n → p (from + at) ≡ false
at_none p from zero at none less = absurd (omega (arith, less))
at_none p from (suc n) zero none less =
    ap p (omega arith) ∙ or_left_false (p from) (list_any p (range_with_len (from + 1) n)) none
at_none p from (suc n) (suc at) none less =
    let place : from + suc at ≡ (from + 1) + at = omega arith in
    ap p place ∙ at_none p (from + 1) n at (or_right_false (p from) (list_any p (range_with_len (from + 1) n)) none) (omega (arith, less))

true_not : (b : Bool) → b ≡ true → b ≡ false → ⊥
true_not true one other = cc other
true_not false one other = cc one

nonempty : (word : List ℕ) → word ≢ [] → (length word == 0) ≡ false
nonempty [] some = absurd (some refl)
nonempty (letter ∷ word) some = eqb-suc-zero (length word)

nonempty_length : (word : List ℕ) → word ≢ [] → length word ≡ 0 → ⊥
nonempty_length [] some none = some refl
nonempty_length (letter ∷ word) some none = omega (arith, none)

-- a word that stands from none of the first n octets on stands behind them
stands_behind : (word before after : List ℕ) (n : ℕ) → word ≢ [] → stands_in word n (before ++ (word ++ after)) ≡ false → n ≤ length before
stands_behind word before after n some none = by (cases_lt (length before) n)
  where
    any : list_any (λ (at : ℕ). starts_with nat_eq (drop at (before ++ (word ++ after))) word) (range_with_len 0 n) ≡ false
    any = ap (λ (e : Bool). not e && list_any (λ (at : ℕ). starts_with nat_eq (drop at (before ++ (word ++ after))) word) (range_with_len 0 n)) (sym (nonempty word some)) ∙ none

    there : 0 + length before ≡ length before
    there = omega arith

    by : (length before < n) ⊎ (n ≤ length before) → n ≤ length before
    by (inr so) = so
    by (inl less) = absurd (
        true_not (starts_with nat_eq (drop (length before) (before ++ (word ++ after))) word)
        (ap (λ (l : List ℕ). starts_with nat_eq l word) (drop-append_seam before (word ++ after)) ∙ begins_so word after)
        (subst (λ (at : ℕ). starts_with nat_eq (drop at (before ++ (word ++ after))) word ≡ false) there
        (at_none (λ (at : ℕ). starts_with nat_eq (drop at (before ++ (word ++ after))) word) 0 n (length before) any less))
        )

-- ---- what is told

-- what is told is a front
front_told : (octets : List ℕ) → (rest : List ℕ) × (octets ≡ beginning_of octets ++ rest)
front_told octets =
    let taken = take 60 octets in (
      drop (prefix_len is_told taken) taken ++ drop 60 octets,
      sym (take-append-drop 60 octets) ∙ ap (λ (l : List ℕ). l ++ drop 60 octets) (sym (take-append-drop (prefix_len is_told taken) taken))
          ∙ append_assoc (take (prefix_len is_told taken) taken) (drop (prefix_len is_told taken) taken) (drop 60 octets),
    )

pub beginning_short : (octets : List ℕ) → length (beginning_of octets) ≤ length octets
beginning_short octets =
    let front = front_told octets in omega (arith, ap length front.1, length-append (beginning_of octets) front.0)

told_only : (b : Bool) (octets told : List ℕ) → (if b then Some octets else None) ≡ Some told → (b ≡ true) × (octets ≡ told)
told_only true octets told is = (refl, cc is)
told_only false octets told is = absurd (cc is)

and_right : (a b : Bool) → (a && b) ≡ true → b ≡ true
and_right true b is = is
and_right false b is = absurd (cc is)

not_false : (b : Bool) → not b ≡ true → b ≡ false
not_false true is = sym is
not_false false is = refl

-- no beginning that is told has the password in it
hides : (asked : Asked) (password unread told before after : List ℕ) → password ≢ [] → beginning_after asked password unread ≡ Some told → told ≢ before ++ (password ++ after)
hides asked password unread told before after some is shows =
    let so = told_only (may_tell asked unread && not (stands_in password (length (beginning_of unread)) unread)) (beginning_of unread) told is in
    let front = front_told unread in
    let begin_is : beginning_of unread ≡ before ++ (password ++ after) = so.1 ∙ shows in
    let unread_is : unread ≡ before ++ (password ++ (after ++ front.0)) =
    front.1 ∙ ap (λ (l : List ℕ). l ++ front.0) begin_is ∙ append_assoc before (password ++ after) front.0
    ∙ ap (λ (l : List ℕ). before ++ l) (append_assoc password after front.0) in
    let none = not_false (stands_in password (length (beginning_of unread)) unread) (and_right (may_tell asked unread) _ so.0) in
    let behind = stands_behind password before (after ++ front.0) (length (beginning_of unread)) some
    (ap (λ (l : List ℕ). stands_in password (length (beginning_of unread)) l) (sym unread_is) ∙ none) in
    nonempty_length password some (omega (arith, behind, ap length begin_is, length-append before (password ++ after), length-append password after))

pub told_hides : (password : List ℕ) (found : Option StoreCause) (gave told before after : List ℕ) → password ≢ [] → beginning_told password found gave ≡ Some told
    → told ≢ before ++ (password ++ after)
told_hides password (Some (cause.Unanswered asked (breach.Unreadable at))) gave told before after some is =
    hides asked password (drop at gave) told before after some is
told_hides password _ gave told before after some is = absurd (cc is)
