-- The folder to which a message moves, before and after the message ends in its own.
use Rattle.std.proofs.Common.{◌≡◌, ◌≢◌, inl, inr, ◌⊎◌, ℕ, ◌+◌, ◌<◌, ◌==◌, Bool, true, false, List, Some, get_or, refl, sym, ap, ◌∙◌, arith, eq-eqb, AllPairs, if◌then◌else◌}
use Rattle.std.specs.Prelude.{option_map}
use Rattle.std.specs.List.{slice_get}
use Rattle.std.specs.Prelude.{nat_le, ◌||◌}
use Rattle.std.proofs.lemmas.Bool.{cases_order, eqb-true, false≢true, le-leb, leb-false, leb-true, lt-leb, or_parts}
use Rattle.std.proofs.lemmas.Option.{get_or_from_slice_get, slice_get_within, slice_get-map, same_Some}
use Rattle.honest_store.specs.StoreMail.{StoreFolder, StoreMail}
use Rattle.honest_store.specs.WellFormed.{IsStoreMail}
use Rattle.honest_store.specs.MessageChanges.{folder_without}
use Rattle.small_answers.specs.Changes.{mail_without, next_modseq}
use Rattle.small_answers.specs.Limits.{is_last_change, is_last_message}

-- folders of one number stand at one place
pub one_place : (fs : List StoreFolder) (i j : ℕ) (f g : StoreFolder) → AllPairs (λ (x y : StoreFolder). x.number ≢ y.number) fs → slice_get fs i ≡ Some f → slice_get fs j ≡ Some g
    → f.number ≡ g.number → i ≡ j
one_place fs i j f g apart at_i at_j same = by (cases_order i j)
  where
    f_is : get_or fs i f ≡ f
    f_is = get_or_from_slice_get fs i f f at_i

    g_is : get_or fs j f ≡ g
    g_is = get_or_from_slice_get fs j g f at_j

    same_there : (get_or fs i f).number ≡ (get_or fs j f).number
    same_there = ap (λ (x : StoreFolder). x.number) f_is ∙ (same ∙ ap (λ (x : StoreFolder). x.number) (sym g_is))

    by : (i ≡ j) ⊎ ((i < j) ⊎ (j < i)) → i ≡ j
    by (inl e) = e
    by (inr (inl l)) = absurd (apart i j f l (slice_get_within fs j g at_j) same_there)
    by (inr (inr l)) = absurd (apart j i f l (slice_get_within fs i f at_i) (sym same_there))

or_none : (b : Bool) → (b || false) ≡ b
or_none true = refl
or_none false = refl

or_true : (b : Bool) → (b || true) ≡ true
or_true true = refl
or_true false = refl

or_second : (a b : Bool) → a ≡ false → (a || b) ≡ true → b ≡ true
or_second a b none some = ap (λ (x : Bool). x || b) (sym none) ∙ some

one_more : (n h : ℕ) → nat_le (n + 1) (h + 1) ≡ nat_le n h
one_more n h = by (nat_le n h) refl
  where
    by : (b : Bool) → nat_le n h ≡ b → nat_le (n + 1) (h + 1) ≡ b
    by true e = le-leb (n + 1) (h + 1) (omega (arith, leb-true n h e))
    by false e = lt-leb (n + 1) (h + 1) (omega (arith, leb-false n h e))

-- the folder, or the one that a message left
left_by : StoreFolder → ℕ → StoreFolder → StoreFolder
left_by f u g = if g.number == f.number then folder_without f u (next_modseq f) else g

module _ (mail : StoreMail) (source target : ℕ) (f t before : StoreFolder) (u : ℕ) (whole : IsStoreMail mail) (at_f : slice_get mail.folders source ≡ Some f)
    (was : slice_get mail.folders target ≡ Some before) (at_t : slice_get (mail_without mail (Some f) u).folders target ≡ Some t) where
  t_is : left_by f u before ≡ t
  unfolding left_by
  t_is = same_Some (left_by f u before) t (sym (slice_get-map (left_by f u) mail.folders target ∙ ap (option_map (left_by f u)) was) ∙ at_t)

  -- of another folder nothing changes
  pub target_other : (source ≡ target → ⊥) → t ≡ before
  unfolding left_by
  target_other other = sym t_is ∙ by (before.number == f.number) refl
    where
      by : (b : Bool) → before.number == f.number ≡ b → (if b then folder_without f u (next_modseq f) else before) ≡ before
      by true e = absurd (other (one_place mail.folders source target f before whole.numbers at_f was (sym (eqb-true before.number f.number e))))
      by false e = refl

  pub target_same : source ≡ target → t ≡ folder_without f u (next_modseq f)
  unfolding left_by
  target_same same =
      let is : before ≡ f = same_Some before f (sym was ∙ (ap (slice_get mail.folders) (sym same) ∙ at_f)) in
      sym t_is ∙ (ap (λ (g : StoreFolder). left_by f u g) is ∙ ap (λ (b : Bool). if b then folder_without f u (next_modseq f) else f) (eq-eqb f.number f.number refl))

  is_f : source ≡ target → before ≡ f
  is_f same = same_Some before f (sym was ∙ (ap (slice_get mail.folders) (sym same) ∙ at_f))

  -- its UIDVALIDITY and UIDNEXT stay
  pub numbers_kept : (t.validity ≡ before.validity) × (t.uid_next ≡ before.uid_next)
  numbers_kept = by (source == target) refl
    where
      by : (b : Bool) → (source == target) ≡ b → (t.validity ≡ before.validity) × (t.uid_next ≡ before.uid_next)
      by true e =
          let same : source ≡ target = eqb-true source target e in
          let gone : t ≡ folder_without before u (next_modseq f) = target_same same ∙ ap (λ (g : StoreFolder). folder_without g u (next_modseq f)) (sym (is_f same)) in
          (ap (λ (g : StoreFolder). g.validity) gone, ap (λ (g : StoreFolder). g.uid_next) gone)
      by false e =
          let same : t ≡ before = target_other (λ here. false≢true (sym e ∙ eq-eqb source target here)) in
          (ap (λ (g : StoreFolder). g.validity) same, ap (λ (g : StoreFolder). g.uid_next) same)

  -- ---- whether a number of it would pass its end

  last_same : source ≡ target → is_last_message t ≡ (nat_le 9223372036854775806 before.highest || nat_le 4294967295 before.uid_next)
  last_same same =
      ap is_last_message (target_same same)
      ∙ (ap (λ (b : Bool). b || nat_le 4294967295 f.uid_next) (one_more 9223372036854775806 f.highest)
      ∙ ap (λ (g : StoreFolder). nat_le 9223372036854775806 g.highest || nat_le 4294967295 g.uid_next) (sym (is_f same)))

  pub last_stays : is_last_change f ≡ false → is_last_message before ≡ true → is_last_message t ≡ true
  last_stays room end = by (source == target) refl
    where
      by : (b : Bool) → (source == target) ≡ b → is_last_message t ≡ true
      by true e =
          let same : source ≡ target = eqb-true source target e in
          let uids : nat_le 4294967295 before.uid_next ≡ true = or_second (is_last_change before) (nat_le 4294967295 before.uid_next) (ap is_last_change (is_f same) ∙ room) end in
          last_same same ∙ (ap (λ (b : Bool). nat_le 9223372036854775806 before.highest || b) uids ∙ or_true (nat_le 9223372036854775806 before.highest))
      by false e = ap is_last_message (target_other (λ here. false≢true (sym e ∙ eq-eqb source target here))) ∙ end

  pub free_elsewhere : (source ≡ target → ⊥) → is_last_message before ≡ false → is_last_message t ≡ false
  free_elsewhere other free = ap is_last_message (target_other other) ∙ free

  pub last_within : source ≡ target → is_last_message before ≡ false → is_last_message t ≡ nat_le 9223372036854775806 before.highest
  last_within same free =
      last_same same
      ∙ (ap (λ (b : Bool). nat_le 9223372036854775806 before.highest || b) (or_parts (is_last_change before) (nat_le 4294967295 before.uid_next) free).1
      ∙ or_none (nat_le 9223372036854775806 before.highest))
