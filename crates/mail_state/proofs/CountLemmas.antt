-- Touches that count alone leave all else of a Mailbox as it was.
use Rattle.std.proofs.Common.{◌≡◌, ◌⊎◌, inl, inr, ℕ, zero, suc, ◌≤◌, List, [], ◌∷◌, ◌++◌, Bool, true, false, cond, nat_eq, map, filter, take, drop, nat_cmp, Option, Some, None}
use Rattle.std.proofs.Common.{refl, sym, ap, ◌∙◌, subst}
use Rattle.std.specs.BTreeMap.{is_at}
use Rattle.std.proofs.lemmas.Bool.{eqb-true, eq-eqb}
use Rattle.std.proofs.lemmas.List.{take-take}
use Rattle.std.proofs.Math.Seq.{take-length}
use Rattle.change_list.specs.Advance.{Tests, row_at, AreRows, removal, addition, change, counts_if, is_gone, is_changed, advance}
use Rattle.change_list.specs.Changes.{IsChanges}
use Rattle.change_list.specs.History.{Touch, map_then, map_at, value_after, entries_of, entries_from, entry_of}
use Rattle.change_list.specs.Touches.{between, counts_alone}
use Rattle.change_list.specs.declared.answer.Changes.{Changes}
use Rattle.change_list.specs.declared.entries.Entry.{Entry}
use Rattle.change_list.proofs.HistoryLaws.{between-append, take-parts, value_after-append}
use Rattle.change_list.proofs.Phases.{key_is, after}
use Rattle.served_maps.specs.Past.{Past, IsPast, gone_on, has_now, had_at}
use Rattle.mail_maps.specs.Serve.{ServedMailbox, mailbox_tests}
use Rattle.mail_state.specs.Sound.{LeavesTheRest, CountAlone}

-- ---- touches one after the other

-- what comes after touches goes on from what they leave
pub joined : (was : ℕ → Option ServedMailbox) (a b : List (Touch ServedMailbox)) → CountAlone was a → CountAlone (after was a) b → CountAlone was (a ++ b)
joined was [] b f g = g
joined was (t ∷ a) b f g = (f.0, joined (map_then was t) a b f.1 g)

-- the first ones
first_alone : (was : ℕ → Option ServedMailbox) (k : ℕ) (ts : List (Touch ServedMailbox)) → CountAlone was ts → CountAlone was (take k ts)
first_alone was zero ts f = tt
first_alone was (suc k) [] f = tt
first_alone was (suc k) (t ∷ ts) f = (f.0, first_alone (map_then was t) k ts f.1)

-- and those after them
rest_alone : (was : ℕ → Option ServedMailbox) (k : ℕ) (ts : List (Touch ServedMailbox)) → CountAlone was ts → CountAlone (after was (take k ts)) (drop k ts)
rest_alone was zero ts f = f
rest_alone was (suc k) [] f = tt
rest_alone was (suc k) (t ∷ ts) f = rest_alone (map_then was t) k ts f.1

-- ---- an advance

-- removals count nothing
removals_alone : (was : ℕ → Option ServedMailbox) (es : List (ℕ × ServedMailbox)) → CountAlone was (map removal es)
removals_alone was [] = tt
removals_alone was (e ∷ es) = ((λ is. absurd (let f : false ≡ true = is in cc)), removals_alone (map_then was (removal e)) es)

-- nor do additions
additions_alone : (was : ℕ → Option ServedMailbox) (es : List (ℕ × ServedMailbox)) → CountAlone was (map addition es)
additions_alone was [] = tt
additions_alone was (e ∷ es) = ((λ is. absurd (let f : false ≡ true = is in cc)), additions_alone (map_then was (addition e)) es)

-- what is there is what the old map has, or nothing
abbrev OldOrNone : Option ServedMailbox → Option ServedMailbox → Type 0
OldOrNone old now = (now ≡ old) ⊎ (now ≡ None)

-- after removals it is
removed : (old was : Option ServedMailbox) (es : List (ℕ × ServedMailbox)) (q : ℕ) → OldOrNone old was → OldOrNone old (value_after was (map removal es) q)
removed old was [] q is = is
removed old was (e ∷ es) q is = removed old (cond (nat_eq e.0 q) None was) es q (
    elim (nat_eq e.0 q) as (λ b. OldOrNone old (cond b None was)) [
      | true ↦ inr refl
      | false ↦ is
    ])

-- a row that isn't there isn't there among some of the rows
none_filtered : (p : ℕ × ServedMailbox → Bool) (es : List (ℕ × ServedMailbox)) (q : ℕ) → row_at es q ≡ None → row_at (filter p es) q ≡ None
none_filtered p [] q none = refl
none_filtered p (e ∷ es) q none =
    elim (is_at (nat_cmp q) e.0) as (λ b. is_at (nat_cmp q) e.0 ≡ b → cond b (Some e.1) (row_at es q) ≡ None → row_at (cond (p e) (e ∷ filter p es) (filter p es)) q ≡ None) [
      | true ↦ λ here one. absurd (let f : Some e.1 ≡ None = one in cc)
      | false ↦ λ other rest.
          elim (p e) as (λ c. row_at (cond c (e ∷ filter p es) (filter p es)) q ≡ None) [
            | true ↦ ap (λ (b : Bool). cond b (Some e.1) (row_at (filter p es) q)) other ∙ none_filtered p es q rest
            | false ↦ none_filtered p es q rest
          ]
    ] refl none

rows_filtered : (p : ℕ × ServedMailbox → Bool) (es : List (ℕ × ServedMailbox)) → AreRows es → AreRows (filter p es)
rows_filtered p [] rows = tt
rows_filtered p (e ∷ es) rows = elim (p e) as (λ c. AreRows (cond c (e ∷ filter p es) (filter p es))) [
  | true ↦ (none_filtered p es e.0 rows.0, rows_filtered p es rows.1)
  | false ↦ rows_filtered p es rows.1
]

-- a change that counts alone leaves the rest of what the old map has
one_change : (old was : Option ServedMailbox) (v : ServedMailbox) → ((x y : ServedMailbox) → mailbox_tests.counts x y ≡ true → record x { counts = y.counts } ≡ y)
    → OldOrNone old was → counts_if mailbox_tests.counts old v ≡ true → LeavesTheRest was (Some v)
one_change None was v exact is alone = absurd (let f : false ≡ true = alone in cc)
one_change (Some x) was v exact (inl same) alone = record {
  now = v;
  value_is = refl;
  rest = λ u found.
      let both : Some u ≡ Some x = sym found ∙ same in
      let at : u ≡ x = cc in
      ap (λ (y : ServedMailbox). record y { counts = v.counts }) at ∙ exact x v alone;
}
one_change (Some x) was v exact (inr none) alone = record {
  now = v;
  value_is = refl;
  rest = λ u found. absurd (let f : Some u ≡ None = sym found ∙ none in cc);
}

changes_alone : (old : List (ℕ × ServedMailbox)) → ((x y : ServedMailbox) → mailbox_tests.counts x y ≡ true → record x { counts = y.counts } ≡ y)
    → (was : ℕ → Option ServedMailbox) (es : List (ℕ × ServedMailbox)) → AreRows es → ((q : ℕ) (v : ServedMailbox) → row_at es q ≡ Some v → OldOrNone (row_at old q) (was q))
    → CountAlone was (map (change mailbox_tests.counts old) es)
changes_alone old exact was [] rows here = tt
changes_alone old exact was (e ∷ es) rows here =
    let first : OldOrNone (row_at old e.0) (was e.0) = here e.0 e.1 (ap (λ (b : Bool). cond b (Some e.1) (row_at es e.0)) (key_is e.0 e.0 ∙ eq-eqb e.0 e.0 refl)) in (
      one_change (row_at old e.0) (was e.0) e.1 exact first,
      changes_alone old exact (map_then was (change mailbox_tests.counts old e)) es rows.1 (λ q v is.
          elim (nat_eq e.0 q) as (λ b. nat_eq e.0 q ≡ b → OldOrNone (row_at old q) (cond b (Some e.1) (was q))) [
            | true ↦ λ same. absurd (let f : Some v ≡ None = sym is ∙ ap (row_at es) (sym (eqb-true e.0 q same)) ∙ rows.0 in cc)
            | false ↦ λ other. here q v (ap (λ (b : Bool). cond b (Some e.1) (row_at es q)) (key_is q e.0 ∙ other) ∙ is)
          ] refl),
    )

-- the touches of an advance from what was there
advance_alone : (old new : List (ℕ × ServedMailbox)) → ((x y : ServedMailbox) → mailbox_tests.counts x y ≡ true → record x { counts = y.counts } ≡ y)
    → (was : ℕ → Option ServedMailbox) → ((q : ℕ) → was q ≡ row_at old q) → AreRows new → CountAlone was (advance mailbox_tests old new)
advance_alone old new exact was same news =
    let gone = filter (is_gone new) old in
    let other = filter (is_changed mailbox_tests.same old) new in
    let fresh = filter (is_gone old) new in
    let then : ℕ → Option ServedMailbox = after was (map removal gone) in
    joined was (map removal gone) (map (change mailbox_tests.counts old) other ++ map addition fresh) (removals_alone was gone)
    (joined then (map (change mailbox_tests.counts old) other) (map addition fresh)
    (changes_alone old exact then other (rows_filtered (is_changed mailbox_tests.same old) new news) (λ q v is. removed (row_at old q) (was q) gone q (inl (same q))))
    (additions_alone (after then (map (change mailbox_tests.counts old) other)) fresh))

-- a past of Mailboxes goes on so
pub goes_on_alone : (p : Past ServedMailbox) (new : List (ℕ × ServedMailbox)) → ((x y : ServedMailbox) → mailbox_tests.counts x y ≡ true → record x { counts = y.counts } ≡ y)
    → IsPast p → AreRows new → CountAlone (λ _. None) p.touches → CountAlone (λ _. None) (gone_on mailbox_tests p new).touches
goes_on_alone p new exact past news alone =
    joined (λ _. None) p.touches (advance mailbox_tests p.now new) alone
    (advance_alone p.now new exact (after (λ _. None) p.touches)
    (λ q. sym (past.last q ∙ ap (λ (ts : List (Touch ServedMailbox)). value_after None ts q) (take-length p.touches))) news)

-- ---- along an answer

-- the first of touches of which each counts alone do
first_count : (a b : List Entry) (q : ℕ) → counts_alone (a ++ b) q ≡ true → counts_alone a q ≡ true
first_count [] b q alone = refl
first_count (e ∷ a) b q alone =
    elim (nat_eq e.id q) as (λ x. cond x (cond e.counts_only (counts_alone (a ++ b) q) false) (counts_alone (a ++ b) q) ≡ true
    → cond x (cond e.counts_only (counts_alone a q) false) (counts_alone a q) ≡ true) [
      | true ↦ elim e.counts_only as (λ y. cond y (counts_alone (a ++ b) q) false ≡ true → cond y (counts_alone a q) false ≡ true) [
        | true ↦ λ rest. first_count a b q rest
        | false ↦ λ none. absurd (let f : false ≡ true = none in cc)
      ]
      | false ↦ λ rest. first_count a b q rest
    ] alone

-- entries of the first touches, and of those after them
entries_first : (was : ℕ → Option ServedMailbox) (k : ℕ) (ts : List (Touch ServedMailbox)) → take k (entries_from was ts) ≡ entries_from was (take k ts)
entries_first was zero ts = refl
entries_first was (suc k) [] = refl
entries_first was (suc k) (t ∷ ts) = ap (λ (es : List Entry). entry_of (was t.id) t ∷ es) (entries_first (map_then was t) k ts)

entries_rest : (was : ℕ → Option ServedMailbox) (k : ℕ) (ts : List (Touch ServedMailbox)) → drop k (entries_from was ts) ≡ entries_from (after was (take k ts)) (drop k ts)
entries_rest was zero ts = refl
entries_rest was (suc k) [] = refl
entries_rest was (suc k) (t ∷ ts) = entries_rest (map_then was t) k ts

-- what came of touches of q that count alone is what was there but for the counts
walked : (was : ℕ → Option ServedMailbox) (ts : List (Touch ServedMailbox)) (q : ℕ) (u v : ServedMailbox) → CountAlone was ts → counts_alone (entries_from was ts) q ≡ true
    → was q ≡ Some u → value_after (was q) ts q ≡ Some v → record u { counts = v.counts } ≡ v
walked was [] q u v alone count at_first at_last =
    let both : Some u ≡ Some v = sym at_first ∙ at_last in
    let same : u ≡ v = cc in
    let P : ServedMailbox → Type 0 = λ w. record u { counts = w.counts } ≡ w in
    subst P same refl
walked was (t ∷ ts) q u v alone count at_first at_last =
    let later : List Entry = entries_from (map_then was t) ts in
    elim (nat_eq t.id q) as (λ b. nat_eq t.id q ≡ b → cond b (cond t.counts_only (counts_alone later q) false) (counts_alone later q) ≡ true → record u { counts = v.counts } ≡ v) [
      | false ↦ λ other rest.
          walked (map_then was t) ts q u v alone.1 rest (ap (λ (b : Bool). cond b t.value (was q)) other ∙ at_first) at_last
      | true ↦ λ same. elim t.counts_only as (λ c. t.counts_only ≡ c → cond c (counts_alone later q) false ≡ true → record u { counts = v.counts } ≡ v) [
        | false ↦ λ is none. absurd (let f : false ≡ true = none in cc)
        | true ↦ λ is rest.
            let left : LeavesTheRest (was t.id) t.value = alone.0 is in
            let found : was t.id ≡ Some u = ap was (eqb-true t.id q same) ∙ at_first in
            let next : map_then was t q ≡ Some left.now = ap (λ (b : Bool). cond b t.value (was q)) same ∙ left.value_is in
            ap (λ (w : ServedMailbox). record w { counts = v.counts }) (left.rest u found)
            ∙ walked (map_then was t) ts q left.now v alone.1 rest next at_last
      ] refl
    ] refl count

-- so it is of what changed, where the answer says that the counts alone did
pub counts_leave : (p : Past ServedMailbox) (s i : ℕ) (max : Option ℕ) (c : Changes) (q : ℕ) (u v : ServedMailbox) → CountAlone (λ _. None) p.touches
    → IsChanges (entries_of p.touches) s max c → counts_alone (between (entries_of p.touches) s c.to) q ≡ true → s ≤ i → i ≤ c.to
    → had_at p s q ≡ Some u → had_at p i q ≡ Some v → record u { counts = v.counts } ≡ v
counts_leave p s i max c q u v alone changes count from to at_first at_last =
    let h : List (Touch ServedMailbox) = p.touches in
    let es : List Entry = entries_of h in
    let was : ℕ → Option ServedMailbox = after (λ _. None) (take s (take i h)) in
    let ts : List (Touch ServedMailbox) = drop s (take i h) in
    let parts : between es s c.to ≡ between es s i ++ between es i c.to = between-append es s i c.to from to in
    let near : counts_alone (between es s i) q ≡ true = first_count (between es s i) (between es i c.to) q (sym (ap (λ (xs : List Entry). counts_alone xs q) parts) ∙ count) in
    let same : between es s i ≡ entries_from was ts = ap (drop s) (entries_first (λ _. None) i h) ∙ entries_rest (λ _. None) s (take i h) in
    let cut : take i h ≡ take s h ++ ts = take-parts h s i from in
    walked was ts q u v (rest_alone (λ _. None) s (take i h) (first_alone (λ _. None) i h alone)) (sym (ap (λ (xs : List Entry). counts_alone xs q) same) ∙ near)
    (ap (λ (xs : List (Touch ServedMailbox)). value_after None xs q) (take-take s i h from) ∙ at_first)
    (ap (λ (xs : List (Touch ServedMailbox)). value_after (value_after None xs q) ts q) (take-take s i h from) ∙ sym (value_after-append None (take s h) ts q)
    ∙ sym (ap (λ (xs : List (Touch ServedMailbox)). value_after None xs q) cut) ∙ at_last)
