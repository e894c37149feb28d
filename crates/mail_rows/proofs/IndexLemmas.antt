-- The indexes beside the rows, as Emails go and come.
use Rattle.std.proofs.Common.{◌≡◌, ℕ, ◌+◌, ◌<◌, List, [], ◌∷◌, ◌++◌, Bool, true, false, not, cond, nat_eq, map, filter, refl, sym, ap, ◌∙◌, subst, arith, nat_cmp, append_assoc}
use Rattle.std.proofs.Common.{is_some, Option, Some, None, eqb-true, BTreeMap}
use Rattle.std.specs.declared.cmp.Ordering.TheVariants.{Less}
use Rattle.std.specs.Option.{option_map}
use Rattle.std.specs.List.{AllByRecursion}
use Rattle.std.specs.List.Sorted.{IsStrictlySortedBy}
use Rattle.std.specs.Map.{keys_of, remove_entry}
use Rattle.std.specs.BTreeMap.{get, is_at, insert_entry}
use Rattle.std.proofs.lemmas.Map.Keys.{sorted_head, sorted_tail}
use Rattle.std.proofs.lemmas.Grind.{common_steps}
use Rattle.thread_rule.specs.declared.member.Member.{Member}
use Rattle.thread_rule.specs.Threads.{Members}
use Rattle.told_folder.specs.declared.message.NumberedFolder.{NumberedFolder}
use Rattle.mail_maps.specs.declared.row.EmailRow.{EmailRow}
use Rattle.mail_maps.specs.Rows.{Rows}
use Rattle.mail_maps.specs.Visible.{Placed, shown}
use Rattle.mail_rows.specs.NumberedRows.{AreBelow}
use Rattle.mail_rows.specs.Remaining.{updated, remaining_row, put_remaining, remaining}
use Rattle.mail_rows.specs.Joining.{row_member, members_of}
use Rattle.mail_rows.specs.declared.remaining.RemovedEmail.{RemovedEmail}
use Rattle.mail_rows.specs.reading.RowPass.{gone_of, is_hidden, gone_in}
use Rattle.mail_rows.specs.reading.Indexes.{number_after, number_of, AreIndexes, number_left, members_left}
use Rattle.mail_rows.proofs.RowLemmas.{is_here, below_is_not, less_is_below, Under, insert_last, under_more}

-- ---- the numbers of marks, as Emails go

none_left : (gs : List RemovedEmail) (q : ℕ) → number_left gs q None ≡ None
none_left [] q = refl
none_left (g ∷ gs) q = elim (nat_eq g.mark q) as (λ (b : Bool). number_left gs q (cond b None None) ≡ None) [ true ↦ none_left gs q | false ↦ none_left gs q ]

module _ (hs : List NumberedFolder) (q : ℕ) where
  -- where the mark is shown, none of those that go has it
  stays_left : (p : Placed) → shown hs q ≡ Some p → (es : Rows) (o : Option ℕ) → number_left (gone_in hs es) q o ≡ o
  stays_left p is [] o = refl
  stays_left p is (e ∷ es) o = by (shown hs e.1.mark) refl (stays_left p is es o)
    where
      by : (w : Option Placed) → shown hs e.1.mark ≡ w → number_left (gone_in hs es) q o ≡ o
          → number_left (map gone_of (cond (not (is_some w)) (e ∷ filter (is_hidden hs) es) (filter (is_hidden hs) es))) q o ≡ o
      by (Some x) f rest = rest
      by None f rest =
          elim (nat_eq e.1.mark q) as (λ (b : Bool). nat_eq e.1.mark q ≡ b → number_left (gone_in hs es) q (cond b None o) ≡ o) [
            | true ↦ λ same. absurd (let g : None ≡ Some p = sym f ∙ ap (shown hs) (eqb-true e.1.mark q same) ∙ is in cc)
            | false ↦ λ other. rest
          ] refl

  -- and the rows with it remain
  stays_after : (p : Placed) → shown hs q ≡ Some p → (o : Option ℕ) (es : Rows) → number_after o (remaining hs es) q ≡ number_after o es q
  stays_after p is o [] = refl
  stays_after p is o (e ∷ es) = by (shown hs e.1.mark) refl (λ w. stays_after p is w es)
    where
      by : (w : Option Placed) → shown hs e.1.mark ≡ w → ((v : Option ℕ) → number_after v (remaining hs es) q ≡ number_after v es q)
          → number_after o (put_remaining e.0 (option_map (updated e.1) w) (remaining hs es)) q ≡ number_after (cond (nat_eq e.1.mark q) (Some e.0) o) es q
      by (Some x) f rest = rest (cond (nat_eq e.1.mark q) (Some e.0) o)
      by None f rest =
          elim (nat_eq e.1.mark q) as (λ (b : Bool). nat_eq e.1.mark q ≡ b → number_after o (remaining hs es) q ≡ number_after (cond b (Some e.0) o) es q) [
            | true ↦ λ same. absurd (let g : None ≡ Some p = sym f ∙ ap (shown hs) (eqb-true e.1.mark q same) ∙ is in cc)
            | false ↦ λ other. rest o
          ] refl

  -- where it isn't shown, all rows with it go
  goes_left : shown hs q ≡ None → (es : Rows) (o : Option ℕ) → number_left (gone_in hs es) q o ≡ None → number_left (gone_in hs es) q (number_after o es q) ≡ None
  goes_left is [] o h = h
  goes_left is (e ∷ es) o h = by (nat_eq e.1.mark q) refl h (goes_left is es o)
    where
      hidden : e.1.mark ≡ q → shown hs e.1.mark ≡ None
      hidden same = ap (shown hs) same ∙ is

      by : (b : Bool) → nat_eq e.1.mark q ≡ b → number_left (gone_in hs (e ∷ es)) q o ≡ None
          → (number_left (gone_in hs es) q o ≡ None → number_left (gone_in hs es) q (number_after o es q) ≡ None)
          → number_left (gone_in hs (e ∷ es)) q (number_after (cond (nat_eq e.1.mark q) (Some e.0) o) es q) ≡ None
      by true same g rest =
          let list : gone_in hs (e ∷ es) ≡ gone_of e ∷ gone_in hs es =
          ap (λ (v : Option Placed). map gone_of (cond (not (is_some v)) (e ∷ filter (is_hidden hs) es) (filter (is_hidden hs) es))) (hidden (eqb-true e.1.mark q same)) in
          ap (λ (gs : List RemovedEmail). number_left gs q (number_after (cond (nat_eq e.1.mark q) (Some e.0) o) es q)) list
          ∙ ap (λ (b : Bool). number_left (gone_in hs es) q (cond b None (number_after (cond (nat_eq e.1.mark q) (Some e.0) o) es q))) same
          ∙ none_left (gone_in hs es) q
      by false other g rest =
          ap (λ (b : Bool). number_left (gone_in hs (e ∷ es)) q (number_after (cond b (Some e.0) o) es q)) other
          ∙ elim (shown hs e.1.mark) as (λ (v : Option Placed).
          number_left (map gone_of (cond (not (is_some v)) (e ∷ filter (is_hidden hs) es) (filter (is_hidden hs) es))) q o ≡ None
          → number_left (map gone_of (cond (not (is_some v)) (e ∷ filter (is_hidden hs) es) (filter (is_hidden hs) es))) q (number_after o es q) ≡ None) [
            | Some x ↦ λ k. rest k
            | None ↦ λ k.
                ap (λ (b : Bool). number_left (gone_in hs es) q (cond b None (number_after o es q))) other
                ∙ rest (sym (ap (λ (b : Bool). number_left (gone_in hs es) q (cond b None o)) other) ∙ k)
          ] g

  goes_after : shown hs q ≡ None → (es : Rows) → number_after None (remaining hs es) q ≡ None
  goes_after is [] = refl
  goes_after is (e ∷ es) = by (shown hs e.1.mark) refl (goes_after is es)
    where
      by : (w : Option Placed) → shown hs e.1.mark ≡ w → number_after None (remaining hs es) q ≡ None
          → number_after None (put_remaining e.0 (option_map (updated e.1) w) (remaining hs es)) q ≡ None
      by None f rest = rest
      by (Some x) f rest =
          elim (nat_eq e.1.mark q) as (λ (b : Bool). nat_eq e.1.mark q ≡ b → number_after (cond b (Some e.0) None) (remaining hs es) q ≡ None) [
            | true ↦ λ same. absurd (let g : Some x ≡ None = sym f ∙ ap (shown hs) (eqb-true e.1.mark q same) ∙ is in cc)
            | false ↦ λ other. rest
          ] refl

  pub marks_left : (es : Rows) → number_left (gone_in hs es) q (number_of es q) ≡ number_of (remaining hs es) q
  marks_left es =
      elim (shown hs q) as (λ (o : Option Placed). shown hs q ≡ o → number_left (gone_in hs es) q (number_of es q) ≡ number_of (remaining hs es) q) [
        | None ↦ λ is. goes_left is es None (none_left (gone_in hs es) q) ∙ sym (goes_after is es)
        | Some p ↦ λ is. stays_left p is es (number_of es q) ∙ sym (stays_after p is None es)
      ] refl

-- ---- the book, as Emails go

-- none of these has the number
abbrev NoneAt : ℕ → Members → Type 0
NoneAt k [] = Unit {0}
NoneAt k (m ∷ ms) = (is_at (nat_cmp k) m.0 ≡ false) × NoneAt k ms

removed_behind : (k : ℕ) (a b : Members) → NoneAt k a → remove_entry (is_at (nat_cmp k)) (a ++ b) ≡ a ++ remove_entry (is_at (nat_cmp k)) b
removed_behind k [] b n = refl
removed_behind k (m ∷ a) b n =
    ap (λ (t : Bool). cond t (a ++ b) (m ∷ remove_entry (is_at (nat_cmp k)) (a ++ b))) n.0 ∙ ap (λ (r : Members). m ∷ r) (removed_behind k a b n.1)

-- these are all before those rows
abbrev Before : Members → Rows → Type 0
Before a [] = Unit {0}
Before a (e ∷ es) = NoneAt e.0 a × Before a es

none_more : (number k : ℕ) (m : Member) (a : Members) → k < number → NoneAt number a → NoneAt number (a ++ (k, m) ∷ [])
none_more number k m [] l n = (below_is_not k number l, tt)
none_more number k m (y ∷ a) l n = (n.0, none_more number k m a l n.1)

before_more : (a : Members) (k : ℕ) (m : Member) (es : Rows) → AllByRecursion (λ y. nat_cmp k y ≡ Less) (keys_of es) → Before a es → Before (a ++ (k, m) ∷ []) es
before_more a k m [] h b = tt
before_more a k m (e ∷ es) h b = (none_more e.0 k m a (less_is_below k e.0 h.0) b.0, before_more a k m es h.1 b.1)

module _ (hs : List NumberedFolder) where
  book_left : (a : Members) (es : Rows) → IsStrictlySortedBy nat_cmp (keys_of es) → Before a es
      → members_left (gone_in hs es) (a ++ members_of es) ≡ a ++ members_of (remaining hs es)
  book_left a [] sorted before = refl
  book_left a (e ∷ es) sorted before = by (shown hs e.1.mark) (λ x b. book_left x es (sorted_tail nat_cmp e.0 (keys_of es) sorted) b)
    where
      by : (w : Option Placed) → ((x : Members) → Before x es → members_left (gone_in hs es) (x ++ members_of es) ≡ x ++ members_of (remaining hs es))
          → members_left (map gone_of (cond (not (is_some w)) (e ∷ filter (is_hidden hs) es) (filter (is_hidden hs) es))) (a ++ (e.0, row_member e.1) ∷ members_of es)
          ≡ a ++ members_of (put_remaining e.0 (option_map (updated e.1) w) (remaining hs es))
      by None rest =
          ap (members_left (gone_in hs es)) (removed_behind e.0 a ((e.0, row_member e.1) ∷ members_of es) before.0
          ∙ ap (λ (t : Bool). a ++ cond t (members_of es) ((e.0, row_member e.1) ∷ remove_entry (is_at (nat_cmp e.0)) (members_of es))) (is_here e.0))
          ∙ rest a before.1
      by (Some p) rest =
          ap (members_left (gone_in hs es)) (sym (append_assoc a ((e.0, row_member e.1) ∷ []) (members_of es)))
          ∙ rest (a ++ (e.0, row_member e.1) ∷ []) (before_more a e.0 (row_member e.1) es (sorted_head nat_cmp e.0 (keys_of es) sorted) before.1)
          ∙ append_assoc a ((e.0, row_member e.1) ∷ []) (members_of (remaining hs es))

  none_before : (es : Rows) → Before [] es
  none_before [] = tt
  none_before (e ∷ es) = (tt, none_before es)

  pub members_left_are : (es : Rows) → IsStrictlySortedBy nat_cmp (keys_of es) → members_left (gone_in hs es) (members_of es) ≡ members_of (remaining hs es)
  members_left_are es sorted = book_left [] es sorted (none_before es)

  below_put : (k number : ℕ) (o : Option EmailRow) (rest : Rows) → number < k → AreBelow k rest → AreBelow k (put_remaining number o rest)
  below_put k number None rest here later = later
  below_put k number (Some w) rest here later = (here, later)

  pub below_remaining : (k : ℕ) (es : Rows) → AreBelow k es → AreBelow k (remaining hs es)
  below_remaining k [] h = tt
  below_remaining k (e ∷ es) h = below_put k e.0 (remaining_row hs e.1) (remaining hs es) h.0 (below_remaining k es h.1)

-- the indexes of the rows that remain, after what goes is taken out of them
pub indexes_left : (hs : List NumberedFolder) (es rows : Rows) (next : ℕ) (gone : List RemovedEmail) (marks marks' : BTreeMap ℕ ℕ) (book book' : Members)
    → IsStrictlySortedBy nat_cmp (keys_of es) → AreIndexes es next marks book
    → rows ≡ remaining hs es → gone ≡ gone_in hs es
    → ((q : ℕ) → get nat_cmp marks' q ≡ number_left gone q (get nat_cmp marks q))
    → book' ≡ members_left gone book
    → AreIndexes rows next marks' book'
indexes_left hs es rows next gone marks marks' book book' sorted was is go m b =
    let P : Rows → Type 0 = λ rs. AreIndexes rs next marks' book' in
    subst P (sym is) (record {
      below = below_remaining hs next es was.below;
      marks_are = λ q. m q ∙ ap (number_left gone q) (was.marks_are q) ∙ ap (λ (gs : List RemovedEmail). number_left gs q (number_of es q)) go ∙ marks_left hs q es;
      book_is = b ∙ ap (members_left gone) was.book_is ∙ ap (λ (gs : List RemovedEmail). members_left gs (members_of es)) go ∙ members_left_are hs es sorted;
    })

-- ---- one row more

number_after-append : (was : Option ℕ) (a b : Rows) (q : ℕ) → number_after was (a ++ b) q ≡ number_after (number_after was a q) b q
number_after-append was [] b q = refl
number_after-append was (e ∷ a) b q = number_after-append (cond (nat_eq e.1.mark q) (Some e.0) was) a b q

members-append : (a b : Rows) → members_of (a ++ b) ≡ members_of a ++ members_of b
members-append [] b = refl
members-append (e ∷ a) b = ap (λ (r : Members). (e.0, row_member e.1) ∷ r) (members-append a b)

-- members of rows below a number are under it
pub members_under : (k : ℕ) (es : Rows) → AreBelow k es → Under k (members_of es)
members_under k [] u = tt
members_under k (e ∷ es) u = (u.0, members_under k es u.1)

-- rows below a number are under it
pub as_under : (k : ℕ) (es : Rows) → AreBelow k es → Under k es
as_under k [] u = tt
as_under k (e ∷ es) u = (u.0, as_under k es u.1)

from_under : (k : ℕ) (es : Rows) → Under k es → AreBelow k es
from_under k [] u = tt
from_under k (e ∷ es) u = (u.0, from_under k es u.1)

mark_test : (a b : ℕ) → is_at (nat_cmp a) b ≡ nat_eq a b
mark_test a b = grind (arith, common_steps)

-- the indexes with a row after the others, of the next number
pub indexes_more : (es : Rows) (k : ℕ) (v : EmailRow) (marks marks' : BTreeMap ℕ ℕ) (book book' : Members)
    → AreIndexes es k marks book
    → ((q : ℕ) → get nat_cmp marks' q ≡ cond (is_at (nat_cmp v.mark) q) (Some k) (get nat_cmp marks q))
    → book' ≡ insert_entry nat_cmp book k (row_member v)
    → AreIndexes (es ++ (k, v) ∷ []) (k + 1) marks' book'
indexes_more es k v marks marks' book book' was m b = record {
  below = from_under (k + 1) (es ++ (k, v) ∷ []) (under_more es k v (as_under k es was.below));
  marks_are = λ q. m q ∙ ap (λ (t : Bool). cond t (Some k) (get nat_cmp marks q)) (mark_test v.mark q)
      ∙ ap (cond (nat_eq v.mark q) (Some k)) (was.marks_are q) ∙ sym (number_after-append None es ((k, v) ∷ []) q);
  book_is = b ∙ ap (λ (ms : Members). insert_entry nat_cmp ms k (row_member v)) was.book_is
      ∙ insert_last (members_of es) k (row_member v) (members_under k es was.below) ∙ sym (members-append es ((k, v) ∷ []));
}

-- the rows that remain are under a number where all were
pub under_remaining : (hs : List NumberedFolder) (k : ℕ) (es : Rows) → Under k es → Under k (remaining hs es)
under_remaining hs k es u = as_under k (remaining hs es) (below_remaining hs k es (from_under k es u))
