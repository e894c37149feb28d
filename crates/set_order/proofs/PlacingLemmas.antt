-- One more of those that are left is placed: it waits for its parent, or is ready.
use Rattle.std.proofs.Common.{◌≡◌, ◌≢◌, ◌<◌, ◌≤◌, ◌+◌, ℕ, get_or, length, take, List, [], ◌∷◌, ◌++◌, map, Bool, true, false, not, ◌&&◌, ◌||◌, cond, Option, Some, Bor, BTreeMap, Vec, Global, nat_cmp, refl, sym, ap, subst, ◌∙◌}
use Rattle.std.specs.BTreeMap.{UpdatesBy, get_by, is_at}
use Rattle.std.specs.BTreeSet.{BTreeSet}
use Rattle.std.specs.Cmp.Lexicographic.{slice_cmp}
use Rattle.std.specs.List.{list_any}
use Rattle.std.specs.Map.{lookup}
use Rattle.std.specs.Str.{bytes_eq}
use Rattle.std.proofs.lemmas.List.{map-append, take_all, take_more}
use Rattle.std.proofs.lemmas.List.Folds.{list_any-append}
use Rattle.std.proofs.lemmas.Map.Text.{btree_map_updates_str}
use Rattle.jmap_arguments.specs.Arguments.{is_among}
use Rattle.set_arguments.specs.Arguments.{Keyed}
use Rattle.set_arguments.specs.declared.asked.Keyed.{Keyed as Creating}
use Rattle.set_arguments.specs.reading.Keys.{keyed_data}
use Rattle.set_order.specs.Ordered.{Creation, parent_in, waits}
use Rattle.set_order.specs.reading.Ordering.{ArePending, ArePlaced, is_one_key, is_ready, waits_for}
use Rattle.set_order.specs.reading.Waiting.{listed, waiting_at}
use Rattle.set_order.proofs.PendingLemmas.{is_same, not_both, same_bytes, waits_by}

abbrev Waiters : Type 0
Waiters = Vec (Bor (List ℕ)) Global

abbrev Waiting : Type 0
Waiting = BTreeMap (Bor (List ℕ)) Waiters

or_end : (a b : Bool) → (a || (b || false)) ≡ (a || b)
or_end true b = refl
or_end false true = refl
or_end false false = refl

or_swap : (a b : Bool) → (b || a) ≡ (a || b)
or_swap true true = refl
or_swap true false = refl
or_swap false true = refl
or_swap false false = refl

and_no : (a : Bool) → (a && false) ≡ false
and_no true = refl
and_no false = refl

and_yes : (a : Bool) → (a && true) ≡ a
and_yes true = refl
and_yes false = refl

or_no : (a : Bool) → (a || false) ≡ a
or_no true = refl
or_no false = refl

-- a test of those that are placed, and of one more
one_more : (test : Creation → Bool) (placed : Keyed) (c : Creation) → list_any test (placed ++ c ∷ []) ≡ (list_any test placed || test c)
one_more test placed c = list_any-append test placed (c ∷ []) ∙ or_end (list_any test placed) (test c)

-- what no one more passes is as it was
none_more : (test : Creation → Bool) (placed : Keyed) (c : Creation) → test c ≡ false → list_any test placed ≡ list_any test (placed ++ c ∷ [])
none_more test placed c fails = sym (one_more test placed c ∙ ap (λ (b : Bool). list_any test placed || b) fails ∙ or_no (list_any test placed))

module _ (pending placed : Keyed) (c : Creation) (ready : List (List ℕ)) (waiting : List ℕ → List (List ℕ)) (are : ArePlaced pending placed ready waiting) where
  -- it waits for this one
  pub placed_waiting : (parent : List ℕ) (waiting_then : List ℕ → List (List ℕ)) → parent_in c.1 ≡ Some parent → waits pending c ≡ true
      → waiting_then parent ≡ waiting parent ++ c.0 ∷ [] → ((k : List ℕ) → k ≢ parent → waiting_then k ≡ waiting k) → ArePlaced pending (placed ++ c ∷ []) ready waiting_then
  placed_waiting parent waiting_then parent_is waits_is here others = record {
    ready_are = λ key.
        are.ready_are key
        ∙ none_more (is_ready pending key) placed c (ap (λ (b : Bool). bytes_eq c.0 key && not b) waits_is ∙ and_no (bytes_eq c.0 key));
    waiting_are = λ other key there.
        elim (bytes_eq other parent) as (λ b. bytes_eq other parent ≡ b → is_among key (waiting_then other) ≡ list_any (waits_for other key) (placed ++ c ∷ [])) [
          | true ↦ λ is.
              let same : other ≡ parent = is_same other parent is in
              let passes : waits_for other key c ≡ bytes_eq c.0 key =
              ap (λ (o : Option (List ℕ)). bytes_eq c.0 key && is_one_key o other) parent_is
              ∙ ap (λ (b : Bool). bytes_eq c.0 key && b) is ∙ and_yes (bytes_eq c.0 key) in
              ap (λ (t : List ℕ). is_among key (waiting_then t)) same ∙ ap (is_among key) here
              ∙ list_any-append (λ (n : List ℕ). bytes_eq n key) (waiting parent) (c.0 ∷ [])
              ∙ or_end (is_among key (waiting parent)) (bytes_eq c.0 key)
              ∙ ap (λ (t : List ℕ). is_among key (waiting t) || bytes_eq c.0 key) (sym same)
              ∙ ap (λ (b : Bool). b || bytes_eq c.0 key) (are.waiting_are other key there)
              ∙ ap (λ (b : Bool). list_any (waits_for other key) placed || b) (sym passes)
              ∙ sym (one_more (waits_for other key) placed c)
          | false ↦ λ apart.
              let fails : waits_for other key c ≡ false =
              ap (λ (o : Option (List ℕ)). bytes_eq c.0 key && is_one_key o other) parent_is
              ∙ ap (λ (b : Bool). bytes_eq c.0 key && b) apart ∙ and_no (bytes_eq c.0 key) in
              let differ : other ≢ parent = λ same. let both : true ≡ false = not_both _ (ap (bytes_eq other) (sym same) ∙ same_bytes other) apart in absurd (cc) in
              ap (is_among key) (others other differ) ∙ are.waiting_are other key there ∙ none_more (waits_for other key) placed c fails
        ] refl;
  }

  -- it waits for none
  pub placed_ready : (ready_then : List (List ℕ)) → waits pending c ≡ false
      → ((other : List ℕ) → is_among other ready_then ≡ (bytes_eq c.0 other || is_among other ready)) → ArePlaced pending (placed ++ c ∷ []) ready_then waiting
  placed_ready ready_then waits_not ready_is = record {
    ready_are = λ key.
        let passes : is_ready pending key c ≡ bytes_eq c.0 key =
        ap (λ (b : Bool). bytes_eq c.0 key && not b) waits_not ∙ and_yes (bytes_eq c.0 key) in
        ready_is key ∙ ap (λ (b : Bool). bytes_eq c.0 key || b) (are.ready_are key)
        ∙ or_swap (list_any (is_ready pending key) placed) (bytes_eq c.0 key)
        ∙ ap (λ (b : Bool). list_any (is_ready pending key) placed || b) (sym passes)
        ∙ sym (one_more (is_ready pending key) placed c);
    waiting_are = λ other key there.
        let alone : is_one_key (parent_in c.1) other ≡ false =
        elim (is_one_key (parent_in c.1) other) as (λ b. is_one_key (parent_in c.1) other ≡ b → b ≡ false) [
          | true ↦ λ is. let both : true ≡ false = not_both _ (waits_by (parent_in c.1) other pending is there) waits_not in both
          | false ↦ λ is. refl
        ] refl in
        are.waiting_are other key there
        ∙ none_more (waits_for other key) placed c (ap (λ (b : Bool). bytes_eq c.0 key && b) alone ∙ and_no (bytes_eq c.0 key));
  }

-- ---- the map of those that wait

-- what isn't one key has other octets
other_key : (key other : List ℕ) → other ≢ key → bytes_eq key other ≡ false
other_key key other apart = elim (bytes_eq key other) as (λ b. bytes_eq key other ≡ b → b ≡ false) [
  | true ↦ λ is. absurd (apart (sym (is_same key other is)))
  | false ↦ λ is. refl
] refl

-- a change at one key leaves those that wait for others
pub others_wait : (key : List ℕ) (m n : Waiting) (w : Option Waiters) → UpdatesBy (λ x y. slice_cmp nat_cmp x.now y.now) (λ k. slice_cmp nat_cmp key k.now) m n w
    → (k : List ℕ) → k ≢ key → waiting_at n k ≡ waiting_at m k
others_wait key m n w updates k other =
    ap listed (btree_map_updates_str key m n w updates k)
    ∙ ap (λ (b : Bool). listed (cond b w (get_by (λ (x : Bor (List ℕ)). slice_cmp nat_cmp k x.now) m))) (other_key key k other)

-- ---- one creation after another

-- none is placed yet
pub none_placed : (pending : Keyed) (set : BTreeSet (Bor (List ℕ))) (waiting : Waiting) → set.keys ≡ [] → waiting.entries ≡ []
    → ArePlaced pending [] (map (λ (k : Bor (List ℕ)). k.now) set.keys) (waiting_at waiting)
none_placed pending set waiting no_keys no_entries = record {
  ready_are = λ key. ap (λ (ks : List (Bor (List ℕ))). is_among key (map (λ (k : Bor (List ℕ)). k.now) ks)) no_keys;
  waiting_are = λ parent key there. ap (λ (es : List (Bor (List ℕ) × Waiters)). is_among key (listed (lookup (is_at (λ (k : Bor (List ℕ)). slice_cmp nat_cmp parent k.now)) es))) no_entries;
}

-- one more is
pub placed_more : (pending left : Keyed) (xs : List Creating) (i : ℕ) (x : Creating) (ready ready_then : List (List ℕ)) (waiting waiting_then : List ℕ → List (List ℕ))
    → i < length xs → x ≡ get_or xs i x → left ≡ pending → ArePlaced pending (map keyed_data (take i xs)) ready waiting
    → ((placed : Keyed) → ArePlaced left placed ready waiting → ArePlaced left (placed ++ keyed_data x ∷ []) ready_then waiting_then)
    → ArePlaced pending (map keyed_data (take (i + 1) xs)) ready_then waiting_then
placed_more pending left xs i x ready ready_then waiting waiting_then within x_is left_is are step =
    let more : map keyed_data (take i xs) ++ keyed_data x ∷ [] ≡ map keyed_data (take (i + 1) xs) =
    ap (λ (k : Creating). map keyed_data (take i xs) ++ keyed_data k ∷ []) x_is ∙ sym (map-append keyed_data (take i xs) (get_or xs i x ∷ []))
    ∙ ap (map keyed_data) (sym (take_more xs i x within)) in
    let here : ArePlaced left (map keyed_data (take i xs)) ready waiting = subst (λ (cs : Keyed). ArePlaced cs (map keyed_data (take i xs)) ready waiting) (sym left_is) are in
    let placed_then : ArePlaced left (map keyed_data (take (i + 1) xs)) ready_then waiting_then =
    subst (λ (cs : Keyed). ArePlaced left cs ready_then waiting_then) more (step (map keyed_data (take i xs)) here) in
    subst (λ (cs : Keyed). ArePlaced cs (map keyed_data (take (i + 1) xs)) ready_then waiting_then) left_is placed_then

-- all are
pub all_placed : (xs ys : List Creating) (i : ℕ) (ready : List (List ℕ)) (waiting : List ℕ → List (List ℕ)) → length xs ≤ i → xs ≡ ys
    → ArePlaced (map keyed_data xs) (map keyed_data (take i xs)) ready waiting → ArePending (map keyed_data ys) ready waiting
all_placed xs ys i ready waiting past same are =
    subst (λ (l : List Creating). ArePending (map keyed_data l) ready waiting) same
    (subst (λ (l : List Creating). ArePlaced (map keyed_data xs) (map keyed_data l) ready waiting) (take_all i xs past) are)
