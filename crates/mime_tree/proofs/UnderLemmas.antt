-- Parts under a part: where they stand, and their numbers.
use Rattle.std.proofs.Common.{◌≡◌, ℕ, zero, suc, ◌+◌, ◌<◌, ◌≤◌, ◌⊎◌, inl, inr, List, [], ◌∷◌, length, refl, sym, ap, subst, ◌∙◌, arith, Option, Some, None}
use Rattle.std.specs.Prelude.{slice_range, Contains}
use Rattle.mime_tree.specs.declared.head.Head.{Head}
use Rattle.mime_tree.specs.declared.split.Piece.{Piece}
use Rattle.mime_tree.specs.declared.part.Part.{Part}
use Rattle.mime_tree.specs.Parts.{children, part_number, IsUnder, Itself, Below, IsWithin}
use Rattle.mime_tree.specs.Splits.{AreBehind}
use Rattle.mime_tree.specs.Heads.{IsHead, boundary_of, default_in}
use Rattle.mime_tree.specs.Trees.{HasHead, IsLeaf, IsNode, AreTrees, ArePieces, IsPartOf, IsTree}
use Rattle.mime_tree.proofs.TreeLemmas.{body_within, behind_end}
use Rattle.mime_tree.proofs.BehindLemmas.{split_behind}
use Rattle.mime_tree.proofs.HeadLemmas.{range_len}
use Rattle.std.proofs.lemmas.Bool.{cases_lt}

-- q stands under one of the parts
pub record UnderOne (q : Part) (cs : List Part) : Type 0 where
  pub child : Part
  pub is_there : Contains cs child
  pub under : IsUnder q child

-- what is in a list is in it with one part more in front
pub later : (c : Part) (cs : List Part) (x : Part) → Contains cs x → Contains (c ∷ cs) x
later c cs x h = (suc h.0, omega (arith, h.1), h.2)

-- the first part of a list is in it
pub here : (c : Part) (cs : List Part) → Contains (c ∷ cs) c
here c cs = (zero, omega arith, refl)

contains_cases : (c : Part) (cs : List Part) (x : Part) → Contains (c ∷ cs) x → (c ≡ x) ⊎ Contains cs x
contains_cases c cs x (zero, lt, e) = inl e
contains_cases c cs x (suc k, lt, e) = inr (k, omega arith, e)

-- what stands under one of the parts stands under the first, or under one of the others
pub under_first : (q c : Part) (cs : List Part) → UnderOne q (c ∷ cs) → IsUnder q c ⊎ UnderOne q cs
under_first q c cs h = by (contains_cases c cs h.child h.is_there)
  where
    by : (c ≡ h.child) ⊎ Contains cs h.child → IsUnder q c ⊎ UnderOne q cs
    by (inl e) = let P : Part → Type 0 = λ x. IsUnder q x in inl (subst P (sym e) h.under)
    by (inr i) = inr (record { child = h.child; is_there = i; under = h.under })

-- nothing stands under one of no parts
pub none_under : (q : Part) → UnderOne q [] → ⊥
none_under q h = omega (arith, h.is_there.1)

-- what is under a part is the part, or under one directly in it
pub itself_or_below : (q p : Part) → IsUnder q p → (q ≡ p) ⊎ UnderOne q (children p)
itself_or_below q _ Itself = inl refl
itself_or_below q _ (Below p c i u) = inr (record { child = c; is_there = i; under = u })

-- under a part with no parts in it stands only the part itself
pub under_leaf : (q p : Part) → children p ≡ [] → IsUnder q p → q ≡ p
under_leaf q p e u = by (itself_or_below q p u)
  where
    by : (q ≡ p) ⊎ UnderOne q (children p) → q ≡ p
    by (inl i) = i
    by (inr h) = let P : List Part → Type 0 = λ cs. UnderOne q cs in absurd (none_under q (subst P e h))

under_node : (q p : Part) (n : ℕ) → part_number p ≡ None → part_number q ≡ Some n → IsUnder q p → UnderOne q (children p)
under_node q p n e f u = by (itself_or_below q p u)
  where
    by : (q ≡ p) ⊎ UnderOne q (children p) → UnderOne q (children p)
    by (inl i) = let w = sym f ∙ ap (λ (x : Part). part_number x) i ∙ e in absurd cc
    by (inr h) = h

-- ---- places

within_by : (b : List ℕ) (s e : ℕ) (d : List ℕ) (h : Head) (p : Part) → s ≤ e → e ≤ length b → IsHead b s e d h → HasHead h p → IsWithin p b
within_by b s e d h p le n i j =
    let w = body_within b s e d h le i in
    let start = i.start_is in
    let p_head_start = j.head_start in
    let p_head_end = j.head_end in
    let p_start = j.start in
    let p_end = j.end in
    record {
      head = omega (arith, w.from);
      body_follows = j.head_end ∙ sym j.start;
      body = omega (arith, w.ordered);
      within = omega (arith, w.end);
    }

abbrev AllWithinBy : ℕ → List ℕ → Type 0
AllWithinBy more b = (s e : ℕ) (d : List ℕ) (f : ℕ) (p : Part) (n : ℕ) → s ≤ e → e ≤ length b → IsTree more b s e d f p n → (q : Part) → IsUnder q p → IsWithin q b

trees_within : (more : ℕ) (b : List ℕ) → AllWithinBy more b → (base : ℕ) (d : List ℕ) (qs : List Piece) (f : ℕ) (cs : List Part) (n at size : ℕ)
    → AreTrees (IsTree more b) base d qs f cs n → AreBehind at qs size → base + size ≤ length b → (q : Part) → UnderOne q cs → IsWithin q b
trees_within more b all base d [] f [] n at size t h le q u = absurd (none_under q u)
trees_within more b all base d [] f (c ∷ cs) n at size t h le q u = absurd t
trees_within more b all base d (x ∷ qs) f [] n at size t h le q u = absurd t
trees_within more b all base d (x ∷ qs) f (c ∷ cs) n at size t h le q u = by (under_first q c cs u) (λ i. trees_within more b all base d qs t.0 cs n x.end size t.2 h.2 le q i)
  where
    by : IsUnder q c ⊎ UnderOne q cs → (UnderOne q cs → IsWithin q b) → IsWithin q b
    by (inl i) more_within = let w = behind_end x.end size qs h.2 in all (base + x.start) (base + x.end) d f c t.0 (omega (arith, h.1)) (omega (arith, w)) t.1 q i
    by (inr i) more_within = more_within i

part_within : (more : ℕ) (b : List ℕ) → AllWithinBy more b → (s e : ℕ) (d : List ℕ) (h : Head) (qs : Option (List Piece)) (f : ℕ) (p : Part) (n : ℕ) → s ≤ e → e ≤ length b
    → IsHead b s e d h → ArePieces (boundary_of h) (slice_range b h.body h.end) qs → IsPartOf (IsTree more b) h qs f p n → (q : Part) → IsUnder q p → IsWithin q b
part_within more b all s e d h None f p n le w i j k q u =
    let P : Part → Type 0 = λ x. IsWithin x b in
    subst P (sym (under_leaf q p k.children u)) (within_by b s e d h p le w i k.head)
part_within more b all s e d h (Some qs) f p n le w i j k q u = by (itself_or_below q p u)
  where
    behind : (y : Option (List ℕ)) → ArePieces y (slice_range b h.body h.end) (Some qs) → AreBehind 0 qs (length (slice_range b h.body h.end))
    behind None a = absurd cc
    behind (Some y) a = split_behind (slice_range b h.body h.end) y qs a

    by : (q ≡ p) ⊎ UnderOne q (children p) → IsWithin q b
    by (inl x) = let P : Part → Type 0 = λ y. IsWithin y b in subst P (sym x) (within_by b s e d h p le w i k.0.head)
    by (inr x) =
        let v = body_within b s e d h le i in
        let r = range_len b h.body h.end in
        trees_within more b all h.body (default_in h.media) qs f (children p) n 0 (length (slice_range b h.body h.end)) k.1 (behind (boundary_of h) j)
        (omega (arith, v.ordered, v.end)) q x

-- each part of a tree lies within the octets
pub tree_within : (more : ℕ) (b : List ℕ) → AllWithinBy more b
unfolding IsTree
tree_within zero b s e d f p n le w t q u =
    let P : Part → Type 0 = λ x. IsWithin x b in
    subst P (sym (under_leaf q p t.2.children u)) (within_by b s e d t.0 p le w t.1 t.2.head)
tree_within (suc more) b s e d f p n le w t q u = part_within more b (tree_within more b) s e d t.0 t.2 f p n le w t.1 t.3 t.4 q u

-- ---- numbers

-- the numbers of the leaves under these parts are those from f to before n, each once
pub record Numbered (Under : Part → Type 0) (f n : ℕ) : Type 0 where
  pub ordered : f ≤ n
  pub between : (q : Part) (k : ℕ) → Under q → part_number q ≡ Some k → (f ≤ k) × (k < n)
  pub one : (q r : Part) (k : ℕ) → Under q → Under r → part_number q ≡ Some k → part_number r ≡ Some k → q ≡ r
  pub all : (k : ℕ) → f ≤ k → k < n → (q : Part) × Under q × (part_number q ≡ Some k)

abbrev IsNumbered : ℕ → List ℕ → Type 0
IsNumbered more b = (s e : ℕ) (d : List ℕ) (f : ℕ) (p : Part) (n : ℕ) → IsTree more b s e d f p n → Numbered (λ q. IsUnder q p) f n

none_numbered : (f n : ℕ) → n ≡ f → Numbered (λ q. UnderOne q []) f n
none_numbered f n e = record {
  ordered = omega arith;
  between = λ q k u i. absurd (none_under q u);
  one = λ q r k u v i j. absurd (none_under q u);
  all = λ k a b. absurd (omega arith);
}

-- those under the first part have the lower numbers
more_numbered : (c : Part) (cs : List Part) (f m n : ℕ) → Numbered (λ q. IsUnder q c) f m → Numbered (λ q. UnderOne q cs) m n → Numbered (λ q. UnderOne q (c ∷ cs)) f n
more_numbered c cs f m n g h = record {
  ordered = omega (arith, g.ordered, h.ordered);
  between = λ q k u i. between q k i (under_first q c cs u);
  one = λ q r k u v i j. one q r k i j (under_first q c cs u) (under_first r c cs v);
  all = λ k a b. all k a b (cases k);
}
  where
    between : (q : Part) (k : ℕ) → part_number q ≡ Some k → IsUnder q c ⊎ UnderOne q cs → (f ≤ k) × (k < n)
    between q k i (inl u) = let w = g.between q k u i in (w.0, omega (arith, w.1, h.ordered))
    between q k i (inr u) = let w = h.between q k u i in (omega (arith, w.0, g.ordered), w.1)

    one : (q r : Part) (k : ℕ) → part_number q ≡ Some k → part_number r ≡ Some k → IsUnder q c ⊎ UnderOne q cs → IsUnder r c ⊎ UnderOne r cs → q ≡ r
    one q r k i j (inl u) (inl v) = g.one q r k u v i j
    one q r k i j (inr u) (inr v) = h.one q r k u v i j
    one q r k i j (inl u) (inr v) = let x = g.between q k u i in let y = h.between r k v j in absurd (omega (arith, x.1, y.0))
    one q r k i j (inr u) (inl v) = let x = h.between q k u i in let y = g.between r k v j in absurd (omega (arith, x.0, y.1))

    cases : (k : ℕ) → (k < m) ⊎ (m ≤ k)
    cases k = cases_lt k m

    all : (k : ℕ) → f ≤ k → k < n → (k < m) ⊎ (m ≤ k) → (q : Part) × UnderOne q (c ∷ cs) × (part_number q ≡ Some k)
    all k a b (inl l) = let w = g.all k a l in (w.0, record { child = c; is_there = here c cs; under = w.1 }, w.2)
    all k a b (inr l) = let w = h.all k l b in (w.0, record { child = w.1.child; is_there = later c cs w.1.child w.1.is_there; under = w.1.under }, w.2)

trees_numbered : (more : ℕ) (b : List ℕ) → IsNumbered more b → (base : ℕ) (d : List ℕ) (qs : List Piece) (f : ℕ) (cs : List Part) (n : ℕ)
    → AreTrees (IsTree more b) base d qs f cs n → Numbered (λ q. UnderOne q cs) f n
trees_numbered more b each base d [] f [] n t = none_numbered f n t
trees_numbered more b each base d [] f (c ∷ cs) n t = absurd t
trees_numbered more b each base d (x ∷ qs) f [] n t = absurd t
trees_numbered more b each base d (x ∷ qs) f (c ∷ cs) n t = more_numbered c cs f t.0 n (each (base + x.start) (base + x.end) d f c t.0 t.1)
    (trees_numbered more b each base d qs t.0 cs n t.2)

leaf_numbered : (h : Head) (f : ℕ) (p : Part) (n : ℕ) → IsLeaf h f p n → Numbered (λ q. IsUnder q p) f n
leaf_numbered h f p n l = record {
  ordered = omega (arith, l.next_is);
  between = λ q k u i. let e = number_is q k u i in (omega (arith, e), omega (arith, e, l.next_is));
  one = λ q r k u v i j. under_leaf q p l.children u ∙ sym (under_leaf r p l.children v);
  all = λ k a b. let e : k ≡ f = omega (arith, l.next_is) in (p, Itself, l.number ∙ ap (λ (x : ℕ). Some x) (sym e));
}
  where
    number_is : (q : Part) (k : ℕ) → IsUnder q p → part_number q ≡ Some k → f ≡ k
    number_is q k u i = let w = sym l.number ∙ ap (λ (x : Part). part_number x) (sym (under_leaf q p l.children u)) ∙ i in cc

node_numbered : (h : Head) (f : ℕ) (p : Part) (n : ℕ) → IsNode h p → Numbered (λ q. UnderOne q (children p)) f n → Numbered (λ q. IsUnder q p) f n
node_numbered h f p n i g = record {
  ordered = g.ordered;
  between = λ q k u j. g.between q k (under_node q p k i.number j u) j;
  one = λ q r k u v j l. g.one q r k (under_node q p k i.number j u) (under_node r p k i.number l v) j l;
  all = λ k a b. let w = g.all k a b in (w.0, Below p w.1.child w.1.is_there w.1.under, w.2);
}

part_numbered : (more : ℕ) (b : List ℕ) → IsNumbered more b → (h : Head) (qs : Option (List Piece)) (f : ℕ) (p : Part) (n : ℕ) → IsPartOf (IsTree more b) h qs f p n
    → Numbered (λ q. IsUnder q p) f n
part_numbered more b each h None f p n k = leaf_numbered h f p n k
part_numbered more b each h (Some qs) f p n k = node_numbered h f p n k.0 (trees_numbered more b each h.body (default_in h.media) qs f (children p) n k.1)

-- the leaves of a tree have the numbers from its first to before the next, each once
pub tree_numbered : (more : ℕ) (b : List ℕ) → IsNumbered more b
unfolding IsTree
tree_numbered zero b s e d f p n t = leaf_numbered t.0 f p n t.2
tree_numbered (suc more) b s e d f p n t = part_numbered more b (tree_numbered more b) t.0 t.2 f p n t.4
