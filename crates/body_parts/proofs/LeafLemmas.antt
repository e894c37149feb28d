-- The leaves of a message have their numbers as places, and the body lists have no other leaves.
use Rattle.std.proofs.Common.{◌≡◌, ℕ, zero, suc, ◌+◌, ◌⊎◌, inl, inr, Bool, true, false, List, [], ◌∷◌, ◌++◌, refl, sym, ap, ◌∙◌, subst, arith, Option, Some, None, if◌then◌else◌}
use Rattle.std.proofs.Common.{not}
use Rattle.std.specs.Prelude.{slice_get, is_some, unwrap_or, ◌&&◌}
use Rattle.std.proofs.lemmas.List.{append-nil}
use Rattle.mime_tree.specs.declared.head.Head.{Head}
use Rattle.mime_tree.specs.declared.part.Part.{Part}
use Rattle.mime_tree.specs.declared.roles.Walk.{Walk}
use Rattle.mime_tree.specs.declared.split.Piece.{Piece}
use Rattle.mime_tree.specs.BodyLists as body
use Rattle.mime_tree.specs.BodyLists.{PartLists, wanted_part, or_else, shared, spread, into, meeting, Walks, End, Multi, Leaf}
use Rattle.mime_tree.specs.Heads.{default_in}
use Rattle.mime_tree.specs.Parts.{children, part_number}
use Rattle.mime_tree.specs.Roles.{is_leaf, leaf_number, is_inline, is_alternative, is_plain_part, is_html}
use Rattle.mime_tree.specs.Trees.{TreeWord, IsLeaf, IsNode, AreTrees, IsPartOf, IsTree, IsMessage}
use Rattle.body_parts.specs.Leaves as leaves
use Rattle.body_parts.specs.Leaves.{AreLeaves}

-- ---- leaves by cases on the parts

pub record FirstLeaf (p : Part) (ps ls : List Part) : Type 0 where
  pub leaf : is_leaf p ≡ true
  pub behind : List Part
  pub are_behind : AreLeaves ps behind
  pub is : ls ≡ p ∷ behind

pub record FirstMulti (p : Part) (ps ls : List Part) : Type 0 where
  pub no_leaf : is_leaf p ≡ false
  pub inner : List Part
  pub behind : List Part
  pub are_inner : AreLeaves (children p) inner
  pub are_behind : AreLeaves ps behind
  pub is : ls ≡ inner ++ behind

abbrev pub Cases : List Part → List Part → Type 0
Cases [] ls = ls ≡ []
Cases (p ∷ ps) ls = FirstLeaf p ps ls ⊎ FirstMulti p ps ls

-- the leaves of parts, by whether there is a first part, and whether it is a leaf
pub cases : (ps ls : List Part) → AreLeaves ps ls → Cases ps ls
cases _ _ leaves.End = refl
cases _ _ (leaves.Leaf p ps behind leaf rest) = inl (record { leaf = leaf; behind = behind; are_behind = rest; is = refl })
cases _ _ (leaves.Multi p ps x kids rest) = inr (record { no_leaf = x.no_leaf; inner = x.inner; behind = x.behind; are_inner = kids; are_behind = rest; is = refl })

-- ---- numbers

-- the parts have the numbers from f on, up to before n
abbrev pub AreFrom : ℕ → List Part → ℕ → Type 0
AreFrom f [] n = n ≡ f
AreFrom f (p ∷ ps) n = (part_number p ≡ Some f) × AreFrom (f + 1) ps n

from_both : (f m n : ℕ) (ps qs : List Part) → AreFrom f ps m → AreFrom m qs n → AreFrom f (ps ++ qs) n
from_both f m n [] qs g h = subst (λ (k : ℕ). AreFrom k qs n) g h
from_both f m n (p ∷ ps) qs g h = (g.0, from_both (f + 1) m n ps qs g.1 h)

abbrev LeavesFrom : TreeWord → Type 0
LeavesFrom T = (s e : ℕ) (d : List ℕ) (f : ℕ) (p : Part) (n : ℕ) → T s e d f p n → (ls : List Part) → AreLeaves (p ∷ []) ls → AreFrom f ls n

trees_from : (T : TreeWord) → LeavesFrom T → (base : ℕ) (d : List ℕ) (qs : List Piece) (f : ℕ) (cs : List Part) (n : ℕ) → AreTrees T base d qs f cs n → (ls : List Part)
    → AreLeaves cs ls → AreFrom f ls n
trees_from T each base d [] f [] n t ls a = subst (λ (u : List Part). AreFrom f u n) (sym (cases [] ls a)) t
trees_from T each base d [] f (c ∷ cs) n t ls a = absurd t
trees_from T each base d (q ∷ qs) f [] n t ls a = absurd t
trees_from T each base d (q ∷ qs) f (c ∷ cs) n t ls a = by (cases (c ∷ cs) ls a) (λ behind r. trees_from T each base d qs t.0 cs n t.2 behind r)
  where
    one : (kids : List Part) → AreLeaves (c ∷ []) kids → AreFrom f kids t.0
    one kids k = each (base + q.start) (base + q.end) d f c t.0 t.1 kids k

    by : FirstLeaf c cs ls ⊎ FirstMulti c cs ls → ((behind : List Part) → AreLeaves cs behind → AreFrom t.0 behind n) → AreFrom f ls n
    by (inl w) more = subst (λ (u : List Part). AreFrom f u n) (sym w.is)
        (from_both f t.0 n (c ∷ []) w.behind (one (c ∷ []) (leaves.Leaf c [] [] w.leaf leaves.End)) (more w.behind w.are_behind))
    by (inr w) more =
        let k = one (w.inner ++ []) (leaves.Multi c [] (record { no_leaf = w.no_leaf; inner = w.inner; behind = [] }) w.are_inner leaves.End) in
        subst (λ (u : List Part). AreFrom f u n) (sym w.is) (from_both f t.0 n w.inner w.behind (subst (λ (u : List Part). AreFrom f u t.0) (append-nil w.inner) k)
        (more w.behind w.are_behind))

leaf_from : (h : Head) (f : ℕ) (p : Part) (n : ℕ) → IsLeaf h f p n → (ls : List Part) → AreLeaves (p ∷ []) ls → AreFrom f ls n
leaf_from h f p n l ls a = by (cases (p ∷ []) ls a)
  where
    by : FirstLeaf p [] ls ⊎ FirstMulti p [] ls → AreFrom f ls n
    by (inl w) = subst (λ (u : List Part). AreFrom f u n) (sym (w.is ∙ ap (λ (u : List Part). p ∷ u) (cases [] w.behind w.are_behind))) (l.number, l.next_is)
    by (inr w) = absurd (let e = sym w.no_leaf ∙ ap is_some l.number in cc)

node_from : (more : ℕ) (b : List ℕ) → LeavesFrom (IsTree more b) → (h : Head) (qs : List Piece) (f : ℕ) (p : Part) (n : ℕ) → IsNode h p
    → AreTrees (IsTree more b) h.body (default_in h.media) qs f (children p) n → (ls : List Part) → AreLeaves (p ∷ []) ls → AreFrom f ls n
node_from more b each h qs f p n i t ls a = by (cases (p ∷ []) ls a)
  where
    by : FirstLeaf p [] ls ⊎ FirstMulti p [] ls → AreFrom f ls n
    by (inl w) = absurd (let e = sym w.leaf ∙ ap is_some i.number in cc)
    by (inr w) =
        let e = w.is ∙ ap (λ (u : List Part). w.inner ++ u) (cases [] w.behind w.are_behind) ∙ append-nil w.inner in
        subst (λ (u : List Part). AreFrom f u n) (sym e) (trees_from (IsTree more b) each h.body (default_in h.media) qs f (children p) n t w.inner w.are_inner)

part_from : (more : ℕ) (b : List ℕ) → LeavesFrom (IsTree more b) → (h : Head) (qs : Option (List Piece)) (f : ℕ) (p : Part) (n : ℕ) → IsPartOf (IsTree more b) h qs f p n
    → (ls : List Part) → AreLeaves (p ∷ []) ls → AreFrom f ls n
part_from more b each h None f p n k ls a = leaf_from h f p n k ls a
part_from more b each h (Some qs) f p n k ls a = node_from more b each h qs f p n k.0 k.1 ls a

tree_from : (more : ℕ) (b : List ℕ) → LeavesFrom (IsTree more b)
unfolding IsTree
tree_from zero b s e d f p n t ls a = leaf_from t.0 f p n t.2 ls a
tree_from (suc more) b s e d f p n t ls a = part_from more b (tree_from more b) t.0 t.2 f p n t.4 ls a

-- the leaves of a message have the numbers from 1 on, in their order
pub message_from : (b : List ℕ) (p : Part) (h : IsMessage b p) (ls : List Part) → AreLeaves (p ∷ []) ls → AreFrom 1 ls h.next
message_from b p h ls a = tree_from h.levels b 0 _ _ 1 p h.next h.tree ls a

-- ---- places

abbrev pub IsIn : Part → List Part → Type 0
IsIn p [] = ⊥
IsIn p (q ∷ qs) = (q ≡ p) ⊎ IsIn p qs

pub record Place (f : ℕ) (ls : List Part) (p : Part) : Type 0 where
  pub at : ℕ
  pub there : slice_get ls at ≡ Some p
  pub number : leaf_number p ≡ f + at

-- a part among leaves numbered from f on stands at the place that is its number less f
pub place : (f : ℕ) (ls : List Part) (n : ℕ) → AreFrom f ls n → (p : Part) → IsIn p ls → Place f ls p
place f [] n h p i = absurd i
place f (q ∷ ls) n h p (inl e) =
    let k = ap leaf_number (sym e) ∙ ap (λ (o : Option ℕ). unwrap_or o 0) h.0 in
    record { at = zero; there = ap (λ (x : Part). Some x) e; number = omega arith }
place f (q ∷ ls) n h p (inr i) = let w = place (f + 1) ls n h.1 p i in record { at = suc w.at; there = w.there; number = omega (arith, w.number) }

-- ---- the parts of body lists are leaves

abbrev pub AllIn : List Part → List Part → Type 0
AllIn [] ls = Unit {0}
AllIn (p ∷ ps) ls = IsIn p ls × AllIn ps ls

in_left : (p : Part) (a c : List Part) → IsIn p a → IsIn p (a ++ c)
in_left p [] c i = absurd i
in_left p (q ∷ a) c (inl e) = inl e
in_left p (q ∷ a) c (inr i) = inr (in_left p a c i)

in_right : (p : Part) (a c : List Part) → IsIn p c → IsIn p (a ++ c)
in_right p [] c i = i
in_right p (q ∷ a) c i = inr (in_right p a c i)

all_left : (ps a c : List Part) → AllIn ps a → AllIn ps (a ++ c)
all_left [] a c h = tt
all_left (p ∷ ps) a c h = (in_left p a c h.0, all_left ps a c h.1)

all_right : (ps a c : List Part) → AllIn ps c → AllIn ps (a ++ c)
all_right [] a c h = tt
all_right (p ∷ ps) a c h = (in_right p a c h.0, all_right ps a c h.1)

all_both : (ps qs ls : List Part) → AllIn ps ls → AllIn qs ls → AllIn (ps ++ qs) ls
all_both [] qs ls g h = h
all_both (p ∷ ps) qs ls g h = (g.0, all_both ps qs ls g.1 h)

all_or_else : (ps qs ls : List Part) → AllIn ps ls → AllIn qs ls → AllIn (or_else ps qs) ls
all_or_else [] qs ls g h = h
all_or_else (p ∷ ps) qs ls g h = g

all_alone : (wanted : Bool) (p : Part) (ls : List Part) → IsIn p ls → AllIn (wanted_part wanted p) ls
all_alone true p ls i = (i, tt)
all_alone false p ls i = tt

pub record Inside (a : PartLists) (ls : List Part) : Type 0 where
  pub text : AllIn a.text ls
  pub html : AllIn a.html ls
  pub attachments : AllIn a.attachments ls

inside_if : (t : Bool) (x y : PartLists) (ls : List Part) → Inside x ls → Inside y ls → Inside (if t then x else y) ls
inside_if true x y ls g h = g
inside_if false x y ls g h = h

inside_both : (x y : PartLists) (a c : List Part) → Inside x a → Inside y c → Inside (body.both x y) (a ++ c)
inside_both x y a c g h = record {
  text = all_both x.text y.text (a ++ c) (all_left x.text a c g.text) (all_right y.text a c h.text);
  html = all_both x.html y.html (a ++ c) (all_left x.html a c g.html) (all_right y.html a c h.html);
  attachments = all_both x.attachments y.attachments (a ++ c) (all_left x.attachments a c g.attachments) (all_right y.attachments a c h.attachments);
}

inside_spread : (inner : Walk) (x : PartLists) (ls : List Part) → Inside x ls → Inside (spread inner x) ls
inside_spread inner x ls g = inside_if _ (shared x) x ls (record {
  text = all_or_else x.text x.html ls g.text g.html;
  html = all_or_else x.html x.text ls g.html g.text;
  attachments = g.attachments;
}) g

inside_leaf : (walk : Walk) (inline : Bool) (p : Part) (ls : List Part) → IsIn p ls → Inside (body.lists_of walk inline p) ls
inside_leaf walk inline p ls i =
    let attached : Inside (body.to_attachments p) ls = record { text = tt; html = tt; attachments = (i, tt) } in
    let as_text : Inside (body.to_text p) ls = record { text = (i, tt); html = tt; attachments = tt } in
    let as_html : Inside (body.to_html p) ls = record { text = tt; html = (i, tt); attachments = tt } in
    let in_open : Inside (body.to_open_lists walk p) ls = record { text = all_alone walk.text p ls i; html = all_alone walk.html p ls i; attachments = all_alone _ p ls i } in
    inside_if (not inline) _ _ ls attached
    (inside_if (is_alternative walk.multipart) _ _ ls
    (inside_if (walk.text && is_plain_part p) _ _ ls as_text (inside_if (walk.html && is_html p) _ _ ls as_html attached))
    in_open)

-- what a walk adds is among the leaves of the parts that it walks
pub walk_inside : (walk : Walk) (ps : List Part) (a : PartLists) → Walks walk ps a → (ls : List Part) → AreLeaves ps ls → Inside a ls
walk_inside _ _ _ (End walk) ls h = record { text = tt; html = tt; attachments = tt }
walk_inside _ _ _ (Multi walk p ps x kids rest) ls h =
    by (cases (p ∷ ps) ls h) (λ below k. walk_inside (into walk p) (children p) x.inner kids below k) (λ later k. walk_inside _ ps x.behind rest later k)
  where
    by : FirstLeaf p ps ls ⊎ FirstMulti p ps ls → ((below : List Part) → AreLeaves (children p) below → Inside x.inner below)
        → ((later : List Part) → AreLeaves ps later → Inside x.behind later) → Inside (body.both (spread (into walk p) x.inner) x.behind) ls
    by (inl w) g k = absurd (let e = sym x.no_leaf ∙ w.leaf in cc)
    by (inr w) g k = subst (λ (u : List Part). Inside (body.both (spread (into walk p) x.inner) x.behind) u) (sym w.is)
        (inside_both _ x.behind w.inner w.behind (inside_spread (into walk p) x.inner w.inner (g w.inner w.are_inner)) (k w.behind w.are_behind))
walk_inside _ _ _ (Leaf walk p ps behind leaf rest) ls h =
    by (cases (p ∷ ps) ls h) (λ later k. walk_inside _ ps behind rest later k)
  where
    by : FirstLeaf p ps ls ⊎ FirstMulti p ps ls → ((later : List Part) → AreLeaves ps later → Inside behind later) → Inside (body.both (body.leaf_lists walk p) behind) ls
    by (inl w) k = subst (λ (u : List Part). Inside (body.both (body.leaf_lists walk p) behind) u) (sym w.is)
        (inside_both _ behind (p ∷ []) w.behind (inside_leaf (meeting walk p) (is_inline walk p) p (p ∷ []) (inl refl)) (k w.behind w.are_behind))
    by (inr w) k = absurd (let e = sym w.no_leaf ∙ leaf in cc)
