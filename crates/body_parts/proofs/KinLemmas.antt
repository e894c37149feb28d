-- Leaves of trees that are the same, up to memory.
use Rattle.std.proofs.Common.{◌≡◌, ℕ, zero, suc, ◌⊎◌, inl, inr, List, [], ◌∷◌, ◌++◌, map, sym, ap, ◌∙◌, subst, arith, Some}
use Rattle.std.specs.Prelude.{slice_get, is_some}
use Rattle.mime_tree.specs.declared.part.Part.{Part, out-Part}
use Rattle.mime_tree.specs.Parts.{children}
use Rattle.mime_tree.specs.Roles.{leaf_number}
use Rattle.mime_tree.specs.SameTrees.{AllSame, SamePart, Same}
use Rattle.mime_tree.proofs.SameWalks.{below, same_below}
use Rattle.body_parts.specs.Leaves.{AreLeaves, End, Leaf, Multi}
use Rattle.body_parts.proofs.LeafLemmas.{FirstLeaf, FirstMulti, cases, AreFrom, AllIn, place}

-- the same but for what stands below
pub record Kin (p q : Part) : Type 0 where
  pub number : (out-Part p).number ≡ (out-Part q).number
  pub media : (out-Part p).media ≡ (out-Part q).media
  pub charset : (out-Part p).charset ≡ (out-Part q).charset
  pub disposition : (out-Part p).disposition ≡ (out-Part q).disposition
  pub name : (out-Part p).name ≡ (out-Part q).name
  pub cid : (out-Part p).cid ≡ (out-Part q).cid
  pub language : (out-Part p).language ≡ (out-Part q).language
  pub location : (out-Part p).location ≡ (out-Part q).location
  pub encoding : (out-Part p).encoding ≡ (out-Part q).encoding
  pub head_start : (out-Part p).head_start ≡ (out-Part q).head_start
  pub start : (out-Part p).start ≡ (out-Part q).start
  pub end : (out-Part p).end ≡ (out-Part q).end

kin_of : {S : Part → Part → Type 0} {p q : Part} → SamePart S p q → Kin p q
kin_of s = record {
  number = s.number;
  media = s.media;
  charset = s.charset;
  disposition = s.disposition;
  name = s.name;
  cid = s.cid;
  language = s.language;
  location = s.location;
  encoding = s.encoding;
  head_start = s.head_start;
  start = s.start;
  end = s.end;
}

kin : (more : ℕ) (p q : Part) → Same more p q → Kin p q
unfolding Same
kin zero p q s = kin_of s
kin (suc more) p q s = kin_of s

-- the same, with at most some number of levels below
abbrev pub Like : Part → Part → Type 0
Like p q = (more : ℕ) × Same more p q

pub kin_of_like : (p q : Part) → Like p q → Kin p q
kin_of_like p q (more, s) = kin more p q s

all_like : (more : ℕ) (ps qs : List Part) → AllSame (Same more) ps qs → AllSame Like ps qs
all_like more [] [] same = tt
all_like more [] (q ∷ qs) same = absurd same
all_like more (p ∷ ps) [] same = absurd same
all_like more (p ∷ ps) (q ∷ qs) same = ((more, same.0), all_like more ps qs same.1)

-- what stands below parts that are alike is alike
pub children_like : (p q : Part) → Like p q → AllSame Like (children p) (children q)
children_like p q (more, s) = all_like (below more) (children p) (children q) (same_below more p q s)

like_both : (a b c d : List Part) → AllSame Like a c → AllSame Like b d → AllSame Like (a ++ b) (c ++ d)
like_both [] b [] d none rest = rest
like_both [] b (q ∷ c) d none rest = absurd none
like_both (p ∷ a) b [] d none rest = absurd none
like_both (p ∷ a) b (q ∷ c) d (one, more) rest = (one, like_both a b c d more rest)

-- parts that are alike have leaves that are alike in turn
pub leaves_like : (ps qs ls ms : List Part) → AllSame Like ps qs → AreLeaves ps ls → AreLeaves qs ms → AllSame Like ls ms
leaves_like _ [] _ ms same End other = subst (λ (u : List Part). AllSame Like [] u) (sym (cases [] ms other)) tt
leaves_like _ (q ∷ qs) _ ms same End other = absurd same
leaves_like _ [] _ ms same (Leaf p ps behind leaf rest) other = absurd same
leaves_like _ [] _ ms same (Multi p ps x kids rest) other = absurd same
leaves_like _ (q ∷ qs) _ ms same (Leaf p ps behind leaf rest) other =
    by (cases (q ∷ qs) ms other) (λ later k. leaves_like ps qs behind later same.1 rest k)
  where
    by : FirstLeaf q qs ms ⊎ FirstMulti q qs ms → ((later : List Part) → AreLeaves qs later → AllSame Like behind later) → AllSame Like (p ∷ behind) ms
    by (inl w) k = subst (λ (u : List Part). AllSame Like (p ∷ behind) u) (sym w.is) (same.0, k w.behind w.are_behind)
    by (inr w) k = absurd (let e = sym leaf ∙ ap is_some (kin_of_like p q same.0).number ∙ w.no_leaf in cc)
leaves_like _ (q ∷ qs) _ ms same (Multi p ps x kids rest) other =
    by (cases (q ∷ qs) ms other) (λ within k. leaves_like (children p) (children q) x.inner within (children_like p q same.0) kids k)
    (λ later k. leaves_like ps qs x.behind later same.1 rest k)
  where
    by : FirstLeaf q qs ms ⊎ FirstMulti q qs ms → ((within : List Part) → AreLeaves (children q) within → AllSame Like x.inner within)
        → ((later : List Part) → AreLeaves qs later → AllSame Like x.behind later) → AllSame Like (x.inner ++ x.behind) ms
    by (inl w) g k = absurd (let e = sym x.no_leaf ∙ ap is_some (kin_of_like p q same.0).number ∙ w.leaf in cc)
    by (inr w) g k = subst (λ (u : List Part). AllSame Like (x.inner ++ x.behind) u) (sym w.is)
        (like_both x.inner x.behind w.inner w.behind (g w.inner w.are_inner) (k w.behind w.are_behind))

-- ---- leaves of the same numbers

like_at : (ls ms : List Part) → AllSame Like ls ms → (k : ℕ) (p q : Part) → slice_get ls k ≡ Some p → slice_get ms k ≡ Some q → Like p q
like_at [] ms same k p q e f = absurd cc
like_at (x ∷ ls) [] same k p q e f = absurd same
like_at (x ∷ ls) (y ∷ ms) same zero p q e f =
    let i : x ≡ p = cc in
    let j : y ≡ q = cc in
    subst (λ (u : Part). Like u q) i (subst (λ (u : Part). Like x u) j same.0)
like_at (x ∷ ls) (y ∷ ms) same (suc k) p q e f = like_at ls ms same.1 k p q e f

tail_of : {A : Type 0} → List A → List A
tail_of [] = []
tail_of (x ∷ xs) = xs

head_or : ℕ → List ℕ → ℕ
head_or d [] = d
head_or d (n ∷ ns) = n

-- of two lists of leaves that are alike and numbered from 1 on, those with equal numbers are alike
pub like_lists : (ls ms : List Part) (m n : ℕ) → AllSame Like ls ms → AreFrom 1 ls m → AreFrom 1 ms n → (ps qs : List Part) → map leaf_number ps ≡ map leaf_number qs → AllIn ps ls
    → AllIn qs ms → AllSame Like ps qs
unfolding tail_of head_or
like_lists ls ms m n same f g [] [] e i j = tt
like_lists ls ms m n same f g [] (q ∷ qs) e i j = absurd cc
like_lists ls ms m n same f g (p ∷ ps) [] e i j = absurd cc
like_lists ls ms m n same f g (p ∷ ps) (q ∷ qs) e i j =
    let a = place 1 ls m f p i.0 in
    let b = place 1 ms n g q j.0 in
    let number : leaf_number p ≡ leaf_number q = ap (head_or 0) e in
    let at : b.at ≡ a.at = omega (arith, a.number, b.number, number) in (
      like_at ls ms same a.at p q a.there (subst (λ (k : ℕ). slice_get ms k ≡ Some q) at b.there),
      like_lists ls ms m n same f g ps qs (ap tail_of e) i.1 j.1,
    )
