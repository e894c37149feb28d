-- Octets have one tree.
use Rattle.std.proofs.Common.{◌≡◌, ◌≤◌, ◌⊎◌, inl, inr, arith, ℕ, zero, suc, ◌+◌, List, [], ◌∷◌, sym, ap, subst, ◌∙◌, Option, Some, None}
use Rattle.std.specs.Prelude.{slice_range, unwrap_or, length}
use Rattle.mail_header.specs.Fields.{NameAndRaw}
use Rattle.mail_header.proofs.FieldLemmas as fields
use Rattle.mime_fields.specs.PartHeaders.{IsPartHeader}
use Rattle.mime_fields.specs.declared.header.PartHeader.{PartHeader}
use Rattle.mime_fields.proofs.OneHeader.{one_part_header}
use Rattle.mime_tree.specs.declared.head.Head.{Head}
use Rattle.mime_tree.specs.declared.split.Piece.{Piece}
use Rattle.mime_tree.specs.declared.part.Part.{Part, out-Part}
use Rattle.mime_tree.specs.declared.tree.TheConstants.{MAX_DEPTH, MAX_PARTS}
use Rattle.mime_tree.specs.Parts.{children, parts_within}
use Rattle.mime_tree.specs.Heads.{IsHead, boundary_of, default_in, text_plain}
use Rattle.mime_tree.specs.Trees.{TreeWord, HasHead, IsLeaf, AreTrees, ArePieces, IsPartOf, IsTree, HasTooManyParts, IsMessage}
use Rattle.mime_tree.specs.SameTrees.{AllSame, SamePart, NoPart, Same}
use Rattle.mime_tree.proofs.OneSplit.{one_split}

-- ---- one head

abbrev make : PartHeader → List ℕ → ℕ → ℕ → ℕ → Head
make header media start body end = record { header = header; media = media; start = start; body = body; end = end }

head_eq : (g h : Head) → g.header ≡ h.header → g.media ≡ h.media → g.start ≡ h.start → g.body ≡ h.body → g.end ≡ h.end → g ≡ h
head_eq g h header media start body end =
    ap (λ (x : PartHeader). make x g.media g.start g.body g.end) header
    ∙ ap (λ (x : List ℕ). make h.header x g.start g.body g.end) media
    ∙ ap (λ (x : ℕ). make h.header h.media x g.body g.end) start
    ∙ ap (λ (x : ℕ). make h.header h.media h.start x g.end) body
    ∙ ap (λ (x : ℕ). make h.header h.media h.start h.body x) end

-- octets have at most one head
pub one_head : (b : List ℕ) (s e : ℕ) (d : List ℕ) (g h : Head) → IsHead b s e d g → IsHead b s e d h → g ≡ h
one_head b s e d g h i j =
    let o = fields.one_header i.fields j.fields i.len j.len (slice_range b s e) i.is_header j.is_header in
    let P : List NameAndRaw → Type 0 = λ u. IsPartHeader u g.header in
    let header = one_part_header j.fields g.header h.header (subst P o.0 i.is_read) j.is_read in
    head_eq g h header
    (i.media_is ∙ ap (λ (x : PartHeader). unwrap_or x.media d) header ∙ sym j.media_is)
    (i.start_is ∙ sym j.start_is)
    (i.body_is ∙ ap (λ (n : ℕ). s + n) o.1 ∙ sym j.body_is)
    (i.end_is ∙ sym j.end_is)

-- ---- one part with a head

same_part : (S : Part → Part → Type 0) (h : Head) (p q : Part) → HasHead h p → HasHead h q → (out-Part p).number ≡ (out-Part q).number → (out-Part p).media ≡ (out-Part q).media
    → (out-Part p).charset ≡ (out-Part q).charset → AllSame S (children p) (children q) → SamePart S p q
same_part S h p q i j number media charset below = record {
  number = number;
  media = media;
  charset = charset;
  disposition = i.disposition ∙ sym j.disposition;
  name = i.name ∙ sym j.name;
  cid = i.cid ∙ sym j.cid;
  language = i.language ∙ sym j.language;
  location = i.location ∙ sym j.location;
  encoding = i.encoding ∙ sym j.encoding;
  head_start = i.head_start ∙ sym j.head_start;
  head_end = i.head_end ∙ sym j.head_end;
  start = i.start ∙ sym j.start;
  end = i.end ∙ sym j.end;
  children = below;
}

one_leaf : (S : Part → Part → Type 0) (h : Head) (f : ℕ) (p q : Part) (m n : ℕ) → IsLeaf h f p m → IsLeaf h f q n → (m ≡ n) × SamePart S p q
one_leaf S h f p q m n i j =
    let P : List Part → Type 0 = λ u. AllSame S u (children q) in
    let Q : List Part → Type 0 = λ u. AllSame S [] u in (
      i.next_is ∙ sym j.next_is,
      same_part S h p q i.head j.head (i.number ∙ sym j.number) (i.media ∙ sym j.media) (i.charset ∙ sym j.charset) (subst P (sym i.children) (subst Q (sym j.children) tt)),
    )

-- ---- one tree for each piece

One : TreeWord → (Part → Part → Type 0) → Type 0
One T S = (s e : ℕ) (d : List ℕ) (f : ℕ) (p q : Part) (m n : ℕ) → T s e d f p m → T s e d f q n → (m ≡ n) × S p q

one_trees : (T : TreeWord) (S : Part → Part → Type 0) → One T S → (base : ℕ) (d : List ℕ) (ps : List Piece) (f : ℕ) (cs ds : List Part) (m n : ℕ) → AreTrees T base d ps f cs m
    → AreTrees T base d ps f ds n → (m ≡ n) × AllSame S cs ds
unfolding One
one_trees T S o base d [] f [] [] m n g h = (g ∙ sym h, tt)
one_trees T S o base d [] f [] (x ∷ ds) m n g h = absurd h
one_trees T S o base d [] f (c ∷ cs) ds m n g h = absurd g
one_trees T S o base d (p ∷ ps) f [] ds m n g h = absurd g
one_trees T S o base d (p ∷ ps) f (c ∷ cs) [] m n g h = absurd h
one_trees T S o base d (p ∷ ps) f (c ∷ cs) (x ∷ ds) m n g h =
    let a = o (base + p.start) (base + p.end) d f c x g.0 h.0 g.1 h.1 in
    let P : ℕ → Type 0 = λ k. AreTrees T base d ps k ds n in
    let b = one_trees T S o base d ps g.0 cs ds m n g.2 (subst P (sym a.0) h.2) in
    (b.0, (a.1, b.1))

one_part : (T : TreeWord) (S : Part → Part → Type 0) → One T S → (h : Head) (qs : Option (List Piece)) (f : ℕ) (p q : Part) (m n : ℕ) → IsPartOf T h qs f p m
    → IsPartOf T h qs f q n → (m ≡ n) × SamePart S p q
one_part T S o h None f p q m n i j = one_leaf S h f p q m n i j
one_part T S o h (Some qs) f p q m n i j =
    let a = one_trees T S o h.body (default_in h.media) qs f (children p) (children q) m n i.1 j.1 in
    (a.0, same_part S h p q i.0.head j.0.head (i.0.number ∙ sym j.0.number) (i.0.media ∙ sym j.0.media) (i.0.charset ∙ sym j.0.charset) a.1)

-- a body has one list of pieces, or none
pub one_pieces : (y : Option (List ℕ)) (body : List ℕ) (r s : Option (List Piece)) → ArePieces y body r → ArePieces y body s → r ≡ s
one_pieces None body r s g h = g ∙ sym h
one_pieces (Some y) body r s g h = one_split body y r s g h

-- two trees of the same octets, numbered from the same number, are the same, and have the same number next
pub one_tree : (more : ℕ) (b : List ℕ) (s e : ℕ) (d : List ℕ) (f : ℕ) (p q : Part) (m n : ℕ) → IsTree more b s e d f p m → IsTree more b s e d f q n → (m ≡ n) × Same more p q
unfolding One IsTree Same
one_tree zero b s e d f p q m n g h =
    let L : Head → Type 0 = λ x. IsLeaf x f q n in
    one_leaf NoPart g.0 f p q m n g.2 (subst L (sym (one_head b s e d g.0 h.0 g.1 h.1)) h.2)
one_tree (suc more) b s e d f p q m n g h =
    let w = sym (one_head b s e d g.0 h.0 g.1 h.1) in
    let A : Head → Type 0 = λ x. ArePieces (boundary_of x) (slice_range b x.body x.end) h.2 in
    let B : Head → Type 0 = λ x. IsPartOf (IsTree more b) x h.2 f q n in
    let r = one_pieces (boundary_of g.0) (slice_range b g.0.body g.0.end) g.2 h.2 g.3 (subst A w h.3) in
    let C : Option (List Piece) → Type 0 = λ x. IsPartOf (IsTree more b) g.0 x f q n in
    one_part (IsTree more b) (Same more) (λ s e d f p q m n. one_tree more b s e d f p q m n) g.0 g.2 f p q m n g.4 (subst C (sym r) (subst B w h.4))

-- two leaves of the same octets are the same, whatever levels are allowed
leaf_same : (more : ℕ) (b : List ℕ) (s e : ℕ) (d : List ℕ) (f : ℕ) (p q : Part) (m n : ℕ) → IsTree zero b s e d f p m → IsTree zero b s e d f q n → Same (suc more) p q
unfolding IsTree Same
leaf_same more b s e d f p q m n g h =
    let L : Head → Type 0 = λ x. IsLeaf x f q n in
    (one_leaf (Same more) g.0 f p q m n g.2 (subst L (sym (one_head b s e d g.0 h.0 g.1 h.1)) h.2)).1

-- two parts that are the same message are the same
pub one_message : (b : List ℕ) (p q : Part) → IsMessage b p → IsMessage b q → Same MAX_DEPTH p q
one_message b p q g h = by g.bounded h.bounded
  where
    whole : (r : Part) (i : IsMessage b r) → i.levels ≡ MAX_DEPTH → IsTree MAX_DEPTH b 0 (length b) text_plain 1 r i.next
    whole r i e = let P : ℕ → Type 0 = λ l. IsTree l b 0 (length b) text_plain 1 r i.next in subst P e i.tree

    one : (r : Part) (i : IsMessage b r) → i.levels ≡ 0 → IsTree 0 b 0 (length b) text_plain 1 r i.next
    one r i e = let P : ℕ → Type 0 = λ l. IsTree l b 0 (length b) text_plain 1 r i.next in subst P e i.tree

    by : ((g.levels ≡ MAX_DEPTH) × (parts_within MAX_DEPTH p ≤ MAX_PARTS)) ⊎ ((g.levels ≡ 0) × HasTooManyParts b)
        → ((h.levels ≡ MAX_DEPTH) × (parts_within MAX_DEPTH q ≤ MAX_PARTS)) ⊎ ((h.levels ≡ 0) × HasTooManyParts b) → Same MAX_DEPTH p q
    by (inl x) (inl y) = (one_tree MAX_DEPTH b 0 (length b) text_plain 1 p q g.next h.next (whole p g x.0) (whole q h y.0)).1
    by (inl x) (inr y) = absurd (omega (arith, x.1, y.1 p g.next (whole p g x.0)))
    by (inr x) (inl y) = absurd (omega (arith, y.1, x.1 q h.next (whole q h y.0)))
    by (inr x) (inr y) = leaf_same 63 b 0 (length b) text_plain 1 p q g.next h.next (one p g x.0) (one q h y.0)
