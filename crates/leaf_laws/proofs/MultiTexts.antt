-- Multiparts that are written are found in the tree of the message, with their leaves.
use Rattle.std.proofs.Common.{◌≡◌, ◌≢◌, ℕ, zero, suc, ◌+◌, ◌-◌, ◌≤◌, Bool, true, false, List, [], ◌∷◌, ◌++◌, length, map, take, drop, refl, sym, ap, ◌∙◌, subst, arith, Option, Some, None}
use Rattle.std.specs.Prelude.{slice_range, unwrap_or}
use Rattle.std.specs.List.{list_all}
use Rattle.std.proofs.lemmas.Bool.{cond-true, cond-false}
use Rattle.std.proofs.lemmas.List.{drop-take, drop-drop, take-take}
use Rattle.mail_header.specs.Fields.{NameAndRaw, IsHeader}
use Rattle.mail_header.proofs.FieldLemmas.{one_header}
use Rattle.mime_fields.specs.declared.header.PartHeader.{PartHeader}
use Rattle.mime_fields.specs.PartHeaders.{IsPartHeader}
use Rattle.mime_fields.proofs.OneHeader.{one_part_header}
use Rattle.mime_tree.specs.declared.head.Head.{Head}
use Rattle.mime_tree.specs.declared.split.Piece.{Piece}
use Rattle.mime_tree.specs.declared.part.Part.{Part, out-Part}
use Rattle.mime_tree.specs.Parts.{children}
use Rattle.mime_tree.specs.Splits.{IsSplit}
use Rattle.mime_tree.specs.Heads.{IsHead, boundary_of, filled, is_multipart, is_digest, default_in, message_rfc822, text_plain}
use Rattle.mime_tree.specs.Trees.{IsNode, AreTrees, IsPartOf, ArePieces, IsTree}
use Rattle.mime_tree.proofs.OneSplit.{one_split}
use Rattle.mime_tree.proofs.HeadLemmas.{range_len, header_within}
use Rattle.message_lines.specs.Folding.{Field}
use Rattle.message_laws.specs.Headers.{read_field}
use Rattle.leaf_laws.specs.LeafReading.{GivenLeaf, IsLeafOf, AreLeavesOf, IsMultipartOf}
use Rattle.leaf_laws.proofs.LeafTexts.{range_behind, IsLeafText, leaf_read}
use Rattle.leaf_laws.proofs.SplitTexts.{is_no_lf, ClosesWith, AreApart, body_to, places, split_written, AreAt, parts_at}
use Rattle.leaf_laws.proofs.WrittenHeaders.{SaysMulti, SayMulti}

-- a range of a range
range_in : (b : List ℕ) (s e i j : ℕ) → i ≤ j → j ≤ e - s → slice_range (slice_range b s e) i j ≡ slice_range b (s + i) (s + j)
range_in b s e i j le w =
    let n : e - s ≡ i + (e - s - i) = omega (arith, le, w) in
    let k : s + j - (s + i) ≡ j - i = omega (arith, le) in
    ap (λ (m : ℕ). take (j - i) (drop i (take m (drop s b)))) n
    ∙ ap (take (j - i)) (drop-take i (e - s - i) (drop s b))
    ∙ take-take (j - i) (e - s - i) (drop i (drop s b)) (omega (arith, le, w))
    ∙ ap (take (j - i)) (drop-drop i s b)
    ∙ ap (λ (m : ℕ). take m (drop (s + i) b)) (sym k)

-- octets that are a multipart's: a header that says so, and parts
pub record IsMultiText (fs : List Field) (len : ℕ) (media : List ℕ) (c : ℕ) (y end x : List ℕ) (xs : List (List ℕ)) (t : List ℕ) : Type 0 where
  pub header : IsHeader (map read_field fs) len t
  pub say : SayMulti fs media c y
  pub body : drop len t ≡ body_to (c ∷ y) end (x ∷ xs)
  pub no_lf : list_all is_no_lf (c ∷ y) ≡ true
  pub closes : ClosesWith (c ∷ y) end
  pub apart : AreApart (c ∷ y) (x ∷ xs)

-- each part stands at its place behind an offset
abbrev pub StandAt : List ℕ → ℕ → List Piece → List (List ℕ) → Type 0
StandAt b base [] xs = xs ≡ []
StandAt b base (q ∷ qs) [] = ⊥
StandAt b base (q ∷ qs) (x ∷ xs) = (slice_range b (base + q.start) (base + q.end) ≡ x) × StandAt b base qs xs

-- the part is a multipart, and these texts are its parts'
pub record IsWrittenMulti (more : ℕ) (b : List ℕ) (first : ℕ) (media : List ℕ) (xs : List (List ℕ)) (p : Part) (next : ℕ) : Type 0 where
  pub multipart : IsMultipartOf media p
  pub base : ℕ
  pub pieces : List Piece
  pub stand : StandAt b base pieces xs
  pub trees : AreTrees (IsTree more b) base text_plain pieces first (children p) next

stand_at : (b body : List ℕ) (s e : ℕ) (qs : List Piece) (xs : List (List ℕ)) → slice_range b s e ≡ body → AreAt body qs xs → StandAt b s qs xs
stand_at b body s e [] xs h a = a
stand_at b body s e (q ∷ qs) [] h a = absurd a
stand_at b body s e (q ∷ qs) (x ∷ xs) h a = (by, stand_at b body s e qs xs h a.2)
  where
    wide : length body ≤ e - s
    wide = omega (arith, ap length h, range_len b s e)

    by : slice_range b (s + q.start) (s + q.end) ≡ x
    by = sym (range_in b s e q.start q.end a.3 (omega (arith, a.1, wide))) ∙ ap (λ (u : List ℕ). slice_range u q.start q.end) h ∙ a.0

pub multi_read : (more : ℕ) (b : List ℕ) (s e : ℕ) (default : List ℕ) (first : ℕ) (p : Part) (next : ℕ) (fs : List Field) (len : ℕ) (media : List ℕ) (c : ℕ)
    (y end x : List ℕ) (xs : List (List ℕ)) (t : List ℕ) → slice_range b s e ≡ t → IsMultiText fs len media c y end x xs t → IsTree (suc more) b s e default first p next
    → IsWrittenMulti more b first media (x ∷ xs) p next
unfolding IsTree
multi_read more b s e default first p next fs len media c y end x xs t at m r = record {
  multipart = record { number_is = node.0.number; media_is = node.0.media ∙ media_is };
  base = h.body;
  pieces = places (c ∷ y) 0 (x ∷ xs);
  stand = stand_at b body h.body h.end (places (c ∷ y) 0 (x ∷ xs)) (x ∷ xs) body_is (parts_at (c ∷ y) end [] body (x ∷ xs) 0 refl refl);
  trees = subst (λ (u : List ℕ). AreTrees (IsTree more b) h.body u (places (c ∷ y) 0 (x ∷ xs)) first (children p) next)
      (ap default_in media_is ∙ cond-false (is_digest media) message_rfc822 text_plain says.no_digest) node.1;
}
  where
    h : Head
    h = r.0

    ih : IsHead b s e default h
    ih = r.1

    body : List ℕ
    body = body_to (c ∷ y) end (x ∷ xs)

    here : IsHeader ih.fields ih.len t
    here = subst (λ (u : List ℕ). IsHeader ih.fields ih.len u) at ih.is_header

    same : (ih.fields ≡ map read_field fs) × (ih.len ≡ len)
    same = one_header ih.fields (map read_field fs) ih.len len t here m.header

    said : h.header ≡ m.say.header
    said = one_part_header (map read_field fs) h.header m.say.header (subst (λ (u : List NameAndRaw). IsPartHeader u h.header) same.0 ih.is_read) m.say.is

    says : SaysMulti h.header media c y
    says = subst (λ (u : PartHeader). SaysMulti u media c y) (sym said) m.say.says

    media_is : h.media ≡ media
    media_is = ih.media_is ∙ ap (λ (o : Option (List ℕ)). unwrap_or o default) says.media_is

    boundary : boundary_of h ≡ Some (c ∷ y)
    boundary = cond-true (is_multipart h.media) (filled h.header.boundary) None (ap is_multipart media_is ∙ says.multi) ∙ ap filled says.boundary

    body_is : slice_range b h.body h.end ≡ body
    body_is =
        ap (λ (i : ℕ). slice_range b i h.end) (ih.body_is ∙ ap (λ (n : ℕ). s + n) same.1)
        ∙ ap (λ (j : ℕ). slice_range b (s + len) j) ih.end_is
        ∙ range_behind b s e len t at (header_within (map read_field fs) len t m.header)
        ∙ m.body

    split : IsSplit body (c ∷ y) r.2
    split =
        subst (λ (u : List ℕ). IsSplit u (c ∷ y) r.2) body_is
        (subst (λ (o : Option (List ℕ)). ArePieces o (slice_range b h.body h.end) r.2) boundary r.3)

    pieces : r.2 ≡ Some (places (c ∷ y) 0 (x ∷ xs))
    pieces = one_split body (c ∷ y) r.2 (Some (places (c ∷ y) 0 (x ∷ xs))) split (split_written (c ∷ y) end x xs m.no_lf m.closes m.apart)

    node : IsNode h p × AreTrees (IsTree more b) h.body (default_in h.media) (places (c ∷ y) 0 (x ∷ xs)) first (children p) next
    node = subst (λ (u : Option (List Piece)). IsPartOf (IsTree more b) h u first p next) pieces r.4

-- ---- leaves in a multipart

pub record HasLeafText (w : GivenLeaf) (x : List ℕ) : Type 0 where
  pub fields : List Field
  pub len : ℕ
  pub is : IsLeafText fields len w x

abbrev pub HaveLeafTexts : List GivenLeaf → List (List ℕ) → Type 0
HaveLeafTexts [] [] = Unit {0}
HaveLeafTexts [] (x ∷ xs) = ⊥
HaveLeafTexts (w ∷ ws) [] = ⊥
HaveLeafTexts (w ∷ ws) (x ∷ xs) = HasLeafText w x × HaveLeafTexts ws xs

pub leaves_read : (more : ℕ) (b : List ℕ) (base : ℕ) (d : List ℕ) (qs : List Piece) (first : ℕ) (cs : List Part) (next : ℕ) (ws : List GivenLeaf) (xs : List (List ℕ))
    → AreTrees (IsTree (suc more) b) base d qs first cs next → StandAt b base qs xs → HaveLeafTexts ws xs → AreLeavesOf b first ws cs × (next ≡ first + length ws)
leaves_read more b base d [] first [] next [] xs t s l = (refl, omega (arith, t))
leaves_read more b base d [] first (c ∷ cs) next ws xs t s l = absurd t
leaves_read more b base d [] first [] next (w ∷ ws) xs t s l = absurd (subst (λ (u : List (List ℕ)). HaveLeafTexts (w ∷ ws) u) s l)
leaves_read more b base d (q ∷ qs) first cs next ws [] t s l = absurd s
leaves_read more b base d (q ∷ qs) first [] next ws (x ∷ xs) t s l = absurd t
leaves_read more b base d (q ∷ qs) first (c ∷ cs) next [] (x ∷ xs) t s l = absurd l
leaves_read more b base d (q ∷ qs) first (c ∷ cs) next (w ∷ ws) (x ∷ xs) t s l =
    let r = leaf_read more b (base + q.start) (base + q.end) d first c t.0 l.0.fields l.0.len w x s.0 l.0.is t.1 in
    let k = leaves_read more b base d qs (first + 1) cs next ws xs (subst (λ (n : ℕ). AreTrees (IsTree (suc more) b) base d qs n cs next) r.1 t.2) s.1 l.1 in
    ((r.0, k.0), omega (arith, k.1))
