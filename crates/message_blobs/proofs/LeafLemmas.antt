-- Numbers of leaves name one leaf's octets at most, whichever tree each message is read as.
use Rattle.std.proofs.Common.{arith, ◌≡◌, ◌≢◌, ℕ, zero, suc, ◌+◌, ◌<◌, ◌≤◌, Bool, List, [], ◌∷◌, ◌++◌, length, drop, get_or, Option, Some, None, Result, Ok, Err, refl, sym, ◌∙◌, subst}
use Rattle.std.specs.Prelude.{slice_range, Contains, IfOk, IfSome, IsSome, MatchOption}
use Rattle.std.proofs.lemmas.List.{drop_more}
use Rattle.std.proofs.Math.ListN.{drop_of_length-le}
use Rattle.header_words.specs.Transfer.{IsBody}
use Rattle.header_words.specs.declared.transfer.Encoding.{Encoding}
use Rattle.header_words.proofs.PrintableLemmas.{one_body}
use Rattle.mime_tree.specs.declared.part.Part.{Part, out-Part}
use Rattle.mime_tree.specs.declared.tree.TheConstants.{MAX_DEPTH}
use Rattle.mime_tree.specs.Bodies.{encoding_by, HasOctets}
use Rattle.mime_tree.specs.Heads.{text_plain}
use Rattle.mime_tree.specs.Parts.{children, part_number, IsUnder, IsWithin, Itself, Below}
use Rattle.mime_tree.specs.SameTrees.{AllSame, SamePart, Same}
use Rattle.mime_tree.specs.Trees.{IsMessage}
use Rattle.mime_tree.proofs.OneTree.{one_message}
use Rattle.mime_tree.proofs.SameWalks.{below, same_below}
use Rattle.mime_tree.proofs.UnderLemmas.{here, later, tree_numbered}
use Rattle.message_blobs.specs.NestedLeaves.{LeafSpells, NamesOctets}
use Rattle.message_blobs.specs.reading.ReadMessages.{IsTreeOf}

-- ---- the same leaf in two trees of a message

-- what tells the octets of a part
record Kin (p q : Part) : Type 0 where
  number : part_number p ≡ part_number q
  encoding : (out-Part p).encoding ≡ (out-Part q).encoding
  start : (out-Part p).start ≡ (out-Part q).start
  end : (out-Part p).end ≡ (out-Part q).end

kin_of : {S : Part → Part → Type 0} {p q : Part} → SamePart S p q → Kin p q
kin_of s = record { number = s.number; encoding = s.encoding; start = s.start; end = s.end }

kin : (more : ℕ) (p q : Part) → Same more p q → Kin p q
unfolding Same
kin zero p q s = kin_of s
kin (suc more) p q s = kin_of s

-- a part of one list has its twin in the other
twin_in : (S : Part → Part → Type 0) (cs ds : List Part) (c : Part) → AllSame S cs ds → Contains cs c → (d : Part) × Contains ds d × S c d
twin_in S [] ds c same there = absurd (omega (arith, there.1))
twin_in S (x ∷ cs) [] c same there = absurd same
twin_in S (x ∷ cs) (y ∷ ds) c same (zero, lt, e) = (y, here y ds, subst (λ (u : Part). S u y) e same.0)
twin_in S (x ∷ cs) (y ∷ ds) c same (suc k, lt, e) = let w = twin_in S cs ds c same.1 (k, omega arith, e) in (w.0, later y ds w.0 w.1, w.2)

-- a part under one tree has its kin under the other
kin_under : (r p : Part) → IsUnder r p → (more : ℕ) (q : Part) → Same more p q → (s : Part) × IsUnder s q × Kin r s
kin_under r _ Itself more q same = (q, Itself, kin more r q same)
kin_under r _ (Below p c there u) more q same =
    let d = twin_in (Same (below more)) (children p) (children q) c (same_below more p q same) there in
    let s = kin_under r c u (below more) d.0 d.2 in
    (s.0, Below q d.0 d.1 s.1, s.2)

-- kin spell the same octets
kin_octets : (p q : Part) (b s : List ℕ) (x : Bool) → Kin p q → HasOctets p b s x → HasOctets q b s x
kin_octets p q b s x k h =
    let coded : encoding_by (out-Part p).number (out-Part p).encoding ≡ encoding_by (out-Part q).number (out-Part q).encoding =
    λ i. encoding_by (k.number i) (k.encoding i) in
    let body : slice_range b (out-Part p).start (out-Part p).end ≡ slice_range b (out-Part q).start (out-Part q).end = λ i. slice_range b (k.start i) (k.end i) in
    let P : Encoding → Type 0 = λ e. IsBody e s x (slice_range b (out-Part q).start (out-Part q).end) in
    let Q : List ℕ → Type 0 = λ u. IsBody (encoding_by (out-Part p).number (out-Part p).encoding) s x u in
    subst P coded (subst Q body h)

-- leaves of one number under a message are the same
same_leaf : (b : List ℕ) (p q r : Part) (n : ℕ) → IsMessage b p → IsUnder q p → IsUnder r p → part_number q ≡ Some n → part_number r ≡ Some n → q ≡ r
same_leaf b p q r n h u v i j = (tree_numbered h.levels b 0 (length b) text_plain 1 p h.next h.tree).one q r n u v i j

-- where a tree of the message has no leaf of the number, the number names no octets
pub no_leaf : (b s : List ℕ) (n : ℕ) (p : Part) → IsMessage b p → ((q : Part) → IsUnder q p → part_number q ≢ Some n) → LeafSpells b n s → ⊥
no_leaf b s n p m none h =
    let f = kin_under h.leaf h.message h.is_under MAX_DEPTH p (one_message b h.message p h.is_message m) in
    none f.0 f.1 (sym f.2.number ∙ h.number_is)

-- a number names the octets of one leaf at most
pub one_leaf : (b : List ℕ) (n : ℕ) (s t : List ℕ) → LeafSpells b n s → LeafSpells b n t → s ≡ t
one_leaf b n s t g h =
    let f = kin_under g.leaf g.message g.is_under MAX_DEPTH h.message (one_message b g.message h.message g.is_message h.is_message) in
    let same = same_leaf b h.message f.0 h.leaf n h.is_message f.1 h.is_under (sym f.2.number ∙ g.number_is) h.number_is in
    let P : Part → Type 0 = λ u. HasOctets u b s g.problem in
    (one_body _ s t _ g.problem h.problem (subst P same (kin_octets g.leaf f.0 b s g.problem f.2 g.spelled)) h.spelled).0

-- ---- messages that were read

module _ (octets b given : List ℕ) (n : ℕ) (tree : Part) (whole : octets ≡ b) (same : given ≡ octets) (is : IsTreeOf octets tree) where
  -- the tree has no leaf of the number
  pub no_leaf_read : (s : List ℕ) → ((q : Part) → IsUnder q tree → part_number q ≢ Some n) → LeafSpells b n s → ⊥
  no_leaf_read s none spells =
      let P : List ℕ → Type 0 = λ u. LeafSpells u n s in
      no_leaf octets s n tree is.is_message none (subst P (sym whole) spells)

  -- a part lies within the octets
  pub part_within : (leaf : Part) → IsUnder leaf tree → IsWithin leaf given
  part_within leaf under = let P : List ℕ → Type 0 = λ u. IsWithin leaf u in subst P (sym same) (is.within leaf under)

  -- what the leaf of the number spells
  pub leaf_read : (leaf : Part) (t s : List ℕ) (problem : Bool) → IsUnder leaf tree → part_number leaf ≡ Some n → HasOctets leaf given t problem → s ≡ t → LeafSpells b n s
  leaf_read leaf t s problem under number spelled s_is =
      let P : List ℕ → Type 0 = λ u. HasOctets leaf u t problem in
      let Q : List ℕ → Type 0 = λ u. LeafSpells u n t in
      let R : List ℕ → Type 0 = λ u. LeafSpells b n u in
      let spells : LeafSpells octets n t = record {
        message = tree;
        is_message = is.is_message;
        leaf = leaf;
        is_under = under;
        number_is = number;
        problem = problem;
        spelled = subst P same spelled;
      } in
      subst R (sym s_is) (subst Q whole spells)

-- ---- rows of numbers

-- numbers of leaves name the octets of one leaf at most
pub one_named : (ns b s t : List ℕ) → NamesOctets ns b s → NamesOctets ns b t → s ≡ t
one_named [] b s t g h = g ∙ sym h
one_named (n ∷ ns) b s t g h =
    let P : List ℕ → Type 0 = λ u. NamesOctets ns u t in
    one_named ns g.0 s t g.2 (subst P (one_leaf b n h.0 g.0 h.1 g.1) h.2)

-- ---- from one message to the next

-- what is said where nothing is given
pub told_none : {A : Type 0} (r : Option A) (P : Type 0) (Q : A → Type 0) → MatchOption r P Q → r ≡ None → P
told_none None P Q m e = m
told_none (Some x) P Q m e = absurd (let w : Some x ≡ None = e in cc)

-- what is said of what is given
pub told_some : {A : Type 0} (r : Option A) (x : A) (P : Type 0) (Q : A → Type 0) → MatchOption r P Q → r ≡ Some x → Q x
told_some r x P Q m e = subst (λ o. MatchOption o P Q) e m

-- what the numbers that are left name in these octets is what all of them name in the first
pub record Leads (left within leaves b : List ℕ) : Type 0 where
  pub forth : (s : List ℕ) → NamesOctets left within s → NamesOctets leaves b s
  pub back : (s : List ℕ) → NamesOctets leaves b s → NamesOctets left within s

next_is : (i : ℕ) (within leaves b : List ℕ) → i < length leaves → Leads (drop i leaves) within leaves b → Leads (get_or leaves i 0 ∷ drop (i + 1) leaves) within leaves b
next_is i within leaves b lt l = let P : List ℕ → Type 0 = λ u. Leads u within leaves b in subst P (drop_more leaves i 0 lt) l

-- the octets of the next leaf are the next message
pub leads_on : (i : ℕ) (within inner leaves b : List ℕ) → i < length leaves → Leads (drop i leaves) within leaves b → LeafSpells within (get_or leaves i 0) inner
    → Leads (drop (i + 1) leaves) inner leaves b
leads_on i within inner leaves b lt before spells =
    let l = next_is i within leaves b lt before in
    record {
      forth = λ s h. l.forth s (inner, spells, h);
      back = λ s h.
          let w = l.back s h in
          let P : List ℕ → Type 0 = λ u. NamesOctets (drop (i + 1) leaves) u s in
          subst P (one_leaf within (get_or leaves i 0) w.0 inner w.1 spells) w.2;
    }

-- where the message has no such leaf, the numbers name nothing
pub leads_nowhere : (i : ℕ) (within leaves b : List ℕ) → i < length leaves → Leads (drop i leaves) within leaves b → ((s : List ℕ) → LeafSpells within (get_or leaves i 0) s → ⊥)
    → (s : List ℕ) → NamesOctets leaves b s → ⊥
leads_nowhere i within leaves b lt before none s h = let w = (next_is i within leaves b lt before).back s h in none w.0 w.1

-- before the first number
pub starts : (leaves within b : List ℕ) → within ≡ b → Leads (drop 0 leaves) within leaves b
starts leaves within b e =
    let P : List ℕ → Type 0 = λ u. Leads leaves u leaves b in
    subst P (sym e) (record { forth = λ s h. h; back = λ s h. h })

-- after the last one
pub ends : (i : ℕ) (within leaves b : List ℕ) → length leaves ≤ i → Leads (drop i leaves) within leaves b → NamesOctets leaves b within
ends i within leaves b done l =
    let P : List ℕ → Type 0 = λ u. NamesOctets u within within in
    l.forth within (subst P (sym (drop_of_length-le leaves done)) refl)

-- ---- a last number behind others

-- the octets of a leaf in the message that the others name are named by all
pub named_behind : (outer : List ℕ) (n : ℕ) (b within s : List ℕ) → NamesOctets outer b within → LeafSpells within n s → NamesOctets (outer ++ n ∷ []) b s
named_behind [] n b within s named spells = let P : List ℕ → Type 0 = λ u. LeafSpells u n s in (s, subst P named spells, refl)
named_behind (m ∷ outer) n b within s named spells = (named.0, named.1, named_behind outer n named.0 within s named.2 spells)

-- those that all name are the octets of a leaf in the message that the others name
pub behind_named : (outer : List ℕ) (n : ℕ) (b s : List ℕ) → NamesOctets (outer ++ n ∷ []) b s → (within : List ℕ) × NamesOctets outer b within × LeafSpells within n s
behind_named [] n b s named = let P : List ℕ → Type 0 = λ u. LeafSpells b n u in (b, refl, subst P (sym named.2) named.1)
behind_named (m ∷ outer) n b s named = let w = behind_named outer n named.0 s named.2 in (w.0, (named.0, named.1, w.1), w.2)

module _ {M : Type 0} (message : M → List ℕ) where
  last_leaf_in : {E : Type 0} (last : Option M) (outer b : List ℕ) (n : ℕ) (r : Result (Option (List ℕ)) E)
      → MatchOption last ((s : List ℕ) → NamesOctets outer b s → ⊥) (λ m. NamesOctets outer b (message m))
      → IfOk r (λ found. MatchOption found (IfSome last (λ m. (s : List ℕ) → LeafSpells (message m) n s → ⊥)) (λ s. IsSome last × IfSome last (λ m. LeafSpells (message m) n s)))
      → IfOk r (λ found. MatchOption found ((s : List ℕ) → NamesOctets (outer ++ n ∷ []) b s → ⊥) (λ s. NamesOctets (outer ++ n ∷ []) b s))
  last_leaf_in last outer b n (Err e) named spelled = tt
  last_leaf_in None outer b n (Ok None) none spelled = λ s h. let w = behind_named outer n b s h in none w.0 w.1
  last_leaf_in (Some m) outer b n (Ok None) named none = λ s h.
      let w = behind_named outer n b s h in
      let P : List ℕ → Type 0 = λ u. LeafSpells u n s in
      none s (subst P (one_named outer b w.0 (message m) w.1 named) w.2)
  last_leaf_in None outer b n (Ok (Some s)) none spelled = absurd (let never : IsSome {T = M} None = spelled.0 in cc)
  last_leaf_in (Some m) outer b n (Ok (Some s)) named spelled = named_behind outer n b (message m) s named spelled.1

  -- where the message that the others name was read, its leaf of the last number is what all name
  pub last_leaf : {E : Type 0} (last : Option M) (leaves outer octets b : List ℕ) (n : ℕ) (r : Result (Option (List ℕ)) E) → leaves ≡ outer ++ n ∷ [] → octets ≡ b
      → MatchOption last ((s : List ℕ) → NamesOctets outer octets s → ⊥) (λ m. NamesOctets outer octets (message m))
      → IfOk r (λ found. MatchOption found (IfSome last (λ m. (s : List ℕ) → LeafSpells (message m) n s → ⊥)) (λ s. IsSome last × IfSome last (λ m. LeafSpells (message m) n s)))
      → IfOk r (λ found. MatchOption found ((s : List ℕ) → NamesOctets leaves b s → ⊥) (λ s. NamesOctets leaves b s))
  last_leaf last leaves outer octets b n r numbers whole named spelled =
      let P : List ℕ → Type 0 = λ u. IfOk r (λ found. MatchOption found ((s : List ℕ) → NamesOctets u octets s → ⊥) (λ s. NamesOctets u octets s)) in
      let Q : List ℕ → Type 0 = λ u. IfOk r (λ found. MatchOption found ((s : List ℕ) → NamesOctets leaves u s → ⊥) (λ s. NamesOctets leaves u s)) in
      subst Q whole (subst P (sym numbers) (last_leaf_in last outer octets n r named spelled))
